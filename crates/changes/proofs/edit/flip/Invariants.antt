-- `flip` meets its contract. The loop's invariant: the positions from the first one up to x are flipped; the measure is what is left of the
-- range. Assumes nothing.
use Rattle.std.proofs.Common.{◌-◌}
use Rattle.changes.proofs.Flipping.{Flips}
use Rattle.changes.proofs.edit.flip.Given as goal

abbrev pub invariant-loop-r : goal.invariant-loop-r
invariant-loop-r l = Flips l.initial.words l.words l.initial.k l.k l.initial.x.0 l.r.last.0 l.x.0

abbrev pub decreases-loop-r : goal.decreases-loop-r
decreases-loop-r l = l.r.last.0 - l.x.0
