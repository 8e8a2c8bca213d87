-- `clear_from` meets its contract. The loop's invariant: the model's `clear` makes of the runs left what it made of all; the measure is
-- how many runs there are. Assumes nothing.
use Rattle.changes.proofs.Counting.{runs_of}
use Rattle.changes.proofs.Clearing.{ClearingFrom}
use Rattle.changes.proofs.change.clear_from.Given as goal

abbrev pub invariant-loop-r : goal.invariant-loop-r
invariant-loop-r l = ClearingFrom l.initial.words l.words l.initial.links l.links l.s.first.0 l.s.last.0

abbrev pub decreases-loop-r : goal.decreases-loop-r
decreases-loop-r l = runs_of l.words l.links.root
