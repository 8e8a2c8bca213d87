-- `absorb` meets its contract. The loop's invariant: the runs taken out joined what is reached, so the model's `insert` makes of the runs
-- left what it made of all; the measure is how many runs there are. Assumes nothing.
use Rattle.changes.proofs.Counting.{runs_of}
use Rattle.changes.proofs.Joining.{Absorbing}
use Rattle.changes.proofs.change.absorb.Given as goal

abbrev pub invariant-loop-q : goal.invariant-loop-q
invariant-loop-q l = Absorbing l.initial.words l.words l.initial.links l.links l.r.start l.r.«end» l.e.0

abbrev pub decreases-loop-q : goal.decreases-loop-q
decreases-loop-q l = runs_of l.words l.links.root
