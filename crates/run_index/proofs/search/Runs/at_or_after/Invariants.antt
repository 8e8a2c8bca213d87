-- `at_or_after` meets its contract: the node found last counts where the part of the tree at hand has no such run.
-- The measure is the height of that part. Assumes nothing.
use Rattle.model.specs.RunList.{first_from}
use Rattle.run_index.proofs.Heap.{height_at}
use Rattle.run_index.proofs.Walking.{Walk}
use Rattle.run_index.proofs.Searching.{Nearest}
use Rattle.run_index.proofs.search.Runs.at_or_after.Given as goal

abbrev pub invariant-loop-q : goal.invariant-loop-q
invariant-loop-q l = Walk l.s l.q (Nearest l.s (first_from l.x) l.best) l.self

abbrev pub decreases-loop-q : goal.decreases-loop-q
decreases-loop-q l = height_at l.s l.q
