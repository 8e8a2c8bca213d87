-- `at_or_before` meets its contract: the node found last counts where the part of the tree at hand has no such run.
-- The measure is the height of that part. Assumes nothing.
use Rattle.model.specs.RunList.{last_up_to}
use Rattle.run_index.proofs.Heap.{height_at}
use Rattle.run_index.proofs.Walking.{Walk}
use Rattle.run_index.proofs.Searching.{Nearest}
use Rattle.run_index.proofs.search.Runs.at_or_before.Given as goal

abbrev pub invariant-loop-q : goal.invariant-loop-q
invariant-loop-q l = Walk l.s l.q (Nearest l.s (last_up_to l.x) l.best) l.self

abbrev pub decreases-loop-q : goal.decreases-loop-q
decreases-loop-q l = height_at l.s l.q
