-- `select_one` meets its contract: the k-th held position of the whole tree is the left-th of the part of it at hand, which has more than that.
-- The measure is the height of the part. Assumes nothing.
use Rattle.run_index.proofs.Heap.{height_at}
use Rattle.run_index.proofs.Walking.{Walk}
use Rattle.run_index.proofs.Searching.{Picking}
use Rattle.run_index.proofs.search.Runs.select_one.Given as goal

abbrev pub invariant-loop-q : goal.invariant-loop-q
invariant-loop-q l = Walk l.s l.q (Picking l.k l.left) l.self

abbrev pub decreases-loop-q : goal.decreases-loop-q
decreases-loop-q l = height_at l.s l.q
