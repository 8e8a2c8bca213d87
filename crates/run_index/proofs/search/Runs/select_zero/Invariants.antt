-- `select_zero` meets its contract: the k-th free position of the whole tree is the left-th from `low` on in the part of it at hand.
-- It is a position, so `low` never passes the last one. The measure is the height of the part. Assumes nothing.
use Rattle.run_index.proofs.Heap.{height_at}
use Rattle.run_index.proofs.Walking.{Walk}
use Rattle.run_index.proofs.Searching.{Gapping}
use Rattle.run_index.proofs.search.Runs.select_zero.Given as goal

abbrev pub invariant-loop-q : goal.invariant-loop-q
invariant-loop-q l = Walk l.s l.q (Gapping l.k l.low l.left) l.self

abbrev pub decreases-loop-q : goal.decreases-loop-q
decreases-loop-q l = height_at l.s l.q
