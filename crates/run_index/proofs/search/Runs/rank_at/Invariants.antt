-- `rank_at` meets its contract: what the runs that start at or before y have in the whole tree is what was passed and what such runs of the part
-- of it at hand have. Of those runs only the last, found as `at_or_before` finds it, has positions above y. The measure is the height of the
-- part. Assumes nothing.
use Rattle.run_index.proofs.Heap.{height_at}
use Rattle.run_index.proofs.Walking.{Walk}
use Rattle.run_index.proofs.Searching.{Ranking}
use Rattle.run_index.proofs.search.Runs.rank_at.Given as goal

abbrev pub invariant-loop-q : goal.invariant-loop-q
invariant-loop-q l = Walk l.s l.q (Ranking l.s l.y l.best l.ones l.starts) l.self

abbrev pub decreases-loop-q : goal.decreases-loop-q
decreases-loop-q l = height_at l.s l.q
