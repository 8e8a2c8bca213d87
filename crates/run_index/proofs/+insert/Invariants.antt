-- `insert` meets its contract: the run goes down the side that its start names, and the sides are joined again on the way up.
-- The measure is the height of the tree at hand, as its word has it. Assumes nothing.
use Rattle.run_index.proofs.Heap.{height_at}
use Rattle.run_index.proofs.+insert.Given as goal

abbrev pub decreases-insert : goal.decreases-insert
decreases-insert l = height_at l.s.now l.p
