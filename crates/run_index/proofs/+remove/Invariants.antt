-- `remove` meets its contract: it goes down the side that the start names; where the root itself goes, the first node of the right side takes its place.
-- The measure is the height of the tree at hand, as its word has it. Assumes nothing.
use Rattle.run_index.proofs.Heap.{height_at}
use Rattle.run_index.proofs.+remove.Given as goal

abbrev pub decreases-remove : goal.decreases-remove
decreases-remove l = height_at l.s.now l.p
