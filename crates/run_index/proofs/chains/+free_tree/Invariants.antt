-- `free_tree` meets its contract: each side is given back, and then the root. The measure is the height of the tree at hand, as its word has
-- it. Assumes nothing.
use Rattle.run_index.proofs.Heap.{height_at}
use Rattle.run_index.proofs.chains.+free_tree.Given as goal

abbrev pub decreases-free_tree : goal.decreases-free_tree
decreases-free_tree l = height_at l.s.now l.p
