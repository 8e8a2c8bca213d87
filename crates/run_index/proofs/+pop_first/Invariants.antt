-- `pop_first` meets its contract: it goes left to the node that has no left side, and joins the sides again on the way up.
-- The measure is the height of the tree at hand, as its word has it. Assumes nothing.
use Rattle.run_index.proofs.Heap.{height_at}
use Rattle.run_index.proofs.+pop_first.Given as goal

abbrev pub decreases-pop_first : goal.decreases-pop_first
decreases-pop_first l = height_at l.s.now l.p
