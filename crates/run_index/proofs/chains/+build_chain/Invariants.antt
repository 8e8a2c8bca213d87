-- `build_chain` meets its contract: it makes a tree of the first half, reads the node after it, makes a tree of those after that, and links
-- both to the node. The measure is the number of nodes. Assumes nothing.
use Rattle.run_index.proofs.chains.+build_chain.Given as goal

abbrev pub decreases-build_chain : goal.decreases-build_chain
decreases-build_chain l = l.k
