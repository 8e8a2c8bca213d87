-- `tree_fits` meets its contract. The loop's invariant: the walk of the link at hand decides for the whole, at any depth that is left, and
-- no node there is higher than the link's. The tests are the definition's; either side of a node is lower than the node. The measure of the
-- recursion and of the loop is the height that the words give. Assumes nothing.
use Rattle.pool.specs.Decision.{below_of}
use Rattle.pool.proofs.Steps.{Way}
use Rattle.pool.proofs.soundness.+tree_fits.Given as goal

abbrev pub decreases-tree_fits : goal.decreases-tree_fits
decreases-tree_fits l = (below_of l.words.now l.link).height

abbrev pub invariant-loop-k : goal.invariant-loop-k
invariant-loop-k l = Way l.words (record { tag = l.fn.tag; low = l.fn.low; high = l.fn.high }) l.link l.left_over l.k

abbrev pub decreases-loop-k : goal.decreases-loop-k
decreases-loop-k l = (below_of l.words l.k).height
