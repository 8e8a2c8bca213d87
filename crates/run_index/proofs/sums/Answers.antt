-- `sums` meets its contract: zeros tell the sums of no tree, and a cell tells those of the tree at it.
-- Assumes nothing.
use Rattle.run_index.proofs.Trees.{sums-node}
use Rattle.run_index.proofs.sums.Goals as goal

pub returns : goal.returns
returns c = sums-node _ _ _ c.read_node.ensures c.if-p-eq0.false
