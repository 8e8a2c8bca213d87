-- `along` meets its contract: the node at hand is free, so it has room. Assumes nothing.
use Rattle.std.proofs.Common.{sym, ◌∙◌}
use Rattle.pool.proofs.Tests.{free-out}
use Rattle.pool.proofs.soundness.along.Goals as goal

pub read_node-k-requires : goal.read_node-k-requires
read_node-k-requires c = (free-out _ _ (sym c.node_is_free.ensures ∙ c.if-not-node_is_free.false)).room
