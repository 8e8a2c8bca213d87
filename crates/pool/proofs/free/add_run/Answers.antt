-- `add_run` meets its contract: the free head is a node that the tree does not have, so it may be put in, and the chain goes on after it.
-- Assumes nothing.
use Rattle.pool.proofs.Freeing.{free-room, add-ready, add-becomes, add-sprouted}
use Rattle.pool.proofs.free.add_run.Goals as goal

pub read_node-v-requires : goal.read_node-v-requires
read_node-v-requires c = free-room _ c.requires.3

pub insert-root-requires : goal.insert-root-requires
insert-root-requires c = (_, add-ready _ c.requires.3)

pub returns : goal.returns
returns c = (
  add-becomes c.read_node-v.ensures c.insert-root.ensures,
  add-sprouted _ c.read_node-v.ensures c.insert-root.ensures c.requires.3,
)
