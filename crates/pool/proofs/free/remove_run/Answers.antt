-- `remove_run` meets its contract: the node that held the run is none of the tree's then, and goes in front of the chain. Assumes nothing.
use Rattle.run_index.proofs.Trees.{wrote_as}
use Rattle.pool.proofs.Freeing.{kept-owned, freed-room, remove-becomes}
use Rattle.pool.proofs.free.remove_run.Goals as goal

pub write_node-requires : goal.write_node-requires
write_node-requires c =
    freed-room c.requires.3 (c.remove-y.ensures _ (kept-owned c.requires.3.kept))

pub returns : goal.returns
returns c = remove-becomes c.remove-y.ensures (wrote_as c.free.ensures c.write_node.ensures)
