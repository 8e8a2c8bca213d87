-- `make` meets its contract: the nodes are the free chain, the header tells of it, and each record is that of an empty world. Assumes nothing.
use Rattle.pool.proofs.Making.{made}
use Rattle.pool.proofs.free.make.Goals as goal

pub returns : goal.returns
returns c =
    made _ _ _ _ _ _ _ _ c.requires c.node_count-nodes.ensures c.free_all-free.ensures c.make_header.ensures c.make_records.ensures
