-- `relink` meets its contract: the nodes are threaded, and world 0 is closed over the new chain. Assumes nothing.
use Rattle.pool.proofs.Relinking.{ordered-closing, ordered-tidied, ordered-chain}
use Rattle.pool.proofs.relink.relink.Goals as goal

pub close-requires : goal.close-requires
close-requires c = (_, _, ordered-closing c.requires c.open-h.ensures c.node_count-n.ensures c.thread_all-free.ensures)

pub returns-clause-tidied : goal.returns-clause-tidied
returns-clause-tidied c = ordered-tidied c.requires c.open-h.ensures c.node_count-n.ensures c.thread_all-free.ensures c.close.ensures.closes

pub returns-clause-in_order : goal.returns-clause-in_order
returns-clause-in_order c = ordered-chain c.requires c.open-h.ensures c.node_count-n.ensures c.thread_all-free.ensures c.close.ensures.headed
