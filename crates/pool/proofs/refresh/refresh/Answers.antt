-- `refresh` meets its contract: without a root nothing is held, and else the root's node and the searches tell the rest. Assumes nothing.
use Rattle.pool.proofs.Settling.{first-told, last-told, refresh-empty, refresh-told}
use Rattle.pool.proofs.refresh.refresh.Goals as goal

pub returns-then-root-eq0 : goal.returns-then-root-eq0
returns-then-root-eq0 c = refresh-empty _ c.if-root-eq0.true c.vacant.ensures

pub returns : goal.returns
returns c =
    refresh-told c.if-root-eq0.false c.read_node-v.ensures (first-told _ c.requires.3 _ c.of-set.ensures c.first_held-first.ensures)
    (last-told _ c.requires.3 _ c.of-set.ensures c.last_held-last.ensures)
