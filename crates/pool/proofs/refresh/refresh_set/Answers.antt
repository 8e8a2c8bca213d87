-- `refresh_set` meets its contract: as `refresh`, with the first and the last position from what the world told. Assumes nothing.
use Rattle.std.proofs.Common.{refl}
use Rattle.pool.proofs.Settling.{refresh-empty, rooted-empty, refresh-told}
use Rattle.pool.proofs.refresh.refresh_set.Goals as goal

pub returns-then-root-eq0 : goal.returns-then-root-eq0
returns-then-root-eq0 c = (refresh-empty _ c.if-root-eq0.true c.vacant.ensures, rooted-empty _ c.if-root-eq0.true c.vacant.ensures)

pub returns : goal.returns
returns c = (
  refresh-told c.if-root-eq0.false c.read_node-v.ensures c.first_after-first.ensures c.last_after-last.ensures,
  record { root_is = refl; no-offset = λ q. q },
)
