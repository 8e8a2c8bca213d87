-- `close` meets its contract: the header and the record are written last. Assumes nothing.
use Rattle.pool.proofs.Closing.{closes}
use Rattle.pool.proofs.close.Goals as goal

pub returns-clause-closes : goal.returns-clause-closes
returns-clause-closes c = closes c.write_world.ensures
