-- `write_world` meets its contract: the header and the record are written, and no other cell. Assumes nothing.
use Rattle.pool.proofs.Cells.{headed}
use Rattle.pool.proofs.write_world.Goals as goal

pub returns : goal.returns
returns c = headed c.read_header-a.ensures c.read_record-v.ensures c.write_header.ensures c.write_record.ensures
