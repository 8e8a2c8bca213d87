-- `make_header` meets its contract: its eight stores write one cell. Assumes nothing.
use Rattle.pool.proofs.Cells.{header-made}
use Rattle.pool.proofs.layout.make_header.Goals as goal

pub returns : goal.returns
returns c = header-made _ c.args.v c.requires
