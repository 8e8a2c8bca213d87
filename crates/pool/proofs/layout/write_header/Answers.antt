-- `write_header` meets its contract: its two stores write the first two words. Assumes nothing.
use Rattle.pool.proofs.Cells.{header-wrote}
use Rattle.pool.proofs.layout.write_header.Goals as goal

pub returns : goal.returns
returns c = header-wrote _ _ c.requires
