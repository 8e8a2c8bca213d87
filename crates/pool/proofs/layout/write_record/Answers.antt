-- `write_record` meets its contract: its eight stores write one cell. Assumes nothing.
use Rattle.pool.proofs.Cells.{record-wrote}
use Rattle.pool.proofs.layout.write_record.Goals as goal

pub returns : goal.returns
returns c = record-wrote _ _ _ c.requires
