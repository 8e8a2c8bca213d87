-- `write_node` meets its contract: its eight stores are `stored` of Words.antt, which writes one cell and no other.
-- Assumes nothing.
use Rattle.run_index.proofs.Words.{stored-wrote}
use Rattle.run_index.proofs.write_node.Goals as goal

pub returns : goal.returns
returns c = stored-wrote _ _ _ c.requires
