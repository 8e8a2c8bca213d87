-- `read_node` meets its contract: it returns what `cell_at` names, word by word. Each index fits because the node has room.
-- Assumes nothing.
use Rattle.std.proofs.Common.{refl}
use Rattle.run_index.proofs.read_node.Goals as goal

pub returns : goal.returns
unfolding Rattle.run_index.specs.Cells.cell_at
returns c = refl
