-- `run_at` meets its contract: from its start to its end, of the value that x has.
-- Assumes nothing.
use Rattle.reports.proofs.Bounding.{run-around}
use Rattle.reports.proofs.runs.run_at.Goals as goal

pub returns : goal.returns
returns c = run-around _ _ c.get-value.ensures c.stretch_start.ensures c.stretch_end.ensures
