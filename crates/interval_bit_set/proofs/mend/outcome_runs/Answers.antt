-- `outcome_runs` meets its contract: a set that is in order is its own outcome, and the runs of another are counted. Assumes nothing.
use Rattle.interval_bit_set.proofs.Mending.{right-runs, united-runs}
use Rattle.interval_bit_set.proofs.mend.outcome_runs.Goals as goal

pub returns-then-right : goal.returns-then-right
returns-then-right c = right-runs _ c.requires c.if-right.true

pub returns : goal.returns
returns c = united-runs _ c.requires c.runs_of.ensures
