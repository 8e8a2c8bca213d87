-- The lines of a listing are put one after another.
use Rattle.listset.proofs.Lines.{progress_step, progress-short, progress-end}
use Rattle.listset.proofs.put_runs.Goals as goal

pub loop-run-preserved : goal.loop-run-preserved
loop-run-preserved c = progress_step c.loop-run.invariant c.in-Some.ensures c.in_ok-put_run.ensures

pub returns-in_err-put_run : goal.returns-in_err-put_run
returns-in_err-put_run c = progress-short c.loop-run.invariant c.in-Some.ensures c.in_err-put_run.ensures c.from_residual.ensures.0

pub returns : goal.returns
returns c = progress-end c.loop-run.invariant c.in_default.ensures
