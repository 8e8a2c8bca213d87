-- `open` meets its contract: the reader's next run is at hand, and it has the others. Assumes nothing.
use Rattle.streams.proofs.Sweeps.{drawn}
use Rattle.streams.proofs.sweep.Cursor.open.Goals as goal

pub returns : goal.returns
returns c = drawn _ _ c.next-run.result _ _ c.next-run.ensures.steps c.open-rest.ensures
