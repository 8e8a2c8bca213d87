-- `move_to` meets its contract: past the run at hand the cursor takes the next one, before its end nothing changes. Assumes nothing.
use Rattle.streams.proofs.Sweeps.{moves-past}
use Rattle.streams.proofs.sweep.Cursor.move_to.Goals as goal

pub returns-in-Some-rest : goal.returns-in-Some-rest
returns-in-Some-rest c = moves-past _ _ _ c.in-Some.is c.if-x-r.false _ _ _ c.in-Some-rest.is c.next-self.ensures.steps
