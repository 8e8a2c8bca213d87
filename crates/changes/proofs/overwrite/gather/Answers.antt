-- `gather` meets its contract: the joined runs come one after another, and they are canonical. Assumes nothing.
use Rattle.changes.proofs.Overwriting.{joint-overwrites, joint-became}
use Rattle.changes.proofs.overwrite.gather.Goals as goal

pub overwrite-requires-clause-fits : goal.overwrite-requires-clause-fits
overwrite-requires-clause-fits c = (_, joint-overwrites c.join.ensures c.requires.roomy)

pub returns : goal.returns
returns c = λ s ro. joint-became (c.overwrite.ensures _ (joint-overwrites c.join.ensures ro)) s ro
