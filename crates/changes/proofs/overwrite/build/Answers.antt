-- `build` meets its contract: the runs of a list come one after another, and in order they are canonical. Assumes nothing.
use Rattle.changes.proofs.Overwriting.{list-overwrites}
use Rattle.changes.proofs.overwrite.build.Goals as goal

pub overwrite-requires-clause-fits : goal.overwrite-requires-clause-fits
overwrite-requires-clause-fits g c = (_, list-overwrites _ _ _ c.«of».ensures c.requires.ordered c.requires.receives)

pub returns : goal.returns
returns g c =
    λ s st few. c.overwrite.ensures _ (list-overwrites _ _ _ c.«of».ensures c.requires.ordered (s, st, few)) s st few
