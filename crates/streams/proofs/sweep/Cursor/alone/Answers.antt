-- `alone` meets its contract: its one run is all that is held. Assumes nothing.
use native.Mathlib.Omega.{arith}
use Rattle.streams.proofs.Sweeps.{one-run}
use Rattle.streams.proofs.sweep.Cursor.alone.Goals as goal

pub returns : goal.returns
returns c = one-run _ _ c.args.r.ordered (omega (arith, c.well_formed))
