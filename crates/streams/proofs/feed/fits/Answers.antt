-- `fits` meets its contract: with the limit passed over, a run more comes if there are more than that. Assumes nothing.
use native.Mathlib.Omega.{arith}
use Rattle.streams.proofs.Feeding.{none-fits}
use Rattle.streams.proofs.feed.fits.Goals as goal

pub returns : goal.returns
returns c = let h = c.is_none.ensures in let i = none-fits _ _ _ c.nth.result c.join.ensures c.nth.ensures.ran in grind arith
