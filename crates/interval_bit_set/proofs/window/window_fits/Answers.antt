-- `window_fits` meets its contract: it makes the tests of a window one by one.
-- Assumes nothing.
use native.Mathlib.Omega.{arith}
use Rattle.interval_bit_set.proofs.Windows.{fits-not-empty, fits-not-long, fits-by-end}
use Rattle.interval_bit_set.proofs.window.window_fits.Goals as goal

pub returns-then-length-eq0 : goal.returns-then-length-eq0
returns-then-length-eq0 c = fits-not-empty _ _ c.if-length-eq0.true

pub returns-then-length-gt-LONGEST : goal.returns-then-length-gt-LONGEST
returns-then-length-gt-LONGEST c = fits-not-long _ _ c.if-length-gt-LONGEST.true

pub returns : goal.returns
returns c = fits-by-end c.args.base c.args.length (omega arith) (omega arith) (omega arith)
