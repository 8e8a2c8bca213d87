-- `map_length_fits` meets its contract: it is the test of a map's length.
-- Assumes nothing.
use Rattle.std.proofs.Common.{arith}
use Rattle.interval_bit_set.proofs.Windows.{map-fits}
use Rattle.interval_bit_set.proofs.window.map_length_fits.Goals as goal

pub returns : goal.returns
returns c = map-fits c.args.n c.args.bytes.now (omega (arith, c.div_ceil.ensures))
