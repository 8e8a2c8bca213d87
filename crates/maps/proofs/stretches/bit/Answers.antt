-- `bit` meets its contract, which says what the code computes. Assumes nothing.
use Rattle.std.proofs.Common.{refl}
use Rattle.model.specs.Bytes.{map_bit}
use Rattle.maps.proofs.stretches.bit.Goals as goal

pub returns : goal.returns
unfolding map_bit
returns c = refl
