-- `to_bit` meets its contract: of 64 ones as many are left as are not shifted out. Assumes nothing.
use Rattle.maps.proofs.Masks.{ones-down}
use Rattle.maps.proofs.paint.to_bit.Goals as goal

pub returns : goal.returns
returns c = ones-down _ c.requires
