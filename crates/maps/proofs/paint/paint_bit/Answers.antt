-- `paint_bit` meets its contract: the byte that is stored has the bits of the byte that was there and bit i. Assumes nothing.
use Rattle.maps.proofs.Painting.{bit-paints}
use Rattle.maps.proofs.paint.paint_bit.Goals as goal

pub returns : goal.returns
returns c = bit-paints _ _ c.requires
