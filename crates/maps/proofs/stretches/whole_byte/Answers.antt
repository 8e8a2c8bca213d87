-- `whole_byte` meets its contract: a byte tells by 255, or 0, whether all its bits are 1, or 0. Assumes nothing.
use Rattle.std.proofs.Common.{◌/◌, true, false, refl, arith}
use Rattle.maps.proofs.Bits.{told-whole, not-whole}
use Rattle.codec.proofs.Bits.{byte-is}
use Rattle.maps.proofs.stretches.whole_byte.Goals as goal

pub returns-then-i-ne0 : goal.returns-then-i-ne0
returns-then-i-ne0 c = not-whole c.args.bytes.now c.args.i c.args.value c.if-i-ne0.true

pub returns-then-value : goal.returns-then-value
returns-then-value c =
    told-whole c.args.bytes.now true c.if-i-ne0.false c.if-value.true (omega (arith, c.if-i-ne0.false))
    (byte-is _ (c.args.i / 8) (omega (arith, c.type_inv.bytes (c.args.i / 8)))) refl

pub returns-else-value : goal.returns-else-value
returns-else-value c =
    told-whole c.args.bytes.now false c.if-i-ne0.false c.if-value.false (omega (arith, c.if-i-ne0.false))
    (byte-is _ (c.args.i / 8) (omega (arith, c.type_inv.bytes (c.args.i / 8)))) refl
