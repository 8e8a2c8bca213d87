-- `end_by_bytes` meets its contract. The loop's invariant: all bits from i to e have the value of bit i, and e is one of the n. The measure is
-- what is left of the n. Assumes nothing.
use Rattle.std.proofs.Common.{sym, ◌∙◌}
use Rattle.maps.proofs.Bits.{whole-alike, going-more}
use Rattle.maps.proofs.stretches.end_by_bytes.Goals as goal

pub loop-e-preserved-then-whole_byte : goal.loop-e-preserved-then-whole_byte
loop-e-preserved-then-whole_byte c =
    going-more c.loop-e.invariant c.bit-value.ensures 8 c.if-n-e-gt8.true
    (whole-alike _ _ _ (sym c.whole_byte.ensures ∙ c.if-whole_byte.true))
