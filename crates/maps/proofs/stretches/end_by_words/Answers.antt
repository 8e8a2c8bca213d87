-- `end_by_words` meets its contract. The loop's invariant: all bits from i to e have the value of bit i, and e is one of the map's bits, spare ones
-- too. The measure is what is left of these. Assumes nothing.
use Rattle.std.proofs.Common.{◌+◌, ◌-◌, ◌%◌, ap, ◌∙◌, arith}
use Rattle.model.specs.Bytes.{map_bit}
use Rattle.maps.proofs.Bits.{others-none, others-lowest, going-more, going-ends}
use Rattle.maps.proofs.stretches.end_by_words.Goals as goal

pub loop-e-preserved : goal.loop-e-preserved
loop-e-preserved c =
    let e = c.loop-e.e in
    let m = 64 - (e + 1) % 64 in
    let M = map_bit c.args.map.now.bytes.now in
    going-more c.loop-e.invariant c.bit-value.ensures m (omega arith)
    (others-none M c.bit-value.result (e + 1) m c.others-differ.ensures c.if-differ-ne0.false)

pub returns-then-differ-ne0 : goal.returns-then-differ-ne0
returns-then-differ-ne0 c =
    let e = c.loop-e.e in
    let m = 64 - (e + 1) % 64 in
    let M = map_bit c.args.map.now.bytes.now in
    let v = c.bit-value in
    let f = others-lowest M v.result (e + 1) m c.others-differ.ensures (omega arith) c.if-differ-ne0.true in
    going-ends (going-more c.loop-e.invariant v.ensures _ (omega (arith, f.0)) f.2) v.ensures (omega arith)
    (omega (arith, c.from.ensures)) (λ l. ap M (omega arith) ∙ f.1)
