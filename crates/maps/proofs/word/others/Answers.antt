-- `others` meets its contract: the bits of a word that have not the value, moved down to bit i. Assumes nothing.
use Rattle.std.proofs.Common.{arith}
use Rattle.model.specs.Bytes.{map_bit}
use Rattle.maps.proofs.Bits.{others-are}
use Rattle.maps.proofs.word.others.Goals as goal
use Rattle.maps.proofs.word.others.Goals.{then-value, else-value}

pub returns : goal.returns
returns c =
    others-are (map_bit c.args.bytes.now) c.args.value c.args.i (omega arith) c.word_at-w.ensures
    (elim c.if-value.branch [ then-value w ↦ rw w.if-value.true w.differ-is | else-value w ↦ rw w.if-value.false w.differ-is ])
