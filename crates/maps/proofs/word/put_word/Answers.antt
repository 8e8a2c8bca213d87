-- `put_word` meets its contract: the bytes of the word take the place of eight. Assumes nothing.
use Rattle.std.proofs.Common.{◌∙◌, arith}
use Rattle.maps.proofs.Words.{word-puts}
use Rattle.maps.proofs.word.put_word.Goals as goal

pub returns : goal.returns
returns c = word-puts _ _ _ _ (omega arith) c.requires (omega arith) (λ i. omega (arith, c.type_inv.out i)) (c.copy_from_slice.ensures.after ∙ c.to_le_bytes.ensures)
