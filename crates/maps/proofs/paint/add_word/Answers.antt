-- `add_word` meets its contract: the word that is stored has the bits of the word that was there and those of v. Assumes nothing.
use Rattle.std.proofs.Common.{arith}
use Rattle.maps.proofs.Painting.{puts-adds}
use Rattle.maps.proofs.paint.add_word.Goals as goal

pub returns : goal.returns
returns c = puts-adds _ c.word_at-w.ensures (omega arith) c.put_word.ensures
