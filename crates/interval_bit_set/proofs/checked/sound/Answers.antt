-- What the check tells is whether the words are a sound pool. Assumes nothing.
use Rattle.interval_bit_set.proofs.Looking.{tells-sound}
use Rattle.interval_bit_set.proofs.checked.sound.Goals as goal

pub returns : goal.returns
returns c = tells-sound _ _ c.check.ensures c.ok_or.ensures.value
