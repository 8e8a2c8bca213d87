-- A worn chain is put in order in a pool that was checked, which would pass the check again. Assumes nothing.
use Rattle.interval_bit_set.proofs.Looking.{checked-sound, sound-checked}
use Rattle.interval_bit_set.proofs.checked.Pool.end.Goals as goal

pub tidy-requires : goal.tidy-requires
tidy-requires g c = checked-sound c.args.self.now.checked

pub invariant_of-self : goal.invariant_of-self
invariant_of-self g c = record { checked = sound-checked c.tidy.ensures.tidied.sound }
