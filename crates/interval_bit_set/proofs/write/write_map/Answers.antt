-- `write_map`: a pool that fails the check is refused, and the slice stays; of another the method answers. Assumes nothing.
use mathlib.Core.Path.{refl}
use Rattle.interval_bit_set.proofs.Handing.{put-faulty}
use Rattle.interval_bit_set.proofs.write.write_map.Goals as goal

pub returns-in_err-check : goal.returns-in_err-check
returns-in_err-check c = put-faulty _ c.from_residual.ensures.1 (λ e p. p) refl c.in_err-check.ensures.err
