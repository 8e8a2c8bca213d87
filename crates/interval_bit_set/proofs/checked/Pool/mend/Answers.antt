-- `mend`: a world that was not opened is refused, and the slices stay; another is mended, and leaves a pool that would pass the check. Assumes nothing.
use mathlib.Core.Path.{refl}
use Rattle.interval_bit_set.proofs.Looking.{found, kept, shut-out}
use Rattle.interval_bit_set.proofs.Passing.{handed-on}
use Rattle.interval_bit_set.proofs.checked.Pool.mend.Goals as goal

pub returns-in_err-opened-clause-mends : goal.returns-in_err-opened-clause-mends
returns-in_err-opened-clause-mends c = record {
  met = shut-out _ _ c.from_residual.ensures.1 (λ e p. p) refl c.args.self.now.checked c.in_err-opened.ensures;
  unmended = rw (handed-on c.from_residual.result c.from_residual.ensures.1 (λ e p. p)) (refl, refl);
}

pub put_mended-requires : goal.put_mended-requires
put_mended-requires c = found c.args.self.now.checked c.in_ok-opened.ensures.0

pub invariant_of-self : goal.invariant_of-self
invariant_of-self c = record { checked = kept _ c.args.self.now.checked c.put_mended.ensures.met }
