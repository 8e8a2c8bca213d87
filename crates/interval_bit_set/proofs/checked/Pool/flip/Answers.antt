-- `flip`: a world that was not opened is refused; another is changed, and leaves a pool that would pass the check. Assumes nothing.
use mathlib.Core.Path.{refl}
use Rattle.interval_bit_set.proofs.Looking.{found, kept, shut-out}
use Rattle.interval_bit_set.proofs.checked.Pool.flip.Goals as goal

pub returns-in_err-opened-clause-met : goal.returns-in_err-opened-clause-met
returns-in_err-opened-clause-met c = shut-out _ _ c.from_residual.ensures.1 (λ e p. p) refl c.args.self.now.checked c.in_err-opened.ensures

pub flip_range-requires : goal.flip_range-requires
flip_range-requires c = found c.args.self.now.checked c.in_ok-opened.ensures.0

pub invariant_of-self : goal.invariant_of-self
invariant_of-self c = record { checked = kept _ c.args.self.now.checked c.flip_range.ensures }
