-- `set_strict`: a world that was not opened is refused, then a reversed range; any other is changed as the call that is not strict does. Assumes nothing.
use mathlib.Core.Path.{refl, sym, ◌∙◌}
use Rattle.interval_bit_set.proofs.Looking.{found, kept, shut-out}
use Rattle.interval_bit_set.proofs.Strict.{set-reversed, set-straight}
use Rattle.interval_bit_set.proofs.checked.Pool.set_strict.Goals as goal

pub returns-in_err-opened-clause-met : goal.returns-in_err-opened-clause-met
returns-in_err-opened-clause-met c = shut-out _ _ c.from_residual.ensures.1 (λ e p. p) refl c.args.self.now.checked c.in_err-opened.ensures

pub returns-then-is_reversed-clause-met : goal.returns-then-is_reversed-clause-met
returns-then-is_reversed-clause-met c =
    set-reversed (found c.args.self.now.checked c.in_ok-opened.ensures.0) (sym c.if-is_reversed.true ∙ c.is_reversed.ensures) _

pub set_range-requires : goal.set_range-requires
set_range-requires c = found c.args.self.now.checked c.in_ok-opened.ensures.0

pub invariant_of-self : goal.invariant_of-self
invariant_of-self c = record { checked = kept _ c.args.self.now.checked c.set_range.ensures.met }

pub returns-clause-met : goal.returns-clause-met
returns-clause-met c = set-straight (sym c.if-is_reversed.false ∙ c.is_reversed.ensures) c.set_range.ensures.met
