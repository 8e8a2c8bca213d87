-- `tally_strict` meets its contract: a reversed range is refused, any other is tallied as `tally` does. Assumes nothing.
use mathlib.Core.Path.{refl, sym, ◌∙◌}
use Rattle.interval_bit_set.proofs.Strict.{tally-reversed, tally-straight}
use Rattle.interval_bit_set.proofs.Looking.{found, shut-out}
use Rattle.interval_bit_set.proofs.checked.PoolRef.tally_strict.Goals as goal

pub returns-then-is_reversed : goal.returns-then-is_reversed
returns-then-is_reversed c = tally-reversed (found c.args.self.checked c.in_ok-opened.ensures.0) (sym c.if-is_reversed.true ∙ c.is_reversed.ensures) _

pub returns : goal.returns
returns c = tally-straight (sym c.if-is_reversed.false ∙ c.is_reversed.ensures) c.tally.ensures

pub returns-in_err-opened : goal.returns-in_err-opened
returns-in_err-opened c = shut-out _ _ c.from_residual.ensures.1 (λ e p. p) refl c.args.self.checked c.in_err-opened.ensures
