-- `fill`: a pool that fails the check is refused; of another the method answers. Assumes nothing.
use mathlib.Core.Path.{refl}
use Rattle.interval_bit_set.proofs.Looking.{fault-out}
use Rattle.interval_bit_set.proofs.report.fill.Goals as goal

pub returns-in_err-check : goal.returns-in_err-check
returns-in_err-check c = fault-out _ _ c.from_residual.ensures.1 (λ e p. p) refl c.in_err-check.ensures.err
