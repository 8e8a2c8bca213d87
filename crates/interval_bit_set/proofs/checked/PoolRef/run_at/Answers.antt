-- `run_at` meets its contract: an opened world has the run that its positions tell.
-- Assumes nothing.
use mathlib.Core.Path.{refl, ap}
use Rattle.model.specs.Call.{around}
use Rattle.interval_bit_set.proofs.Meeting.{met-read, asks}
use Rattle.interval_bit_set.proofs.Looking.{found, shut-out}
use Rattle.interval_bit_set.proofs.checked.PoolRef.run_at.Goals as goal

pub returns : goal.returns
returns c = met-read (asks refl) (found c.args.self.checked c.in_ok-set.ensures.0) c.in_ok-set.set c.in_ok-set.ensures.1 refl (ap around c.run_at.ensures)

pub returns-in_err-set : goal.returns-in_err-set
returns-in_err-set c = shut-out _ _ c.from_residual.ensures.1 (λ e p. p) refl c.args.self.checked c.in_err-set.ensures
