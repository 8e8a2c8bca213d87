-- `ranges` meets its contract: a listing has the range's first position and its last; one of an empty or reversed range has ended.
-- Assumes nothing.
use mathlib.Core.Path.{refl, ap, ◌∙◌}
use Rattle.interval_bit_set.proofs.Spans.{no-position, its-positions, listed-some, listed-nothing}
use Rattle.model.specs.Call.{listing}
use Rattle.interval_bit_set.proofs.Meeting.{met, asks}
use Rattle.interval_bit_set.proofs.Looking.{found, shut-out}
use Rattle.interval_bit_set.proofs.checked.PoolRef.ranges.Goals as goal

pub returns-in_default : goal.returns-in_default
returns-in_default c =
    met (asks refl) (found c.args.self.checked c.in_ok-opened.ensures.0) refl (ap listing (c.finished.ensures ∙ listed-nothing _ _ _ (no-position c.args.lower c.args.upper c.within.ensures c.in_default.is)))

pub returns : goal.returns
returns c = met (asks refl) (found c.args.self.checked c.in_ok-opened.ensures.0) refl (ap listing (listed-some (its-positions c.args.lower c.args.upper c.within.ensures c.in-Some.is) _))

pub returns-in_err-opened : goal.returns-in_err-opened
returns-in_err-opened c = shut-out _ _ c.from_residual.ensures.1 (λ e p. p) refl c.args.self.checked c.in_err-opened.ensures
