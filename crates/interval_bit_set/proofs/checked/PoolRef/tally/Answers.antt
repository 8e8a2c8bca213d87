-- `tally` meets its contract: the tally of the range's positions, 0 and 0 of an empty or reversed range.
-- Assumes nothing.
use mathlib.Core.Path.{refl, ap₂}
use Rattle.model.specs.Positions.{count, run_count}
use Rattle.interval_bit_set.proofs.Spans.{no-position, its-positions, of_range, count-nothing, ranges-nothing}
use Rattle.model.specs.Call.{tallied}
use Rattle.interval_bit_set.proofs.Meeting.{met, met-read, asks}
use Rattle.interval_bit_set.proofs.Looking.{found, shut-out}
use Rattle.interval_bit_set.proofs.checked.PoolRef.tally.Goals as goal

pub returns-in_default : goal.returns-in_default
returns-in_default c =
    let e = no-position c.args.lower c.args.upper c.within.ensures c.in_default.is in
    met (asks refl) (found c.args.self.checked c.in_ok-set.ensures.0) refl (ap₂ tallied (count-nothing _ _ _ _ e) (ranges-nothing _ _ _ _ e))

pub returns : goal.returns
returns c =
    let W = its-positions c.args.lower c.args.upper c.within.ensures c.in-Some.is in
    met-read (asks refl) (found c.args.self.checked c.in_ok-set.ensures.0) c.in_ok-set.set c.in_ok-set.ensures.1 refl
    (ap₂ tallied (of_range W (count _ _) c.tally.ensures.count-is) (of_range W (run_count _ _) c.tally.ensures.runs-are))

pub returns-in_err-set : goal.returns-in_err-set
returns-in_err-set c = shut-out _ _ c.from_residual.ensures.1 (λ e p. p) refl c.args.self.checked c.in_err-set.ensures
