-- `select` meets its contract: the k-th position of the range, none in an empty one.
-- Assumes nothing.
use Rattle.std.proofs.Common.{◌≡◌, refl, ap, ◌∙◌, rules}
use Rattle.reports.specs.Reports.{logical_number}
use Rattle.interval_bit_set.proofs.Spans.{no-position, its-positions, select-range, select-nothing}
use Rattle.model.specs.Call.{position}
use Rattle.interval_bit_set.proofs.Meeting.{met, met-read, asks}
use Rattle.interval_bit_set.proofs.Looking.{found, shut-out}
use Rattle.interval_bit_set.proofs.checked.PoolRef.select.Goals as goal

pub returns-in_default : goal.returns-in_default
returns-in_default c = met (asks refl) (found c.args.self.checked c.in_ok-set.ensures.0) refl (ap position (select-nothing _ _ _ _ (no-position c.args.lower c.args.upper c.within.ensures c.in_default.is) _))

pub returns : goal.returns
returns c =
    let e : c.map.result ≡ logical_number c.select.result = search rules in
    met-read (asks refl) (found c.args.self.checked c.in_ok-set.ensures.0) c.in_ok-set.set c.in_ok-set.ensures.1 refl
    (ap position (select-range (its-positions c.args.lower c.args.upper c.within.ensures c.in-Some.is) _ _ _ (e ∙ c.select.ensures)))

pub returns-in_err-set : goal.returns-in_err-set
returns-in_err-set c = shut-out _ _ c.from_residual.ensures.1 (λ e p. p) refl c.args.self.checked c.in_err-set.ensures
