-- `gap` meets its contract: a gap of no position is refused, an empty or reversed range has none, and of another it is the lowest from the range's first
-- position to its last. Assumes nothing.
use Rattle.std.specs.Prelude.{◌≤◌}
use mathlib.Core.Path.{refl, ap}
use native.Mathlib.Omega.{arith}
use Rattle.model.specs.Call.{position}
use Rattle.interval_bit_set.proofs.Spans.{no-position, its-positions, gap-range}
use Rattle.interval_bit_set.proofs.Gaps.{gap-refused, gap-passes, gap-nothing}
use Rattle.interval_bit_set.proofs.Doors.{lent-stands}
use Rattle.interval_bit_set.proofs.Meeting.{refused-by, met, met-in, asks}
use Rattle.interval_bit_set.proofs.Looking.{found, shut-out}
use Rattle.interval_bit_set.proofs.checked.PoolRef.gap.Goals as goal
use Rattle.interval_bit_set.proofs.checked.PoolRef.gap.Goals.{Else-n-eq0}

-- it has some
some : (c : Else-n-eq0) → 1 ≤ c.args.n
some c = omega (arith, c.if-n-eq0.false)

pub returns-then-n-eq0 : goal.returns-then-n-eq0
returns-then-n-eq0 c = refused-by (asks refl) (found c.args.self.checked c.in_ok-h.ensures.0) 9 (gap-refused _ c.if-n-eq0.true)

pub lowest_gap-requires-clause-stands : goal.lowest_gap-requires-clause-stands
lowest_gap-requires-clause-stands c =
    lent-stands c.in_ok-h.ensures.1

pub returns-in_default : goal.returns-in_default
returns-in_default c =
    let s = some (goal.at.returns-in_default c).Else-n-eq0 in
    met (asks refl) (found c.args.self.checked c.in_ok-h.ensures.0) (gap-passes _ s) (ap position (gap-nothing _ s _ _ _ (no-position c.args.lower c.args.upper c.within.ensures c.in_default.is)))

pub returns : goal.returns
returns c =
    met-in (asks refl) (found c.args.self.checked c.in_ok-h.ensures.0) c.in_ok-h.ensures.1 (gap-passes _ (some (goal.at.returns c).Else-n-eq0))
    (ap position (gap-range (its-positions c.args.lower c.args.upper c.within.ensures c.in-Some.is) _ _ c.lowest_gap.ensures))

pub returns-in_err-h : goal.returns-in_err-h
returns-in_err-h c = shut-out _ _ c.from_residual.ensures.1 (λ e p. p) refl c.args.self.checked c.in_err-h.ensures
