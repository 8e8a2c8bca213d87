-- `why_full` meets its contract: each of its tests in turn, and then the places are put in front. Assumes nothing.
use Rattle.std.proofs.Common.{◌≡◌, ◌≤◌, sym, ap, ◌∙◌, arith}
use Rattle.model.specs.Spawning.{ranges_of, entries_of, up_to_refused}
use Rattle.pool.specs.Layout.{capacity}
use Rattle.why_full.proofs.Answering.{Answered, why-none, why-some}
use Rattle.interval_bit_set.proofs.Stopping.{why-no-pool, why-unrefused, why-short, why-done}
use Rattle.interval_bit_set.proofs.measure.why_full.Goals as goal
use Rattle.interval_bit_set.proofs.measure.why_full.Goals.{Else-s-eq0, In-Some}

-- the capacity is some, the count is of that capacity, and the places are one more
sized : (c : Else-s-eq0) → 1 ≤ capacity c.args.words.now
sized c = omega (arith, c.if-s-eq0.false, c.of_length-s.ensures)

answered : (c : In-Some) → let a = c.args in Answered (capacity a.words.now) a.ranges.now c.in-Some.n
answered c =
    let a = c.args in
    let h = c.in-Some.ensures in
    why-some _ _ _ (λ i. omega (arith, c.type_inv.ranges i)) (omega arith) (omega (arith, h.1))
    (sym h.0 ∙ ap (λ k. up_to_refused k (entries_of (ranges_of a.ranges.now))) c.of_length-s.ensures)

pub returns-then-s-eq0 : goal.returns-then-s-eq0
returns-then-s-eq0 c = why-no-pool _ _ _ (sym c.of_length-s.ensures ∙ c.if-s-eq0.true)

pub returns-in_default : goal.returns-in_default
returns-in_default c =
    let told : 0 ≡ up_to_refused (capacity c.args.words.now) (entries_of (ranges_of c.args.ranges.now)) =
    sym c.in_default.ensures ∙ ap (λ k. up_to_refused k (entries_of (ranges_of c.args.ranges.now))) c.of_length-s.ensures in
    why-unrefused _ _ _ (sized (goal.at.returns-in_default c).Else-s-eq0) (why-none _ _ told)

pub returns-then-out-due : goal.returns-then-out-due
returns-then-out-due c =
    let at = goal.at.returns-then-out-due c in
    why-short _ _ _ (sized at.Else-s-eq0) _ (answered at.In-Some).why (omega (arith, c.if-out-due.true, (answered at.In-Some).long, c.of_length-s.ensures))

pub put_places-requires : goal.put_places-requires
put_places-requires c =
    let a = answered (goal.at.put_places-requires c).In-Some in (a.within, omega (arith, c.if-out-due.false, a.long, c.of_length-s.ensures))

pub returns : goal.returns
returns c =
    let at = goal.at.returns c in
    let a = answered at.In-Some in
    why-done _ _ _ (sized at.Else-s-eq0) _ a.why _ (omega (arith, a.long, c.of_length-s.ensures))
    (omega (arith, c.if-out-due.false, a.long, c.of_length-s.ensures)) c.put_places.ensures
