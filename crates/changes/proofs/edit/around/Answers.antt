-- `around` meets its contract: a run goes on over an end where the end and its neighbour are held.
-- Assumes nothing.
use Rattle.std.proofs.Common.{◌≡◌, suc, ◌+◌, sym, ap, ◌∙◌, ap₂, arith}
use Rattle.model.specs.Positions.{one_if}
use Rattle.model.specs.Neighbours.{goes_on}
use Rattle.pool.specs.Layout.{held}
use Rattle.pool.proofs.Truths.{byte-one, byte-small}
use Rattle.changes.proofs.Neighbours.{both-yes, both-no, goes_on-below, goes_on-above}
use Rattle.changes.proofs.Fitting.{stretches-most, outside-is, inside-most}
use Rattle.changes.proofs.edit.around.Goals as goal
use Rattle.changes.proofs.edit.around.Goals.{After-from-2, then-before, else-before, then-after, else-after}

-- whether a run goes on over the lower end
on : (c : After-from-2) → c.if-before.on ≡ goes_on (held c.args.set.now) c.args.r.first.0
on c =
    elim c.if-before.branch [
      | then-before w ↦ w.on-is ∙ both-yes w.if-before.true c.held_before-before.ensures w.get-on.ensures
      | else-before w ↦ w.on-is ∙ both-no _ w.if-before.false c.held_before-before.ensures
    ] ∙ sym (goes_on-below _ _ (omega (arith, c.well_formed)))

-- and over the upper one
past : (c : After-from-2) → c.if-after.past ≡ goes_on (held c.args.set.now) (suc c.args.r.last.0)
past c =
    elim c.if-after.branch [
      | then-after w ↦ w.past-is ∙ both-yes w.if-after.true c.held_after-after.ensures w.get-past.ensures
      | else-after w ↦ w.past-is ∙ both-no _ w.if-after.false c.held_after-after.ensures
    ] ∙ sym (goes_on-above _ _)

-- how many runs do
over : (c : After-from-2) → c.from.result + c.from-2.result
    ≡ one_if (goes_on (held c.args.set.now) c.args.r.first.0) + one_if (goes_on (held c.args.set.now) (suc c.args.r.last.0))
over c =
    ap₂ ◌+◌ (c.from.ensures ∙ byte-one _ ∙ ap one_if (on c)) (c.from-2.ensures ∙ byte-one _ ∙ ap one_if (past c))

pub overflow_add-result : goal.overflow_add-result
overflow_add-result c =
    omega (
      arith,
      c.logical_runs-total.ensures,
      stretches-most (held c.args.set.now),
      c.from.ensures,
      c.from-2.ensures,
      byte-small c.if-before.on,
      byte-small c.if-after.past,
    )

pub overflow_sub-result : goal.overflow_sub-result
overflow_sub-result c =
    inside-most (held c.args.set.now) c.args.r.ordered (omega (arith, c.well_formed)) c.logical_runs-total.ensures
    c.tally-inside.ensures.runs-are (over (goal.at.overflow_sub-result c).After-from-2)

pub returns : goal.returns
returns c =
    let o = over (goal.at.returns c).After-from-2 in
    record {
      outside-is = outside-is (held c.args.set.now) c.args.r.ordered (omega (arith, c.well_formed)) c.logical_runs-total.ensures c.tally-inside.ensures.runs-are o;
      over-is = o;
      beside-is = ap₂ ◌+◌ (c.from-3.ensures ∙ byte-one _ ∙ ap one_if c.held_before-before.ensures) (c.from-4.ensures ∙ byte-one _ ∙ ap one_if c.held_after-after.ensures);
    }
