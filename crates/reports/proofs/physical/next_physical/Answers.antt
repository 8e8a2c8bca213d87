-- `next_physical` meets its contract: x itself, or what follows the run that x is in, or the next start of a run.
-- Assumes nothing.
use Rattle.std.proofs.Common.{sym, ap, inl, inr, ◌∙◌, subst, arith}
use Rattle.model.specs.Positions.{mem}
use Rattle.reports.specs.Reports.{physical_number, Next}
use Rattle.reports.proofs.Edges.{next_here, in-run, not-held, next-held, next-free}
use Rattle.reports.proofs.physical.next_physical.Goals as goal
use Rattle.reports.proofs.physical.next_physical.Goals.{After-checked_add, in_default-via-in-Some+else-x-r, in_default-via-in_default}

pub returns-then-value : goal.returns-then-value
returns-then-value c =
    next_here (mem c.args.runs.now) c.args.value c.args.x.0 (omega arith)
    (in-run c.args.runs.now c.at_or_before.ensures.in_order c.args.x.0 c.in-Some.r
    (sym c.in-Some.is ∙ c.at_or_before.ensures.found) c.if-x-r.true ∙ sym c.if-value.true)

-- what follows the run that x is in, if anything does
follows : (c : After-checked_add) → Next (mem c.args.runs.now) c.args.value c.args.x.0 c.checked_add.result
follows c =
    next-free c.args.runs.now c.at_or_before.ensures.in_order c.args.x.0 c.in-Some.r c.if-value.false
    (sym c.in-Some.is ∙ c.at_or_before.ensures.found) c.if-x-r.true c.checked_add.result c.checked_add.ensures

pub returns-in_err-checked_add-in-Some : goal.returns-in_err-checked_add-in-Some
returns-in_err-checked_add-in-Some c =
    subst (Next (mem c.args.runs.now) c.args.value c.args.x.0) (c.in_err-checked_add-in-Some.was ∙ ap physical_number (sym c.from_residual.ensures))
    (follows (goal.at.returns-in_err-checked_add-in-Some c).After-checked_add)

pub returns-in_ok-checked_add-in-Some : goal.returns-in_ok-checked_add-in-Some
returns-in_ok-checked_add-in-Some c =
    subst (Next (mem c.args.runs.now) c.args.value c.args.x.0) c.in_ok-checked_add-in-Some.was
    (follows (goal.at.returns-in_ok-checked_add-in-Some c).After-checked_add)

pub returns-in_default : goal.returns-in_default
returns-in_default c =
    subst (Next (mem c.args.runs.now) c.args.value c.args.x.0) (sym c.next_start.ensures)
    (next-held c.args.runs.now c.at_or_before.ensures.in_order c.args.x.0 c.if-value-2.true (not-held c.args.runs.now c.at_or_before.ensures.in_order c.args.x.0 c.at_or_before.ensures.found
    (elim c.in_default.branch [
      | in_default-via-in-Some+else-x-r w ↦ inl (w.in-Some.r, w.in-Some.is, w.if-x-r.false)
      | in_default-via-in_default w ↦ inr w.in_default.is
    ])))

pub returns-in_default-2 : goal.returns-in_default-2
returns-in_default-2 c =
    next_here (mem c.args.runs.now) c.args.value c.args.x.0 (omega arith)
    (not-held c.args.runs.now c.at_or_before.ensures.in_order c.args.x.0 c.at_or_before.ensures.found
    (elim c.in_default.branch [
      | in_default-via-in-Some+else-x-r w ↦ inl (w.in-Some.r, w.in-Some.is, w.if-x-r.false)
      | in_default-via-in_default w ↦ inr w.in_default.is
    ]) ∙ sym c.if-value-2.false)
