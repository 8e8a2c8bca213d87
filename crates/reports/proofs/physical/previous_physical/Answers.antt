-- `previous_physical` meets its contract: x itself, or what precedes the run that x is in, or the end of the run before x.
-- Assumes nothing.
use Rattle.std.proofs.Common.{sym, ap, ◌∙◌, subst, arith}
use Rattle.model.specs.Positions.{mem}
use Rattle.reports.specs.Reports.{physical_number, Previous}
use Rattle.reports.proofs.Edges.{previous-here, in-run, past-run, no_run, previous-held, previous-unheld, previous-free}
use Rattle.reports.proofs.physical.previous_physical.Goals as goal
use Rattle.reports.proofs.physical.previous_physical.Goals.{After-checked_sub}

pub returns-then-value : goal.returns-then-value
returns-then-value c =
    previous-here (mem c.args.runs.now) c.args.value c.args.x.0
    (in-run c.args.runs.now c.at_or_before.ensures.in_order c.args.x.0 c.in-Some.r
    (sym c.in-Some.is ∙ c.at_or_before.ensures.found) c.if-x-r.true ∙ sym c.if-value.true)

-- what precedes the run that x is in, if anything does
precedes : (c : After-checked_sub) → Previous (mem c.args.runs.now) c.args.value c.args.x.0 c.checked_sub.result
precedes c =
    previous-free c.args.runs.now c.at_or_before.ensures.in_order c.args.x.0 c.in-Some.r c.if-value.false
    (sym c.in-Some.is ∙ c.at_or_before.ensures.found) c.if-x-r.true c.checked_sub.result c.checked_sub.ensures

pub returns-in_err-checked_sub-in-Some : goal.returns-in_err-checked_sub-in-Some
returns-in_err-checked_sub-in-Some c =
    subst (Previous (mem c.args.runs.now) c.args.value c.args.x.0) (c.in_err-checked_sub-in-Some.was ∙ ap physical_number (sym c.from_residual.ensures))
    (precedes (goal.at.returns-in_err-checked_sub-in-Some c).After-checked_sub)

pub returns-in_ok-checked_sub-in-Some : goal.returns-in_ok-checked_sub-in-Some
returns-in_ok-checked_sub-in-Some c =
    subst (Previous (mem c.args.runs.now) c.args.value c.args.x.0) c.in_ok-checked_sub-in-Some.was
    (precedes (goal.at.returns-in_ok-checked_sub-in-Some c).After-checked_sub)

pub returns-in-Some-2 : goal.returns-in-Some-2
returns-in-Some-2 c =
    previous-held c.args.runs.now c.at_or_before.ensures.in_order c.args.x.0 c.in-Some.r c.if-value-2.true
    (sym c.in-Some.is ∙ c.at_or_before.ensures.found) c.if-x-r.false

pub returns-in-None : goal.returns-in-None
returns-in-None c =
    previous-unheld c.args.runs.now c.at_or_before.ensures.in_order c.args.x.0 c.if-value-3.true
    (sym c.in-None.is ∙ c.at_or_before.ensures.found)

pub returns-in_default : goal.returns-in_default
returns-in_default c =
    previous-here (mem c.args.runs.now) c.args.value c.args.x.0
    (past-run c.args.runs.now c.at_or_before.ensures.in_order c.args.x.0 c.in-Some.r
    (sym c.in-Some.is ∙ c.at_or_before.ensures.found) c.if-x-r.false ∙ sym c.if-value-2.false)

pub returns-in_default-2 : goal.returns-in_default-2
returns-in_default-2 c =
    previous-here (mem c.args.runs.now) c.args.value c.args.x.0
    (no_run c.args.runs.now c.at_or_before.ensures.in_order c.args.x.0 (sym c.in-None.is ∙ c.at_or_before.ensures.found)
    c.args.x.0 (omega arith) ∙ sym c.if-value-3.false)
