-- `first_run` meets its contract: from the first position of the value to where its stretch ends.
-- Assumes nothing.
use Rattle.std.proofs.Common.{sym, ap, ◌∙◌, arith}
use Rattle.model.specs.Range.{many}
use Rattle.pool.specs.Layout.{held}
use Rattle.reports.specs.Reports.{logical_number}
use Rattle.reports.proofs.Joins.{FoundIn, find-only}
use Rattle.reports.proofs.Bounding.{no-first-run, first-run-found}
use Rattle.reports.proofs.runs.first_run.Goals as goal
use Rattle.reports.proofs.runs.first_run.Goals.{In_ok-start}

-- the position that was found
found : (c : In_ok-start) → FoundIn (held c.args.set.now) c.args.value c.args.r.first.0 (many c.args.r) c.in_ok-start.start.0
found c = find-only _ _ _ _ _ (sym c.find_in.ensures ∙ ap logical_number c.in_ok-start.was)

pub returns-in_err-start : goal.returns-in_err-start
returns-in_err-start c = c.from_residual.ensures ∙ no-first-run _ _ _ _ (sym c.find_in.ensures ∙ ap logical_number c.in_err-start.was)

pub invariant_of-rest : goal.invariant_of-rest
invariant_of-rest c = omega (arith, (found (goal.at.invariant_of-rest c).In_ok-start).past)

pub stretch_end-requires : goal.stretch_end-requires
stretch_end-requires c = (found (goal.at.stretch_end-requires c).In_ok-start).has

pub returns : goal.returns
returns c = first-run-found _ _ _ _ c.args.r.ordered (sym c.find_in.ensures ∙ ap logical_number c.in_ok-start.was) c.stretch_end.ensures
