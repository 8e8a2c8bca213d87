-- `last_run` meets its contract: to the last position of the value from where its stretch starts.
-- Assumes nothing.
use Rattle.std.specs.Bool.{then_some}
use Rattle.std.proofs.Common.{ap, ◌∙◌, leb, rules, tests}
use Rattle.reports.proofs.Bounding.{no-last-run, last-run-found, kept, dropped}
use Rattle.reports.proofs.runs.last_run.Goals as goal

pub returns-in_err-end : goal.returns-in_err-end
returns-in_err-end c =
    c.from_residual.ensures
    ∙ no-last-run _ _ _ _ c.previous.ensures
    (dropped (λ y. leb c.args.r.first.0 y) c.filter.ensures (λ y q. q.2 ∙ ap (λ b. then_some b y) (search (rules, tests))) c.in_err-end.was)

pub returns : goal.returns
returns c =
    last-run-found _ _ _ _ c.previous.ensures
    (kept (λ y. leb c.args.r.first.0 y) c.filter.ensures (λ y q. q.2 ∙ ap (λ b. then_some b y) (search (rules, tests))) c.in_ok-end.was).0 c.stretch_start.ensures
