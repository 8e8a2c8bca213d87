-- `find_in` meets its contract: the next position of the value from the first one on, if it is not past the last.
-- Assumes nothing.
use Rattle.std.specs.Bool.{then_some}
use Rattle.std.proofs.Common.{ap, ◌∙◌, arith, rules, tests}
use Rattle.reports.proofs.Bounding.{found_in}
use Rattle.reports.proofs.runs.find_in.Goals as goal

pub returns : goal.returns
returns c =
    found_in _ _ _ _ c.next.result (omega (arith, c.well_formed)) c.next.ensures c.filter.ensures
    (λ y q. q.2 ∙ ap (λ b. then_some b y) (search (rules, tests)))
