-- `touching` meets its contract: the run that starts where s does or before it, if it reaches s, else the first run from there on, if it is reached from the end of s.
-- Assumes nothing.
use Rattle.std.specs.Bool.{then_some}
use Rattle.std.proofs.Common.{sym, ap, ◌∙◌, inl, inr, rules, tests, leb-true, leb-false}
use Rattle.changes.proofs.Raising.{touching-before, touching-after}
use Rattle.changes.proofs.change.touching.Goals as goal
use Rattle.changes.proofs.change.touching.Goals.{in_default-via-in-Some+else-reaches, in_default-via-in_default}

pub returns-in-Some : goal.returns-in-Some
returns-in-Some c =
    touching-before c.args.runs.now c.at_or_before.ensures.in_order c.args.s.first.0 c.args.s.last.0 c.args.s.ordered (sym c.in-Some.is ∙ c.at_or_before.ensures.found)
    (leb-true _ _ (sym c.reaches.ensures ∙ c.if-reaches.true))

pub returns-in_default : goal.returns-in_default
returns-in_default c =
    touching-after c.args.runs.now c.at_or_before.ensures.in_order c.args.s.first.0 c.args.s.last.0 c.args.s.ordered c.at_or_before.ensures.found
    (elim c.in_default.branch [
      | in_default-via-in-Some+else-reaches w ↦ inr (w.in-Some.r, w.in-Some.is, leb-false _ _ (sym w.reaches.ensures ∙ w.if-reaches.false))
      | in_default-via-in_default w ↦ inl w.in_default.is
    ]) c.at_or_after.ensures.found c.filter.ensures
    (λ q k. k.2 ∙ ap (λ b. then_some b q) (search (rules, tests)))
