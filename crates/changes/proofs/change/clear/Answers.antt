-- `clear` meets its contract: the run that goes on from before s loses what is from s on, or is cut in two; then no run goes on from before
-- s, and `clear_from` does the rest. Assumes nothing.
use Rattle.std.proofs.Common.{rules, ap, ◌∙◌}
use Rattle.model.specs.RunList.{last_up_to}
use Rattle.changes.proofs.Steps.{found, found_none}
use Rattle.changes.proofs.Trimming.{Trimmed, trimmed-same, trimmed-clearable, trimmed-cleared, trimmed-none, trimmed-from, trimmed-below, trimmed-back, back-changeable, back_last, both-addable, both-added}
use Rattle.changes.proofs.change.clear.Goals as goal
use Rattle.changes.proofs.change.clear.Goals.{
  Joined-at_or_before,
  in-Some+then-r-s+then-s-r+else-s-r-2+else-s-r-le1,
  in_default,
  in_default-via-in-None-1,
  in_default-via-in-Some+else-r-s,
  in_default-via-in-Some+then-r-s+else-s-r,
}

-- no run goes on from before s
trimmed : (c : Joined-at_or_before) → Trimmed c.args.words.now c.match-at_or_before.words c.args.x c.args.s.first.0 c.args.s.last.0
trimmed c =
    elim c.match-at_or_before.branch [
      | in-Some+then-r-s+then-s-r+else-s-r-2+else-s-r-le1 w ↦
          trimmed-same w.words-is (trimmed-back c.args.s.ordered (found _ (c.at_or_before.ensures.found ∙ ap (last_up_to _) c.runs_of.ensures) _ w.in-Some.is) w.if-r-s.true w.if-s-r.true w.resize_run.ensures w.if-s-r-2.false)
      | in_default w ↦
          trimmed-same w.words-is
          (elim w.in_default.branch [
            | in_default-via-in-None-1 v ↦ trimmed-none (found_none _ (c.at_or_before.ensures.found ∙ ap (last_up_to _) c.runs_of.ensures) (search rules))
            | in_default-via-in-Some+else-r-s v ↦ trimmed-from c.args.s.ordered (found _ (c.at_or_before.ensures.found ∙ ap (last_up_to _) c.runs_of.ensures) _ v.in-Some.is) v.if-r-s.false
            | in_default-via-in-Some+then-r-s+else-s-r v ↦ trimmed-below c.args.s.ordered (found _ (c.at_or_before.ensures.found ∙ ap (last_up_to _) c.runs_of.ensures) _ v.in-Some.is) v.if-s-r.false
          ])
    ]

pub resize_run-requires : goal.resize_run-requires
resize_run-requires c = back-changeable c.args.s.ordered (found _ (c.at_or_before.ensures.found ∙ ap (last_up_to _) c.runs_of.ensures) _ c.in-Some.is) c.if-r-s.true c.if-s-r.true c.requires

pub add_run-requires : goal.add_run-requires
add_run-requires c =
    both-addable c.args.s.ordered (found _ (c.at_or_before.ensures.found ∙ ap (last_up_to _) c.runs_of.ensures) _ c.in-Some.is) c.if-r-s.true c.if-s-r.true c.resize_run.ensures c.if-s-r-2.true c.requires

pub returns-then-s-r-2 : goal.returns-then-s-r-2
returns-then-s-r-2 c =
    both-added c.args.s.ordered (found _ (c.at_or_before.ensures.found ∙ ap (last_up_to _) c.runs_of.ensures) _ c.in-Some.is) c.if-r-s.true c.if-s-r.true c.resize_run.ensures c.if-s-r-2.true c.add_run.ensures.0

pub returns-then-s-r-le1 : goal.returns-then-s-r-le1
returns-then-s-r-le1 c =
    back_last c.args.s.ordered (found _ (c.at_or_before.ensures.found ∙ ap (last_up_to _) c.runs_of.ensures) _ c.in-Some.is) c.if-r-s.true c.if-s-r.true c.resize_run.ensures c.if-s-r-2.false c.if-s-r-le1.true

pub clear_from-requires : goal.clear_from-requires
clear_from-requires c = trimmed-clearable c.args.s.ordered (trimmed (goal.at.clear_from-requires c).Joined-at_or_before) c.requires

pub returns : goal.returns
returns c = trimmed-cleared c.args.s.ordered (trimmed (goal.at.returns c).Joined-at_or_before) c.clear_from.ensures
