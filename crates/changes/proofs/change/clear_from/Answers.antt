-- `clear_from` meets its contract. The loop's invariant: the model's `clear` makes of the runs left what it made of all; the measure is
-- how many runs there are. Assumes nothing.
use Rattle.std.proofs.Common.{rules, ap, ◌∙◌}
use Rattle.model.specs.RunList.{first_from}
use Rattle.changes.proofs.Clearing.{here, clearing-indexed, first-changeable, first-removable, cleared-fewer, cleared-gone, cleared-last, cleared-front, cleared-apart, cleared-over}
use Rattle.changes.proofs.change.clear_from.Goals as goal

pub runs_of-requires : goal.runs_of-requires
runs_of-requires c = clearing-indexed c.loop-r.invariant c.requires

pub resize_run-requires : goal.resize_run-requires
resize_run-requires c = first-changeable (here c.loop-r.invariant c.requires) _ (c.at_or_after.ensures.found ∙ ap (first_from _) c.runs_of.ensures) _ c.in-Some.is c.if-r-s.true c.if-s-r.true

pub returns-then-s-r : goal.returns-then-s-r
returns-then-s-r c sh ls us t ns p =
    cleared-front (c.loop-r.invariant.so_far p) _ (c.at_or_after.ensures.found ∙ ap (first_from _) c.runs_of.ensures) _ c.in-Some.is c.if-r-s.true c.if-s-r.true c.resize_run.ensures

pub remove_run-links-requires : goal.remove_run-links-requires
remove_run-links-requires c = first-removable (here c.loop-r.invariant c.requires) _ (c.at_or_after.ensures.found ∙ ap (first_from _) c.runs_of.ensures) _ c.in-Some.is

pub returns-then-s-r-le1 : goal.returns-then-s-r-le1
returns-then-s-r-le1 c sh ls us t ns p =
    cleared-last (c.loop-r.invariant.so_far p) _ (c.at_or_after.ensures.found ∙ ap (first_from _) c.runs_of.ensures) _ c.in-Some.is c.remove_run-links.ensures c.if-s-r.false c.if-s-r-le1.true

pub loop-r-smaller : goal.loop-r-smaller
loop-r-smaller c = cleared-fewer (here c.loop-r.invariant c.requires) _ (c.at_or_after.ensures.found ∙ ap (first_from _) c.runs_of.ensures) _ c.in-Some.is c.remove_run-links.ensures

pub loop-r-preserved : goal.loop-r-preserved
loop-r-preserved c = record {
  so_far = λ p. cleared-gone (c.loop-r.invariant.so_far p) _ (c.at_or_after.ensures.found ∙ ap (first_from _) c.runs_of.ensures) _ c.in-Some.is c.remove_run-links.ensures c.if-s-r.false;
}

pub returns-in-loop-r : goal.returns-in-loop-r
returns-in-loop-r c sh ls us t ns p = cleared-over (c.loop-r.invariant.so_far p) _ (c.at_or_after.ensures.found ∙ ap (first_from _) c.runs_of.ensures) (search rules)

pub returns-else-r-s : goal.returns-else-r-s
returns-else-r-s c sh ls us t ns p = cleared-apart (c.loop-r.invariant.so_far p) _ (c.at_or_after.ensures.found ∙ ap (first_from _) c.runs_of.ensures) _ c.in-Some.is c.if-r-s.false
