-- `absorb` meets its contract. The loop's invariant: the runs taken out joined what is reached, so the model's `insert` makes of the runs
-- left what it made of all; the measure is how many runs there are. Assumes nothing.
use Rattle.std.proofs.Common.{sym, ◌∙◌, arith, rules, leb-true, leb-false, ap}
use Rattle.model.specs.RunList.{first_from}
use Rattle.changes.proofs.Joining.{absorbing-none, absorbing-ordered, absorbing-indexed, here, within, next-removable, so-far-taken, last-taken, so-far-fewer, apart, over}
use Rattle.changes.proofs.change.absorb.Goals as goal

pub returns-then-e-r : goal.returns-then-e-r
returns-then-e-r c sh ls us t ns p = within (absorbing-none.so_far p) c.if-e-r.true

pub overflow_add-r : goal.overflow_add-r
overflow_add-r c = omega (arith, absorbing-ordered c.requires, c.if-e-r.false, c.well_formed)

pub runs_of-requires : goal.runs_of-requires
runs_of-requires c = absorbing-indexed c.loop-q.invariant c.requires

pub remove_run-links-requires : goal.remove_run-links-requires
remove_run-links-requires c = next-removable (here c.loop-q.invariant c.requires) _ (c.at_or_after.ensures.found ∙ ap (first_from _) c.runs_of.ensures) _ c.in-Some.is

pub returns-then-e-q : goal.returns-then-e-q
returns-then-e-q c sh ls us t ns p =
    last-taken (c.loop-q.invariant.so_far p) _ (c.at_or_after.ensures.found ∙ ap (first_from _) c.runs_of.ensures) _ c.in-Some.is c.remove_run-links.ensures
    (leb-true _ _ (sym c.reaches.ensures ∙ c.if-reaches.true)) c.if-e-q.true

pub loop-q-smaller : goal.loop-q-smaller
loop-q-smaller c = so-far-fewer (here c.loop-q.invariant c.requires) _ (c.at_or_after.ensures.found ∙ ap (first_from _) c.runs_of.ensures) _ c.in-Some.is c.remove_run-links.ensures

pub loop-q-preserved : goal.loop-q-preserved
loop-q-preserved c = record {
  so_far = λ p. so-far-taken (c.loop-q.invariant.so_far p) _ (c.at_or_after.ensures.found ∙ ap (first_from _) c.runs_of.ensures) _ c.in-Some.is c.remove_run-links.ensures
      (leb-true _ _ (sym c.reaches.ensures ∙ c.if-reaches.true)) (omega (arith, c.if-e-q.false));
}

pub returns-in-loop-q : goal.returns-in-loop-q
returns-in-loop-q c sh ls us t ns p = over (c.loop-q.invariant.so_far p) _ (c.at_or_after.ensures.found ∙ ap (first_from _) c.runs_of.ensures) (search rules)

pub returns-else-reaches : goal.returns-else-reaches
returns-else-reaches c sh ls us t ns p =
    apart (c.loop-q.invariant.so_far p) _ (c.at_or_after.ensures.found ∙ ap (first_from _) c.runs_of.ensures) _ c.in-Some.is (leb-false _ _ (sym c.reaches.ensures ∙ c.if-reaches.false))
