-- `draw_front` meets its contract: the first run that is left, and the listing moved past it; with none left the listing ends.
-- Assumes nothing.
use mathlib.Core.Path.{refl, ap, ◌∙◌}
use Rattle.model.specs.Call.{drawn}
use Rattle.model.specs.Positions.{first_run}
use Rattle.interval_bit_set.proofs.Draws.{none_left, first-left, front-none, front-more, front-end}
use Rattle.interval_bit_set.proofs.Meeting.{met, met-read, asks}
use Rattle.model.specs.Model.{drawn_first}
use Rattle.interval_bit_set.proofs.Looking.{found, shut-out}
use Rattle.interval_bit_set.proofs.checked.PoolRef.draw_front.Goals as goal
use Rattle.interval_bit_set.proofs.checked.PoolRef.draw_front.Goals.{in_default-via-in-Some+else-r-l, in_default-via-in_default}

pub returns-then-l : goal.returns-then-l
unfolding drawn_first
returns-then-l c =
    met (asks refl) (found c.args.self.checked c.in_ok-set.ensures.0) refl (front-none _ (ap first_run (none_left _ _ c.if-l.true)) c.finished.ensures)

pub returns-in-Some : goal.returns-in-Some
unfolding drawn_first
returns-in-Some c =
    let e = first-left _ _ c.in-Some.is c.first_run-run.ensures in
    met-read (asks refl) (found c.args.self.checked c.in_ok-set.ensures.0) c.in_ok-set.set c.in_ok-set.ensures.1 refl (front-more _ e c.if-r-l.true)

pub returns-in_default : goal.returns-in_default
unfolding drawn_first
returns-in_default c =
    met-read (asks refl) (found c.args.self.checked c.in_ok-set.ensures.0) c.in_ok-set.set c.in_ok-set.ensures.1 refl
    (elim c.in_default.branch [
      | in_default-via-in-Some+else-r-l w ↦
          ap (λ o. drawn o c.finished-rest.result) w.run-is
          ∙ front-end _ (first-left _ _ w.in-Some.is c.first_run-run.ensures) w.if-r-l.false c.finished-rest.ensures
      | in_default-via-in_default w ↦
          ap (λ o. drawn o c.finished-rest.result) (w.run-is ∙ w.in_default.is)
          ∙ front-none _ (first-left _ _ w.in_default.is c.first_run-run.ensures) c.finished-rest.ensures
    ])

pub returns-in_err-set : goal.returns-in_err-set
returns-in_err-set c = shut-out _ _ c.from_residual.ensures.1 (λ e p. p) refl c.args.self.checked c.in_err-set.ensures
