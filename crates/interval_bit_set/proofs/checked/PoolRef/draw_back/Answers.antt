-- `draw_back` meets its contract: the last run that is left, and the listing moved before it; with none left the listing ends.
-- Assumes nothing.
use mathlib.Core.Path.{refl, ap, ◌∙◌}
use Rattle.model.specs.Call.{drawn}
use Rattle.model.specs.Positions.{last_run}
use Rattle.interval_bit_set.proofs.Draws.{none_left, last-left, back_none, back_more, back_end}
use Rattle.interval_bit_set.proofs.Meeting.{met, met-read, asks}
use Rattle.model.specs.Model.{drawn_last}
use Rattle.interval_bit_set.proofs.Looking.{found, shut-out}
use Rattle.interval_bit_set.proofs.checked.PoolRef.draw_back.Goals as goal
use Rattle.interval_bit_set.proofs.checked.PoolRef.draw_back.Goals.{in_default-via-in-Some+else-l-r, in_default-via-in_default}

pub returns-then-l : goal.returns-then-l
unfolding drawn_last
returns-then-l c =
    met (asks refl) (found c.args.self.checked c.in_ok-set.ensures.0) refl (back_none _ (ap last_run (none_left _ _ c.if-l.true)) c.finished.ensures)

pub returns-in-Some : goal.returns-in-Some
unfolding drawn_last
returns-in-Some c =
    let e = last-left _ _ c.in-Some.is c.last_run-run.ensures in
    met-read (asks refl) (found c.args.self.checked c.in_ok-set.ensures.0) c.in_ok-set.set c.in_ok-set.ensures.1 refl (back_more _ e c.if-l-r.true)

pub returns-in_default : goal.returns-in_default
unfolding drawn_last
returns-in_default c =
    met-read (asks refl) (found c.args.self.checked c.in_ok-set.ensures.0) c.in_ok-set.set c.in_ok-set.ensures.1 refl
    (elim c.in_default.branch [
      | in_default-via-in-Some+else-l-r w ↦
          ap (λ o. drawn o c.finished-rest.result) w.run-is
          ∙ back_end _ (last-left _ _ w.in-Some.is c.last_run-run.ensures) w.if-l-r.false c.finished-rest.ensures
      | in_default-via-in_default w ↦
          ap (λ o. drawn o c.finished-rest.result) (w.run-is ∙ w.in_default.is)
          ∙ back_none _ (last-left _ _ w.in_default.is c.last_run-run.ensures) c.finished-rest.ensures
    ])

pub returns-in_err-set : goal.returns-in_err-set
returns-in_err-set c = shut-out _ _ c.from_residual.ensures.1 (λ e p. p) refl c.args.self.checked c.in_err-set.ensures
