-- `limits_fit` meets its contract. The loop's invariant: the worlds from k on decide, with what is left of the capacity. Assumes nothing.
use Rattle.std.proofs.Common.{⊎_elim}
use Rattle.pool.proofs.Limiting.{fit-crossed, fit-over, fit-end}
use Rattle.pool.proofs.free.limits_fit.Goals as goal

pub returns-then-l : goal.returns-then-l
returns-then-l c =
    ⊎_elim (λ e. fit-crossed _ _ _ _ _ c.loop-k.invariant _ c.loop-k-test.true c.limits_at-l.ensures e)
    (λ e. fit-over _ _ _ _ _ c.loop-k.invariant _ c.loop-k-test.true c.limits_at-l.ensures e.1) c.then-l.either

pub returns : goal.returns
returns c = fit-end _ _ _ _ _ c.loop-k.invariant c.loop-k-test.false
