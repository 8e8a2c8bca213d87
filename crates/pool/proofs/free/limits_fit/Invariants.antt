-- `limits_fit` meets its contract. The loop's invariant: the worlds from k on decide, with what is left of the capacity. Assumes nothing.
use Rattle.pool.proofs.Limiting.{Deciding}
use Rattle.pool.proofs.free.limits_fit.Given as goal

abbrev pub invariant-loop-k : goal.invariant-loop-k
invariant-loop-k l = Deciding l.limits l.c l.n l.k l.left
