-- `unopened_fit` meets its contract. The loop's invariant: the records that are left decide for all. Assumes nothing.
use Rattle.pool.proofs.Base.{◌≡◌, ◌-◌, ◌≤◌, most_worlds, unopened_b}
use Rattle.pool.proofs.soundness.unopened_fit.Given as goal

abbrev pub invariant-loop-k : goal.invariant-loop-k
invariant-loop-k l = (l.k ≤ most_worlds) × (unopened_b l.words l.k (most_worlds - l.k) ≡ unopened_b l.words l.n (most_worlds - l.n))
