-- The loop's invariant: the pool is sound, a gap has a position, and so far all searches found one, or none did; no more found one than were
-- made. Assumes nothing.
use Rattle.std.proofs.Common.{◌≡◌, ◌≤◌, ◌-◌, suc, cond}
use Rattle.pool.specs.Soundness.{Sound}
use Rattle.bench_store.specs.Growing.{has_gap}
use Rattle.bench_store.proofs.vizturel_bench_gaps.Given as goal

abbrev pub invariant-loop : goal.invariant-loop
invariant-loop l =
    Sound l.words × (1 ≤ l.n) × (l.found ≡ cond (has_gap l.words l.first (suc l.last - l.first) l.n) l.counter 0) × (l.found ≤ l.counter)
