-- The first and last run of a parted range, and what is found and selected in it, from the two physical ranges that it is kept in:
-- the first from s to physical M, the second from 0 to e. By the joined range (Joins), each part moved (Moved). Assumes nothing.
use Rattle.std.specs.Prelude.{option_map}
use Rattle.std.proofs.Common.{◌≡◌, ℕ, ◌+◌, ◌-◌, ◌<◌, ◌≤◌, Bool, ap, ◌∙◌, arith}
use Rattle.model.specs.Numbers.{size}
use Rattle.model.specs.Positions.{Positions, count, select, runs_in, last_run}
use Rattle.pool.specs.Layout.{turned}
use Rattle.model.proofs.Moved.{move, move_run, count-moved, last_run-moved, select-moved}
use Rattle.pool.proofs.Turn.{Lies, parted-length}
use Rattle.pool.proofs.Turn.{parted-first, parted-second}
use Rattle.reports.proofs.Joins.{select-first, select-second}

module _ {o a n s e : ℕ} (lies : Lies o a n s e) (parted : e < s) (Q : Positions) (v : Bool) where
  -- the range by its parts
  whole : {A : Type 0} (f : ℕ → A) → f n ≡ f (size - s + (e + 1))
  whole f = ap f (parted-length lies parted)

  -- its last run
  one_last : last_run (runs_in (turned o Q) v a (size - s)) ≡ option_map (move_run s a) (last_run (runs_in Q v s (size - s)))
  one_last = last_run-moved (turned o Q) Q v a s (size - s) (parted-first lies Q parted)

  -- ---- the first run
  -- ---- the last run
  -- ---- find
  -- ---- select
  -- how many positions of the value the first part has
  counted : count (turned o Q) v a (size - s) ≡ count Q v s (size - s)
  counted = count-moved (turned o Q) Q v a s (size - s) (parted-first lies Q parted)

  -- selected in the first part
  pub select-in-first : (k : ℕ) → k < count Q v s (size - s) → select (turned o Q) v a n k ≡ option_map (move s a) (select Q v s (size - s) k)
  select-in-first k h =
      whole (λ j. select (turned o Q) v a j k) ∙ select-first (turned o Q) v a (size - s) (e + 1) k (omega (arith, counted))
      ∙ select-moved (turned o Q) Q v a s (size - s) (parted-first lies Q parted) k

  -- selected in the second part, or not at all
  pub select-in-second : (k : ℕ) → count Q v s (size - s) ≤ k
      → select (turned o Q) v a n k ≡ option_map (move 0 (a + (size - s))) (select Q v 0 (e + 1) (k - count Q v s (size - s)))
  select-in-second k h =
      whole (λ j. select (turned o Q) v a j k) ∙ select-second (turned o Q) v a (size - s) (e + 1) k (omega (arith, counted))
      ∙ ap (λ c. select (turned o Q) v (a + (size - s)) (e + 1) (k - c)) counted
      ∙ select-moved (turned o Q) Q v (a + (size - s)) 0 (e + 1) (parted-second lies Q parted) (k - count Q v s (size - s))
