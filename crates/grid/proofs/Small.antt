-- All numbers that go over a rectangle row by row are small, so no sum of them leaves a word. Assumes nothing.
use Prim.Native.Nat.{ℕ, zero, suc, ◌+◌, ◌-◌, ◌*◌, ◌≤◌, ◌<◌}
use mathlib.Core.Bool.{Bool, true, false, cond, ◌&&◌, beq}
use mathlib.Core.List.{List, [], ◌∷◌}
use native.Mathlib.Omega.{arith}
use lib.Dec.{eqb}
use lib.ListN.{length}
use Rattle.model.specs.declared.Run.{Run}
use Rattle.model.specs.Positions.{Positions, run, put_first, runs_in, run_count}
use Rattle.model.specs.Neighbours.{goes_on, held_below, held_above}
use Rattle.model.proofs.Counting.{one-bound, count_most}
use Rattle.model.specs.declared.Rect.{Rect}
use Rattle.model.specs.Grid.{cell}
use Rattle.grid.specs.Surveys.{OnPlane}
use Rattle.grid.specs.Rows.{row_sum, row_count, row_gain, row_loss}

-- ---- runs
-- one position more makes one run more at most
put-most : (a : ℕ) (rs : List Run) → length (put_first a rs) ≤ suc (length rs)
put-most a [] = omega arith
put-most a (r ∷ rs) = go (eqb r.start (suc a))
  where
    go : (b : Bool) → length (cond b (run a r.«end» ∷ rs) (run a a ∷ (r ∷ rs))) ≤ suc (length (r ∷ rs))
    go true = omega arith
    go false = omega arith

-- n positions have n runs at most
runs-most : (P : Positions) (v : Bool) (a n : ℕ) → run_count P v a n ≤ n
unfolding run_count runs_in
runs-most P v a zero = omega arith
runs-most P v a (suc n) = go (beq (P a) v) (runs-most P v (suc a) n)
  where
    go : (b : Bool) → length (runs_in P v (suc a) n) ≤ n → length (cond b (put_first a (runs_in P v (suc a) n)) (runs_in P v (suc a) n)) ≤ suc n
    go true h = omega (arith, put-most a (runs_in P v (suc a) n))
    go false h = omega arith

-- so a stretch of the plane has few
pub runs-few : (P : Positions) (a b : ℕ) → a ≤ b → b < 4294967296 → run_count P true a (suc b - a) ≤ 4294967296
runs-few P a b o l = omega (arith, runs-most P true a (suc b - a))

-- ---- rows
module _ (q : Rect) (on : OnPlane q) (P : Positions) where
  -- the cells of a row
  pub count-few : (r : ℕ) → row_count q P r ≤ 65536
  count-few r = omega (arith, count_most P true (cell r q.left) (suc (cell r q.right) - cell r q.left), on.within)

  -- the runs of a row
  pub inside-few : (r : ℕ) → run_count P true (cell r q.left) (suc (cell r q.right) - cell r q.left) ≤ 65536
  inside-few r = omega (arith, runs-most P true (cell r q.left) (suc (cell r q.right) - cell r q.left), on.within)

  -- the runs that it adds
  pub gain-few : (v : Bool) (r : ℕ) → row_gain q v P r ≤ 3
  gain-few v r = omega (arith, one-bound (goes_on P (cell r q.left)), one-bound (goes_on P (suc (cell r q.right))), one-bound v)

  -- and those that it takes
  pub loss-few : (v : Bool) (r : ℕ) → row_loss q v P r ≤ 65538
  loss-few v r =
      omega (arith, inside-few r, one-bound (held_below P (cell r q.left) && v), one-bound (v && held_above P (cell r q.right)))

-- ---- sums
-- a sum of small numbers
pub sum-few : (f : ℕ → ℕ) (t m : ℕ) → ((r : ℕ) → f r ≤ 65538) → row_sum f t m ≤ m * 65538
unfolding row_sum
sum-few f t zero few = omega arith
sum-few f t (suc m) few = omega (arith, sum-few f t m few, few (t + m))
