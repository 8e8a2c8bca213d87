-- What a range's bounds come to in each call: none of its positions where it has none, else those of an interval.
-- Of no position every report is the least. Assumes nothing.
use Rattle.std.specs.Prelude.{Option, None, Some}
use Prim.Native.Nat.{ℕ, suc, ◌+◌, ◌-◌, ◌≤◌, ◌<◌}
use mathlib.Core.Path.{◌≡◌, sym, ap, ap₂, ◌∙◌, subst}
use mathlib.Core.Bool.{Bool, not}
use native.Mathlib.Omega.{arith}
use lib.ListN.{length}
use Rattle.model.specs.Ends.{Bound}
use Rattle.model.specs.declared.between.Interval.{Interval}
use Rattle.model.specs.Range.{first_allowed, extent, many, Within}
use Rattle.model.specs.Positions.{Positions, find, count, select, run_count, gap, ended, listed}
use Rattle.model.proofs.Counting.{count_none}
use Rattle.model.proofs.Runs.{runs_in-none}
use Rattle.model.proofs.Finds.{find_none, select-none}

-- ---- the range
-- the bounds allow the positions of the interval r
pub record Allowed (l u : Bound) (r : Interval) : Type 0 where
  pub first : first_allowed l ≡ r.first.0
  pub many-are : extent l u ≡ many r

module _ (l u : Bound) {o : Option Interval} (W : Within l u o) where
  -- none, where there is no interval
  pub no-position : o ≡ None → extent l u ≡ 0
  no-position e = subst (Within l u) e W

  -- else those of the interval
  pub its-positions : {r : Interval} → o ≡ Some r → Allowed l u r
  its-positions e = let w = subst (Within l u) e W in record { first = w.0; many-are = w.1 }

module _ {l u : Bound} {r : Interval} (W : Allowed l u r) where
  -- what is told of its positions is told of the range
  pub of_range : {T : Type 0} {t : T} (F : ℕ → ℕ → T) → t ≡ F r.first.0 (many r) → t ≡ F (first_allowed l) (extent l u)
  of_range F e = e ∙ ap₂ F (sym W.first) (sym W.many-are)

  -- so is their k-th position
  pub select-range : {t : Option ℕ} (P : Positions) (v : Bool) (k : ℕ) → t ≡ select P v r.first.0 (many r) k → t ≡ select P v (first_allowed l) (extent l u) k
  select-range P v k e = of_range (λ x n. select P v x n k) e

  -- and their lowest gap
  pub gap-range : {t : Option ℕ} (P : Positions) (n : ℕ) → t ≡ gap P r.first.0 (many r) n → t ≡ gap P (first_allowed l) (extent l u) n
  gap-range P n e = of_range (λ x k. gap P x k n) e

  -- the listing of them
  pub listed-some : (v : Bool) → record { first = r.first.0; last = r.last.0; value = v } ≡ listed (first_allowed l) (extent l u) v
  listed-some v =
      let e : r.first.0 + (r.last.0 - r.first.0) ≡ r.last.0 = omega (arith, r.ordered) in
      let f : extent l u ≡ suc (r.last.0 - r.first.0) = W.many-are ∙ omega (arith, r.ordered) in
      sym (ap₂ (λ x n. listed x n v) W.first f ∙ ap (λ z. record { first = r.first.0; last = z; value = v }) e)

-- ---- of no position
module _ (P : Positions) (v : Bool) (a n : ℕ) (e : n ≡ 0) where
  -- nothing is there
  nothing : (y : ℕ) → a ≤ y → y < a + n → P y ≡ not v
  nothing y h k = absurd (omega arith)

  -- no least position
  pub find-nothing : None ≡ find P v a n
  find-nothing = sym (find_none P v a n nothing)

  -- a count of 0
  pub count-nothing : 0 ≡ count P v a n
  count-nothing = sym (count_none P v a n nothing)

  -- no k-th position
  pub select-nothing : (k : ℕ) → None ≡ select P v a n k
  select-nothing k = sym (select-none P v a n k (omega (arith, count-nothing)))

  -- no run
  pub ranges-nothing : 0 ≡ run_count P v a n
  unfolding run_count
  ranges-nothing = sym (ap length (runs_in-none P v a n nothing))

-- a listing of it has ended
pub listed-nothing : (a n : ℕ) (v : Bool) → n ≡ 0 → ended v ≡ listed a n v
listed-nothing a n v e = sym (ap (λ k. listed a k v) e)
