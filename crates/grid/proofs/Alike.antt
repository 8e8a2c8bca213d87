-- Blocks of one value: all of their cells are held, or none is, exactly if they all have the first cell's value; and rows of one value, one after
-- the other, until a position of the other value. Assumes nothing.
use Rattle.std.specs.Prelude.{Option, None, Some, max}
use Prim.Native.Nat.{ℕ, zero, suc, ◌+◌, ◌-◌, ◌*◌, ◌/◌, ◌≤◌, ◌<◌}
use mathlib.Core.Path.{◌≡◌, refl, sym, ap, ap₂, ◌∙◌, subst, fun_ext}
use mathlib.Core.Logic.{◌⊎◌, inl, inr, ⊎_elim}
use mathlib.Core.Bool.{Bool, true, false, not, ◌||◌, or-true, true≢false, not-not}
use native.Mathlib.Omega.{arith}
use native.Mathlib.Nat.{suc-mul, zero-mul, mul-zero}
use lib.Dec.{eqb}
use borrow.Author.Tests.{eqb-true, eq-eqb}
use Rattle.model.specs.Positions.{Positions, count}
use Rattle.model.proofs.Numbers.{split}
use Rattle.model.proofs.Counting.{count-all, count_none, counted_none, count-both, count_most}
use Rattle.reports.specs.Reports.{Next}
use Rattle.model.specs.Grid.{cell, count_rect, block, one_valued}
use Rattle.grid.specs.Surveys.{OnPlane, OnGrid}
use Rattle.grid.specs.Rows.{row_sum, row_count}
use Rattle.grid.proofs.Cells.{rect-rows}

-- all cells of m rows of n columns have the value v
abbrev pub Alike : Positions → ℕ → ℕ → ℕ → ℕ → Bool → Type 0
Alike P r c m n v = (i x : ℕ) → r ≤ i → i < r + m → cell i c ≤ x → x < cell i c + n → P x ≡ v

-- ---- sums
module _ (f : ℕ → ℕ) (t : ℕ) where
  -- of one number
  sum_alike : (m n : ℕ) → ((i : ℕ) → t ≤ i → i < t + m → f i ≡ n) → row_sum f t m ≡ m * n
  unfolding row_sum
  sum_alike zero n h = sym (zero-mul n)
  sum_alike (suc m) n h =
      omega (arith, sum_alike m n (λ i a b. h i a (omega arith)), h (t + m) (omega arith) (omega arith), suc-mul m n)

  -- where it is 0, so is each number
  sum-zero : (m : ℕ) → row_sum f t m ≡ 0 → (i : ℕ) → t ≤ i → i < t + m → f i ≡ 0
  unfolding row_sum
  sum-zero zero e i a b = absurd (omega arith)
  sum-zero (suc m) e i a b =
      ⊎_elim (λ l. sum-zero m (omega arith) i a l) (λ l. let k : i ≡ t + m = omega arith in ap f k ∙ omega arith) (split i (t + m))

  module _ (n : ℕ) (most : (i : ℕ) → f i ≤ n) where
    -- of numbers that are n at most
    sum-most : (m : ℕ) → row_sum f t m ≤ m * n
    unfolding row_sum
    sum-most zero = omega arith
    sum-most (suc m) = omega (arith, sum-most m, most (t + m), suc-mul m n)

    -- where it is as great as it can be, so is each number
    sum-full : (m : ℕ) → row_sum f t m ≡ m * n → (i : ℕ) → t ≤ i → i < t + m → f i ≡ n
    unfolding row_sum
    sum-full zero e i a b = absurd (omega arith)
    sum-full (suc m) e i a b =
        let full : row_sum f t m ≡ m * n = omega (arith, sum-most m, most (t + m), suc-mul m n) in
        let last : f (t + m) ≡ n = omega (arith, suc-mul m n) in
        ⊎_elim (λ l. sum-full m full i a l) (λ l. let k : i ≡ t + m = omega arith in ap f k ∙ last) (split i (t + m))

-- ---- a block
module _ (P : Positions) (r c m n : ℕ) where
  -- none held, or all: it has one value
  count-told : (count_rect (block r c m n) P ≡ 0) ⊎ (count_rect (block r c m n) P ≡ m * n) → one_valued P r c m n ≡ true
  unfolding one_valued
  count-told (inl e) = ap (λ b. b || eqb (count_rect (block r c m n) P) (m * n)) (eq-eqb (count_rect (block r c m n) P) 0 e)
  count-told (inr e) =
      ap (λ b. eqb (count_rect (block r c m n) P) 0 || b) (eq-eqb (count_rect (block r c m n) P) (m * n) e) ∙ or-true (eqb (count_rect (block r c m n) P) 0)

  -- and the other way round
  told-count : one_valued P r c m n ≡ true → (count_rect (block r c m n) P ≡ 0) ⊎ (count_rect (block r c m n) P ≡ m * n)
  unfolding one_valued
  told-count e = go (eqb (count_rect (block r c m n) P) 0) refl e
    where
      go : (b : Bool) → eqb (count_rect (block r c m n) P) 0 ≡ b → (b || eqb (count_rect (block r c m n) P) (m * n)) ≡ true
          → (count_rect (block r c m n) P ≡ 0) ⊎ (count_rect (block r c m n) P ≡ m * n)
      go true z t = inl (eqb-true (count_rect (block r c m n) P) 0 z)
      go false z t = inr (eqb-true (count_rect (block r c m n) P) (m * n) t)

  module _ (on : OnGrid r c m n) where
    -- it is a rectangle
    block_on : OnPlane (block r c m n)
    block_on = record {
      rows = omega (arith, on.some);
      columns = omega (arith, on.wide);
      low = omega (arith, on.some, on.low);
      within = omega (arith, on.wide, on.within);
    }

    -- its held cells are those of its rows
    block-rows : count_rect (block r c m n) P ≡ row_sum (λ i. count P true (cell i c) n) r m
    block-rows =
        let high : suc (r + m - 1) - r ≡ m = omega (arith, on.some) in
        rect-rows (block r c m n) P block_on ∙ ap₂ (λ (f : ℕ → ℕ) (k : ℕ). row_sum f r k) (wide_is) high
      where
        wide_is : row_count (block r c m n) P ≡ (λ i. count P true (cell i c) n)
        wide_is = fun_ext (λ i. ap (count P true (cell i c)) (wide i))
          where
            wide : (i : ℕ) → suc (cell i (c + n - 1)) - cell i c ≡ n
            wide i = omega (arith, on.wide)

    -- cells of one value
    pub alike-one : (v : Bool) → Alike P r c m n v → one_valued P r c m n ≡ true
    alike-one true h =
        count-told (inr (block-rows ∙ sum_alike (λ i. count P true (cell i c) n) r m n (λ i a b. count-all P true (cell i c) n (λ x k l. h i x a b k l))))
    alike-one false h =
        count-told
        (inl (block-rows ∙ sum_alike (λ i. count P true (cell i c) n) r m 0 (λ i a b. count_none P true (cell i c) n (λ x k l. h i x a b k l)) ∙ mul-zero m))

    -- where none is held, each is free
    none_alike : count_rect (block r c m n) P ≡ 0 → Alike P r c m n false
    none_alike e i x a b k l =
        counted_none P false (cell i c) n (sum-zero (λ i. count P true (cell i c) n) r m (sym block-rows ∙ e) i a b) x k l

    -- where all are, each is held
    full-alike : count_rect (block r c m n) P ≡ m * n → Alike P r c m n true
    full-alike e i x a b k l =
        counted_none P true (cell i c) n
        (omega (
          arith,
          count-both P (cell i c) n,
          sum-full (λ i. count P true (cell i c) n) r n (λ i. count_most P true (cell i c) n) m (sym block-rows ∙ e) i a b,
        ))
        x
        k
        l

    -- two cells of one block of one value
    one_alike : one_valued P r c m n ≡ true → (i x : ℕ) → r ≤ i → i < r + m → cell i c ≤ x → x < cell i c + n → P x ≡ P (cell r c)
    one_alike e i x a b k l = go (told-count e)
      where
        go : (count_rect (block r c m n) P ≡ 0) ⊎ (count_rect (block r c m n) P ≡ m * n) → P x ≡ P (cell r c)
        go (inl z) =
            none_alike z i x a b k l ∙ sym (none_alike z r (cell r c) (omega arith) (omega (arith, on.some)) (omega arith) (omega (arith, on.wide)))
        go (inr z) =
            full-alike z i x a b k l ∙ sym (full-alike z r (cell r c) (omega arith) (omega (arith, on.some)) (omega arith) (omega (arith, on.wide)))

    -- a cell of the other value
    pub other-two : (i x : ℕ) → r ≤ i → i < r + m → cell i c ≤ x → x < cell i c + n → P x ≡ not (P (cell r c)) → one_valued P r c m n ≡ false
    other-two i x a b k l e = go (one_valued P r c m n) refl
      where
        differ : (v w : Bool) → w ≡ not v → w ≡ v → ⊥
        differ true w p q = true≢false (sym q ∙ p)
        differ false w p q = true≢false (sym p ∙ q)

        go : (o : Bool) → one_valued P r c m n ≡ o → o ≡ false
        go false z = refl
        go true z = absurd (differ (P (cell r c)) (P x) e (one_alike z i x a b k l))

-- a single cell
pub single-one : (P : Positions) (r c : ℕ) → OnGrid r c 1 1 → one_valued P r c 1 1 ≡ true
single-one P r c on = alike-one P r c 1 1 on (P (cell r c)) (λ i x a b k l. let e : i ≡ r = omega arith in let f : x ≡ cell r c = omega arith in ap P f)

-- ---- row after row
module _ (P : Positions) (r c m n : ℕ) (v : Bool) where
  module _ (on : OnGrid r c m n) (k : ℕ) (far : r ≤ k) (h : Alike P r c (k - r) n v) where
    -- after the last one
    pub alike_all : r + m ≤ k → Alike P r c m n v
    alike_all le i x a b p q = h i x a (omega arith) p q

    -- the next position of the other value, if there is one
    module _ (e : Option ℕ) (g : Next P (not v) (cell k c) e) where
      -- there is none
      pub alike-rest : e ≡ None → Alike P r c m n v
      alike-rest is i x a b p q = go (split i k) (subst (Next P (not v) (cell k c)) is g)
        where
          go : (i < k) ⊎ (k ≤ i) → Next P (not v) (cell k c) None → P x ≡ v
          go (inl l) none = h i x a (omega arith) p q
          go (inr l) none = none x (omega arith) (omega (arith, on.low, on.within)) ∙ not-not v

      module _ (y : ℕ) (is : e ≡ Some y) where
        -- what is known of it
        at : Next P (not v) (cell k c) (Some y)
        at = subst (Next P (not v) (cell k c)) is g

        -- it is in row k
        pub other-here : k < r + m → v ≡ P (cell r c) → y < cell k c + n → one_valued P r c m n ≡ false
        other-here more f l = other-two P r c m n on k y far more at.0 l (at.2 ∙ ap not f)

        -- it is after row k
        pub alike_next : (j : ℕ) → cell k c + n ≤ y → j ≡ max (y / 65536) (k + 1) → Alike P r c (j - r) n v
        alike_next j le w i x a b p q = go (split i k) (split k i)
          where
            under : x < y → cell k c ≤ x → P x ≡ v
            under s t = at.3 x t s ∙ not-not v

            past : k < i → x < y
            past l = omega (arith, on.within, w)

            go : (i < k) ⊎ (k ≤ i) → (k < i) ⊎ (i ≤ k) → P x ≡ v
            go (inl l) s = h i x a (omega arith) p q
            go (inr l) (inl s) = under (past s) (omega arith)
            go (inr l) (inr s) = let f : i ≡ k = omega arith in under (omega arith) (omega arith)
