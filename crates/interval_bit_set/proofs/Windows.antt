-- When a window is one, test by test, when its map is refused, and how full it is. A window has at most 524,288 positions, so
-- their count has no carry and a thousand times it fits a word. Assumes nothing.
use Rattle.std.specs.Prelude.{None, Some}
use Prim.Native.Nat.{ℕ, suc, ◌+◌, ◌-◌, ◌*◌, ◌/◌, ◌≤◌, ◌<◌}
use mathlib.Core.Path.{◌≡◌, sym, ap, ◌∙◌}
use mathlib.Core.Logic.{◌⊎◌, inl, inr}
use mathlib.Core.Bool.{Bool, true, false, not, not-not}
use mathlib.Core.List.{List, [], ◌∷◌}
use native.Mathlib.Omega.{arith}
use lib.Dec.{leb, ltb, eqb}
use lib.ListN.{length}
use borrow.Author.Tests.{eq-eqb, ne_eqb, lt-ltb, le-ltb, le-leb, lt-leb}
use Rattle.model.specs.declared.Count.{Count}
use Rattle.model.specs.Numbers.{size, worth}
use Rattle.model.proofs.Numbers.{split}
use Rattle.model.specs.Positions.{Positions, count}
use Rattle.model.proofs.Counting.{count-both}
use Rattle.model.specs.Bytes.{map_length, stray_bits, fill_of}
use Rattle.model.specs.Refusals.{window, before_capacity, ◌when◌, first_given, refusal, bad_window, bad_map, stray, map_conditions}

-- whether a map has its window's length
pub map-fits : (n : ℕ) (bs : List ℕ) {due : ℕ} → due ≡ map_length n → eqb (length bs) due ≡ not (bad_map n bs)
unfolding bad_map
map-fits n bs e = ap (eqb (length bs)) e ∙ sym (not-not (eqb (length bs) (map_length n)))

module _ (base n : ℕ) where
  -- a window of no position is none
  bad-empty : n ≡ 0 → bad_window base n ≡ true
  unfolding bad_window
  bad-empty e = rw (eq-eqb n 0 e)

  -- nor is one of too many
  bad-long : 524288 < n → bad_window base n ≡ true
  unfolding bad_window
  bad-long h = rw (ne_eqb n 0 (λ e. omega arith), lt-ltb 524288 n h)

  -- others are by where they end
  bad-past : 1 ≤ n → n ≤ 524288 → bad_window base n ≡ ltb size (base + n)
  unfolding bad_window
  bad-past l h = rw (ne_eqb n 0 (λ e. omega arith), le-ltb 524288 n h)

  -- the first test
  pub fits-not-empty : n ≡ 0 → false ≡ not (bad_window base n)
  fits-not-empty e = sym (ap not (bad-empty e))

  -- the second
  pub fits-not-long : 524288 < n → false ≡ not (bad_window base n)
  fits-not-long h = sym (ap not (bad-long h))

  -- the third
  pub fits-by-end : base < size → 1 ≤ n → n ≤ 524288 → leb (n - 1) (size - 1 - base) ≡ not (bad_window base n)
  fits-by-end b l h = go (split size (base + n)) ∙ sym (ap not (bad-past l h))
    where
      go : (size < base + n) ⊎ (base + n ≤ size) → leb (n - 1) (size - 1 - base) ≡ not (ltb size (base + n))
      go (inl k) = lt-leb (n - 1) (size - 1 - base) (omega arith) ∙ sym (ap not (lt-ltb size (base + n) k))
      go (inr k) = le-leb (n - 1) (size - 1 - base) (omega arith) ∙ sym (ap not (le-ltb size (base + n) k))

  -- what a window is
  pub record Fitting : Type 0 where
    pub some : 1 ≤ n
    pub few : n ≤ 524288
    pub below : base + n ≤ size

  -- it is that where its condition does not hold
  pub fitting : bad_window base n ≡ false → Fitting
  fitting e = go (split n 1) (split 524288 n) (split size (base + n))
    where
      no : bad_window base n ≡ true → ⊥
      no k = let z : true ≡ false = sym k ∙ e in let y : ◌≡◌ {A = ℕ} 0 1 = cc in omega arith

      go : (n < 1) ⊎ (1 ≤ n) → (524288 < n) ⊎ (n ≤ 524288) → (size < base + n) ⊎ (base + n ≤ size) → Fitting
      go (inl p) q r = absurd (no (bad-empty (omega arith)))
      go (inr p) (inl q) r = absurd (no (bad-long q))
      go (inr p) (inr q) (inl r) = absurd (no (bad-past p q ∙ lt-ltb size (base + n) r))
      go (inr p) (inr q) (inr r) = record { some = p; few = q; below = r }

  -- its condition refuses it if it is none
  pub window-refused : bad_window base n ≡ true → refusal (window when bad_window base n ∷ []) ≡ Some 6
  window-refused e = rw e

  -- and else does not
  pub window-passes : bad_window base n ≡ false → refusal (window when bad_window base n ∷ []) ≡ None
  window-passes e = rw e

  -- with its map
  module _ (bs : List ℕ) where
    -- it is refused if it is none
    pub map-window-refused : bad_window base n ≡ true → first_given before_capacity (map_conditions base n bs) ≡ Some 6
    map-window-refused e = rw e

    -- or if its map has another length
    pub map-length-refused : bad_window base n ≡ false → bad_map n bs ≡ true → first_given before_capacity (map_conditions base n bs) ≡ Some 6
    map-length-refused e f = rw (e, f)

    -- or if a spare bit of it is one
    pub map-stray-refused : bad_window base n ≡ false → bad_map n bs ≡ false → 0 < stray_bits n bs → first_given before_capacity (map_conditions base n bs) ≡ Some 10
    unfolding stray
    map-stray-refused e f h = rw (e, f, lt-ltb 0 (stray_bits n bs) h)

    -- and else not
    pub map-passes : bad_window base n ≡ false → bad_map n bs ≡ false → stray_bits n bs ≤ 0 → refusal (map_conditions base n bs) ≡ None
    unfolding stray
    map-passes e f h = rw (e, f, le-ltb 0 (stray_bits n bs) h)

  module _ (c : Count) (P : Positions) (f : Fitting) (e : worth c ≡ count P true base (suc (base + (n - 1)) - base)) where
    -- its count of positions is the low word
    low_count : c.low ≡ count P true base n
    low_count =
        let k : worth c ≡ count P true base n = e ∙ ap (count P true base) (omega (arith, f.some)) in
        omega (arith, f.few, k, count-both P base n)

    -- so a thousand times that and the length fit
    pub fill-fits : 1000 * c.low + n < size
    fill-fits = omega (arith, f.few, low_count, count-both P base n)

    -- and that, rounded up over the length, is the fill
    pub fill_is : (1000 * c.low + (n - 1)) / n ≡ fill_of P base n
    unfolding fill_of
    fill_is = ap (λ k. (1000 * k + (n - 1)) / n) low_count

-- what a test tells that was asked the other way round
pub bad-by : (t r b : Bool) → r ≡ not t → not r ≡ b → t ≡ b
bad-by true r b e k = ap not (sym e) ∙ k
bad-by false r b e k = ap not (sym e) ∙ k
