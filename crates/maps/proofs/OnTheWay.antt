-- While a map is read, stretch by stretch, into a window that was cleared first, there are never more runs than at the end: what is left to
-- read is a cleared part of the window, and clearing a part adds no run where it has as many as go on over its ends. Assumes nothing.
use Rattle.std.proofs.Common.{◌≡◌, ℕ, zero, suc, ◌+◌, ◌-◌, ◌<◌, ◌≤◌, Bool, true, false, not, ◌&&◌, ◌⊎◌, List, sym, refl, ap, ◌∙◌, inl, inr, arith}
use Rattle.model.specs.Numbers.{size}
use Rattle.model.proofs.Numbers.{split}
use Rattle.model.specs.Positions.{Positions, one_if, run_count, stretches, set_range}
use Rattle.model.proofs.Runs.{stretches-cong}
use Rattle.model.specs.Bytes.{map_bit, mapped}
use Rattle.model.proofs.Maps.{mapped_in}
use Rattle.model.specs.Neighbours.{goes_on}
use Rattle.model.proofs.After.{runs-cut, set-inside, set_below, set-above}
use Rattle.reports.specs.Reports.{StretchEnd}
use Rattle.changes.proofs.Neighbours.{goes_on-below}
use Rattle.changes.proofs.SetRuns.{set-false-leaves, below_in, above_in}
use Rattle.maps.proofs.Windows.{mapped-below, mapped-above, mapped_at}
use Rattle.maps.proofs.Surveying.{Border}

-- a value and the other one are not both true
both-not : (b : Bool) → (b && not b) ≡ false
both-not true = refl
both-not false = refl

-- where the value changes no run goes on
border-goes : (Q : Positions) (y : ℕ) → suc y < size → Q (suc y) ≡ not (Q y) → goes_on Q (suc y) ≡ false
border-goes Q y h e = goes_on-below Q (suc y) h ∙ ap (λ b. Q y && b) e ∙ both-not (Q y)

-- a part with as many runs as go on over its ends is cleared, and there are no more runs
clear-more : (Q : Positions) (a n b : ℕ) → 0 < n → a + n ≡ suc b → b < size → one_if (goes_on Q a) + one_if (goes_on Q (suc b)) ≤ run_count Q true a n
    → stretches (set_range a n false Q) ≤ stretches Q
clear-more Q a n b some ends fits h = omega (arith, set-false-leaves Q a n b some ends fits)

module _ (base n : ℕ) (bs : List ℕ) (P : Positions) (within : base + n ≤ size) where
  -- two bits side by side, with values that differ: no run goes on from one to the other
  bits-apart : (z : ℕ) → suc z < n → map_bit bs (suc z) ≡ not (map_bit bs z) → goes_on (mapped base n bs P) (base + suc z) ≡ false
  bits-apart z h e =
      let q : base + suc z ≡ suc (base + z) = omega arith in
      ap (goes_on (mapped base n bs P)) q
      ∙ border-goes (mapped base n bs P) (base + z) (omega arith)
      (ap (mapped base n bs P) (sym q) ∙ mapped_in base n bs P (suc z) h ∙ e ∙ ap not (sym (mapped_in base n bs P z (omega arith))))

  -- ---- from a border on
  -- what is read up to bit i of a cleared window is all that is read, with the rest cleared
  rest-cleared : (i : ℕ) → i ≤ n → ((y : ℕ) → base ≤ y → y < base + n → P y ≡ false) → (x : ℕ) → mapped base i bs P x ≡ set_range (base + i) (n - i) false (mapped base n bs P) x
  rest-cleared i h f x = go (split x base) (split x (base + i)) (split x (base + n))
    where
      go : (x < base) ⊎ (base ≤ x) → (x < base + i) ⊎ (base + i ≤ x) → (x < base + n) ⊎ (base + n ≤ x)
          → mapped base i bs P x ≡ set_range (base + i) (n - i) false (mapped base n bs P) x
      go (inl a) b c =
          mapped-below base i bs P x a ∙ sym (set_below (base + i) (n - i) false (mapped base n bs P) x (omega arith) ∙ mapped-below base n bs P x a)
      go (inr a) (inl b) c =
          mapped_at base i bs P x a b ∙ sym (set_below (base + i) (n - i) false (mapped base n bs P) x b ∙ mapped_at base n bs P x a (omega arith))
      go (inr a) (inr b) (inl c) =
          mapped-above base i bs P x b ∙ f x a c ∙ sym (set-inside (base + i) (n - i) false (mapped base n bs P) x b (omega arith))
      go (inr a) (inr b) (inr c) =
          mapped-above base i bs P x b ∙ sym (set-above (base + i) (n - i) false (mapped base n bs P) x (omega arith) ∙ mapped-above base n bs P x c)

  -- so it has at most as many runs
  pub on-the-way : (i : ℕ) → 0 < i → i ≤ n → Border bs n i → ((y : ℕ) → base ≤ y → y < base + n → P y ≡ false)
      → stretches (mapped base i bs P) ≤ stretches (mapped base n bs P)
  on-the-way zero some h e f = absurd (omega arith)
  on-the-way (suc z) some h e f =
      omega (arith, stretches-cong (mapped base (suc z) bs P) (set_range (base + suc z) (n - suc z) false Q) (λ x _. rest-cleared (suc z) h f x), go (split (suc z) n))
    where
      Q : Positions
      Q = mapped base n bs P

      go : (suc z < n) ⊎ (n ≤ suc z) → stretches (set_range (base + suc z) (n - suc z) false Q) ≤ stretches Q
      go (inl l) =
          let b : ℕ = base + (n - 1) in
          clear-more Q (base + suc z) (n - suc z) b (omega arith) (omega arith) (omega arith)
          (omega (arith, ap one_if (bits-apart z l (e z refl l)), above_in Q (base + suc z) (n - suc z) b (omega arith) (omega arith) (omega arith)))
      go (inr l) =
          omega (arith, stretches-cong (set_range (base + suc z) (n - suc z) false Q) Q (λ x _. nothing x (split x (base + suc z))))
        where
          nothing : (x : ℕ) → (x < base + suc z) ⊎ (base + suc z ≤ x) → set_range (base + suc z) (n - suc z) false Q x ≡ Q x
          nothing x (inl k) = set_below (base + suc z) (n - suc z) false Q x k
          nothing x (inr k) = set-above (base + suc z) (n - suc z) false Q x (omega arith)

  -- ---- from the start on
  -- the cleared window: its first stretch is not all of it, so a run over either end is another one
  cleared-same : (x : ℕ) → set_range base n false P x ≡ set_range base n false (mapped base n bs P) x
  cleared-same x = go (split x base) (split x (base + n))
    where
      go : (x < base) ⊎ (base ≤ x) → (x < base + n) ⊎ (base + n ≤ x) → set_range base n false P x ≡ set_range base n false (mapped base n bs P) x
      go (inl a) b = set_below base n false P x a ∙ sym (set_below base n false (mapped base n bs P) x a ∙ mapped-below base n bs P x a)
      go (inr a) (inl b) = set-inside base n false P x a b ∙ sym (set-inside base n false (mapped base n bs P) x a b)
      go (inr a) (inr b) = set-above base n false P x b ∙ sym (set-above base n false (mapped base n bs P) x b ∙ mapped-above base n bs P x b)

  pub at-the-start : {e : ℕ} → StretchEnd (map_bit bs) (map_bit bs 0) 0 (n - 1) e → e + 1 < n → stretches (set_range base n false P) ≤ stretches (mapped base n bs P)
  at-the-start {e} s l =
      omega (
        arith,
        stretches-cong (set_range base n false P) (set_range base n false Q) (λ x _. cleared-same x),
        clear-more Q base n b (omega arith) (omega arith) (omega arith) (omega (arith, cut, low, high, ap one_if apart)),
      )
    where
      Q : Positions
      Q = mapped base n bs P

      b : ℕ
      b = base + (n - 1)

      apart : goes_on Q (base + suc e) ≡ false
      apart = bits-apart e (omega arith) (s.stop (omega arith) ∙ ap not (sym (s.same e (omega arith) (omega arith))))

      cut : run_count Q true base n + one_if (goes_on Q (base + suc e)) ≡ run_count Q true base (suc e) + run_count Q true (base + suc e) (n - suc e)
      cut = runs-cut Q base (suc e) (base + suc e) (n - suc e) n refl (omega arith) (omega arith) (omega arith) (omega arith)

      low : one_if (goes_on Q base) ≤ run_count Q true base (suc e)
      low = below_in Q base (suc e) (base + e) (omega arith) (omega arith) (omega arith)

      high : one_if (goes_on Q (suc b)) ≤ run_count Q true (base + suc e) (n - suc e)
      high = above_in Q (base + suc e) (n - suc e) b (omega arith) (omega arith) (omega arith)
