-- Fill, over what the public calls promise (document 02, Ticket 7): 0 exactly where nothing of the window is held, and 1000 where all of it is.
-- What is added before the division is less than the length, so it makes one more of a rest, and of no rest nothing. Assumes nothing.
use Prim.Native.Nat.{ℕ, ◌+◌, ◌-◌, ◌*◌, ◌/◌, ◌≤◌, ◌<◌}
use mathlib.Core.Path.{◌≡◌, sym, ap, ◌∙◌}
use mathlib.Core.Bool.{true, false}
use mathlib.Core.List.{List}
use native.Mathlib.Nat.{add_comm, div-eq_of_lt, add-mul-div_right, div-lt_iff_lt-mul}
use native.Mathlib.Omega.{arith}
use Rattle.model.specs.Positions.{Positions, count}
use Rattle.model.specs.Bytes.{fill_of}
use Rattle.model.specs.Refusals.{bad_window}
use Rattle.model.specs.Call.{Call, number, gave}
use Rattle.model.proofs.Counting.{count-all, count_none, counted_none}
use Rattle.pool.specs.Layout.{held_by}
use Rattle.interval_bit_set.specs.Met.{Met}
use Rattle.interval_bit_set.proofs.Giving.{given-quiet, given-is}
use Rattle.interval_bit_set.proofs.Windows.{fitting}
use Rattle.theorems.proofs.Clearing.{window-good}

-- ---- the number
module _ (P : Positions) (base n : ℕ) (Some : 1 ≤ n) where
  -- nothing counted makes 0
  none-makes : count P true base n ≡ 0 → fill_of P base n ≡ 0
  unfolding fill_of
  none-makes e = ap (λ k. (1000 * k + (n - 1)) / n) e ∙ div-eq_of_lt (omega arith)

  -- and one position makes at least 1
  makes_none : fill_of P base n ≡ 0 → count P true base n ≡ 0
  unfolding fill_of
  makes_none e =
      let q : (1000 * count P true base n + (n - 1)) / n < 1 = omega (arith, e) in
      omega (arith, (div-lt_iff_lt-mul Some).0 q)

  -- all counted make 1000
  all-make : count P true base n ≡ n → fill_of P base n ≡ 1000
  unfolding fill_of
  all-make e =
      ap (λ k. (1000 * k + (n - 1)) / n) e ∙ ap (λ k. k / n) (add_comm (1000 * n) (n - 1)) ∙ add-mul-div_right (n - 1) 1000 Some
      ∙ ap (λ k. k + 1000) (div-eq_of_lt (omega arith))

-- ---- a fill that is not refused
module _ {w : List ℕ} {i base n k : ℕ} {w' : List ℕ} (m : Met w i (Call.fill base n) (gave (number k)) w') where
  -- of a window that has a position
  some-asked : 1 ≤ n
  some-asked = (fitting base n (window-good false (bad_window base n) (given-quiet m))).some

  -- the number is the fill of the positions held
  told_is : k ≡ fill_of (held_by w i) base n
  told_is = let e : number k ≡ number (fill_of (held_by w i) base n) = given-is m in cc

  -- it is 0 exactly where nothing of the window is held
  pub none-held : (k ≡ 0 → (x : ℕ) → base ≤ x → x < base + n → held_by w i x ≡ false) × (((x : ℕ) → base ≤ x → x < base + n → held_by w i x ≡ false) → k ≡ 0)
  none-held = (
    λ e. counted_none (held_by w i) false base n (makes_none (held_by w i) base n some-asked (sym told_is ∙ e)),
    λ h. told_is ∙ none-makes (held_by w i) base n some-asked (count_none (held_by w i) true base n h),
  )

  -- and 1000 where all of it is
  pub all_held : ((x : ℕ) → base ≤ x → x < base + n → held_by w i x ≡ true) → k ≡ 1000
  all_held h = told_is ∙ all-make (held_by w i) base n some-asked (count-all (held_by w i) true base n h)
