-- Making a pool meets its contract, by the test of the limits. Assumes nothing.
use Prim.Native.Nat.{ℕ, ◌≤◌}
use mathlib.Core.Path.{◌≡◌, refl, sym, ap, ap₂, ◌∙◌}
use mathlib.Core.Bool.{Bool, true, false, not}
use mathlib.Core.List.{List, [], ◌∷◌}
use native.Mathlib.Omega.{arith}
use borrow.Author.Tests.{eq-eqb, ne_eqb}
use Rattle.model.specs.declared.Limits.{Limits}
use Rattle.model.specs.Refusals.{store_length, world_limits, ◌when◌, refusal, bad_limits}
use Rattle.model.specs.Call.{done, refused, gave}
use Rattle.model.specs.Pools.{empty_worlds, settle_make, make_by}
use Rattle.pool.specs.Layout.{capacity, worlds_of}
use Rattle.pool.specs.Free.{Emptied}
use Rattle.interval_bit_set.specs.Met.{made_of, Made}

-- words of a pool's length, by whether the limits are refused
made_by : (w w' : List ℕ) (ls : List Limits) (t : Bool) → 1 ≤ capacity w → bad_limits (capacity w) ls ≡ t
    → made_of w ls ≡ settle_make (refusal (world_limits when t ∷ [])) (worlds_of w) (empty_worlds ls)
unfolding made_of make_by
made_by w w' ls t h e =
    ap₂ (λ z b. settle_make (refusal (store_length when z ∷ world_limits when b ∷ [])) (worlds_of w) (empty_worlds ls)) (ne_eqb (capacity w) 0 (λ z. omega arith)) e

-- a test turned twice
not-not : (b : Bool) → not (not b) ≡ b
not-not true = refl
not-not false = refl

-- what the test of the limits told, at the capacity that the length told
module _ {c C : ℕ} {b : Bool} (ls : List Limits) (tested : b ≡ not (bad_limits c ls)) (told : c ≡ C) where
  pub limits-bad : not b ≡ true → bad_limits C ls ≡ true
  limits-bad e = ap (λ k. bad_limits k ls) (sym told) ∙ sym (not-not (bad_limits c ls)) ∙ ap not (sym tested) ∙ e

  pub limits-good : not b ≡ false → bad_limits C ls ≡ false
  limits-good e = ap (λ k. bad_limits k ls) (sym told) ∙ sym (not-not (bad_limits c ls)) ∙ ap not (sym tested) ∙ e

-- with bad limits they are left
pub make-refused : (w : List ℕ) (ls : List Limits) → 1 ≤ capacity w → bad_limits (capacity w) ls ≡ true → Made w ls (refused 11) w
make-refused w ls h e = record { answered = sym (ap (λ o. o.answer) (made_by w w ls true h e)); left = refl }

-- with others they become a pool of empty worlds
pub make-done : (w w' : List ℕ) (ls : List Limits) → 1 ≤ capacity w → bad_limits (capacity w) ls ≡ false → Emptied w w' ls → Made w ls (gave done) w'
make-done w w' ls h e E = record { answered = sym (ap (λ o. o.answer) (made_by w w' ls false h e)); left = E }

-- words of no pool's length are left
pub make-short : (w : List ℕ) (ls : List Limits) → capacity w ≡ 0 → Made w ls (refused 1) w
unfolding made_of make_by
make-short w ls e = record {
  answered = sym (ap (λ z. (settle_make (refusal (store_length when z ∷ world_limits when bad_limits (capacity w) ls ∷ [])) (worlds_of w) (empty_worlds ls)).answer) (eq-eqb (capacity w) 0 e));
  left = refl;
}
