-- Conditions of refusals that stand after others: where all together give none, the later ones alone do not. Assumes nothing.
use Rattle.std.specs.Prelude.{Option, None, Some}
use Prim.Native.Nat.{ℕ}
use mathlib.Core.Path.{◌≡◌, refl}
use mathlib.Core.Bool.{Bool, true, false, cond, ◌&&◌}
use mathlib.Core.List.{List, [], ◌∷◌, ◌++◌}
use native.Mathlib.Omega.{arith}
use Rattle.model.proofs.Numbers.{neither-second}
use Rattle.model.specs.Refusals.{Cause, number_of, Condition, is_cause, given, first_given}

-- a test that hands out no number is false
pub cond-none : (b : Bool) (n : ℕ) (o : Option ℕ) → cond b (Some n) o ≡ None → (b ≡ false) × (o ≡ None)
cond-none true n o e = let z : ◌≡◌ {A = ℕ} 0 1 = cc in absurd (omega arith)
cond-none false n o e = (refl, e)

-- what is not given of all conditions is not given of those that stand last
pub given-after : (k : Cause) (cs ds : List Condition) → given k (cs ++ ds) ≡ false → given k ds ≡ false
given-after k [] ds h = h
given-after k (c ∷ cs) ds h = given-after k cs ds (neither-second (is_cause k c.cause && c.holds) (given k (cs ++ ds)) h)

-- so where all give no number, those do not
pub first-last : (ks : List Cause) (cs ds : List Condition) → first_given ks (cs ++ ds) ≡ None → first_given ks ds ≡ None
first-last [] cs ds e = refl
first-last (k ∷ ks) cs ds e =
    let p = cond-none (given k (cs ++ ds)) (number_of k) (first_given ks (cs ++ ds)) e in
    rw (given-after k cs ds p.0) (first-last ks cs ds p.1)
