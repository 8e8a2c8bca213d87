-- Shifts in place of any worlds of a pool: none adds a run, so every world claims what it did or less, and what the others claim only falls. Ceilings,
-- floors and the capacity stay. So a world may have as many runs afterwards as before, or more. Assumes nothing.
use Prim.Native.Nat.{ℕ, zero, suc, ◌≤◌}
use mathlib.Core.Path.{◌≡◌, refl, sym, ap, ◌∙◌, subst}
use mathlib.Core.Bool.{Bool}
use mathlib.Core.List.{List, [], ◌∷◌}
use native.Mathlib.Omega.{arith}
use native.Mathlib.Nat.{le_trans}
use lib.ListN.{length}
use Rattle.std.specs.Prelude.{Some}
use Rattle.model.specs.Positions.{Positions, stretches}
use Rattle.model.specs.Call.{Call, Answer, refused, gave}
use Rattle.model.specs.Pools
use Rattle.model.specs.Pools.{PlainWorld, world_of, claims, other_claims, holding_at, allowance_of}
use Rattle.pool.specs.Layout.{capacity_of, capacity, allowance, plain_at, held_by, worlds_of}
use Rattle.pool.proofs.WorldLists.{opened-world}
use Rattle.interval_bit_set.specs.Met.{Readable, Met}
use Rattle.theorems.specs.Pairs.{Did, Shifts, none, shift}
use Rattle.theorems.proofs.Moving.{moved, moved-few}
use Rattle.interval_bit_set.proofs.Giving.{given-readable, given-settled}
use Rattle.theorems.proofs.Doing.{readable-now, given-gets}
use Rattle.theorems.proofs.Calls.{shift-done}

-- ---- worlds as they were and as they became
-- a world has no more runs, and the same limits
pub record Lighter (x y : PlainWorld) : Type 0 where
  pub fewer : stretches y.positions ≤ stretches x.positions
  pub floored : y.floor ≡ x.floor
  pub ceiled : y.ceiling ≡ x.ceiling

-- so has each of as many worlds
abbrev pub AllLighter : List PlainWorld → List PlainWorld → Type 0
AllLighter [] [] = Unit {0}
AllLighter [] (y ∷ ys) = ⊥
AllLighter (x ∷ xs) [] = ⊥
AllLighter (x ∷ xs) (y ∷ ys) = Lighter x y × AllLighter xs ys

stays-light : (x : PlainWorld) → Lighter x x
stays-light x = record { fewer = omega arith; floored = refl; ceiled = refl }

all-stay : (xs : List PlainWorld) → AllLighter xs xs
all-stay [] = tt
all-stay (x ∷ xs) = (stays-light x, all-stay xs)

-- twice
all-again : (xs ys zs : List PlainWorld) → AllLighter xs ys → AllLighter ys zs → AllLighter xs zs
all-again [] [] [] a b = tt
all-again [] [] (z ∷ zs) a b = b
all-again [] (y ∷ ys) zs a b = absurd a
all-again (x ∷ xs) [] zs a b = absurd a
all-again (x ∷ xs) (y ∷ ys) [] a b = b
all-again (x ∷ xs) (y ∷ ys) (z ∷ zs) a b = (
  record { fewer = le_trans b.0.fewer a.0.fewer; floored = b.0.floored ∙ a.0.floored; ceiled = b.0.ceiled ∙ a.0.ceiled },
  all-again xs ys zs a.1 b.1,
)

-- one world gets positions with no more runs
one-lighter : (i : ℕ) (P : Positions) (xs : List PlainWorld) → ((x : PlainWorld) → world_of xs i ≡ Some x → stretches P ≤ stretches x.positions)
    → AllLighter xs (holding_at i P xs)
unfolding holding_at
one-lighter i P [] f = tt
one-lighter zero P (x ∷ xs) f = (record { fewer = f x refl; floored = refl; ceiled = refl }, all-stay xs)
one-lighter (suc i) P (x ∷ xs) f = (stays-light x, one-lighter i P xs f)

-- ---- what they claim
claims-fall : (xs ys : List PlainWorld) → AllLighter xs ys → claims ys ≤ claims xs
unfolding claims
claims-fall [] [] a = omega arith
claims-fall [] (y ∷ ys) a = absurd a
claims-fall (x ∷ xs) [] a = absurd a
claims-fall (x ∷ xs) (y ∷ ys) a = omega (arith, claims-fall xs ys a.1, a.0.fewer, a.0.floored)

others-fall : (i : ℕ) (xs ys : List PlainWorld) → AllLighter xs ys → other_claims ys i ≤ other_claims xs i
unfolding other_claims
others-fall i [] [] a = omega arith
others-fall i [] (y ∷ ys) a = absurd a
others-fall i (x ∷ xs) [] a = absurd a
others-fall zero (x ∷ xs) (y ∷ ys) a = claims-fall xs ys a.1
others-fall (suc i) (x ∷ xs) (y ∷ ys) a = omega (arith, others-fall i xs ys a.1, a.0.fewer, a.0.floored)

-- what a world may have, where the others claim no more
ceiling-stays : (C n m i : ℕ) (xs ys : List PlainWorld) → AllLighter xs ys → m ≤ n
    → allowance_of C n (world_of xs i) ≤ allowance_of C m (world_of ys i)
ceiling-stays C n m i [] [] a h = omega arith
ceiling-stays C n m i [] (y ∷ ys) a h = absurd a
ceiling-stays C n m i (x ∷ xs) [] a h = absurd a
ceiling-stays C n m zero (x ∷ xs) (y ∷ ys) a h = omega (arith, a.0.ceiled)
ceiling-stays C n m (suc i) (x ∷ xs) (y ∷ ys) a h = ceiling-stays C n m i xs ys a.1 h

allowed-more : (C i : ℕ) (xs ys : List PlainWorld) → AllLighter xs ys → Pools.allowance C xs i ≤ Pools.allowance C ys i
unfolding Pools.allowance
allowed-more C i xs ys a = ceiling-stays C (other_claims xs i) (other_claims ys i) i xs ys a (others-fall i xs ys a)

-- ---- the words w became v
pub record Lightened (w v : List ℕ) : Type 0 where
  pub long : length v ≡ length w
  pub still-readable : (i : ℕ) → Readable w i → Readable v i
  pub lighter : AllLighter (worlds_of w) (worlds_of v)

-- by no call
lightened_same : (w : List ℕ) → Lightened w w
lightened_same w = record { long = refl; still-readable = λ i R. R; lighter = all-stay (worlds_of w) }

-- by a shift that was done
shift-lightens : {w w' : List ℕ} {j : ℕ} (d : ℕ) (left : Bool) → Did w j (Call.shift d left) w' → Lightened w w'
shift-lightens {w} {w'} {j} d left m = record {
  long = (given-settled m).long;
  still-readable = readable-now (given-readable m) (given-settled m);
  lighter = subst (AllLighter (worlds_of w)) (sym (given-gets m).worlds) (one-lighter j (moved d left (held_by w j)) (worlds_of w) few);
}
  where
    few : (x : PlainWorld) → world_of (worlds_of w) j ≡ Some x → stretches (moved d left (held_by w j)) ≤ stretches x.positions
    few x e =
        let o : plain_at w j ≡ x = cc (opened-world w j (given-readable m).openable.named) in
        subst (λ (y : PlainWorld). stretches (moved d left (held_by w j)) ≤ stretches y.positions) o (moved-few d left (held_by w j))

-- by any shift, refused or not
any-lightens : {w w' : List ℕ} {j : ℕ} (d : ℕ) (left : Bool) (a : Answer) → Met w j (Call.shift d left) a w' → Lightened w w'
any-lightens {w} d left (refused n) m = subst (Lightened w) (sym m.left) (lightened_same w)
any-lightens {w} {w'} {j} d left (gave r) m =
    shift-lightens d left (subst (λ a. Met w j (Call.shift d left) a w') (shift-done d left (given-readable m) m) m)

-- BY SHIFTS
pub shifts-lighten : {w v : List ℕ} → Shifts w v → Lightened w v
shifts-lighten {w} none = lightened_same w
shifts-lighten {w} {v} (shift {w' = w'} {d = d} {left = left} {a = a} m s) =
    let A = any-lightens d left a m in
    let B = shifts-lighten s in
    record {
      long = B.long ∙ A.long;
      still-readable = λ i R. B.still-readable i (A.still-readable i R);
      lighter = all-again (worlds_of w) (worlds_of w') (worlds_of v) A.lighter B.lighter;
    }

-- A WORLD MAY HAVE AS MANY RUNS, or more
pub allowance-rises : {w v : List ℕ} (i : ℕ) → Lightened w v → allowance w i ≤ allowance v i
unfolding allowance
allowance-rises {w} {v} i L =
    let more = allowed-more (capacity w) i (worlds_of w) (worlds_of v) L.lighter in
    let long = sym (ap capacity_of L.long) in
    subst (λ C. Pools.allowance (capacity w) (worlds_of w) i ≤ Pools.allowance C (worlds_of v) i) long more
