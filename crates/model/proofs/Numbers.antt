-- Numbers: either way of an order, two tests, the refusals' numbers, and two-word counts. Assumes nothing.
use Prim.Native.Nat.{ℕ, ◌+◌, ◌-◌, ◌*◌, ◌^◌, ◌≤◌, ◌<◌}
use mathlib.Core.Path.{◌≡◌, refl, sym}
use mathlib.Core.Logic.{◌⊎◌, inl, inr}
use mathlib.Core.Bool.{Bool, true, false, ◌||◌, false≢true}
use native.Mathlib.Omega.{arith}
use lib.Dec.{ltb}
use borrow.Author.Tests.{ltb-true, ltb-false}
use Rattle.model.specs.declared.Refusal.{Refusal}
use Rattle.model.specs.declared.Refusal.TheVariants.{
  StoreLength,
  OutputShort,
  SetLength,
  SetVersion,
  RunOrder,
  Window,
  Unsound,
  Capacity,
  GapLength,
  StrayBit,
  WorldLimits,
  WorldUnopened,
  TreeHeight,
  RangeReversed,
  OffPlane,
  NotRefused,
}
use Rattle.model.specs.Numbers.{refusal_number}

-- either way of an order
pub split : (a b : ℕ) → (a < b) ⊎ (b ≤ a)
split a b = go (ltb a b) refl
  where
    go : (t : Bool) → ltb a b ≡ t → (a < b) ⊎ (b ≤ a)
    go true e = inl (ltb-true a b e)
    go false e = inr (ltb-false a b e)

-- of two tests of which neither holds, the first does not, nor the second
pub neither-first : (a b : Bool) → (a || b) ≡ false → a ≡ false
neither-first true b e = e
neither-first false b e = refl

pub neither-second : (a b : Bool) → (a || b) ≡ false → b ≡ false
neither-second true b e = absurd (false≢true (sym e))
neither-second false b e = e

-- none is 0, so 0 says that a call was not refused
pub refusal-some : (r : Refusal) → 1 ≤ refusal_number r
refusal-some StoreLength = omega arith
refusal-some OutputShort = omega arith
refusal-some SetLength = omega arith
refusal-some SetVersion = omega arith
refusal-some RunOrder = omega arith
refusal-some Window = omega arith
refusal-some Unsound = omega arith
refusal-some Capacity = omega arith
refusal-some GapLength = omega arith
refusal-some StrayBit = omega arith
refusal-some WorldLimits = omega arith
refusal-some WorldUnopened = omega arith
refusal-some TreeHeight = omega arith
refusal-some RangeReversed = omega arith
refusal-some OffPlane = omega arith
refusal-some NotRefused = omega arith

-- two-word counts: what the sum and the difference of two of them carry
pub sum-carry : (p q x y : ℕ) → p * 2 ^ 64 + x + (q * 2 ^ 64 + y) ≤ 2 ^ 64 → p + q ≤ 1
sum-carry p q x y h = omega arith

pub less-worth : (p q x y : ℕ) → q ≤ p → y ≤ x → (p - q) * 2 ^ 64 + (x - y) ≡ p * 2 ^ 64 + x - (q * 2 ^ 64 + y)
less-worth p q x y h f = omega arith

pub less-worth-over : (p q x y : ℕ) → q + 1 ≤ p → y < 2 ^ 64 → x < y → (p - q - 1) * 2 ^ 64 + (x + (2 ^ 64 - 1 - y) + 1) ≡ p * 2 ^ 64 + x - (q * 2 ^ 64 + y)
less-worth-over p q x y h f g = omega arith
