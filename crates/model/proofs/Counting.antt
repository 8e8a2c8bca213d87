-- The laws of tests and of counting, for any positions and any number of them. Assumes nothing.
use mathlib.Core.Path.{◌≡◌, refl, sym, ap, ap₂, ◌∙◌}
use mathlib.Core.Logic.{◌⊎◌, inl, inr}
use mathlib.Core.Bool.{Bool, true, false, not, ◌&&◌, ◌||◌, beq, and-false}
use Prim.Native.Nat.{ℕ, zero, suc, ◌+◌, ◌-◌, ◌≤◌, ◌<◌, min, max}
use native.Mathlib.Nat.{zero-add, add-zero, suc-add, add-suc}
use native.Mathlib.Omega.{arith}
use lib.Dec.{leb, ltb}
use borrow.Author.Tests.{le-leb, lt-leb, lt-ltb, le-ltb}
use Rattle.model.proofs.Numbers.{split}
use Rattle.model.specs.Positions.{Positions, inside, among, one_if, count}

-- ---- tests
pub inside-yes : (a b x : ℕ) → a ≤ x → x ≤ b → inside a b x ≡ true
inside-yes a b x h k = ap₂ ◌&&◌ (le-leb a x h) (le-leb x b k)

pub inside-below : (a b x : ℕ) → x < a → inside a b x ≡ false
inside-below a b x h = ap (λ t. t && leb x b) (lt-leb a x h)

pub inside-above : (a b x : ℕ) → b < x → inside a b x ≡ false
inside-above a b x h = ap (λ t. leb a x && t) (lt-leb x b h) ∙ and-false (leb a x)

pub among-yes : (a n x : ℕ) → a ≤ x → x < a + n → among a n x ≡ true
among-yes a n x h k = ap₂ ◌&&◌ (le-leb a x h) (lt-ltb x (a + n) k)

pub among_below : (a n x : ℕ) → x < a → among a n x ≡ false
among_below a n x h = ap (λ t. t && ltb x (a + n)) (lt-leb a x h)

pub among-above : (a n x : ℕ) → a + n ≤ x → among a n x ≡ false
among-above a n x h = ap (λ t. leb a x && t) (le-ltb x (a + n) h) ∙ and-false (leb a x)

-- ---- count: the laws
pub count-cong : (P Q : Positions) (v : Bool) (a n : ℕ) → ((x : ℕ) → a ≤ x → x < a + n → P x ≡ Q x) → count P v a n ≡ count Q v a n
unfolding count
count-cong P Q v a zero h = refl
count-cong P Q v a (suc n) h =
    ap₂ (λ (p : Bool) (c : ℕ). one_if (beq p v) + c) (h a (omega arith) (omega arith))
    (count-cong P Q v (suc a) n (λ x k l. h x (omega arith) (omega arith)))

-- the first position, and the others
pub count-first : (P : Positions) (v : Bool) (a n : ℕ) → count P v a (suc n) ≡ one_if (beq (P a) v) + count P v (suc a) n
unfolding count
count-first P v a n = refl

pub count-split : (P : Positions) (v : Bool) (a m n : ℕ) → count P v a (m + n) ≡ count P v a m + count P v (a + m) n
unfolding count
count-split P v a zero n = simp (zero-add, add-zero)
count-split P v a (suc m) n = rw (suc-add m n, count-split P v (suc a) m n, add-suc a m, suc-add a m) (omega arith)

-- the same, with the pieces' lengths and the middle by equations
pub count_cut : (P : Positions) (v : Bool) (a n m b k : ℕ) → n ≡ m + k → b ≡ a + m → count P v a n ≡ count P v a m + count P v b k
count_cut P v a n m b k e f = rw (e, f) (count-split P v a m k)

pub beq-self : (v : Bool) → beq v v ≡ true
beq-self true = refl
beq-self false = refl

pub beq-not : (v : Bool) → beq (not v) v ≡ false
beq-not true = refl
beq-not false = refl

pub beq-is : (b v : Bool) → beq b v ≡ true → b ≡ v
beq-is true true e = refl
beq-is true false e = sym e
beq-is false true e = e
beq-is false false e = refl

-- a value is true as it says
pub beq-true : (v : Bool) → beq v true ≡ v
beq-true true = refl
beq-true false = refl

-- as a number each is 0 or 1
pub one-bound : (v : Bool) → one_if v ≤ 1
one-bound true = omega arith
one-bound false = omega arith

pub count-all : (P : Positions) (v : Bool) (a n : ℕ) → ((x : ℕ) → a ≤ x → x < a + n → P x ≡ v) → count P v a n ≡ n
unfolding count
count-all P v a zero h = refl
count-all P v a (suc n) h =
    rw (h a (omega arith) (omega arith), beq-self v, count-all P v (suc a) n (λ x k l. h x (omega arith) (omega arith))) (omega arith)

pub count_none : (P : Positions) (v : Bool) (a n : ℕ) → ((x : ℕ) → a ≤ x → x < a + n → P x ≡ not v) → count P v a n ≡ 0
unfolding count
count_none P v a zero h = refl
count_none P v a (suc n) h =
    rw (h a (omega arith) (omega arith), beq-not v, count_none P v (suc a) n (λ x k l. h x (omega arith) (omega arith))) (omega arith)

-- none of the other value is counted: all have the value
pub counted_none : (P : Positions) (v : Bool) (a n : ℕ) → count P (not v) a n ≡ 0 → (x : ℕ) → a ≤ x → x < a + n → P x ≡ v
counted_none P v a n e x h l = go v (P x) refl e
  where
    one : (w : Bool) → P x ≡ w → count P w a n ≡ 0 → ⊥
    one w p z =
        omega (
          arith,
          count_cut P w a n (x - a) x (n - (x - a)) (omega arith) (omega arith),
          count_cut P w x (n - (x - a)) 1 (x + 1) (n - (x - a) - 1) (omega arith) refl,
          count-all P w x 1 (λ y k m. ap P (omega arith) ∙ p),
        )

    go : (v b : Bool) → P x ≡ b → count P (not v) a n ≡ 0 → b ≡ v
    go true true p z = refl
    go true false p z = absurd (one false p z)
    go false true p z = absurd (one true p z)
    go false false p z = refl

-- two counts with the same hits
pub count-hits : (P Q : Positions) (v w : Bool) (a n : ℕ) → ((x : ℕ) → a ≤ x → x < a + n → beq (P x) v ≡ beq (Q x) w) → count P v a n ≡ count Q w a n
unfolding count
count-hits P Q v w a zero h = refl
count-hits P Q v w a (suc n) h =
    ap₂ (λ (b : Bool) (c : ℕ). one_if b + c) (h a (omega arith) (omega arith)) (count-hits P Q v w (suc a) n (λ x k l. h x (omega arith) (omega arith)))

-- the two values share the range out
pub count-both : (P : Positions) (a n : ℕ) → count P true a n + count P false a n ≡ n
unfolding count
count-both P a zero = refl
count-both P a (suc n) = go (P a) (count-both P (suc a) n)
  where
    go : (v : Bool) → count P true (suc a) n + count P false (suc a) n ≡ n
        → (one_if (beq v true) + count P true (suc a) n) + (one_if (beq v false) + count P false (suc a) n) ≡ suc n
    go true e = omega arith
    go false e = omega arith

-- at most each of the positions
pub count_most : (P : Positions) (v : Bool) (a n : ℕ) → count P v a n ≤ n
count_most P true a n = omega (arith, count-both P a n)
count_most P false a n = omega (arith, count-both P a n)

-- where x stands to a .. b, with what the test says there
pub data Place (a b x : ℕ) : Type 0 where
  below : x < a → inside a b x ≡ false → Place a b x
  within : a ≤ x → x ≤ b → inside a b x ≡ true → Place a b x
  above : b < x → inside a b x ≡ false → Place a b x

pub place : (a b x : ℕ) → Place a b x
place a b x = go (split x a) (split b x)
  where
    go : (x < a) ⊎ (a ≤ x) → (b < x) ⊎ (x ≤ b) → Place a b x
    go (inl h) k = below h (inside-below a b x h)
    go (inr h) (inl k) = above k (inside-above a b x k)
    go (inr h) (inr k) = within h k (inside-yes a b x h k)

pub count-inside : (l h a n : ℕ) → l ≤ h → count (inside l h) true a n ≡ min (h + 1) (a + n) - max l a
unfolding count
count-inside l h a zero lh = omega arith
count-inside l h a (suc n) lh = go (place l h a) (count-inside l h (suc a) n lh)
  where
    go : Place l h a → count (inside l h) true (suc a) n ≡ min (h + 1) (suc a + n) - max l (suc a)
        → one_if (beq (inside l h a) true) + count (inside l h) true (suc a) n ≡ min (h + 1) (a + suc n) - max l a
    go (below s e) ih = rw e (omega arith)
    go (within s t e) ih = rw e (omega arith)
    go (above s e) ih = rw e (omega arith)

-- disjoint sets count apart
pub count-or : (P Q : Positions) (a n : ℕ) → ((x : ℕ) → a ≤ x → x < a + n → (P x && Q x) ≡ false) → count (λ x. P x || Q x) true a n ≡ count P true a n + count Q true a n
unfolding count
count-or P Q a zero h = refl
count-or P Q a (suc n) h = go (P a) (Q a) (h a (omega arith) (omega arith)) (count-or P Q (suc a) n (λ x k l. h x (omega arith) (omega arith)))
  where
    c : ℕ
    c = count (λ x. P x || Q x) true (suc a) n

    go : (p q : Bool) → (p && q) ≡ false → c ≡ count P true (suc a) n + count Q true (suc a) n
        → one_if (beq (p || q) true) + c ≡ (one_if (beq p true) + count P true (suc a) n) + (one_if (beq q true) + count Q true (suc a) n)
    go true true e ih = absurd (mathlib.Core.Bool.true≢false e)
    go true false e ih = omega arith
    go false true e ih = omega arith
    go false false e ih = omega arith
