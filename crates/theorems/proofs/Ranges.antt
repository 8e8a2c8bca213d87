-- Ranges that are set or inverted one after the other, and cut at 2^64: which order does not matter, and which change is needless. Each law is one of
-- a single position, by whether it is in the ranges. Assumes nothing.
use Prim.Native.Nat.{ℕ, zero, suc, ◌+◌, ◌≤◌, ◌<◌}
use mathlib.Core.Path.{◌≡◌, refl, sym, ap, ◌∙◌, fun_ext}
use mathlib.Core.Bool.{Bool, true, false, cond, not, ◌&&◌, beq, true≢false}
use native.Mathlib.Omega.{arith}
use lib.Dec.{ltb}
use borrow.Author.Tests.{lt-ltb}
use Rattle.model.specs.declared.Operation.TheVariants.{Xor}
use Rattle.model.specs.Numbers.{size}
use Rattle.model.specs.Positions.{Positions, among, one_if, count, combined, set_range, flip_range, bounded, changes}

-- the positions after a set, and after a flip
abbrev pub put : ℕ → ℕ → Bool → Positions → Positions
put a n v P = bounded (set_range a n v P)

abbrev pub turn : ℕ → ℕ → Positions → Positions
turn a n P = bounded (flip_range a n P)

-- a range that has every position of another
abbrev pub Covered : ℕ → ℕ → ℕ → ℕ → Type 0
Covered a n b m = (x : ℕ) → among a n x ≡ true → among b m x ≡ true

-- ---- one position: s tells whether it is below 2^64, t and r whether it is in the first range and in the second
-- two sets to one value
sets-alike : (s t r v p : Bool) → (s && cond r v (s && cond t v p)) ≡ (s && cond t v (s && cond r v p))
sets-alike false t r v p = refl
sets-alike true true true v p = refl
sets-alike true true false v p = refl
sets-alike true false r v p = refl

-- a set, and then one that covers it
set-covers : (s t r v u p : Bool) → (t ≡ true → r ≡ true) → (s && cond r u (s && cond t v p)) ≡ (s && cond r u p)
set-covers false t r v u p h = refl
set-covers true t true v u p h = refl
set-covers true true false v u p h = absurd (true≢false (sym (h refl)))
set-covers true false false v u p h = refl

-- two flips
flips-swap : (s t r p : Bool) → (s && cond r (not (s && cond t (not p) p)) (s && cond t (not p) p)) ≡ (s && cond t (not (s && cond r (not p) p)) (s && cond r (not p) p))
flips-swap false t r p = refl
flips-swap true true true p = refl
flips-swap true true false p = refl
flips-swap true false r p = refl

-- the same flip twice
not-not : (p : Bool) → not (not p) ≡ p
not-not true = refl
not-not false = refl

flips-undo : (t p : Bool) → cond t (not (cond t (not p) p)) (cond t (not p) p) ≡ p
flips-undo true p = not-not p
flips-undo false p = refl

-- ---- sets
module _ (a n : ℕ) (v : Bool) (b m : ℕ) (P : Positions) where
  -- to one value: in either order the same is held
  pub puts-alike : put b m v (put a n v P) ≡ put a n v (put b m v P)
  unfolding bounded set_range
  puts-alike = fun_ext (λ x. sets-alike (ltb x size) (among a n x) (among b m x) v (P x))

  -- of a range and then one that covers it: the first is needless
  pub puts-covered : (u : Bool) → Covered a n b m → put b m u (put a n v P) ≡ put b m u P
  unfolding bounded set_range
  puts-covered u h = fun_ext (λ x. set-covers (ltb x size) (among a n x) (among b m x) v u (P x) (h x))

-- ---- flips
-- in either order the same is held, of any ranges
pub turns-swap : (a n b m : ℕ) (P : Positions) → turn b m (turn a n P) ≡ turn a n (turn b m P)
unfolding bounded flip_range
turns-swap a n b m P = fun_ext (λ x. flips-swap (ltb x size) (among a n x) (among b m x) (P x))

-- a second flip undoes the first
pub turns-undo : (a n : ℕ) (P : Positions) (x : ℕ) → x < size → turn a n (turn a n P) x ≡ P x
unfolding bounded flip_range
turns-undo a n P x h =
    ap (λ s. s && cond (among a n x) (not (s && cond (among a n x) (not (P x)) (P x))) (s && cond (among a n x) (not (P x)) (P x))) (lt-ltb x size h)
    ∙ flips-undo (among a n x) (P x)

-- ---- how many positions change
-- sums of counts, where each position counts as often on both sides
pub sums-alike : (D E F G : Positions) (a n : ℕ)
    → ((x : ℕ) → a ≤ x → x < a + n → one_if (beq (D x) true) + one_if (beq (E x) true) ≡ one_if (beq (F x) true) + one_if (beq (G x) true))
    → count D true a n + count E true a n ≡ count F true a n + count G true a n
unfolding count
sums-alike D E F G a zero h = refl
sums-alike D E F G a (suc n) h =
    omega (arith, h a (omega arith) (omega arith), sums-alike D E F G (suc a) n (λ x k l. h x (omega arith) (omega arith)))

-- whether a value changes, as a number
abbrev differs : Bool → Bool → ℕ
differs p q = one_if (beq (not (beq p q)) true)

-- of one position: two sets to one value change it as often in either order
change-alike : (t r v p : Bool) → differs p (cond t v p) + differs (cond t v p) (cond r v (cond t v p)) ≡ differs p (cond r v p) + differs (cond r v p) (cond t v (cond r v p))
change-alike true true v p = refl
change-alike true false true true = refl
change-alike true false true false = refl
change-alike true false false true = refl
change-alike true false false false = refl
change-alike false true true true = refl
change-alike false true true false = refl
change-alike false true false true = refl
change-alike false true false false = refl
change-alike false false v p = refl

-- so together they change as many
pub changes-alike : (a n : ℕ) (v : Bool) (b m : ℕ) (P : Positions)
    → changes P (set_range a n v P) + changes (put a n v P) (set_range b m v (put a n v P)) ≡ changes P (set_range b m v P) + changes (put b m v P) (set_range a n v (put b m v P))
unfolding changes combined bounded set_range
changes-alike a n v b m P =
    sums-alike (combined Xor P (set_range a n v P)) (combined Xor (put a n v P) (set_range b m v (put a n v P))) (combined Xor P (set_range b m v P))
    (combined Xor (put b m v P) (set_range a n v (put b m v P))) 0 size (λ x k l. go x (ltb x size) (lt-ltb x size (omega arith)))
  where
    go : (x : ℕ) (s : Bool) → s ≡ true
        → differs (P x) (cond (among a n x) v (P x)) + differs (s && cond (among a n x) v (P x)) (cond (among b m x) v (s && cond (among a n x) v (P x)))
        ≡ differs (P x) (cond (among b m x) v (P x)) + differs (s && cond (among b m x) v (P x)) (cond (among a n x) v (s && cond (among b m x) v (P x)))
    go x s e = rw e (change-alike (among a n x) (among b m x) v (P x))
