-- The bits of a number: those of a number or another and of both, the words whose bits from one on, up to one or between two are 1, and a byte
-- with a bit set. Each is the bits of some positions, where the bit i of a number is its quotient by 2 ^ i, modulo 2. Assumes nothing.
use Rattle.std.proofs.Common.{◌≡◌, ℕ, zero, suc, ◌+◌, ◌-◌, ◌*◌, ◌/◌, ◌%◌, ◌^◌, ◌<◌, min, max, Bool, true, false, ◌&&◌, ◌||◌, eqb, leb, sym, refl}
use Rattle.std.proofs.Common.{ap, ◌∙◌, ap₂, one-mul, zero-add, zero-mul, arith, shl_exact, le-leb}
use mathlib.Core.Bool.{and-true}
use lib.Bits.{bit_and, bit_or, and_shr, and_step, or_shr, or_step}
use lib.Pow.{high, high_ones, ones_split, ones_lt}
use borrow.Author.Tests.{lt-leb}
use Rattle.model.specs.Positions.{Positions, one_if, inside}
use Rattle.model.specs.Bytes.{bits}
use Rattle.model.proofs.Maps.{bits-cong, bits-bit}
use Rattle.codec.proofs.Bits.{bits_above}
use Rattle.maps.proofs.Octeting.{same_bits}

-- ---- bits of numbers
-- bit i of a number
abbrev pub bit_of : ℕ → ℕ → Bool
bit_of a i = eqb (a / 2 ^ i % 2) 1

-- a bit's test gives it back
one-back : (b : Bool) → eqb (one_if b) 1 ≡ b
one-back true = refl
one-back false = refl

-- that of the bits of positions is a position
pub position-bit : (P : Positions) (x k i : ℕ) → i < k → bit_of (bits P x k) i ≡ P (x + i)
position-bit P x k i h = ap (λ (t : ℕ). eqb t 1) (bits-bit P x k i h) ∙ one-back (P (x + i))

-- the last of two digits, and one digit or the other
last-digit : (x y : ℕ) → y < 2 → (x * 2 + y) % 2 ≡ y
last-digit x y h = omega arith

either-one : (x y : ℕ) → x < 2 → y < 2 → eqb (max x y) 1 ≡ (eqb x 1 || eqb y 1)
either-one zero zero h k = refl
either-one zero (suc zero) h k = refl
either-one zero (suc (suc y)) h k = absurd (omega arith)
either-one (suc zero) zero h k = refl
either-one (suc zero) (suc zero) h k = refl
either-one (suc zero) (suc (suc y)) h k = absurd (omega arith)
either-one (suc (suc x)) y h k = absurd (omega arith)

both_one : (x y : ℕ) → x < 2 → y < 2 → eqb (min x y) 1 ≡ (eqb x 1 && eqb y 1)
both_one zero zero h k = refl
both_one zero (suc zero) h k = refl
both_one zero (suc (suc y)) h k = absurd (omega arith)
both_one (suc zero) zero h k = refl
both_one (suc zero) (suc zero) h k = refl
both_one (suc zero) (suc (suc y)) h k = absurd (omega arith)
both_one (suc (suc x)) y h k = absurd (omega arith)

digit : (a i : ℕ) → a / 2 ^ i % 2 < 2
digit a i = omega arith

-- a bit of either, and a bit of both
pub or-bit : (a b i : ℕ) → bit_of (bit_or a b) i ≡ (bit_of a i || bit_of b i)
or-bit a b i =
    ap (λ (x : ℕ). eqb (x % 2) 1) (or_shr a b i ∙ or_step (a / 2 ^ i) (b / 2 ^ i))
    ∙ ap (λ (x : ℕ). eqb x 1) (last-digit (bit_or (a / 2 ^ i / 2) (b / 2 ^ i / 2)) (max (a / 2 ^ i % 2) (b / 2 ^ i % 2)) (omega (arith, digit a i, digit b i)))
    ∙ either-one (a / 2 ^ i % 2) (b / 2 ^ i % 2) (digit a i) (digit b i)

pub and-bit : (a b i : ℕ) → bit_of (bit_and a b) i ≡ (bit_of a i && bit_of b i)
and-bit a b i =
    ap (λ (x : ℕ). eqb (x % 2) 1) (and_shr a b i ∙ and_step (a / 2 ^ i) (b / 2 ^ i))
    ∙ ap (λ (x : ℕ). eqb x 1) (last-digit (bit_and (a / 2 ^ i / 2) (b / 2 ^ i / 2)) (min (a / 2 ^ i % 2) (b / 2 ^ i % 2)) (omega (arith, digit a i, digit b i)))
    ∙ both_one (a / 2 ^ i % 2) (b / 2 ^ i % 2) (digit a i) (digit b i)

-- ---- words
-- the bits from f on, of f + j
from_bits : (f j : ℕ) → 2 ^ (j + f) - 2 ^ f ≡ bits (leb f) 0 (f + j)
from_bits f j =
    let low : bits (leb f) 0 f ≡ 0 = bits-cong (leb f) (λ _. false) 0 f (λ y a b. lt-leb f y (omega arith)) ∙ sym (same_bits false 0 f) ∙ zero-mul (2 ^ f - 1) in
    let up : bits (leb f) (0 + f) j ≡ 2 ^ j - 1 = bits-cong (leb f) (λ _. true) (0 + f) j (λ y a b. le-leb f y (omega arith)) ∙ sym (same_bits true (0 + f) j) ∙ one-mul (2 ^ j - 1) in
    high_ones j f ∙ sym (sym (bits_above (leb f) 0 f j) ∙ rw (low, up) (omega arith))

-- those up to t, of t + 1 and j more
to_bits : (t j : ℕ) → 2 ^ suc t - 1 ≡ bits (λ i. leb i t) 0 (suc t + j)
to_bits t j =
    let low : bits (λ i. leb i t) 0 (suc t) ≡ 2 ^ suc t - 1 = bits-cong (λ i. leb i t) (λ _. true) 0 (suc t) (λ y a b. le-leb y t (omega arith)) ∙ sym (same_bits true 0 (suc t)) ∙ one-mul (2 ^ suc t - 1) in
    let up : bits (λ i. leb i t) (0 + suc t) j ≡ 0 = bits-cong (λ i. leb i t) (λ _. false) (0 + suc t) j (λ y a b. lt-leb y t (omega arith)) ∙ sym (same_bits false (0 + suc t) j) ∙ zero-mul (2 ^ j - 1) in
    sym (sym (bits_above (λ i. leb i t) 0 (suc t) j) ∙ rw (low, up) (omega arith))

-- as the code has them
pub ones-down : (t : ℕ) → t < 64 → (2 ^ 64 - 1) / 2 ^ (63 - t) ≡ 2 ^ (t + 1) - 1
ones-down t h =
    let k : 64 ≡ t + 1 + (63 - t) = omega arith in
    ap (λ (x : ℕ). (2 ^ x - 1) / 2 ^ (63 - t)) k ∙ ap (λ (x : ℕ). x / 2 ^ (63 - t)) (ones_split (t + 1) (63 - t)) ∙ high (2 ^ (t + 1) - 1) (63 - t) (ones_lt (63 - t))

-- v has those of the bits of a word that lie from lo to hi
pub record Between (v lo hi : ℕ) : Type 0 where
  pub bit : (b : ℕ) → b < 64 → bit_of v b ≡ inside lo hi b

pub between-from : {v : ℕ} (f : ℕ) → f < 64 → v ≡ 2 ^ 64 - 2 ^ f → Between v f 63
between-from {v} f h e = record {
  bit = λ b l.
      let k : 64 - f + f ≡ 64 = omega arith in
      let n : f + (64 - f) ≡ 64 = omega arith in
      let m : v ≡ bits (leb f) 0 64 = e ∙ ap (λ (x : ℕ). 2 ^ x - 2 ^ f) (sym k) ∙ from_bits f (64 - f) ∙ ap (bits (leb f) 0) n in
      ap (λ (x : ℕ). bit_of x b) m ∙ position-bit (leb f) 0 64 b l ∙ ap (leb f) (zero-add b) ∙ sym (ap (λ t. leb f b && t) (le-leb b 63 (omega arith)) ∙ and-true (leb f b));
}

pub between-to : {v : ℕ} (t : ℕ) → t < 64 → v ≡ 2 ^ (t + 1) - 1 → Between v 0 t
between-to {v} t h e = record {
  bit = λ b l.
      let k : t + 1 ≡ suc t = omega arith in
      let n : suc t + (63 - t) ≡ 64 = omega arith in
      let m : v ≡ bits (λ i. leb i t) 0 64 = e ∙ ap (λ (x : ℕ). 2 ^ x - 1) k ∙ to_bits t (63 - t) ∙ ap (bits (λ i. leb i t) 0) n in
      ap (λ (x : ℕ). bit_of x b) m ∙ position-bit (λ i. leb i t) 0 64 b l ∙ ap (λ (x : ℕ). leb x t) (zero-add b) ∙ sym (ap (λ u. u && leb b t) (le-leb 0 b (omega arith)));
}

pub between-both : {v u : ℕ} (f t : ℕ) → Between v f 63 → Between u 0 t → Between (bit_and v u) f t
between-both {v} {u} f t g h = record {
  bit = λ b l.
      and-bit v u b ∙ ap₂ (λ x y. x && y) (g.bit b l ∙ (ap (λ s. leb f b && s) (le-leb b 63 (omega arith)) ∙ and-true (leb f b))) (h.bit b l ∙ ap (λ s. s && leb b t) (le-leb 0 b (omega arith)));
}

-- ---- a byte with a bit set
-- the only bit of a power of two is its own
pow-is : (k : ℕ) → k < 8 → 2 ^ k ≡ bits (λ i. eqb i k) 0 8
unfolding bits
pow-is zero h = refl
pow-is (suc zero) h = refl
pow-is (suc (suc zero)) h = refl
pow-is (suc (suc (suc zero))) h = refl
pow-is (suc (suc (suc (suc zero)))) h = refl
pow-is (suc (suc (suc (suc (suc zero))))) h = refl
pow-is (suc (suc (suc (suc (suc (suc zero)))))) h = refl
pow-is (suc (suc (suc (suc (suc (suc (suc zero))))))) h = refl
pow-is (suc (suc (suc (suc (suc (suc (suc (suc k)))))))) h = absurd (omega arith)

-- as the code has it: nothing is shifted out
shifted : (k : ℕ) → k < 8 → (1 * 2 ^ k) % 2 ^ 8 ≡ bits (λ i. eqb i k) 0 8
shifted k h = shl_exact {a = 1} 1 k 8 (omega arith) (omega arith) ∙ (one-mul (2 ^ k) ∙ pow-is k h)

-- a byte with bit k set
abbrev pub lit : ℕ → ℕ → ℕ
lit x k = bit_or x ((1 * 2 ^ k) % 2 ^ 8)

pub lit-bit : (x k b : ℕ) → k < 8 → b < 8 → bit_of (lit x k) b ≡ (bit_of x b || eqb b k)
lit-bit x k b l h =
    or-bit x ((1 * 2 ^ k) % 2 ^ 8) b
    ∙ ap (λ t. bit_of x b || t) (ap (λ (y : ℕ). bit_of y b) (shifted k l) ∙ position-bit (λ j. eqb j k) 0 8 b h ∙ ap (λ (j : ℕ). eqb j k) (zero-add b))
