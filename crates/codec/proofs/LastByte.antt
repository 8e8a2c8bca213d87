-- The padding bits of a map: the last byte is the bits below n and, above them, the padding. So a shift gives these as a number, a remainder
-- those, and halving the number step by step counts its ones. Assumes nothing.
use Rattle.std.proofs.Common.{ℕ, zero, suc, ◌+◌, ◌-◌, ◌*◌, ◌/◌, ◌%◌, ◌^◌, ◌≤◌, ◌<◌, ◌≡◌, sym, ap, ap₂, ◌∙◌, ◌⊎◌, inl, inr, true, List, zero-add, one-mul, mod-eq_of_lt}
use Rattle.std.proofs.Common.{arith, w8, Fits, pow_pos, shl_exact, length, get_or, set, length-set, get_or-set_same, get_or-set_other, ext_get_or, count_ones}
use native.Mathlib.Nat.{div-eq_of_lt, add-mul-div_right, add-mul-mod_self_right}
use lib.Count.{ones_step}
use Rattle.std.proofs.lemmas.Nat.{ones_le_self}
use Rattle.model.proofs.Slices.{all-bytes}
use Rattle.model.proofs.Clearing.{clear_stays}
use Rattle.model.proofs.Numbers.{split}
use Rattle.model.specs.Positions.{Positions, one_if, count}
use Rattle.model.proofs.Counting.{one-bound, beq-true, count-first, count_most}
use Rattle.model.specs.Bytes.{bits, map_length, map_of, map_bit, stray_bits, cleared}
use Rattle.model.proofs.Maps.{bits-bound, map_of-length, map_of-at}
use Rattle.codec.proofs.Bits.{bits_above, byte-is}

-- ---- the ones of a number
-- of the bits of k positions as many are one as positions are held
bits-ones : (P : Positions) (x k : ℕ) → count_ones (bits P x k) ≡ count P true x k
unfolding bits
bits-ones P x zero = let h : count P true x 0 ≤ 0 = count_most P true x 0 in omega (arith, ones_le_self 0)
bits-ones P x (suc k) =
    let b : ℕ = bits P (suc x) k in
    let odd : (one_if (P x) + 2 * b) % 2 ≡ one_if (P x) = omega (arith, one-bound (P x)) in
    let half : (one_if (P x) + 2 * b) / 2 ≡ b = omega (arith, one-bound (P x)) in
    ones_step (one_if (P x) + 2 * b) ∙ rw (odd, half, bits-ones P (suc x) k) (sym (count-first P true x k ∙ rw beq-true))

-- ---- the last byte
module _ (n : ℕ) (bs : List ℕ) (some : n % 8 ≡ 0 → ⊥) (small : get_or bs (n / 8) 0 < 256) where
  -- the used bits and, above them, the padding
  last-is : get_or bs (n / 8) 0 ≡ bits (map_bit bs) (8 * (n / 8)) (n % 8) + bits (map_bit bs) n (8 * map_length n - n) * 2 ^ (n % 8)
  last-is =
      let k : 8 ≡ n % 8 + (8 * map_length n - n) = omega arith in
      let e : 8 * (n / 8) + n % 8 ≡ n = omega arith in
      byte-is bs (n / 8) small ∙ ap (bits (map_bit bs) (8 * (n / 8))) k ∙ sym (bits_above (map_bit bs) (8 * (n / 8)) (n % 8) (8 * map_length n - n))
      ∙ ap (λ x. bits (map_bit bs) (8 * (n / 8)) (n % 8) + bits (map_bit bs) x (8 * map_length n - n) * 2 ^ (n % 8)) e

  -- shifted down, these
  padding-is : get_or bs (n / 8) 0 / 2 ^ (n % 8) ≡ bits (map_bit bs) n (8 * map_length n - n)
  padding-is =
      rw (last-is, add-mul-div_right (bits (map_bit bs) (8 * (n / 8)) (n % 8)) (bits (map_bit bs) n (8 * map_length n - n)) (pow_pos (n % 8)), div-eq_of_lt (bits-bound (map_bit bs) (8 * (n / 8)) (n % 8)))
      (zero-add (bits (map_bit bs) n (8 * map_length n - n)))

  -- the remainder, those
  used-is : get_or bs (n / 8) 0 % 2 ^ (n % 8) ≡ bits (map_bit bs) (8 * (n / 8)) (n % 8)
  used-is =
      rw (last-is, add-mul-mod_self_right (bits (map_bit bs) (8 * (n / 8)) (n % 8)) (bits (map_bit bs) n (8 * map_length n - n)) (2 ^ (n % 8)))
      (mod-eq_of_lt (bits-bound (map_bit bs) (8 * (n / 8)) (n % 8)))

-- the last byte is the one with padding bits, if any has
pub last-at : (n : ℕ) {l : ℕ} → (n % 8 ≡ 0 → ⊥) → l ≡ map_length n → l - 1 ≡ n / 8
last-at n some e = omega arith

-- so its ones above the used bits are the stray ones
pub stray_last : (n : ℕ) (bs : List ℕ) → (n % 8 ≡ 0 → ⊥) → length bs ≡ map_length n → ((j : ℕ) → get_or bs j 0 < 256)
    → count_ones (get_or bs (length bs - 1) 0 / 2 ^ (n % 8)) ≡ stray_bits n bs
unfolding stray_bits
stray_last n bs some long bytes =
    ap (λ j. count_ones (get_or bs j 0 / 2 ^ (n % 8))) (last-at n some long) ∙ ap count_ones (padding-is n bs some (bytes (n / 8)))
    ∙ bits-ones (map_bit bs) n (8 * map_length n - n)

-- a window of whole bytes has no padding bit
pub stray_none : (n : ℕ) (bs : List ℕ) → n % 8 ≡ 0 → 0 ≡ stray_bits n bs
unfolding stray_bits
stray_none n bs e = let h : count (map_bit bs) true n (8 * map_length n - n) ≤ 8 * map_length n - n = count_most (map_bit bs) true n (8 * map_length n - n) in omega arith

-- so where one is stray there are some
pub stray_some : (n : ℕ) (bs : List ℕ) → 0 < stray_bits n bs → n % 8 ≡ 0 → ⊥
stray_some n bs h e = omega (arith, stray_none n bs e)

-- ---- the cleared map
-- a 1 of a byte shifted up by the used bits: nothing is shifted out
one_shifted : (n : ℕ) → (1 * 2 ^ (n % 8)) % 2 ^ 8 ≡ 2 ^ (n % 8)
one_shifted n = shl_exact {a = 1} 1 (n % 8) 8 (omega arith) (omega arith) ∙ one-mul (2 ^ (n % 8))

module _ (n : ℕ) (bs : List ℕ) (some : n % 8 ≡ 0 → ⊥) (bytes : (j : ℕ) → get_or bs j 0 < 256) (long : length bs ≡ map_length n) where
  -- the map with the used bits alone as its last byte is cleared
  pub used_clears : set bs (length bs - 1) (get_or bs (length bs - 1) 0 % ((1 * 2 ^ (n % 8)) % 2 ^ 8)) ≡ cleared n bs
  unfolding cleared
  used_clears = rw (last-at n some long, one_shifted n) (ext_get_or 0 (set bs (n / 8) v) (map_of (map_bit bs) 0 n) same (λ j h. go j (omega (arith, length-set bs (n / 8) v)) (split j (n / 8))))
    where
      v : ℕ
      v = get_or bs (n / 8) 0 % 2 ^ (n % 8)

      same : length (set bs (n / 8) v) ≡ length (map_of (map_bit bs) 0 n)
      same = length-set bs (n / 8) v ∙ long ∙ sym (map_of-length (map_bit bs) 0 n)

      go : (j : ℕ) → j < length bs → (j < n / 8) ⊎ (n / 8 ≤ j) → get_or (set bs (n / 8) v) j 0 ≡ get_or (map_of (map_bit bs) 0 n) j 0
      go j h (inl k) =
          get_or-set_other bs (n / 8) j v 0 (λ q. omega arith) ∙ byte-is bs j (bytes j) ∙ ap₂ (bits (map_bit bs)) (sym (zero-add (8 * j))) (omega arith)
          ∙ sym (map_of-at (map_bit bs) 0 n j (omega arith))
      go j h (inr k) =
          let q : j ≡ n / 8 = omega arith in
          ap (λ i. get_or (set bs (n / 8) v) i 0) q ∙ get_or-set_same bs (n / 8) v 0 (omega arith) ∙ used-is n bs some (bytes (n / 8))
          ∙ ap₂ (bits (map_bit bs)) (omega arith) (omega arith) ∙ sym (map_of-at (map_bit bs) 0 n j (omega arith))

-- where no padding bit is one the map is cleared already
pub clear_same : (n : ℕ) (bs : List ℕ) → ((j : ℕ) → Fits w8 (get_or bs j 0)) → length bs ≡ map_length n → stray_bits n bs ≡ 0 → bs ≡ cleared n bs
clear_same n bs bytes long none = sym (clear_stays n bs (all-bytes bs bytes) long none)
