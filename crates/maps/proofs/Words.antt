-- Words of a map: the number that eight bytes are, the lowest first, is the bits of their positions, and a word that is stored takes the place
-- of a part of the map. Assumes nothing.
use Rattle.std.proofs.Common.{◌≡◌, ℕ, zero, suc, ◌+◌, ◌*◌, ◌/◌, ◌%◌, ◌^◌, ◌<◌, ◌≤◌, eqb, ◌⊎◌, List, length, get_or, sym, refl, ap, ◌∙◌, ap₂, inl}
use Rattle.std.proofs.Common.{inr, arith, mod-eq_of_lt, rules}
use native.Mathlib.Nat.{pow-succ'}
use lib.Pow.{pow-add}
use borrow.Rule.Slice.PartMut.{put_mid}
use Rattle.std.specs.Int.{w64, byte_worth, sum_through, from_le_bytes, to_le_bytes}
use Rattle.std.proofs.lemmas.Nat.{from_le_bytes-to_le_bytes_8}
use Rattle.std.proofs.lemmas.List.{places}
use Rattle.model.specs.Bytes.{bits, map_bit}
use Rattle.maps.specs.Painted.{Puts}
use Rattle.codec.proofs.Bits.{bits_above, byte-is}

-- ---- a part of a list that other elements took the place of
module _ (xs ys : List ℕ) (a k : ℕ) (fits : a + k ≤ length xs) (long : length ys ≡ k) where
  pub part_in : (i : ℕ) → i < k → get_or (put_mid a k xs ys) (a + i) 0 ≡ get_or ys i 0
  part_in i h = search (rules, places)

  pub part-below : (i : ℕ) → i < a → get_or (put_mid a k xs ys) i 0 ≡ get_or xs i 0
  part-below i h = search (rules, places)

  pub part-above : (i : ℕ) → a + k ≤ i → get_or (put_mid a k xs ys) i 0 ≡ get_or xs i 0
  part-above i h = search (rules, places)

  pub part-long : length (put_mid a k xs ys) ≡ length xs
  part-long = search (rules, places)

-- ---- reading
-- what byte i of a number is worth
octet-pow : (i : ℕ) → 256 ^ i ≡ 2 ^ (8 * i)
octet-pow zero = refl
octet-pow (suc i) =
    let e : 8 * suc i ≡ 8 + 8 * i = omega arith in
    pow-succ' 256 i ∙ ap (λ p. 256 * p) (octet-pow i) ∙ sym (ap (λ k. 2 ^ k) e ∙ pow-add 2 8 (8 * i))

worth : (i b : ℕ) → byte_worth i b ≡ b * 2 ^ (8 * i)
worth zero b = omega arith
worth (suc i) b = ap (λ p. b * p) (octet-pow (suc i))

module _ (bs xs : List ℕ) (j : ℕ) (small : (i : ℕ) → get_or bs i 0 < 256) where
  -- k + 1 bytes from j on, the lowest first, are the bits of their positions
  worth-bits : (k : ℕ) → ((i : ℕ) → i ≤ k → get_or xs i 0 ≡ get_or bs (j + i) 0) → sum_through (λ i. byte_worth i (get_or xs i 0)) k ≡ bits (map_bit bs) (8 * j) (8 * suc k)
  worth-bits zero e =
      let q : j + 0 ≡ j = omega arith in
      e 0 (omega arith) ∙ ap (λ i. get_or bs i 0) q ∙ byte-is bs j (small j)
  worth-bits (suc k) e =
      let at : 8 * (j + suc k) ≡ 8 * j + 8 * suc k = omega arith in
      let long : 8 * suc k + 8 ≡ 8 * suc (suc k) = omega arith in
      ap₂ (λ x y. x + y) (worth-bits k (λ i h. e i (omega arith))) (worth (suc k) (get_or xs (suc k) 0)
      ∙ ap (λ b. b * 2 ^ (8 * suc k)) (e (suc k) (omega arith) ∙ byte-is bs (j + suc k) (small (j + suc k)) ∙ ap (λ x. bits (map_bit bs) x 8) at))
      ∙ bits_above (map_bit bs) (8 * j) (8 * suc k) 8 ∙ ap (bits (map_bit bs) (8 * j)) long

  -- eight of them are a word
  pub word-is : ((i : ℕ) → i < 8 → get_or xs i 0 ≡ get_or bs (j + i) 0) → from_le_bytes w64 xs ≡ bits (map_bit bs) (8 * j) 64
  word-is e = worth-bits 7 (λ i h. e i (omega arith))

-- ---- storing
-- the bytes of a word, in the place of eight
pub word-puts : (out : List ℕ) (j v k : ℕ) {ys : List ℕ} → k ≡ 8 → j + 8 ≤ length out → v < 2 ^ 64 → ((i : ℕ) → get_or (put_mid j k out ys) i 0 < 256) → ys ≡ to_le_bytes w64 v
    → Puts out (put_mid j k out ys) j 8 v
word-puts out j v k {ys} q h l small e = record {
  here = sym (word-is (put_mid j k out ys) ys j small (λ i g. sym (part_in out ys j k (omega arith) (long ∙ sym q) i (omega arith))))
      ∙ ap (from_le_bytes w64) e ∙ from_le_bytes-to_le_bytes_8 v l ∙ sym (mod-eq_of_lt l);
  there = λ i o. outside i o;
  long = part-long out ys j k (omega arith) (long ∙ sym q);
}
  where
    long : length ys ≡ 8
    long = ap length e

    outside : (i : ℕ) → (i < j) ⊎ (j + 8 ≤ i) → get_or (put_mid j k out ys) i 0 ≡ get_or out i 0
    outside i (inl g) = part-below out ys j k (omega arith) (long ∙ sym q) i g
    outside i (inr g) = part-above out ys j k (omega arith) (long ∙ sym q) i (omega arith)

-- bits of bytes that stay are as they were
pub bit-stays : (out out' : List ℕ) (i : ℕ) → get_or out' (i / 8) 0 ≡ get_or out (i / 8) 0 → map_bit out' i ≡ map_bit out i
unfolding map_bit
bit-stays out out' i e = ap (λ b. eqb (b / 2 ^ (i % 8) % 2) 1) e
