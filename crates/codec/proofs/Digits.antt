-- Numbers as bytes: what the library writes and reads as the bytes of a number are those of the model, highest first. Assumes nothing.
use Rattle.std.proofs.Common.{ℕ, zero, suc, ◌+◌, ◌-◌, ◌/◌, ◌%◌, ◌^◌, ◌≤◌, ◌<◌, ◌≡◌, refl, sym, ap, ◌∙◌, List, [], ◌∷◌, div-one, arith, length, take, drop, get_or, drop-cons}
use Rattle.std.proofs.Common.{drop-drop, w8, w32, Fits}
use borrow.Rule.Slice.PartMut.{put_mid}
use Rattle.std.specs.Int.{bytes_high_first, from_be_bytes}
use Rattle.model.specs.Bytes.{big_endian, value_from, value_of}
use Rattle.codec.specs.Placed.{placed}
use Rattle.model.proofs.Slices.{all-bytes}
use Rattle.model.proofs.Codec.{big_endian-length, drop-bytes, part-bound}

-- ---- writing
-- the lowest k bytes of a number
pub high-first : (k n : ℕ) → bytes_high_first k n ≡ big_endian k n
unfolding big_endian
high-first zero n = refl
high-first (suc zero) n = ap (λ (m : ℕ). m % 256 ∷ []) (sym (div-one n))
high-first (suc (suc k)) n = ap (λ (l : List ℕ). n / 256 ^ suc k % 256 ∷ l) (high-first (suc k) n)

-- four of them, put in place
pub count_placed : (out bs : List ℕ) (i n : ℕ) → bs ≡ bytes_high_first 4 n → put_mid i (i + 4 - i) out bs ≡ placed i (big_endian 4 n) out
unfolding placed
count_placed out bs i n p =
    let e : i + 4 - i ≡ 4 = omega arith in
    let l : length (big_endian 4 n) ≡ 4 = big_endian-length 4 n in
    rw (e, p ∙ high-first 4 n, l, drop-drop 4 i out) refl

-- ---- reading
-- four bytes, one by one
four-at : (l : List ℕ) (i : ℕ) → i + 4 ≤ length l → take 4 (drop i l) ≡ get_or l i 0 ∷ get_or l (i + 1) 0 ∷ get_or l (i + 2) 0 ∷ get_or l (i + 3) 0 ∷ []
four-at l i h =
    let e : i + 1 ≡ suc i = omega arith in
    let f : i + 2 ≡ suc (suc i) = omega arith in
    let g : i + 3 ≡ suc (suc (suc i)) = omega arith in
    rw (e, f, g, drop-cons l i 0 (omega arith), drop-cons l (suc i) 0 (omega arith), drop-cons l (suc (suc i)) 0 (omega arith), drop-cons l (suc (suc (suc i))) 0 (omega arith))

-- their value
pub count_value : (l : List ℕ) (i : ℕ) {n : ℕ} → i + 4 ≤ length l
    → n ≡ from_be_bytes w32 (get_or l i 0 ∷ get_or l (i + 1) 0 ∷ get_or l (i + 2) 0 ∷ get_or l (i + 3) 0 ∷ []) → n ≡ value_of (take 4 (drop i l))
unfolding value_of value_from
count_value l i h e = rw (four-at l i h) (e ∙ omega arith)

-- which is below 2^32
pub count-bound : (l : List ℕ) (i a : ℕ) → ((j : ℕ) → Fits w8 (get_or l j 0)) → a ≡ value_of (take 4 (drop i l)) → a < 4294967296
count-bound l i a f e = omega (arith, part-bound 4 (drop i l) (drop-bytes i l (all-bytes l f)))
