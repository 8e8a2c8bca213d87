-- Maps: how long they are, what each byte and each bit of them is, and that reading a map and writing it undo one another.
-- Bit i of a number is its quotient by 2 ^ i, modulo 2; numbers below 2 ^ k with the same k bits are equal, and so are maps. Assumes nothing.
use mathlib.Core.Path.{◌≡◌, refl, sym, ap, ap₂, ◌∙◌, fun_ext}
use mathlib.Core.Logic.{◌⊎◌, inl, inr}
use mathlib.Core.Bool.{Bool, true, false, cond}
use mathlib.Core.List.{List, ◌∷◌}
use Prim.Native.Nat.{ℕ, zero, suc, ◌+◌, ◌-◌, ◌*◌, ◌/◌, ◌%◌, ◌^◌, ◌≤◌, ◌<◌, min}
use native.Mathlib.Nat.{add-zero, add-suc, suc-add, pow-succ', pow-le-pow_right, zero-div, div-one, div-eq_of_lt, div-div-eq-div-mul}
use native.Mathlib.Omega.{arith}
use lib.Dec.{eqb}
use lib.ListN.{length, get_or, get_or-eq_default}
use lib.Seq.{ext_get_or}
use Rattle.model.proofs.Numbers.{split}
use Rattle.model.specs.Positions.{Positions, among, one_if}
use Rattle.model.proofs.Counting.{among-yes, among_below, among-above, one-bound}
use Rattle.model.specs.Bytes.{bits, map_length, bytes_from, map_of, map_bit, mapped}
use Rattle.model.specs.RunList.{AllBytes}
use Rattle.model.proofs.Codec.{bytes-at}

-- ---- bits of numbers
-- a bit's test gives it back
one-test : (b : Bool) → eqb (one_if b) 1 ≡ b
one-test true = refl
one-test false = refl

-- and the other way round
test-one : (t : ℕ) → t < 2 → one_if (eqb t 1) ≡ t
test-one zero h = refl
test-one (suc zero) h = refl
test-one (suc (suc t)) h = absurd (omega arith)

-- bit i + 1 of a number is bit i of its half
half-bit : (a i : ℕ) → a / 2 ^ suc i ≡ a / 2 / 2 ^ i
half-bit a i = rw (pow-succ', ← div-div-eq-div-mul)

-- numbers below 2 ^ k with the same k bits are equal
pub bits-tell : (k a b : ℕ) → a < 2 ^ k → b < 2 ^ k → ((i : ℕ) → i < k → a / 2 ^ i % 2 ≡ b / 2 ^ i % 2) → a ≡ b
bits-tell zero a b h g e = omega arith
bits-tell (suc k) a b h g e =
    let p : 2 ^ suc k ≡ 2 * 2 ^ k = pow-succ' 2 k in
    let z : a % 2 ≡ b % 2 = simp div-one at (e 0 (omega arith)) in
    let q : a / 2 ≡ b / 2 = bits-tell k (a / 2) (b / 2) (omega arith) (omega arith) (λ i l. simp half-bit at (e (suc i) (omega arith))) in
    omega arith

-- ---- a byte of a map
-- k positions make a number below 2 ^ k
pub bits-bound : (P : Positions) (x k : ℕ) → bits P x k < 2 ^ k
unfolding bits
bits-bound P x zero = omega arith
bits-bound P x (suc k) = rw pow-succ' (omega (arith, one-bound (P x), bits-bound P (suc x) k))

-- that depends on these positions only
pub bits-cong : (P Q : Positions) (x k : ℕ) → ((y : ℕ) → x ≤ y → y < x + k → P y ≡ Q y) → bits P x k ≡ bits Q x k
unfolding bits
bits-cong P Q x zero h = refl
bits-cong P Q x (suc k) h =
    ap₂ (λ (p : Bool) (c : ℕ). one_if p + 2 * c) (h x (omega arith) (omega arith))
    (bits-cong P Q (suc x) k (λ y l m. h y (omega arith) (omega arith)))

-- bit i is position x + i
pub bits-bit : (P : Positions) (x k i : ℕ) → i < k → bits P x k / 2 ^ i % 2 ≡ one_if (P (x + i))
unfolding bits
bits-bit P x zero i h = absurd (omega arith)
bits-bit P x (suc k) zero h = rw (div-one, add-zero) (omega (arith, one-bound (P x)))
bits-bit P x (suc k) (suc i) h =
    let e : (one_if (P x) + 2 * bits P (suc x) k) / 2 ≡ bits P (suc x) k = omega (arith, one-bound (P x)) in
    rw (half-bit, e, add-suc, ← suc-add) (bits-bit P (suc x) k i (omega arith))

-- spare bits are 0
pub bits-over : (P : Positions) (x k i : ℕ) → k ≤ i → bits P x k / 2 ^ i ≡ 0
bits-over P x k i h =
    let p : 2 ^ k ≤ 2 ^ i = pow-le-pow_right (omega arith) h in
    div-eq_of_lt (omega (arith, bits-bound P x k))

-- ---- a map
-- m bytes are m
pub bytes_from-length : (P : Positions) (x n m : ℕ) → length (bytes_from P x n m) ≡ m
unfolding bytes_from
bytes_from-length P x n zero = refl
bytes_from-length P x n (suc m) = ap suc (bytes_from-length P (x + 8) (n - 8) m)

-- a map has a byte for each 8 positions begun
pub map_of-length : (P : Positions) (base n : ℕ) → length (map_of P base n) ≡ map_length n
unfolding map_of
map_of-length P base n = bytes_from-length P base n (map_length n)

-- at most 8 positions make a byte
bytes_from-bytes : (P : Positions) (x n m : ℕ) → AllBytes (bytes_from P x n m)
unfolding bytes_from
bytes_from-bytes P x n zero = tt
bytes_from-bytes P x n (suc m) =
    let g : min 8 n ≤ 8 = omega arith in
    let p : 2 ^ min 8 n ≤ 2 ^ 8 = pow-le-pow_right (omega arith) g in
    (omega (arith, bits-bound P x (min 8 n)), bytes_from-bytes P (x + 8) (n - 8) m)

-- a map is bytes
pub map_of-bytes : (P : Positions) (base n : ℕ) → AllBytes (map_of P base n)
unfolding map_of
map_of-bytes P base n = bytes_from-bytes P base n (map_length n)

-- byte j of the bytes from x on has the positions from x + 8 j on, at most 8 of them
bytes_from-at : (P : Positions) (x n m j : ℕ) → j < m → get_or (bytes_from P x n m) j 0 ≡ bits P (x + 8 * j) (min 8 (n - 8 * j))
unfolding bytes_from
bytes_from-at P x n zero j h = absurd (omega arith)
bytes_from-at P x n (suc m) zero h = ap₂ (λ (y k : ℕ). bits P y (min 8 k)) (omega arith) (omega arith)
bytes_from-at P x n (suc m) (suc j) h =
    bytes_from-at P (x + 8) (n - 8) m j (omega arith) ∙ ap₂ (λ (y k : ℕ). bits P y (min 8 k)) (omega arith) (omega arith)

-- so it is in a map
pub map_of-at : (P : Positions) (base n j : ℕ) → j < map_length n → get_or (map_of P base n) j 0 ≡ bits P (base + 8 * j) (min 8 (n - 8 * j))
unfolding map_of
map_of-at P base n j h = bytes_from-at P base n (map_length n) j h

-- bytes depend on the n positions only
bytes_from-cong : (P Q : Positions) (x n m : ℕ) → ((y : ℕ) → x ≤ y → y < x + n → P y ≡ Q y) → bytes_from P x n m ≡ bytes_from Q x n m
unfolding bytes_from
bytes_from-cong P Q x n zero h = refl
bytes_from-cong P Q x n (suc m) h =
    ap₂ {C = List ℕ} (λ b bs. b ∷ bs) (bits-cong P Q x (min 8 n) (λ y l k. h y l (omega arith)))
    (bytes_from-cong P Q (x + 8) (n - 8) m (λ y l k. h y (omega arith) (omega arith)))

-- and a map on its window
pub map_of-cong : (P Q : Positions) (base n : ℕ) → ((y : ℕ) → base ≤ y → y < base + n → P y ≡ Q y) → map_of P base n ≡ map_of Q base n
unfolding map_of
map_of-cong P Q base n h = bytes_from-cong P Q base n (map_length n) h

-- ---- bits of maps
-- bit i of a map is position base + i
pub map_of-bit : (P : Positions) (base n i : ℕ) → i < n → map_bit (map_of P base n) i ≡ P (base + i)
unfolding map_bit
map_of-bit P base n i h =
    let e : base + 8 * (i / 8) + i % 8 ≡ base + i = omega arith in
    rw (map_of-at P base n (i / 8) (omega arith), bits-bit P (base + 8 * (i / 8)) (min 8 (n - 8 * (i / 8))) (i % 8) (omega arith), e) (one-test (P (base + i)))

-- and the spare ones are 0
pub map_of-spare : (P : Positions) (base n i : ℕ) → n ≤ i → map_bit (map_of P base n) i ≡ false
unfolding map_bit
map_of-spare P base n i h = go (split (i / 8) (map_length n))
  where
    go : (i / 8 < map_length n) ⊎ (map_length n ≤ i / 8) → eqb (get_or (map_of P base n) (i / 8) 0 / 2 ^ (i % 8) % 2) 1 ≡ false
    go (inl g) = rw (map_of-at P base n (i / 8) g, bits-over P (base + 8 * (i / 8)) (min 8 (n - 8 * (i / 8))) (i % 8) (omega arith))
    go (inr g) =
        let l : length (map_of P base n) ≤ i / 8 = rw map_of-length g in
        rw (get_or-eq_default (map_of P base n) 0 l, zero-div)

-- bit i of byte j is bit 8 j + i of the map
pub byte-bit : (bs : List ℕ) (j i : ℕ) → i < 8 → get_or bs j 0 / 2 ^ i % 2 ≡ one_if (map_bit bs (8 * j + i))
unfolding map_bit
byte-bit bs j i h =
    let q : (8 * j + i) / 8 ≡ j = omega arith in
    let r : (8 * j + i) % 8 ≡ i = omega arith in
    rw (q, r) (sym (test-one (get_or bs j 0 / 2 ^ i % 2) (omega arith)))

-- maps of one length with the same bits are equal
pub map-tell : (bs cs : List ℕ) → AllBytes bs → AllBytes cs → length bs ≡ length cs → ((i : ℕ) → map_bit bs i ≡ map_bit cs i) → bs ≡ cs
map-tell bs cs h k l e =
    ext_get_or 0 bs cs l (λ j _. bits-tell 8 (get_or bs j 0) (get_or cs j 0) (bytes-at bs j h) (bytes-at cs j k)
    (λ i g. byte-bit bs j i g ∙ ap one_if (e (8 * j + i)) ∙ sym (byte-bit cs j i g)))

-- ---- reading a map
-- a position of the window is a bit
pub mapped_in : (base n : ℕ) (bs : List ℕ) (P : Positions) (i : ℕ) → i < n → mapped base n bs P (base + i) ≡ map_bit bs i
unfolding mapped
mapped_in base n bs P i h =
    let e : base + i - base ≡ i = omega arith in
    rw (among-yes base n (base + i) (omega arith) (omega arith), e)

-- reading the map of a set back changes nothing
pub mapped-map_of : (P : Positions) (base n : ℕ) → mapped base n (map_of P base n) P ≡ P
unfolding mapped
mapped-map_of P base n = fun_ext (λ x. go x (split x base) (split x (base + n)))
  where
    go : (x : ℕ) → (x < base) ⊎ (base ≤ x) → (x < base + n) ⊎ (base + n ≤ x) → cond (among base n x) (map_bit (map_of P base n) (x - base)) (P x) ≡ P x
    go x (inl h) k = rw (among_below base n x h)
    go x (inr h) (inr k) = rw (among-above base n x k)
    go x (inr h) (inl k) =
        let e : base + (x - base) ≡ x = omega arith in
        rw (among-yes base n x h k, map_of-bit P base n (x - base) (omega arith), e)

-- what was read is written again, if the spare bits are 0
pub map_of-mapped : (P : Positions) (base n : ℕ) (bs : List ℕ) → AllBytes bs → length bs ≡ map_length n → ((i : ℕ) → n ≤ i → map_bit bs i ≡ false)
    → map_of (mapped base n bs P) base n ≡ bs
map_of-mapped P base n bs h l s =
    map-tell (map_of Q base n) bs (map_of-bytes Q base n) h (map_of-length Q base n ∙ sym l) (λ i. go i (split i n))
  where
    Q : Positions
    Q = mapped base n bs P

    go : (i : ℕ) → (i < n) ⊎ (n ≤ i) → map_bit (map_of Q base n) i ≡ map_bit bs i
    go i (inl k) = map_of-bit Q base n i k ∙ mapped_in base n bs P i k
    go i (inr k) = map_of-spare Q base n i k ∙ sym (s i k)
