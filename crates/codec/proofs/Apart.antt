-- Bytes that stand a step apart: what is strewn over a slice and what is picked out of one, byte by byte, in parts, and at step 1, where they
-- are bytes in a row. What is strewn is compared with a list t that has the same bytes there: whatever agrees with t goes on agreeing, so no
-- two places need be told apart. Assumes nothing.
use Rattle.std.proofs.Common.{ℕ, zero, suc, ◌+◌, ◌*◌, ◌≤◌, ◌<◌, ◌≡◌, refl, ap, ◌∙◌, List, [], ◌∷◌, ◌++◌, suc-mul, zero-mul, add-one, arith, length, take, drop}
use Rattle.std.proofs.Common.{set, get_or, length-set, drop-cons, take-suc, take_all, length-take-le, get_or-set_same, w64}
use Rattle.std.proofs.lemmas.Grind.{common_steps}
use Rattle.std.specs.Int.{bytes_high_first, from_be_bytes}
use Rattle.model.specs.Bytes.{big_endian, value_from, value_of}
use Rattle.codec.specs.Placed.{strewn, picked}
use Rattle.codec.proofs.Digits.{high-first}

-- the next place but k is the next but k + 1
step-more : (i k step : ℕ) → i + suc k * step ≡ i + step + k * step
step-more i k step = rw (suc-mul k step) (omega arith)

-- the next place but none is this
step-none : (i step : ℕ) → i + 0 * step ≡ i
step-none i step = rw (zero-mul step) (omega arith)

-- ---- what is strewn
-- the slice stays as long
pub strewn-length : (i step : ℕ) (bs out : List ℕ) → length (strewn i step bs out) ≡ length out
unfolding strewn
strewn-length i step [] out = refl
strewn-length i step (b ∷ bs) out = strewn-length (i + step) step bs (set out i b) ∙ length-set out i b

-- one part, and the next after it
pub strewn-append : (i step : ℕ) (bs cs out : List ℕ) → strewn (i + length bs * step) step cs (strewn i step bs out) ≡ strewn i step (bs ++ cs) out
unfolding strewn
strewn-append i step [] cs out = rw (step-none i step)
strewn-append i step (b ∷ bs) cs out = rw (step-more i (length bs) step) (strewn-append (i + step) step bs cs (set out i b))

-- no byte yet
pub strewn_none : (i step : ℕ) (out : List ℕ) → out ≡ strewn i step [] out
unfolding strewn
strewn_none i step out = refl

-- one byte more
pub strewn-more : (i step k : ℕ) (bs out o : List ℕ) → k < length bs → o ≡ strewn i step (take k bs) out → set o (i + k * step) (get_or bs k 0) ≡ strewn i step (take (k + 1) bs) out
unfolding strewn
strewn-more i step k bs out o l p =
    let m : length (take k bs) ≡ k = length-take-le k bs (omega arith) in
    rw (add-one k, take-suc bs k 0 l, p) (rw m at (strewn-append i step (take k bs) (get_or bs k 0 ∷ []) out))

-- all bytes of a number
pub strewn-word : (i step k n : ℕ) (bs out o : List ℕ) → bs ≡ bytes_high_first 8 n → 8 ≤ k → o ≡ strewn i step (take k bs) out → o ≡ strewn i step (big_endian 8 n) out
strewn-word i step k n bs out o b l p =
    let m : take k bs ≡ bs = take_all k bs (rw b l) in
    p ∙ rw (m, b, high-first 8 n) refl

-- ---- a byte of the slice that is, after the write, as in t
-- the byte written is
set-makes : (t out : List ℕ) (i b : ℕ) → b ≡ get_or t i 0 → i < length out → get_or (set out i b) i 0 ≡ get_or t i 0
set-makes t out i b e h = get_or-set_same out i b 0 h ∙ e

-- and another that was
set_keeps : (t out : List ℕ) (i b p : ℕ) → b ≡ get_or t i 0 → get_or out p 0 ≡ get_or t p 0 → get_or (set out i b) p 0 ≡ get_or t p 0
set_keeps t out i b p e h = grind (arith, common_steps)

-- the bytes bs stand in t from i on, a step apart
abbrev pub Apart : ℕ → ℕ → List ℕ → List ℕ → Type 0
Apart i step bs t = (k : ℕ) → k < length bs → get_or bs k 0 ≡ get_or t (i + k * step) 0

-- all but the first stand a step further
apart-first : (t : List ℕ) (i step b : ℕ) (bs : List ℕ) → Apart i step (b ∷ bs) t → b ≡ get_or t i 0
apart-first t i step b bs h = h 0 (omega arith) ∙ rw (step-none i step)

apart-rest : (t : List ℕ) (i step b : ℕ) (bs : List ℕ) → Apart i step (b ∷ bs) t → Apart (i + step) step bs t
apart-rest t i step b bs h k l = h (suc k) (omega arith) ∙ rw (step-more i k step)

-- a byte that was as in t is after bytes of t were strewn
pub strewn-keeps : (t : List ℕ) (i step : ℕ) (bs out : List ℕ) → Apart i step bs t → (p : ℕ) → get_or out p 0 ≡ get_or t p 0
    → get_or (strewn i step bs out) p 0 ≡ get_or t p 0
unfolding strewn
strewn-keeps t i step [] out h p e = e
strewn-keeps t i step (b ∷ bs) out h p e =
    strewn-keeps t (i + step) step bs (set out i b) (apart-rest t i step b bs h) p (set_keeps t out i b p (apart-first t i step b bs h) e)

-- and so is each of these
pub strewn-makes : (t : List ℕ) (i step : ℕ) (bs out : List ℕ) → Apart i step bs t → (k : ℕ) → k < length bs → i + k * step < length out
    → get_or (strewn i step bs out) (i + k * step) 0 ≡ get_or t (i + k * step) 0
unfolding strewn
strewn-makes t i step [] out h k l r = absurd (omega arith)
strewn-makes t i step (b ∷ bs) out h zero l r =
    let i' : i + 0 * step ≡ i = step-none i step in
    let m : i < length out = omega arith in
    rw i' (strewn-keeps t (i + step) step bs (set out i b) (apart-rest t i step b bs h) i (set-makes t out i b (apart-first t i step b bs h) m))
strewn-makes t i step (b ∷ bs) out h (suc k) l r =
    let e : i + suc k * step ≡ i + step + k * step = step-more i k step in
    rw e (strewn-makes t (i + step) step bs (set out i b) (apart-rest t i step b bs h) k (omega arith) (omega (arith, length-set out i b)))

-- ---- what is picked
-- bytes in a row of l, where they are those of bs a step apart
pub picked-row : (k : ℕ) (l : List ℕ) (m i step : ℕ) (bs : List ℕ) → m + k ≤ length l → ((j : ℕ) → j < k → get_or l (m + j) 0 ≡ get_or bs (i + j * step) 0)
    → take k (drop m l) ≡ picked k i step bs
unfolding picked
picked-row zero l m i step bs h e = refl
picked-row (suc k) l m i step bs h e =
    let first : get_or l m 0 ≡ get_or bs i 0 = let z : m + 0 ≡ m = omega arith in rw (z, step-none i step) at (e 0 (omega arith)) in
    let more : (j : ℕ) → j < k → get_or l (suc m + j) 0 ≡ get_or bs (i + step + j * step) 0 =
    λ j lt. let z : suc m + j ≡ m + suc j = omega arith in rw (z, ← step-more i j step) (e (suc j) (omega arith)) in
    rw (drop-cons l m 0 (omega arith), first) (ap (λ (r : List ℕ). get_or bs i 0 ∷ r) (picked-row k l (suc m) (i + step) step bs (omega arith) more))

-- the value of eight of them
pub word_value : (l : List ℕ) (i s : ℕ) {n : ℕ}
    → n ≡ from_be_bytes w64 (get_or l i 0 ∷ get_or l (i + s) 0 ∷ get_or l (i + 2 * s) 0 ∷ get_or l (i + 3 * s) 0 ∷ get_or l (i + 4 * s) 0 ∷ get_or l (i + 5 * s) 0 ∷ get_or l (i + 6 * s) 0 ∷ get_or l (i + 7 * s) 0 ∷ [])
    → n ≡ value_of (picked 8 i s l)
unfolding value_of value_from picked
word_value l i s h =
    let e₂ : i + s + s ≡ i + 2 * s = omega arith in
    let e₃ : i + 2 * s + s ≡ i + 3 * s = omega arith in
    let e₄ : i + 3 * s + s ≡ i + 4 * s = omega arith in
    let e₅ : i + 4 * s + s ≡ i + 5 * s = omega arith in
    let e₆ : i + 5 * s + s ≡ i + 6 * s = omega arith in
    let e₇ : i + 6 * s + s ≡ i + 7 * s = omega arith in
    rw (e₂, e₃, e₄, e₅, e₆, e₇) (h ∙ omega arith)
