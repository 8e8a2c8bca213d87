-- Painting bits of a map: what a stored word or byte does to a map's bits, and that painting one range after another paints both.
-- Assumes nothing.
use Rattle.std.proofs.Common.{replicate, ◌≡◌, ℕ, ◌+◌, ◌-◌, ◌*◌, ◌/◌, ◌%◌, ◌^◌, ◌<◌, ◌≤◌, true, false, ◌||◌, ◌⊎◌, List, length, get_or, set, sym, refl, ap}
use Rattle.std.proofs.Common.{◌∙◌, subst, inl, inr, mod-eq_of_lt, arith, length-set, get_or-set_other, get_or-set_same, eq-eqb, ne_eqb}
use mathlib.Core.Bool.{or-true, or-false}
use native.Mathlib.Decide.{ℕ_discrete}
use lib.Bits.{bit_and, bit_or, or_lt}
use Rattle.model.specs.Positions.{inside}
use Rattle.model.specs.Bytes.{bits, map_bit}
use Rattle.model.proofs.Numbers.{split}
use Rattle.model.proofs.Counting.{inside-yes, inside-below, inside-above}
use Rattle.model.proofs.Maps.{bits-bound}
use Rattle.maps.specs.Painted.{Puts, Adds, Paints}
use borrow.Rule.Slice.PartMut.{put_mid}
use Rattle.std.proofs.lemmas.List.{length-replicate, get_or-replicate}
use Rattle.maps.proofs.Octeting.{same_bits}
use Rattle.maps.proofs.Words.{part_in, part-below, part-above, part-long, bit-stays}
use Rattle.maps.proofs.Masks.{bit_of, position-bit, or-bit, Between, between-from, between-to, between-both, lit, lit-bit}

-- ---- a stored word
module _ {out out' : List ℕ} {v : ℕ} (q : ℕ) (p : Puts out out' (8 * q) 8 v) where
  -- its bits
  word-here : v < 2 ^ 64 → (b : ℕ) → b < 64 → map_bit out' (64 * q + b) ≡ bit_of v b
  word-here h b l =
      let k : 64 * q + b ≡ 8 * (8 * q) + b = omega arith in
      let e : bits (map_bit out') (8 * (8 * q)) 64 ≡ v = p.here ∙ mod-eq_of_lt h in
      ap (map_bit out') k ∙ sym (position-bit (map_bit out') (8 * (8 * q)) 64 b l) ∙ ap (λ (x : ℕ). bit_of x b) e

  -- and the others
  word-there : (i : ℕ) → (i < 64 * q) ⊎ (64 * q + 64 ≤ i) → map_bit out' i ≡ map_bit out i
  word-there i (inl h) = bit-stays out out' i (p.there (i / 8) (inl (omega arith)))
  word-there i (inr h) = bit-stays out out' i (p.there (i / 8) (inr (omega arith)))

-- a word with bits set
pub puts-adds : {out out' : List ℕ} {w v : ℕ} (q : ℕ) → w ≡ bits (map_bit out) (8 * (8 * q)) 64 → v < 2 ^ 64 → Puts out out' (8 * q) 8 (bit_or w v) → Adds out out' q v
puts-adds {out} {out'} {w} {v} q e h p = record {
  here = λ b l.
      let k : 64 * q + b ≡ 8 * (8 * q) + b = omega arith in
      let wide : w < 2 ^ 64 = rw e (bits-bound (map_bit out) (8 * (8 * q)) 64) in
      word-here q p (or_lt 64 w v wide h) b l ∙ or-bit w v b
      ∙ ap (λ t. t || bit_of v b) (ap (λ (x : ℕ). bit_of x b) e ∙ position-bit (map_bit out) (8 * (8 * q)) 64 b l ∙ sym (ap (map_bit out) k));
  there = word-there q p;
  long = p.long;
}

-- ---- painting
-- one range and then one that begins in it or at its end, and ends no earlier
pub paints-then : {m m₁ m₂ : List ℕ} {a b c d : ℕ} → Paints m m₁ a b → Paints m₁ m₂ c d → a ≤ c → c ≤ b → b ≤ d → Paints m m₂ a d
paints-then {m} {m₁} {m₂} {a} {b} {c} {d} f g x y z = record {
  here = λ i h k. go i h k (split i c);
  there = λ i s. g.there i (outer i s) ∙ f.there i (inner i s);
  long = g.long ∙ f.long;
}
  where
    go : (i : ℕ) → a ≤ i → i < d → (i < c) ⊎ (c ≤ i) → map_bit m₂ i ≡ true
    go i h k (inl l) = g.there i (inl l) ∙ f.here i h (omega arith)
    go i h k (inr l) = g.here i l k

    outer : (i : ℕ) → (i < a) ⊎ (d ≤ i) → (i < c) ⊎ (d ≤ i)
    outer i (inl l) = inl (omega arith)
    outer i (inr l) = inr l

    inner : (i : ℕ) → (i < a) ⊎ (d ≤ i) → (i < a) ⊎ (b ≤ i)
    inner i (inl l) = inl l
    inner i (inr l) = inr (omega arith)

-- the same range, told otherwise
pub paints-at : {m m' : List ℕ} {a e a' e' : ℕ} → Paints m m' a e → a ≡ a' → e ≡ e' → Paints m m' a' e'
paints-at {m} {m'} {e = e} {a' = a'} f x y = subst (λ (k : ℕ). Paints m m' a' k) y (subst (λ (k : ℕ). Paints m m' k e) x f)

-- the bits of a word that lie between two
pub adds-paints : {m m' : List ℕ} {q v lo hi : ℕ} → Adds m m' q v → Between v lo hi → hi < 64 → Paints m m' (64 * q + lo) (64 * q + hi + 1)
adds-paints {m} {m'} {q} {v} {lo} {hi} f g h = record {
  here = λ i a b.
      let l : i - 64 * q < 64 = omega arith in
      let k : i ≡ 64 * q + (i - 64 * q) = omega arith in
      ap (map_bit m') k ∙ f.here (i - 64 * q) l
      ∙ (ap (λ t. map_bit m (64 * q + (i - 64 * q)) || t) (g.bit (i - 64 * q) l ∙ inside-yes lo hi (i - 64 * q) (omega arith) (omega arith)) ∙ or-true (map_bit m (64 * q + (i - 64 * q))));
  there = λ i s. go i s (split i (64 * q)) (split i (64 * q + 64));
  long = f.long;
}
  where
    out : (i : ℕ) → 64 * q ≤ i → i < 64 * q + 64 → inside lo hi (i - 64 * q) ≡ false → map_bit m' i ≡ map_bit m i
    out i a b e =
        let l : i - 64 * q < 64 = omega arith in
        let k : i ≡ 64 * q + (i - 64 * q) = omega arith in
        ap (map_bit m') k ∙ f.here (i - 64 * q) l
        ∙ (ap (λ t. map_bit m (64 * q + (i - 64 * q)) || t) (g.bit (i - 64 * q) l ∙ e) ∙ or-false (map_bit m (64 * q + (i - 64 * q)))) ∙ sym (ap (map_bit m) k)

    go : (i : ℕ) → (i < 64 * q + lo) ⊎ (64 * q + hi + 1 ≤ i) → (i < 64 * q) ⊎ (64 * q ≤ i) → (i < 64 * q + 64) ⊎ (64 * q + 64 ≤ i) → map_bit m' i ≡ map_bit m i
    go i s (inl x) y = f.there i (inl x)
    go i s (inr x) (inr y) = f.there i (inr y)
    go i (inl s) (inr x) (inl y) = out i x y (inside-below lo hi (i - 64 * q) (omega arith))
    go i (inr s) (inr x) (inl y) = out i x y (inside-above lo hi (i - 64 * q) (omega arith))

-- ---- bytes of ones
-- a bit of one
ones-lit : (bs : List ℕ) (i : ℕ) → get_or bs (i / 8) 0 ≡ 255 → map_bit bs i ≡ true
unfolding map_bit
ones-lit bs i e =
    ap (λ (x : ℕ). bit_of x (i % 8)) (e ∙ same_bits true 0 8) ∙ position-bit (λ _. true) 0 8 (i % 8) (omega arith)

-- the words from p on, before q, filled with them
pub fill-paints : (m : List ℕ) (p q : ℕ) {n : ℕ} {ys : List ℕ} → p ≤ q → 8 * q ≤ length m → n ≡ 8 * q - 8 * p → ys ≡ replicate n 255 → Paints m (put_mid (8 * p) (8 * q - 8 * p) m ys) (64 * p) (64 * q)
fill-paints m p q {n} {ys} l h e f = record {
  here = λ i a b.
      let k : i / 8 - 8 * p < 8 * q - 8 * p = omega arith in
      let at : i / 8 ≡ 8 * p + (i / 8 - 8 * p) = omega arith in
      ones-lit new i (ap (λ j. get_or new j 0) at ∙ part_in m ys (8 * p) (8 * q - 8 * p) (omega arith) long (i / 8 - 8 * p) k
      ∙ ap (λ zs. get_or zs (i / 8 - 8 * p) 0) f ∙ get_or-replicate n (i / 8 - 8 * p) 255 0 (omega arith));
  there = λ i s. go i s;
  long = part-long m ys (8 * p) (8 * q - 8 * p) (omega arith) long;
}
  where
    new : List ℕ
    new = put_mid (8 * p) (8 * q - 8 * p) m ys

    long : length ys ≡ 8 * q - 8 * p
    long = ap length f ∙ length-replicate n 255 ∙ e

    go : (i : ℕ) → (i < 64 * p) ⊎ (64 * q ≤ i) → map_bit new i ≡ map_bit m i
    go i (inl s) = bit-stays m new i (part-below m ys (8 * p) (8 * q - 8 * p) (omega arith) long (i / 8) (omega arith))
    go i (inr s) = bit-stays m new i (part-above m ys (8 * p) (8 * q - 8 * p) (omega arith) long (i / 8) (omega arith))

-- ---- a first and a last word, and those between
-- the words between the first and the last, if there are any
pub data Middle (m m' : List ℕ) (p q : ℕ) : Type 0 where
  filled : p + 1 < q → Paints m m' (64 * (p + 1)) (64 * q) → Middle m m' p q
  empty : q ≤ p + 1 → m' ≡ m → Middle m m' p q

pub middle-some : {m m₁ m' : List ℕ} {p q : ℕ} → p + 1 < q → Paints m m₁ (64 * (p + 1)) (64 * q) → m' ≡ m₁ → Middle m m' p q
middle-some {m} {p = p} {q = q} h f x = filled h (subst (λ (l : List ℕ). Paints m l (64 * (p + 1)) (64 * q)) (sym x) f)

module _ {m m₁ m₂ m₃ : List ℕ} {a b up down first last : ℕ} (le : a ≤ b) (ups : up ≡ 2 ^ 64 - 2 ^ (a % 64)) (downs : down ≡ 2 ^ (b % 64 + 1) - 1)
    (f : Adds m m₁ (a / 64) first) (g : Middle m₁ m₂ (a / 64) (b / 64)) (h : Adds m₂ m₃ (b / 64) last) where
  -- in one word
  pub words-one : a / 64 ≡ b / 64 → first ≡ bit_and up down → last ≡ first → Paints m m₃ a (b + 1)
  words-one e x y = go g
    where
      both : Between first (a % 64) (b % 64)
      both = subst (λ (v : ℕ). Between v (a % 64) (b % 64)) (sym x) (between-both (a % 64) (b % 64) (between-from (a % 64) (omega arith) ups) (between-to (b % 64) (omega arith) downs))

      once : Paints m m₁ a (b + 1)
      once = paints-at (adds-paints f both (omega arith)) (omega arith) (omega arith)

      again : Paints m₂ m₃ a (b + 1)
      again = paints-at (adds-paints h (subst (λ (v : ℕ). Between v (a % 64) (b % 64)) (sym y) both) (omega arith)) (omega arith) (omega arith)

      go : Middle m₁ m₂ (a / 64) (b / 64) → Paints m m₃ a (b + 1)
      go (filled k s) = absurd (omega arith)
      go (empty k s) = paints-then (subst (λ (l : List ℕ). Paints m l a (b + 1)) (sym s) once) again (omega arith) (omega arith) (omega arith)

  -- in more than one
  pub words_more : (a / 64 ≡ b / 64 → ⊥) → first ≡ up → last ≡ down → Paints m m₃ a (b + 1)
  words_more ne x y = go g
    where
      begun : Paints m m₁ a (64 * (a / 64 + 1))
      begun = paints-at (adds-paints f (subst (λ (v : ℕ). Between v (a % 64) 63) (sym x) (between-from (a % 64) (omega arith) ups)) (omega arith)) (omega arith) (omega arith)

      ended : Paints m₂ m₃ (64 * (b / 64)) (b + 1)
      ended = paints-at (adds-paints h (subst (λ (v : ℕ). Between v 0 (b % 64)) (sym y) (between-to (b % 64) (omega arith) downs)) (omega arith)) (omega arith) (omega arith)

      go : Middle m₁ m₂ (a / 64) (b / 64) → Paints m m₃ a (b + 1)
      go (filled k s) =
          paints-then (paints-then begun s (omega arith) (omega arith) (omega arith)) ended (omega arith) (omega arith) (omega arith)
      go (empty k s) =
          paints-then (subst (λ (l : List ℕ). Paints m l a (64 * (a / 64 + 1))) (sym s) begun) ended (omega arith) (omega arith) (omega arith)

-- ---- a stored bit
module _ (m : List ℕ) (i : ℕ) (h : i < 8 * length m) where
  -- the map with bit i set
  abbrev lit-map : List ℕ
  lit-map = set m (i / 8) (lit (get_or m (i / 8) 0) (i % 8))

  lit-byte : get_or lit-map (i / 8) 0 ≡ lit (get_or m (i / 8) 0) (i % 8)
  lit-byte = get_or-set_same m (i / 8) (lit (get_or m (i / 8) 0) (i % 8)) 0 (omega arith)

  lit-own : map_bit lit-map i ≡ true
  unfolding map_bit
  lit-own =
      ap (λ (y : ℕ). bit_of y (i % 8)) lit-byte ∙ lit-bit (get_or m (i / 8) 0) (i % 8) (i % 8) (omega arith) (omega arith)
      ∙ (ap (λ t. bit_of (get_or m (i / 8) 0) (i % 8) || t) (eq-eqb (i % 8) (i % 8) refl) ∙ or-true (bit_of (get_or m (i / 8) 0) (i % 8)))

  -- other bits of its byte, and of other bytes
  lit-near : (z : ℕ) → z / 8 ≡ i / 8 → (z % 8 ≡ i % 8 → ⊥) → map_bit lit-map z ≡ map_bit m z
  unfolding map_bit
  lit-near z e n =
      ap (λ (j : ℕ). bit_of (get_or lit-map j 0) (z % 8)) e ∙ ap (λ (y : ℕ). bit_of y (z % 8)) lit-byte
      ∙ lit-bit (get_or m (i / 8) 0) (i % 8) (z % 8) (omega arith) (omega arith)
      ∙ (ap (λ t. bit_of (get_or m (i / 8) 0) (z % 8) || t) (ne_eqb (z % 8) (i % 8) n) ∙ or-false (bit_of (get_or m (i / 8) 0) (z % 8)))
      ∙ sym (ap (λ (j : ℕ). bit_of (get_or m j 0) (z % 8)) e)

  lit-far : (z : ℕ) → (z / 8 ≡ i / 8 → ⊥) → map_bit lit-map z ≡ map_bit m z
  unfolding map_bit
  lit-far z n = ap (λ (y : ℕ). bit_of y (z % 8)) (get_or-set_other m (i / 8) (z / 8) (lit (get_or m (i / 8) 0) (i % 8)) 0 n)

  pub bit-paints : Paints m lit-map i (i + 1)
  bit-paints = record {
    here = λ z a b. let e : z ≡ i = omega arith in ap (map_bit lit-map) e ∙ lit-own;
    there = λ z s. go z s (ℕ_discrete (z / 8) (i / 8));
    long = length-set m (i / 8) (lit (get_or m (i / 8) 0) (i % 8));
  }
    where
      go : (z : ℕ) → (z < i) ⊎ (i + 1 ≤ z) → Dec (z / 8 ≡ i / 8) → map_bit lit-map z ≡ map_bit m z
      go z (inl l) (yes e) = lit-near z e (λ k. omega arith)
      go z (inr l) (yes e) = lit-near z e (λ k. omega arith)
      go z s (no n) = lit-far z n
