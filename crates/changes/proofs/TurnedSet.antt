-- Giving physical positions a value is giving logical ones the value: a range that does not pass physical M is one range on both
-- sides, and one that passes it is two such ranges, side by side logically. Assumes nothing.
use Rattle.std.proofs.Common.{◌≡◌, ℕ, suc, ◌+◌, ◌-◌, ◌<◌, ◌≤◌, Bool, cond, ◌⊎◌, sym, ap, ◌∙◌, subst, ap₂, inl, inr, arith}
use Rattle.model.specs.Numbers.{size}
use Rattle.model.proofs.Numbers.{split}
use Rattle.model.specs.Positions.{Positions, among, set_range}
use Rattle.model.proofs.Counting.{among-yes, among_below, among-above}
use Rattle.model.proofs.After.{set-inside, set_below, set-above}
use Rattle.pool.specs.Places.{physical_of}
use Rattle.pool.specs.Layout.{turned}
use Rattle.pool.proofs.Turn.{Lies, turned-at, whole-fits, whole_length, parted-length, parted-middle}

-- sets that agree below 2^64 agree when turned
pub turned-cong : (o : ℕ) (Q R : Positions) → ((y : ℕ) → y < size → Q y ≡ R y) → (x : ℕ) → x < size → turned o Q x ≡ turned o R x
turned-cong o Q R f x h = turned-at o Q x h ∙ f (physical_of x o) (omega arith) ∙ sym (turned-at o R x h)

-- a range beside another of the same value: one range
pub set-join : (a m b k n : ℕ) (v : Bool) (P : Positions) → b ≡ a + m → n ≡ m + k → (x : ℕ) → set_range b k v (set_range a m v P) x ≡ set_range a n v P x
set-join a m b k n v P e f x = go (split x a) (split x b) (split x (a + n))
  where
    go : (x < a) ⊎ (a ≤ x) → (x < b) ⊎ (b ≤ x) → (x < a + n) ⊎ (a + n ≤ x) → set_range b k v (set_range a m v P) x ≡ set_range a n v P x
    go (inl l) q r = set_below b k v (set_range a m v P) x (omega arith) ∙ set_below a m v P x l ∙ sym (set_below a n v P x l)
    go (inr l) (inl q) r =
        set_below b k v (set_range a m v P) x q ∙ set-inside a m v P x l (omega arith) ∙ sym (set-inside a n v P x l (omega arith))
    go (inr l) (inr q) (inl r) = set-inside b k v (set_range a m v P) x q (omega arith) ∙ sym (set-inside a n v P x l r)
    go (inr l) (inr q) (inr r) =
        set-above b k v (set_range a m v P) x (omega arith) ∙ set-above a m v P x (omega arith) ∙ sym (set-above a n v P x r)

-- p is the physical position of x, without a remainder
abbrev Physical : ℕ → ℕ → ℕ → Type 0
Physical o x p = ((o ≤ x) × (p + o ≡ x)) ⊎ ((x < o) × (p + o ≡ x + size))

-- each position has one
physical-of : (o x : ℕ) → x < size → o < size → Physical o x (physical_of x o)
physical-of o x h k = go (split x o)
  where
    go : (x < o) ⊎ (o ≤ x) → Physical o x (physical_of x o)
    go (inl l) = inr (l, omega arith)
    go (inr l) = inl (l, omega arith)

-- x lies in a range as p does in one that begins as far from it
among_same : (a n x s p : ℕ) → x + s ≡ p + a → among s n p ≡ among a n x
among_same a n x s p e = go (split x a) (split x (a + n))
  where
    go : (x < a) ⊎ (a ≤ x) → (x < a + n) ⊎ (a + n ≤ x) → among s n p ≡ among a n x
    go (inl l) u = among_below s n p (omega arith) ∙ sym (among_below a n x l)
    go (inr l) (inl u) = among-yes s n p (omega arith) (omega arith) ∙ sym (among-yes a n x l u)
    go (inr l) (inr u) = among-above s n p (omega arith) ∙ sym (among-above a n x u)

-- x is in a logical range where its physical position is in the physical one
among-physical : (o a n s x p : ℕ) → Physical o a s → Physical o x p → 0 < n → a + n ≤ size → s + n ≤ size → x < size → among s n p ≡ among a n x
among-physical o a n s x p (inl (l, e)) (inl (u, f)) k h t g = among_same a n x s p (omega arith)
among-physical o a n s x p (inr (l, e)) (inr (u, f)) k h t g = among_same a n x s p (omega arith)
among-physical o a n s x p (inl (l, e)) (inr (u, f)) k h t g = among-above s n p (omega arith) ∙ sym (among_below a n x (omega arith))
among-physical o a n s x p (inr (l, e)) (inl (u, f)) k h t g = among_below s n p (omega arith) ∙ sym (among-above a n x (omega arith))

module _ {o a n s e : ℕ} (lies : Lies o a n s e) where
  -- the same of a whole range
  whole-among : s ≤ e → (x : ℕ) → x < size → among s n (physical_of x o) ≡ among a n x
  whole-among h x k =
      among-physical o a n s x (physical_of x o) (subst (Physical o a) (sym lies.first-at) (physical-of o a (omega arith) lies.small)) (physical-of o x k lies.small) lies.some
      lies.fits (whole-fits lies h) k

  -- a whole range, by its length
  set-moved : s ≤ e → (v : Bool) (Q : Positions) (x : ℕ) → x < size → turned o (set_range s n v Q) x ≡ set_range a n v (turned o Q) x
  unfolding set_range
  set-moved h v Q x k =
      turned-at o (set_range s n v Q) x k ∙ ap₂ (λ t b. cond t v b) (whole-among h x k) (sym (turned-at o Q x k))

-- the parts of a parted range, each whole: the first one
first_part : {o a n s e : ℕ} → Lies o a n s e → e < s → Lies o a (size - s) s (size - 1)
first_part lies h = record { some = omega arith; fits = omega arith; small = lies.small; first-at = lies.first-at; last-at = omega arith }

-- logical positions from o on are kept from 0 on
from-offset : (o e : ℕ) → o + suc e ≤ size → Lies o o (suc e) 0 e
from-offset o e h = record { some = omega arith; fits = h; small = omega arith; first-at = omega arith; last-at = omega arith }

-- the second one
second-part : {o a n s e : ℕ} → Lies o a n s e → e < s → Lies o o (suc e) 0 e
second-part {o} {a} {n} {s} {e} lies h = from-offset o e (omega (arith, parted-middle lies h, parted-length lies h))

module _ {o a n s e : ℕ} (lies : Lies o a n s e) (v : Bool) (Q : Positions) (x : ℕ) (small : x < size) where
  -- a whole range
  pub turned-set-whole : s ≤ e → turned o (set_range s (suc e - s) v Q) x ≡ set_range a n v (turned o Q) x
  turned-set-whole h = ap (λ k. turned o (set_range s k v Q) x) (sym (whole_length lies h)) ∙ set-moved lies h v Q x small

  -- the first part of a parted range
  pub turned-set-first : e < s → turned o (set_range s (size - s) v Q) x ≡ set_range a (size - s) v (turned o Q) x
  turned-set-first h = set-moved (first_part lies h) (omega arith) v Q x small

  -- both of its parts
  pub turned-set-parted : e < s → turned o (set_range 0 (suc e) v (set_range s (size - s) v Q)) x ≡ set_range a n v (turned o Q) x
  unfolding set_range
  turned-set-parted h =
      set-moved (second-part lies h) (omega arith) v (set_range s (size - s) v Q) x small
      ∙ ap (λ b. cond (among o (suc e) x) v b) (turned-set-first h)
      ∙ set-join a (size - s) o (suc e) n v (turned o Q) (sym (parted-middle lies h)) (omega (arith, parted-length lies h)) x
