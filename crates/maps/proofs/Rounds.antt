-- The bits of a run in a window, where positions may go over the end of all to 0: painting them in one piece or in two, and which places of
-- the window a run's start and end, both turned, enclose. Assumes nothing.
use Rattle.std.proofs.Common.{◌≡◌, ℕ, ◌+◌, ◌-◌, ◌%◌, ◌^◌, ◌<◌, ◌≤◌, min, Bool, true, false, ◌&&◌, ◌||◌, ltb, ◌⊎◌, List, length, sym, refl, ap}
use Rattle.std.proofs.Common.{◌∙◌, subst, inl, inr, arith, le-ltb, lt-ltb, le-leb}
use mathlib.Core.Bool.{and-false, or-true}
use borrow.Author.Tests.{lt-leb}
use Rattle.model.specs.Positions.{inside}
use Rattle.model.specs.Bytes.{map_bit}
use Rattle.model.proofs.Numbers.{split}
use Rattle.model.proofs.Counting.{inside-yes, inside-below, inside-above}
use Rattle.pool.specs.Places.{physical_of, logical_of}
use Rattle.maps.specs.Painted.{Paints, round, PaintsRun}
use Rattle.maps.specs.Window.{place_in}

-- ---- what is in a run that may go round
-- one that does not
straight-yes : (f l i : ℕ) → f ≤ i → i ≤ l → round f l i ≡ true
unfolding round
straight-yes f l i h k = rw (le-leb f l (omega arith), inside-yes f l i h k)

straight-below : (f l i : ℕ) → f ≤ l → i < f → round f l i ≡ false
unfolding round
straight-below f l i h k = rw (le-leb f l h, inside-below f l i k)

straight-above : (f l i : ℕ) → f ≤ l → l < i → round f l i ≡ false
unfolding round
straight-above f l i h k = rw (le-leb f l h, inside-above f l i k)

-- one that does
round-high : (f l i : ℕ) → l < f → f ≤ i → round f l i ≡ true
unfolding round
round-high f l i h k = rw (lt-leb f l h, le-leb f i k)

round-low : (f l i : ℕ) → l < f → i ≤ l → round f l i ≡ true
unfolding round
round-low f l i h k = rw (lt-leb f l h, le-leb i l k, or-true)

round-between : (f l i : ℕ) → l < i → i < f → round f l i ≡ false
unfolding round
round-between f l i h k = rw (lt-leb f l (omega arith), lt-leb f i k, lt-leb i l h)

-- ---- painting it
-- a bit of the run, one of the window that is not in it, and one behind the window
run_in : (m : List ℕ) (n f l i : ℕ) {b : Bool} → i < n → round f l i ≡ true → b ≡ true → b ≡ ((ltb i n && round f l i) || map_bit m i)
run_in m n f l i h e x = x ∙ sym (rw (lt-ltb i n h, e))

run_out : (m : List ℕ) (n f l i : ℕ) {b : Bool} → round f l i ≡ false → b ≡ map_bit m i → b ≡ ((ltb i n && round f l i) || map_bit m i)
run_out m n f l i e x = x ∙ sym (rw (e, and-false))

run-behind : (m : List ℕ) (n f l i : ℕ) {b : Bool} → n ≤ i → b ≡ map_bit m i → b ≡ ((ltb i n && round f l i) || map_bit m i)
run-behind m n f l i h x = x ∙ sym (rw (le-ltb i n h))

-- in one piece
pub run-straight : {m m' : List ℕ} {n f l e : ℕ} → f < n → f ≤ l → e ≡ min l (n - 1) → Paints m m' f (e + 1) → PaintsRun m m' n f l
run-straight {m} {m'} {n} {f} {l} {e} h k x p = record { bits_are = λ i. go i (split i f) (split l i) (split i n); long = p.long }
  where
    go : (i : ℕ) → (i < f) ⊎ (f ≤ i) → (l < i) ⊎ (i ≤ l) → (i < n) ⊎ (n ≤ i) → map_bit m' i ≡ ((ltb i n && round f l i) || map_bit m i)
    go i (inl a) b c = run_out m n f l i (straight-below f l i k a) (p.there i (inl a))
    go i (inr a) (inl b) c = run_out m n f l i (straight-above f l i k b) (p.there i (inr (omega arith)))
    go i (inr a) (inr b) (inl c) = run_in m n f l i c (straight-yes f l i a b) (p.here i a (omega arith))
    go i (inr a) (inr b) (inr c) = run-behind m n f l i c (p.there i (inr (omega arith)))

-- none of the run is in the window
pub run_none : {m m' : List ℕ} {n f l : ℕ} → n ≤ f → f ≤ l → m' ≡ m → PaintsRun m m' n f l
run_none {m} {m'} {n} {f} {l} h k x = record { bits_are = λ i. go i (split i n); long = ap length x }
  where
    go : (i : ℕ) → (i < n) ⊎ (n ≤ i) → map_bit m' i ≡ ((ltb i n && round f l i) || map_bit m i)
    go i (inl a) = run_out m n f l i (straight-below f l i k (omega arith)) (ap (λ (b : List ℕ). map_bit b i) x)
    go i (inr a) = run-behind m n f l i a (ap (λ (b : List ℕ). map_bit b i) x)

-- the upper piece: from f to the end of the window, if f is in it
pub data Upper (m m' : List ℕ) (n f : ℕ) : Type 0 where
  some : f < n → Paints m m' f (n - 1 + 1) → Upper m m' n f
  none : n ≤ f → m' ≡ m → Upper m m' n f

pub upper_long : {m m' : List ℕ} {n f : ℕ} → Upper m m' n f → length m' ≡ length m
upper_long (some h p) = p.long
upper_long (none h x) = ap length x

pub upper-some : {m m₁ m' : List ℕ} {n f : ℕ} → f < n → Paints m m₁ f (n - 1 + 1) → m' ≡ m₁ → Upper m m' n f
upper-some {m} {n = n} {f = f} h p x = some h (subst (λ (k : List ℕ). Paints m k f (n - 1 + 1)) (sym x) p)

upper_in : {m m' : List ℕ} {n f : ℕ} → Upper m m' n f → (i : ℕ) → f ≤ i → i < n → map_bit m' i ≡ true
upper_in (some h p) i a b = p.here i a (omega arith)
upper_in (none h x) i a b = absurd (omega arith)

upper-out : {m m' : List ℕ} {n f : ℕ} → Upper m m' n f → (i : ℕ) → (i < f) ⊎ (n ≤ i) → map_bit m' i ≡ map_bit m i
upper-out (some h p) i (inl a) = p.there i (inl a)
upper-out (some h p) i (inr a) = p.there i (inr (omega arith))
upper-out (none h x) i s = ap (λ (b : List ℕ). map_bit b i) x

-- in two pieces
pub run-round : {m m₁ m₂ : List ℕ} {n f l e : ℕ} → l < f → e ≡ min l (n - 1) → 1 ≤ n → Upper m m₁ n f → Paints m₁ m₂ 0 (e + 1) → PaintsRun m m₂ n f l
run-round {m} {m₁} {m₂} {n} {f} {l} {e} h x s u p = record { bits_are = λ i. go i (split l i) (split i f) (split i n); long = p.long ∙ upper_long u }
  where
    go : (i : ℕ) → (l < i) ⊎ (i ≤ l) → (i < f) ⊎ (f ≤ i) → (i < n) ⊎ (n ≤ i) → map_bit m₂ i ≡ ((ltb i n && round f l i) || map_bit m i)
    go i a b (inr c) = run-behind m n f l i c (p.there i (inr (omega arith)) ∙ upper-out u i (inr c))
    go i (inr a) b (inl c) = run_in m n f l i c (round-low f l i h a) (p.here i (omega arith) (omega arith))
    go i (inl a) (inr b) (inl c) = run_in m n f l i c (round-high f l i h b) (p.there i (inr (omega arith)) ∙ upper_in u i b c)
    go i (inl a) (inl b) (inl c) = run_out m n f l i (round-between f l i a b) (p.there i (inr (omega arith)) ∙ upper-out u i (inl b))

-- ---- turning it
-- over total positions: x + t is y, or goes round to it
abbrev Turns : ℕ → ℕ → ℕ → ℕ → Type 0
Turns total t x y = (x + t ≡ y) ⊎ (x + t ≡ y + total)

module _ (total t a b x f l i : ℕ) (order : a ≤ b) (small : b < total) (turn : t < total) (xs : x < total) (fs : f < total) (ls : l < total) (is : i < total) where
  turn_in : a ≤ x → x ≤ b → Turns total t a f → Turns total t b l → Turns total t x i → round f l i ≡ true
  turn_in h k (inl p) (inl q) (inl r) = straight-yes f l i (omega arith) (omega arith)
  turn_in h k (inl p) (inl q) (inr r) = absurd (omega arith)
  turn_in h k (inl p) (inr q) (inl r) = round-high f l i (omega arith) (omega arith)
  turn_in h k (inl p) (inr q) (inr r) = round-low f l i (omega arith) (omega arith)
  turn_in h k (inr p) (inl q) r = absurd (omega arith)
  turn_in h k (inr p) (inr q) (inl r) = absurd (omega arith)
  turn_in h k (inr p) (inr q) (inr r) = straight-yes f l i (omega arith) (omega arith)

  turn_below : x < a → Turns total t a f → Turns total t b l → Turns total t x i → round f l i ≡ false
  turn_below h (inl p) (inl q) (inl r) = straight-below f l i (omega arith) (omega arith)
  turn_below h (inl p) (inl q) (inr r) = absurd (omega arith)
  turn_below h (inl p) (inr q) (inl r) = round-between f l i (omega arith) (omega arith)
  turn_below h (inl p) (inr q) (inr r) = absurd (omega arith)
  turn_below h (inr p) (inl q) r = absurd (omega arith)
  turn_below h (inr p) (inr q) (inl r) = straight-above f l i (omega arith) (omega arith)
  turn_below h (inr p) (inr q) (inr r) = straight-below f l i (omega arith) (omega arith)

  turn-above : b < x → Turns total t a f → Turns total t b l → Turns total t x i → round f l i ≡ false
  turn-above h (inl p) (inl q) (inl r) = straight-above f l i (omega arith) (omega arith)
  turn-above h (inl p) (inl q) (inr r) = straight-below f l i (omega arith) (omega arith)
  turn-above h (inl p) (inr q) (inl r) = absurd (omega arith)
  turn-above h (inl p) (inr q) (inr r) = round-between f l i (omega arith) (omega arith)
  turn-above h (inr p) (inl q) r = absurd (omega arith)
  turn-above h (inr p) (inr q) (inl r) = absurd (omega arith)
  turn-above h (inr p) (inr q) (inr r) = straight-above f l i (omega arith) (omega arith)

  -- a position is in a run where its place is in the places of the run
  turn-all : Turns total t a f → Turns total t b l → Turns total t x i → inside a b x ≡ round f l i
  turn-all p q r = go (split x a) (split b x)
    where
      go : (x < a) ⊎ (a ≤ x) → (b < x) ⊎ (x ≤ b) → inside a b x ≡ round f l i
      go (inl h) k = inside-below a b x h ∙ sym (turn_below h p q r)
      go (inr h) (inl k) = inside-above a b x k ∙ sym (turn-above k p q r)
      go (inr h) (inr k) = inside-yes a b x h k ∙ sym (turn_in h k p q r)

-- sums modulo 2^64 turn
turns-mod : (t x y : ℕ) → t < 2 ^ 64 → x < 2 ^ 64 → y ≡ (x + t) % 2 ^ 64 → Turns (2 ^ 64) t x y
turns-mod t x y h k e = go (split (x + t) (2 ^ 64))
  where
    go : (x + t < 2 ^ 64) ⊎ (2 ^ 64 ≤ x + t) → Turns (2 ^ 64) t x y
    go (inl l) = inl (omega arith)
    go (inr l) = inr (omega arith)

-- where a window's place i is kept
turns-place : (t o base i x : ℕ) → t < 2 ^ 64 → base + i < 2 ^ 64 → (t + base) % 2 ^ 64 ≡ o → x ≡ (base + i + 2 ^ 64 - o) % 2 ^ 64 → Turns (2 ^ 64) t x i
turns-place t o base i x h k e q = go (split (t + base) (2 ^ 64)) (split i t)
  where
    go : (t + base < 2 ^ 64) ⊎ (2 ^ 64 ≤ t + base) → (i < t) ⊎ (t ≤ i) → Turns (2 ^ 64) t x i
    go (inl l) (inl m) = let z : o ≡ t + base = omega arith in inr (omega arith)
    go (inl l) (inr m) = let z : o ≡ t + base = omega arith in inl (omega arith)
    go (inr l) (inl m) = let z : o + 2 ^ 64 ≡ t + base = omega arith in inr (omega arith)
    go (inr l) (inr m) = let z : o + 2 ^ 64 ≡ t + base = omega arith in inl (omega arith)

-- so a run is seen in a window where the places of its ends say
pub turned-inside : (o base n a b f l : ℕ) → o < 2 ^ 64 → base + n ≤ 2 ^ 64 → a ≤ b → b < 2 ^ 64
    → f ≡ place_in base (logical_of a o) → l ≡ place_in base (logical_of b o) → (i : ℕ) → i < n
    → inside a b (physical_of (base + i) o) ≡ round f l i
turned-inside o base n a b f l h w c d p q i k = go ((o + 2 ^ 64 - base) % 2 ^ 64) refl
  where
    go : (t : ℕ) → t ≡ (o + 2 ^ 64 - base) % 2 ^ 64 → inside a b (physical_of (base + i) o) ≡ round f l i
    go t e =
        let s : t < 2 ^ 64 = omega arith in
        turn-all (2 ^ 64) t a b (physical_of (base + i) o) f l i c d s (omega arith) (omega arith) (omega arith) (omega arith)
        (turns-mod t a f s (omega arith) (omega arith)) (turns-mod t b l s d (omega arith))
        (turns-place t o base i (physical_of (base + i) o) s (omega arith) (omega arith) refl)
