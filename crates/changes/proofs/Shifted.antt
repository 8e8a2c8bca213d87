-- A shift that drops nothing is a turn by the distance, so a world shifts by changing its offset. What it drops, it does not look at.
-- The runs of what is left are moved by the distance: as many, the first and the last position too. So no shift adds a run. Assumes nothing.
use Rattle.std.proofs.Common.{◌≡◌, ℕ, ◌+◌, ◌-◌, ◌*◌, ◌/◌, ◌%◌, ◌<◌, ◌≤◌, Bool, true, false, ◌&&◌, ltb, leb, ◌⊎◌, List, [], ◌∷◌, length, sym, refl}
use Rattle.std.proofs.Common.{ap, ◌∙◌, inl, inr, arith, le-ltb, lt-ltb, le-leb}
use mathlib.Core.Bool.{beq, and-false}
use borrow.Author.Tests.{lt-leb}
use Rattle.model.specs.declared.Run.{Run}
use Rattle.model.specs.Numbers.{size}
use Rattle.model.proofs.Numbers.{split}
use Rattle.model.specs.Positions.{Positions, among, runs_in, held_runs, stretches, last_after, set_range, shift_left, shift_right, shift_by, mem}
use Rattle.model.proofs.Counting.{among-yes, among_below, among-above, beq-true}
use Rattle.model.proofs.Runs.{runs_in-canon, runs_in-mem, held_runs-is, mem-held_runs}
use Rattle.model.proofs.RunList.{canon-weaken}
use Rattle.model.proofs.After.{set-inside, set_below, set-above}
use Rattle.pool.specs.Places.{physical_of, logical_of}
use Rattle.pool.specs.Layout.{turned}
use Rattle.pool.specs.Soundness.{first_of, last_of}
use Rattle.pool.proofs.Ends.{clash, empty-mem}
use Rattle.model.proofs.Moved.{Alike, move, move_run, move_runs, moved_length, runs_in-moved}
use Rattle.pool.proofs.Turn.{turned-at}
use Rattle.changes.proofs.SetRuns.{clear-top, clear-bottom}

-- ---- what a shift puts at x
-- up: what was d below it
pub left_at : (d : ℕ) (P : Positions) (x : ℕ) → d ≤ x → shift_left d P x ≡ P (x - d)
unfolding shift_left
left_at d P x h = ap (λ t. t && P (x - d)) (le-leb d x h)

-- or nothing
left-under : (d : ℕ) (P : Positions) (x : ℕ) → x < d → shift_left d P x ≡ false
unfolding shift_left
left-under d P x h = ap (λ t. t && P (x - d)) (lt-leb d x h)

-- down: what was d above it
pub right-at : (d : ℕ) (P : Positions) (x : ℕ) → x + d < size → shift_right d P x ≡ P (x + d)
unfolding shift_right
right-at d P x h = ap (λ t. t && P (x + d)) (lt-ltb (x + d) size h)

-- or nothing
right-over : (d : ℕ) (P : Positions) (x : ℕ) → size ≤ x + d → shift_right d P x ≡ false
unfolding shift_right
right-over d P x h = ap (λ t. t && P (x + d)) (le-ltb (x + d) size h)

-- ---- a shift looks only at what it does not drop
-- up
pub left-cong : (d : ℕ) (P R : Positions) → ((y : ℕ) → y + d < size → P y ≡ R y) → (x : ℕ) → x < size → shift_left d P x ≡ shift_left d R x
left-cong d P R f x h = go (split x d)
  where
    go : (x < d) ⊎ (d ≤ x) → shift_left d P x ≡ shift_left d R x
    go (inl l) = left-under d P x l ∙ sym (left-under d R x l)
    go (inr l) = left_at d P x l ∙ f (x - d) (omega arith) ∙ sym (left_at d R x l)

-- down
pub right-cong : (d : ℕ) (P R : Positions) → ((y : ℕ) → d ≤ y → y < size → P y ≡ R y) → (x : ℕ) → shift_right d P x ≡ shift_right d R x
right-cong d P R f x = go (split (x + d) size)
  where
    go : (x + d < size) ⊎ (size ≤ x + d) → shift_right d P x ≡ shift_right d R x
    go (inl l) = right-at d P x l ∙ f (x + d) (omega arith) l ∙ sym (right-at d R x l)
    go (inr l) = right-over d P x l ∙ sym (right-over d R x l)

-- so where it drops all that is held, nothing is left: up
pub left-nothing : (d : ℕ) (P : Positions) → ((y : ℕ) → y + d < size → P y ≡ false) → (x : ℕ) → x < size → shift_left d P x ≡ false
unfolding shift_left
left-nothing d P f x h = left-cong d P (λ y. false) f x h ∙ and-false (leb d x)

-- down
pub right-nothing : (d : ℕ) (P : Positions) → ((y : ℕ) → d ≤ y → y < size → P y ≡ false) → (x : ℕ) → shift_right d P x ≡ false
unfolding shift_right
right-nothing d P f x = right-cong d P (λ y. false) f x ∙ and-false (ltb (x + d) size)

-- ---- a shift that drops nothing is a turn
-- a physical position plus the offset is the logical one, up to rounds of all positions
rounds : (x o : ℕ) → x < size → o < size → (i : ℕ) × (physical_of x o + o ≡ x + i * size)
rounds x o h k = go (split x o)
  where
    go : (x < o) ⊎ (o ≤ x) → (i : ℕ) × (physical_of x o + o ≡ x + i * size)
    go (inl l) = (1, omega arith)
    go (inr l) = (0, omega arith)

-- positions that are equal up to rounds are equal
rounds-same : (o d x q p r s i j k m : ℕ) → r < size → s < size → o + d ≡ q + k * size → r + q ≡ x + i * size → p + d ≡ x + j * size → s + o ≡ p + m * size → r ≡ s
rounds-same o d x q p r s i j k m h l a b c e = omega arith

-- two turns are one
further : (o d x : ℕ) → o < size → d < size → x < size → physical_of x (logical_of o d) ≡ physical_of (physical_of x d) o
further o d x h k l = go (rounds x (logical_of o d) l (omega arith)) (rounds x d l k) (rounds (physical_of x d) o (omega arith) h)
  where
    below : (y : ℕ) → y % size < size
    below y = omega arith

    parts : (y : ℕ) → y ≡ y % size + y / size * size
    parts y = omega arith

    go : (i : ℕ) × (physical_of x (logical_of o d) + logical_of o d ≡ x + i * size) → (j : ℕ) × (physical_of x d + d ≡ x + j * size)
        → (m : ℕ) × (physical_of (physical_of x d) o + o ≡ physical_of x d + m * size) → physical_of x (logical_of o d) ≡ physical_of (physical_of x d) o
    go (i, a) (j, b) (m, c) =
        rounds-same o d x (logical_of o d) (physical_of x d) (physical_of x (logical_of o d)) (physical_of (physical_of x d) o) i j ((o + d) / size) m (below (x + size - logical_of o d))
        (below (physical_of x d + size - o)) (parts (o + d)) a b c

-- the offset plus d, modulo 2^64, turns by d
pub turned-further : (o d : ℕ) (Q : Positions) (x : ℕ) → o < size → d < size → x < size → turned (logical_of o d) Q x ≡ turned d (turned o Q) x
turned-further o d Q x h k l =
    turned-at (logical_of o d) Q x l ∙ ap Q (further o d x h k l) ∙ sym (turned-at d (turned o Q) x l ∙ turned-at o Q (physical_of x d) (omega arith))

-- a turn by d is a shift up if nothing is held in the upper d
turned_left : (d : ℕ) (P : Positions) (x : ℕ) → d < size → x < size → ((y : ℕ) → size - d ≤ y → y < size → P y ≡ false) → turned d P x ≡ shift_left d P x
turned_left d P x k l f = turned-at d P x l ∙ go (split x d)
  where
    go : (x < d) ⊎ (d ≤ x) → P (physical_of x d) ≡ shift_left d P x
    go (inl h) = f (physical_of x d) (omega arith) (omega arith) ∙ sym (left-under d P x h)
    go (inr h) = ap P (omega arith) ∙ sym (left_at d P x h)

-- a turn by 2^64 - d is a shift down if nothing is held in the lower d
turned_right : (d : ℕ) (P : Positions) (x : ℕ) → 1 ≤ d → d < size → x < size → ((y : ℕ) → y < d → P y ≡ false) → turned (size - d) P x ≡ shift_right d P x
turned_right d P x j k l f = turned-at (size - d) P x l ∙ go (split (x + d) size)
  where
    go : (x + d < size) ⊎ (size ≤ x + d) → P (physical_of x (size - d)) ≡ shift_right d P x
    go (inl h) = ap P (omega arith) ∙ sym (right-at d P x h)
    go (inr h) = f (physical_of x (size - d)) (omega arith) ∙ sym (right-over d P x h)

module _ (o d : ℕ) (Q : Positions) (small : o < size) (some : 1 ≤ d) (fits : d < size) where
  -- up
  pub shifted-left : ((y : ℕ) → size - d ≤ y → y < size → turned o Q y ≡ false)
      → (x : ℕ) → x < size → turned (logical_of o d) Q x ≡ shift_left d (turned o Q) x
  shifted-left f x h = turned-further o d Q x small fits h ∙ turned_left d (turned o Q) x fits h f

  -- down
  pub shifted-right : ((y : ℕ) → y < d → turned o Q y ≡ false)
      → (x : ℕ) → x < size → turned (physical_of o d) Q x ≡ shift_right d (turned o Q) x
  shifted-right f x h =
      let q : o + size - d ≡ o + (size - d) = omega arith in
      ap (λ k. turned (k % size) Q x) q ∙ turned-further o (size - d) Q x small (omega arith) h ∙ turned_right d (turned o Q) x some fits h f

-- ---- runs
-- where nothing is held outside of a range, all runs are those in the range
runs-confined : (P : Positions) (a n : ℕ) → a + n ≤ size → ((x : ℕ) → x < a → P x ≡ false) → ((x : ℕ) → a + n ≤ x → x < size → P x ≡ false)
    → held_runs P ≡ runs_in P true a n
runs-confined P a n t under over =
    held_runs-is P (runs_in P true a n) (canon-weaken size a 0 (runs_in P true a n) (omega arith) (runs_in-canon P true size a n t))
    (λ x h. runs_in-mem P true a n x ∙ go x h (split x a) (split x (a + n)))
  where
    go : (x : ℕ) → x < size → (x < a) ⊎ (a ≤ x) → (x < a + n) ⊎ (a + n ≤ x) → (among a n x && beq (P x) true) ≡ P x
    go x h (inl l) u = ap (λ t. t && beq (P x) true) (among_below a n x l) ∙ sym (under x l)
    go x h (inr l) (inl u) = ap (λ t. t && beq (P x) true) (among-yes a n x l u) ∙ beq-true (P x)
    go x h (inr l) (inr u) = ap (λ t. t && beq (P x) true) (among-above a n x u) ∙ sym (over x u h)

-- the first position of moved runs
moved-first_of : (b a : ℕ) (rs : List Run) (x : ℕ) → mem rs x ≡ true → first_of (move_runs b a rs) ≡ move b a (first_of rs)
unfolding move_runs
moved-first_of b a [] x e = clash e (empty-mem x)
moved-first_of b a (r ∷ rs) x e = refl

-- the last one
moved-last_of : (b a : ℕ) (rs : List Run) (x : ℕ) → mem rs x ≡ true → last_of (move_runs b a rs) ≡ move b a (last_of rs)
unfolding move_runs
moved-last_of b a [] x e = clash e (empty-mem x)
moved-last_of b a (r ∷ rs) x e = go r rs
  where
    go : (r : Run) (rs : List Run) → (last_after (move_run b a r) (move_runs b a rs)).«end» ≡ move b a (last_after r rs).«end»
    go r [] = refl
    go r (s ∷ rs) = go s rs

-- R holds, from a on, what P holds from b on, n positions, and neither holds anything else
record Slid (P R : Positions) (b a n : ℕ) : Type 0 where
  from-fits : b + n ≤ size
  to-fits : a + n ≤ size
  from-under : (x : ℕ) → x < b → P x ≡ false
  from-over : (x : ℕ) → b + n ≤ x → x < size → P x ≡ false
  to-under : (x : ℕ) → x < a → R x ≡ false
  to-over : (x : ℕ) → a + n ≤ x → x < size → R x ≡ false
  alike : Alike R P a b n

module _ {P R : Positions} {b a n : ℕ} (slid : Slid P R b a n) where
  -- its runs are moved
  slid-runs : held_runs R ≡ move_runs b a (held_runs P)
  slid-runs =
      runs-confined R a n slid.to-fits slid.to-under slid.to-over ∙ runs_in-moved R P true a b n slid.alike
      ∙ ap (move_runs b a) (sym (runs-confined P b n slid.from-fits slid.from-under slid.from-over))

  -- they are as many
  slid-stretches : stretches R ≡ stretches P
  unfolding stretches
  slid-stretches = ap length slid-runs ∙ moved_length b a (held_runs P)

  module _ (x : ℕ) (h : x < size) (held : P x ≡ true) where
    -- the first position is moved
    slid-first : first_of (held_runs R) ≡ move b a (first_of (held_runs P))
    slid-first = ap first_of slid-runs ∙ moved-first_of b a (held_runs P) x (mem-held_runs P x h ∙ held)

    -- and the last one
    slid-last : last_of (held_runs R) ≡ move b a (last_of (held_runs P))
    slid-last = ap last_of slid-runs ∙ moved-last_of b a (held_runs P) x (mem-held_runs P x h ∙ held)

-- ---- up, by d, with nothing held in the upper d: R is P shifted
module _ (d : ℕ) (P R : Positions) (fits : d < size) (top : (y : ℕ) → size - d ≤ y → y < size → P y ≡ false)
    (agrees : (y : ℕ) → y < size → R y ≡ shift_left d P y) where
  -- what is held is moved from 0 to d
  slid-up : Slid P R 0 d (size - d)
  slid-up = record {
    from-fits = omega arith;
    to-fits = omega arith;
    from-under = λ x l. absurd (omega arith);
    from-over = λ x l u. top x (omega arith) u;
    to-under = λ x l. agrees x (omega arith) ∙ left-under d P x l;
    to-over = λ x l u. absurd (omega arith);
    alike = λ i l. agrees (d + i) (omega arith) ∙ left_at d P (d + i) (omega arith) ∙ ap P (omega arith);
  }

  -- as many runs
  pub left-stretches : stretches R ≡ stretches P
  left-stretches = slid-stretches slid-up

  -- the first position, d higher
  pub left-first : (x : ℕ) → x < size → P x ≡ true → first_of (held_runs R) ≡ first_of (held_runs P) + d
  left-first x h e = slid-first slid-up x h e ∙ omega arith

  -- the last one
  pub left-last : (x : ℕ) → x < size → P x ≡ true → last_of (held_runs R) ≡ last_of (held_runs P) + d
  left-last x h e = slid-last slid-up x h e ∙ omega arith

-- ---- down, by d, with nothing held in the lower d: R is P shifted
module _ (d : ℕ) (P R : Positions) (fits : d < size) (bottom : (y : ℕ) → y < d → P y ≡ false)
    (agrees : (y : ℕ) → y < size → R y ≡ shift_right d P y) where
  -- what is held is moved from d to 0
  slid-down : Slid P R d 0 (size - d)
  slid-down = record {
    from-fits = omega arith;
    to-fits = omega arith;
    from-under = bottom;
    from-over = λ x l u. absurd (omega arith);
    to-under = λ x l. absurd (omega arith);
    to-over = λ x l u. agrees x u ∙ right-over d P x (omega arith);
    alike = λ i l. agrees (0 + i) (omega arith) ∙ right-at d P (0 + i) (omega arith) ∙ ap P (omega arith);
  }

  -- as many runs
  pub right-stretches : stretches R ≡ stretches P
  right-stretches = slid-stretches slid-down

  -- the first position, d lower
  pub right-first : (x : ℕ) → x < size → P x ≡ true → first_of (held_runs R) ≡ first_of (held_runs P) - d
  right-first x h e = slid-first slid-down x h e ∙ omega arith

  -- the last one
  pub right-last : (x : ℕ) → x < size → P x ≡ true → last_of (held_runs R) ≡ last_of (held_runs P) - d
  right-last x h e = slid-last slid-down x h e ∙ omega arith

-- ---- any set
-- up: as many runs as without what leaves
left-few : (d : ℕ) (P : Positions) → d < size → stretches (shift_left d P) ≤ stretches P
left-few d P fits =
    let a : ℕ = size - d in
    let C : Positions = set_range a (size - a) false P in
    let same : (x : ℕ) → x < size → shift_left d P x ≡ shift_left d C x =
    λ x l. left-cong d P C (λ y h. sym (set_below a (size - a) false P y (omega arith))) x l in
    let many = left-stretches d C (shift_left d P) fits (λ y h l. set-inside a (size - a) false P y h (omega arith)) same in
    omega (arith, many, clear-top P a (omega arith))

-- down
right-few : (d : ℕ) (P : Positions) → d < size → stretches (shift_right d P) ≤ stretches P
right-few d P fits =
    let C : Positions = set_range 0 d false P in
    let same : (x : ℕ) → x < size → shift_right d P x ≡ shift_right d C x =
    λ x l. right-cong d P C (λ y h t. sym (set-above 0 d false P y (omega arith))) x in
    let many = right-stretches d C (shift_right d P) fits (λ y h. set-inside 0 d false P y (omega arith) (omega arith)) same in
    omega (arith, many, clear-bottom P d (omega arith))

-- a shift adds no run
pub shift-few : (d : ℕ) (left : Bool) (P : Positions) → d < size → stretches (shift_by d left P) ≤ stretches P
unfolding shift_by
shift-few d true P fits = left-few d P fits
shift-few d false P fits = right-few d P fits
