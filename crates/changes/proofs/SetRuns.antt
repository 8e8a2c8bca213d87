-- How many runs a set of a range leaves: a run goes on over an end of it exactly if the neighbour there is held and the value is true.
-- At most one run is added, and none where a range at an end of all positions is cleared. Assumes nothing.
use Rattle.std.proofs.Common.{◌≡◌, ℕ, zero, suc, ◌+◌, ◌-◌, ◌<◌, ◌≤◌, Bool, true, false, not, ◌&&◌, ◌⊎◌, sym, refl, ap, ◌∙◌, inl, inr, arith}
use mathlib.Core.Bool.{and-true, and-false, and_comm}
use Rattle.model.specs.Numbers.{size}
use Rattle.model.proofs.Numbers.{split}
use Rattle.model.specs.Positions.{Positions, one_if, count, run_count, stretches, set_range}
use Rattle.model.proofs.Counting.{count-all, counted_none, one-bound}
use Rattle.model.proofs.Runs.{stretches-cong}
use Rattle.model.specs.Neighbours.{goes_on, held_below, held_above}
use Rattle.model.proofs.After.{goes_on-top, goes_on-zero, set-inside, set_below, set-above, set_runs}
use Rattle.pool.specs.Places.{physical_of}
use Rattle.pool.specs.Layout.{turned}
use Rattle.pool.proofs.Turn.{stretches-zero, stretches-turned}
use Rattle.changes.proofs.Neighbours.{both-second, with-without, goes_on-below, goes_on-above, goes_on-changed-above, goes_on-changed-below, ranges-some}

-- ---- a range of n positions from a, up to b
module _ (P : Positions) (a n b : ℕ) (some : 0 < n) (ends : a + n ≡ suc b) (fits : b < size) where
  -- a run goes on over the lower end where the neighbour is held and the value is true
  pub set-goes_on-below : (v : Bool) → goes_on (set_range a n v P) a ≡ (held_below P a && v)
  set-goes_on-below v = goes_on-changed-above P (set_range a n v P) a v (omega arith) (set_below a n v P) (set-inside a n v P a (omega arith) (omega arith))

  -- and so over the upper end
  pub set-goes_on-above : (v : Bool) → goes_on (set_range a n v P) (a + n) ≡ (v && held_above P b)
  set-goes_on-above v =
      ap (goes_on (set_range a n v P)) ends
      ∙ goes_on-changed-below P (set_range a n v P) b v (λ y l. set-above a n v P y (omega arith)) (set-inside a n v P b (omega arith) (omega arith))
      ∙ and_comm (held_above P b) v

  -- the runs after a set to either value
  pub set-leaves : (v : Bool)
      → stretches (set_range a n v P) + run_count P true a n + one_if (held_below P a && v) + one_if (v && held_above P b)
      ≡ stretches P + one_if (goes_on P a) + one_if (goes_on P (suc b)) + one_if v
  set-leaves v =
      omega (
        arith,
        set_runs P a n v some (omega arith),
        ap one_if (set-goes_on-below v),
        ap one_if (set-goes_on-above v),
        ap (λ x. one_if (goes_on P x)) ends,
      )

  -- the runs after a set to true
  pub set-true-leaves : stretches (set_range a n true P) + run_count P true a n + one_if (held_below P a) + one_if (held_above P b)
      ≡ stretches P + one_if (goes_on P a) + one_if (goes_on P (suc b)) + 1
  set-true-leaves = omega (arith, set-leaves true, ap one_if (and-true (held_below P a)))

  -- the runs after a set to false
  pub set-false-leaves : stretches (set_range a n false P) + run_count P true a n ≡ stretches P + one_if (goes_on P a) + one_if (goes_on P (suc b))
  set-false-leaves = omega (arith, set-leaves false, ap one_if (and-false (held_below P a)))

  -- a run that goes on over an end x of the range is in the range
  end-in : (y x : ℕ) (h : Bool) → goes_on P y ≡ (h && P x) → a ≤ x → x < a + n → one_if (goes_on P y) ≤ run_count P true a n
  end-in y x h e l u = omega (arith, ap one_if e, both-second h (P x), ranges-some P a n x l u)

  -- over the lower end
  pub below_in : one_if (goes_on P a) ≤ run_count P true a n
  below_in = end-in a a (held_below P a) (goes_on-below P a (omega arith)) (omega arith) (omega arith)

  -- over the upper one
  pub above_in : one_if (goes_on P (suc b)) ≤ run_count P true a n
  above_in = end-in (suc b) b (held_above P b) (goes_on-above P b) (omega arith) (omega arith)

  -- at most one run more
  one_more : (v : Bool) → stretches (set_range a n v P) ≤ stretches P + 1
  one_more true =
      omega (
        arith,
        set-true-leaves,
        ap one_if (goes_on-below P a (omega arith)),
        with-without (held_below P a) (P a),
        ap one_if (goes_on-above P b),
        with-without (held_above P b) (P b),
      )
  one_more false = omega (arith, set-false-leaves, below_in, one-bound (goes_on P (suc b)))

-- ---- any range
-- a set adds at most one run
pub set-one-more : (P : Positions) (a n : ℕ) (v : Bool) → 0 < n → a + n ≤ size → stretches (set_range a n v P) ≤ stretches P + 1
set-one-more P a n v h t = one_more P a n (a + n - 1) h (omega arith) (omega arith) v

-- where there is nothing to change, a set changes nothing
pub set-nothing : (P : Positions) (a n : ℕ) (v : Bool) → count P (not v) a n ≡ 0 → (x : ℕ) → set_range a n v P x ≡ P x
set-nothing P a n v e x = go (split x a) (split x (a + n))
  where
    go : (x < a) ⊎ (a ≤ x) → (x < a + n) ⊎ (a + n ≤ x) → set_range a n v P x ≡ P x
    go (inl h) l = set_below a n v P x h
    go (inr h) (inl l) = set-inside a n v P x h l ∙ sym (counted_none P v a n e x h l)
    go (inr h) (inr l) = set-above a n v P x l

-- ---- a range at an end of all positions
-- clearing it adds no run
clear-end : (P : Positions) (a n : ℕ) → (a ≡ 0) ⊎ (a + n ≡ size) → a + n ≤ size → stretches (set_range a n false P) ≤ stretches P
clear-end P a zero end t = omega (arith, stretches-cong (set_range a 0 false P) P (λ x h. set-nothing P a 0 false (count-all P true a 0 (λ y k l. absurd (omega arith))) x))
clear-end P a (suc m) end t = go end
  where
    leaves : stretches (set_range a (suc m) false P) + run_count P true a (suc m) ≡ stretches P + one_if (goes_on P a) + one_if (goes_on P (suc (a + m)))
    leaves = set-false-leaves P a (suc m) (a + m) (omega arith) (omega arith) (omega arith)

    go : (a ≡ 0) ⊎ (a + suc m ≡ size) → stretches (set_range a (suc m) false P) ≤ stretches P
    go (inl z) =
        omega (arith, leaves, above_in P a (suc m) (a + m) (omega arith) (omega arith) (omega arith), ap one_if (ap (goes_on P) z ∙ goes_on-zero P))
    go (inr z) =
        omega (arith, leaves, below_in P a (suc m) (a + m) (omega arith) (omega arith) (omega arith), ap one_if (goes_on-top P (suc (a + m)) (omega arith)))

-- the upper end
pub clear-top : (P : Positions) (a : ℕ) → a ≤ size → stretches (set_range a (size - a) false P) ≤ stretches P
clear-top P a h = clear-end P a (size - a) (inr (omega arith)) (omega arith)

-- the lower end
pub clear-bottom : (P : Positions) (n : ℕ) → n ≤ size → stretches (set_range 0 n false P) ≤ stretches P
clear-bottom P n h = clear-end P 0 n (inl refl) (omega arith)

-- ---- physical and logical runs
-- they differ by at most one
differ-one : (o : ℕ) (Q : Positions) → o < size → (stretches Q ≤ stretches (turned o Q) + 1) × (stretches (turned o Q) ≤ stretches Q + 1)
differ-one zero Q h = (omega (arith, stretches-zero Q), omega (arith, stretches-zero Q))
differ-one (suc o) Q h =
    let z : ℕ = physical_of 0 (suc o) in
    let e = stretches-turned (suc o) z Q h (omega arith) refl in
    let p = one-bound (Q (size - 1) && Q 0) in
    let q = one-bound (Q (z - 1) && Q z) in
    (omega arith, omega arith)

-- at most one more physically
pub physical-one-more : (o : ℕ) (Q : Positions) → o < size → stretches Q ≤ stretches (turned o Q) + 1
physical-one-more o Q h = (differ-one o Q h).0

-- at most one more logically
pub logical-one-more : (o : ℕ) (Q : Positions) → o < size → stretches (turned o Q) ≤ stretches Q + 1
logical-one-more o Q h = (differ-one o Q h).1
