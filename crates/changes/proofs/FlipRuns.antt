-- How many runs a flip of a range leaves: over an end of it a run goes on afterwards exactly if the neighbour there is held and the
-- end was not, and inside it runs and gaps change places, which alternate. So at most one run is added. Assumes nothing.
use Rattle.std.proofs.Common.{◌≡◌, ℕ, suc, ◌+◌, ◌-◌, ◌*◌, ◌<◌, ◌≤◌, Bool, true, false, not, ◌&&◌, ◌⊎◌, sym, refl, ap, ◌∙◌, subst, inl, inr, arith, lt-ltb}
use Rattle.model.specs.Numbers.{size}
use Rattle.model.proofs.Numbers.{split}
use Rattle.model.specs.Positions.{Positions, one_if, run_count, stretches, set_range, flip_range}
use Rattle.model.specs.Neighbours.{goes_on, held_below, held_above}
use Rattle.model.proofs.After.{set-inside, set_below, set-above, flip-inside, flip-below, flip-above, flip-runs}
use Rattle.reports.proofs.Ranks.{ranges-alternate}
use Rattle.changes.proofs.Neighbours.{both-bound, with-without, goes_on-below, goes_on-above, goes_on-changed-above, goes_on-changed-below}

-- ---- a range of n positions from a, up to b
module _ (P : Positions) (a n b : ℕ) (some : 0 < n) (ends : a + n ≡ suc b) (fits : b < size) where
  -- a run goes on over the lower end where the neighbour is held and the end was not
  flip-goes_on-below : goes_on (flip_range a n P) a ≡ (held_below P a && not (P a))
  flip-goes_on-below = goes_on-changed-above P (flip_range a n P) a (not (P a)) (omega arith) (flip-below a n P) (flip-inside a n P a (omega arith) (omega arith))

  -- and so over the upper end
  flip-goes_on-above : goes_on (flip_range a n P) (a + n) ≡ (held_above P b && not (P b))
  flip-goes_on-above =
      ap (goes_on (flip_range a n P)) ends
      ∙ goes_on-changed-below P (flip_range a n P) b (not (P b)) (λ y l. flip-above a n P y (omega arith)) (flip-inside a n P b (omega arith) (omega arith))

  -- the runs after a flip
  pub flip-leaves : stretches (flip_range a n P) + run_count P true a n + one_if (held_below P a) + one_if (held_above P b)
      ≡ stretches P + 2 * one_if (goes_on P a) + 2 * one_if (goes_on P (suc b)) + run_count P false a n
  flip-leaves =
      omega (
        arith,
        flip-runs P a n some (omega arith),
        ap one_if flip-goes_on-below,
        ap one_if (goes_on-below P a (omega arith)),
        with-without (held_below P a) (P a),
        ap one_if flip-goes_on-above,
        ap one_if (goes_on-above P b),
        with-without (held_above P b) (P b),
        ap (λ x. one_if (goes_on P x)) ends,
      )

  -- runs and gaps alternate in the range
  alternate : run_count P false a n + one_if (P a) + one_if (P b) ≡ run_count P true a n + 1
  alternate =
      let q : suc b - a ≡ n = omega arith in
      subst (λ k. run_count P false a k + one_if (P a) + one_if (P b) ≡ run_count P true a k + 1) q (ranges-alternate P a b (omega arith))

  -- the bound, by the upper end and its neighbour
  bound : stretches (flip_range a n P) + one_if (held_above P b) + one_if (P b) ≤ stretches P + 2 * one_if (goes_on P (suc b)) + 1
  bound = omega (arith, flip-leaves, alternate, ap one_if (goes_on-below P a (omega arith)), both-bound (held_below P a) (P a))

  -- a flip adds at most one run
  one_more : stretches (flip_range a n P) ≤ stretches P + 1
  one_more = omega (arith, bound, ap one_if (goes_on-above P b), both-bound (held_above P b) (P b))

  -- a flip up to where the value changes adds none
  none_more : suc b < size → P (suc b) ≡ not (P b) → stretches (flip_range a n P) ≤ stretches P
  none_more h e =
      omega (arith, bound, ap one_if (goes_on-above P b ∙ ap (λ t. t && P b) above), ap one_if above, apart (P b))
    where
      above : held_above P b ≡ not (P b)
      above = ap (λ t. t && P (suc b)) (lt-ltb (suc b) size h) ∙ e

      apart : (p : Bool) → one_if (not p) + one_if p ≡ 2 * one_if (not p && p) + 1
      apart true = refl
      apart false = refl

-- ---- any range
-- a flip adds at most one run
pub flip-one-more : (P : Positions) (a n : ℕ) → 0 < n → a + n ≤ size → stretches (flip_range a n P) ≤ stretches P + 1
flip-one-more P a n h t = one_more P a n (a + n - 1) h (omega arith) (omega arith)

-- on the way, up to where the value changes, it adds none
pub flip-none-more : (P : Positions) (a n : ℕ) → 0 < n → a + n < size → P (a + n) ≡ not (P (a + n - 1)) → stretches (flip_range a n P) ≤ stretches P
flip-none-more P a n h t e =
    let q : a + n ≡ suc (a + n - 1) = omega arith in
    none_more P a n (a + n - 1) h q (omega arith) (omega arith) (ap P (sym q) ∙ e)

-- one stretch after another: a flipped range and the stretch of one value behind it, set to the other value, are a flipped range
pub flip-further : (P : Positions) (a m k : ℕ) (u : Bool) → ((y : ℕ) → a + m ≤ y → y < a + m + k → P y ≡ u)
    → (x : ℕ) → set_range (a + m) k (not u) (flip_range a m P) x ≡ flip_range a (m + k) P x
flip-further P a m k u f x = go (split x a) (split x (a + m)) (split x (a + m + k))
  where
    S : Positions
    S = flip_range a m P

    go : (x < a) ⊎ (a ≤ x) → (x < a + m) ⊎ (a + m ≤ x) → (x < a + m + k) ⊎ (a + m + k ≤ x)
        → set_range (a + m) k (not u) S x ≡ flip_range a (m + k) P x
    go (inl l) q r = set_below (a + m) k (not u) S x (omega arith) ∙ flip-below a m P x l ∙ sym (flip-below a (m + k) P x l)
    go (inr l) (inl q) r = set_below (a + m) k (not u) S x q ∙ flip-inside a m P x l q ∙ sym (flip-inside a (m + k) P x l (omega arith))
    go (inr l) (inr q) (inl r) = set-inside (a + m) k (not u) S x q r ∙ sym (flip-inside a (m + k) P x l (omega arith) ∙ ap not (f x q r))
    go (inr l) (inr q) (inr r) = set-above (a + m) k (not u) S x r ∙ flip-above a m P x q ∙ sym (flip-above a (m + k) P x (omega arith))
