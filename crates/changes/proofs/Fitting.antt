-- Whether a set of logical positions leaves at most as many runs as the limit, from what the world tells: its runs, those of the range,
-- and the neighbours of the range's ends. All these numbers are small, so no sum of them leaves a word. Assumes nothing.
use Rattle.std.proofs.Common.{◌≡◌, ℕ, suc, ◌+◌, ◌-◌, ◌*◌, ◌<◌, ◌≤◌, Bool, true, false, leb, ◌⊎◌, List, sym, refl, ap, ◌∙◌, inl, inr, arith, le-leb}
use borrow.Author.Tests.{lt-leb}
use Rattle.model.specs.Numbers.{size}
use Rattle.model.proofs.Numbers.{split}
use Rattle.model.specs.Positions.{Positions, one_if, run_count, runs_in, held_runs, set_range, stretches}
use Rattle.model.proofs.Counting.{one-bound}
use Rattle.model.proofs.Runs.{stretches-is}
use Rattle.model.specs.Neighbours.{goes_on, held_below, held_above}
use Rattle.run_index.specs.Tree.{inorder}
use Rattle.run_index.proofs.Totals.{runs-length}
use Rattle.pool.specs.declared.World.{World}
use Rattle.pool.specs.Layout.{held_in}
use Rattle.pool.specs.Soundness.{Footprint, Standing, Limited}
use Rattle.pool.proofs.Opening.{physical_in, standing-held}
use Rattle.reports.proofs.Reading.{ranges-most}
use Rattle.changes.specs.declared.edit.Border.{Border}
use Rattle.changes.specs.Edits.{Surrounds}
use Rattle.changes.proofs.SetRuns.{set-true-leaves, set-false-leaves, set-one-more, logical-one-more}

-- ---- orders
-- an order of sums that are alike
pub leb-like : (x y p q k : ℕ) → p ≡ x + k → q ≡ y + k → leb p q ≡ leb x y
leb-like x y p q k e f = go (split y x)
  where
    go : (y < x) ⊎ (x ≤ y) → leb p q ≡ leb x y
    go (inl l) = lt-leb p q (omega arith) ∙ sym (lt-leb x y l)
    go (inr l) = le-leb p q (omega arith) ∙ sym (le-leb x y l)

-- a number that is 0 or 1
pub one-most : (r : ℕ) (b : Bool) → r ≡ one_if b → r ≤ 1
one-most r b e = omega (arith, one-bound b)

-- ---- of a world
module _ {w : List ℕ} {s : Footprint} {h : World} (st : Standing w s h) where
  -- they are the physical runs
  physical-runs : h.runs ≡ stretches (physical_in st)
  physical-runs = st.runs-are ∙ runs-length st.tree ∙ sym (stretches-is (physical_in st) (inorder st.tree) st.kept.ordered (λ x l. refl))

  -- there is one logical run more at most
  pub logical-most : h.offset < size → stretches (held_in w h) ≤ h.runs + 1
  logical-most o = omega (arith, physical-runs, ap stretches (standing-held st), logical-one-more h.offset (physical_in st) o)

  -- far from the limit a set fits
  pub far-fits : {limit : ℕ} (a b : ℕ) (v : Bool) → h.offset < size → a ≤ b → b < size → h.runs + 2 ≤ limit
      → true ≡ leb (stretches (set_range a (suc b - a) v (held_in w h))) limit
  far-fits {limit} a b v o i l far =
      sym (le-leb (stretches (set_range a (suc b - a) v (held_in w h))) limit (omega (arith, logical-most o, set-one-more (held_in w h) a (suc b - a) v (omega arith) (omega arith))))

module _ {w : List ℕ} {s : Footprint} {h : World} {limit : ℕ} (lim : Limited w s h limit) where
  -- the limit is at most 65,566
  pub limit-few : limit ≤ 65566
  limit-few = omega (arith, lim.enough, lim.standing.kept.part, lim.standing.kept.few)

  -- and so are the runs
  pub logical-few : stretches (held_in w h) ≤ 65566
  logical-few = omega (arith, lim.fits, limit-few)

-- no more runs than half the positions, and one
pub stretches-most : (P : Positions) → 2 * stretches P ≤ size + 1
unfolding stretches held_runs run_count runs_in
stretches-most P = ranges-most P true 0 size

-- ---- what is around the positions from a to b
module _ (P : Positions) {a b total inside over : ℕ} (some : a ≤ b) (fits : b < size) (et : total ≡ stretches P) (ei : inside ≡ run_count P true a (suc b - a))
    (eo : over ≡ one_if (goes_on P a) + one_if (goes_on P (suc b))) where
  -- the runs that are left where they are cleared
  pub outside-is : total + over - inside ≡ stretches (set_range a (suc b - a) false P)
  outside-is = omega (arith, et, ei, eo, set-false-leaves P a (suc b - a) b (omega arith) (omega arith) fits)

  -- there are as many inside at most
  pub inside-most : inside ≤ total + over
  inside-most = omega (arith, et, ei, eo, set-false-leaves P a (suc b - a) b (omega arith) (omega arith) fits)

-- its ends and neighbours are two each
pub beside-few : {P : Positions} {a b : ℕ} {r : Border} → Surrounds P a b r → (r.over ≤ 2) × (r.beside ≤ 2)
beside-few {P} {a} {b} s = (
  omega (arith, s.over-is, one-bound (goes_on P a), one-bound (goes_on P (suc b))),
  omega (arith, s.beside-is, one-bound (held_below P a), one-bound (held_above P b)),
)

module _ {P : Positions} {a b : ℕ} {r : Border} (s : Surrounds P a b r) (some : a ≤ b) (fits : b < size) where
  -- the runs outside are few
  pub outside-few : {w : List ℕ} {sh : Footprint} {h : World} {limit : ℕ} → Limited w sh h limit → P ≡ held_in w h → r.outside ≤ 65568
  outside-few lim e =
      omega (
        arith,
        s.outside-is,
        set-false-leaves P a (suc b - a) b (omega arith) (omega arith) fits,
        logical-few lim,
        ap stretches e,
        one-bound (goes_on P a),
        one-bound (goes_on P (suc b)),
      )

  module _ (k : ℕ) {v : Bool} where
    -- a set to true fits where the neighbours tell so
    pub true-fits : v ≡ true → leb (r.outside + 1) (k + r.beside) ≡ leb (stretches (set_range a (suc b - a) v P)) k
    true-fits ev =
        leb-like (stretches (set_range a (suc b - a) true P)) k (r.outside + 1) (k + r.beside) r.beside
        (omega (
          arith,
          s.outside-is,
          s.beside-is,
          set-false-leaves P a (suc b - a) b (omega arith) (omega arith) fits,
          set-true-leaves P a (suc b - a) b (omega arith) (omega arith) fits,
        )) (omega arith)
        ∙ ap (λ u. leb (stretches (set_range a (suc b - a) u P)) k) (sym ev)

    -- and one to false
    pub false-fits : v ≡ false → leb r.outside k ≡ leb (stretches (set_range a (suc b - a) v P)) k
    false-fits ev = ap (λ n. leb n k) s.outside-is ∙ ap (λ u. leb (stretches (set_range a (suc b - a) u P)) k) (sym ev)
