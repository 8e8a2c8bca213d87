-- LOCALITY: what a set of a range adds to the number of runs depends on the range and its two neighbours alone. So rows of a rectangle that
-- is narrower than the plane, which do not touch each other, add what each of them adds by itself. Assumes nothing.
use Prim.Native.Nat.{ℕ, zero, suc, ◌+◌, ◌-◌, ◌≤◌, ◌<◌}
use mathlib.Core.Path.{◌≡◌, refl, sym, ap, ap₂, ◌∙◌}
use mathlib.Core.Bool.{Bool, true, ◌&&◌}
use native.Mathlib.Omega.{arith}
use lib.Dec.{ltb}
use lib.ListN.{length}
use Rattle.model.specs.Numbers.{size}
use Rattle.model.specs.Positions.{Positions, one_if, run_count, stretches, set_range}
use Rattle.model.specs.Neighbours.{goes_on, held_below, held_above}
use Rattle.model.proofs.Runs.{runs_in-cong, stretches-cong}
use Rattle.changes.proofs.Neighbours.{goes_on-below, goes_on-above}
use Rattle.changes.proofs.SetRuns.{set-leaves, set-one-more}
use Rattle.model.specs.declared.Rect.{Rect}
use Rattle.model.specs.Grid.{cell, set_rect}
use Rattle.grid.specs.Surveys.{OnPlane}
use Rattle.grid.specs.Rows.{Narrow, set_row, set_before, row_sum, row_gain, row_loss, Rises}
use Rattle.grid.proofs.Cells.{before-none, before-all, before-next, before-near}

-- ---- two sets that agree from the neighbour below a range to that above it
-- the neighbour below
below-same : (P Q : Positions) (a : ℕ) → ((x : ℕ) → a ≤ suc x → x ≤ a → P x ≡ Q x) → held_below P a ≡ held_below Q a
below-same P Q zero f = refl
below-same P Q (suc a) f = f a (omega arith) (omega arith)

module _ (P Q : Positions) (a n b : ℕ) (some : 0 < n) (ends : a + n ≡ suc b) (fits : b < size) (same : (x : ℕ) → a ≤ suc x → x ≤ suc b → P x ≡ Q x) where
  -- the runs of the range
  inside-same : run_count P true a n ≡ run_count Q true a n
  unfolding run_count
  inside-same = ap length (runs_in-cong P Q true a n (λ x k l. same x (omega arith) (omega arith)))

  -- its neighbour below
  under_same : held_below P a ≡ held_below Q a
  under_same = below-same P Q a (λ x k l. same x k (omega arith))

  -- and that above
  over-same : held_above P b ≡ held_above Q b
  over-same = ap (λ t. ltb (suc b) size && t) (same (suc b) (omega arith) (omega arith))

  -- runs over the lower end
  on_same : goes_on P a ≡ goes_on Q a
  on_same = goes_on-below P a (omega arith) ∙ ap₂ ◌&&◌ under_same (same a (omega arith) (omega arith)) ∙ sym (goes_on-below Q a (omega arith))

  -- and over the upper one
  past_same : goes_on P (suc b) ≡ goes_on Q (suc b)
  past_same = goes_on-above P b ∙ ap₂ ◌&&◌ over-same (same b (omega arith) (omega arith)) ∙ sym (goes_on-above Q b)

  -- THE LAW: the range set adds the same to both
  pub set_local : (v : Bool) → stretches (set_range a n v P) + stretches Q ≡ stretches (set_range a n v Q) + stretches P
  set_local v =
      omega (
        arith,
        set-leaves P a n b some ends fits v,
        set-leaves Q a n b some ends fits v,
        inside-same,
        ap (λ t. one_if (t && v)) under_same,
        ap (λ t. one_if (v && t)) over-same,
        ap one_if on_same,
        ap one_if past_same,
      )

-- ---- the rows of a rectangle that is narrower than the plane
module _ (q : Rect) (v : Bool) (on : OnPlane q) where
  module _ (r : ℕ) (low : r ≤ q.bottom) where
    -- row r adds the same to two sets that agree there
    row-local : (P Q : Positions) → ((x : ℕ) → cell r q.left ≤ suc x → x ≤ suc (cell r q.right) → P x ≡ Q x)
        → stretches (set_row q r v P) + stretches Q ≡ stretches (set_row q r v Q) + stretches P
    row-local P Q same =
        set_local P Q (cell r q.left) (suc (cell r q.right) - cell r q.left) (cell r q.right) (omega (arith, on.columns))
        (omega (arith, on.columns)) (omega (arith, on.within, on.low)) same v

    -- so if it takes none from one it takes none from the other
    pub rises-like : (P Q : Positions) → ((x : ℕ) → cell r q.left ≤ suc x → x ≤ suc (cell r q.right) → P x ≡ Q x) → Rises q v P r → Rises q v Q r
    rises-like P Q same up = omega (arith, row-local P Q same)

    -- what row r leaves
    row-leaves : (P : Positions) → stretches (set_row q r v P) + row_loss q v P r ≡ stretches P + row_gain q v P r
    row-leaves P =
        omega (
          arith,
          set-leaves P (cell r q.left) (suc (cell r q.right) - cell r q.left) (cell r q.right) (omega (arith, on.columns))
              (omega (arith, on.columns)) (omega (arith, on.within, on.low)) v,
        )

  module _ (P : Positions) where
    module _ (r : ℕ) (some : q.top ≤ r) (low : r ≤ q.bottom) where
      -- row r after the rows before it
      next-runs : stretches (set_before q (suc r) v P) ≡ stretches (set_row q r v (set_before q r v P))
      next-runs = stretches-cong (set_before q (suc r) v P) (set_row q r v (set_before q r v P)) (λ x _. before-next q v P on r some low x)

      -- adds one run at most
      next_one : stretches (set_before q (suc r) v P) ≤ stretches (set_before q r v P) + 1
      next_one =
          omega (
            arith,
            next-runs,
            set-one-more (set_before q r v P) (cell r q.left) (suc (cell r q.right) - cell r q.left) v (omega (arith, on.columns))
                (omega (arith, on.within, on.low)),
          )

      -- what it adds it adds to P, if the rectangle is narrow
      next-local : Narrow q → stretches (set_before q (suc r) v P) + stretches P ≡ stretches (set_row q r v P) + stretches (set_before q r v P)
      next-local n = omega (arith, next-runs, row-local r low (set_before q r v P) P (λ x k _. before-near q v P on n r x k))

    -- before the first row all is as it was
    none_runs : stretches (set_before q q.top v P) ≡ stretches P
    none_runs = stretches-cong (set_before q q.top v P) P (λ x _. before-none q v P x)

    -- after the last one the rectangle is set
    all_runs : stretches (set_before q (suc q.bottom) v P) ≡ stretches (set_rect q v P)
    all_runs = stretches-cong (set_before q (suc q.bottom) v P) (set_rect q v P) (λ x _. before-all q v P x)

    -- m rows add m runs at most
    pub rows-most : (m : ℕ) → q.top + m ≤ suc q.bottom → stretches (set_before q (q.top + m) v P) ≤ stretches P + m
    rows-most zero h = let e : q.top + 0 ≡ q.top = omega arith in omega (arith, ap (λ r. stretches (set_before q r v P)) e, none_runs)
    rows-most (suc m) h =
        let e : q.top + suc m ≡ suc (q.top + m) = omega arith in
        omega (
          arith,
          ap (λ r. stretches (set_before q r v P)) e,
          rows-most m (omega arith),
          next_one (q.top + m) (omega arith) (omega arith),
        )

    -- a rectangle adds as many runs as it has rows at most
    pub rect-most : stretches (set_rect q v P) ≤ stretches P + (suc q.bottom - q.top)
    rect-most =
        let e : q.top + (suc q.bottom - q.top) ≡ suc q.bottom = omega (arith, on.rows) in
        omega (arith, ap (λ r. stretches (set_before q r v P)) e, all_runs, rows-most (suc q.bottom - q.top) (omega arith))

    module _ (n : Narrow q) where
      -- what m rows leave: the sums of what each row of P adds and takes
      rows-leave : (m : ℕ) → q.top + m ≤ suc q.bottom
          → stretches (set_before q (q.top + m) v P) + row_sum (row_loss q v P) q.top m ≡ stretches P + row_sum (row_gain q v P) q.top m
      unfolding row_sum
      rows-leave zero h = let e : q.top + 0 ≡ q.top = omega arith in omega (arith, ap (λ r. stretches (set_before q r v P)) e, none_runs)
      rows-leave (suc m) h =
          let e : q.top + suc m ≡ suc (q.top + m) = omega arith in
          omega (
            arith,
            ap (λ r. stretches (set_before q r v P)) e,
            rows-leave m (omega arith),
            next-local (q.top + m) (omega arith) (omega arith) n,
            row-leaves (q.top + m) (omega arith) P,
          )

      -- so the whole rectangle does
      pub rect-leaves : stretches (set_rect q v P) + row_sum (row_loss q v P) q.top (suc q.bottom - q.top)
          ≡ stretches P + row_sum (row_gain q v P) q.top (suc q.bottom - q.top)
      rect-leaves =
          let e : q.top + (suc q.bottom - q.top) ≡ suc q.bottom = omega (arith, on.rows) in
          omega (arith, ap (λ r. stretches (set_before q r v P)) e, all_runs, rows-leave (suc q.bottom - q.top) (omega arith))

      module _ (rises : (i : ℕ) → q.top ≤ i → i ≤ q.bottom → Rises q v P i) where
        -- if no row takes a run from P, each leaves at least as many as those before it
        climbs : (r m : ℕ) → q.top ≤ r → r + m ≤ suc q.bottom → stretches (set_before q r v P) ≤ stretches (set_before q (r + m) v P)
        climbs r zero a h = let e : r + 0 ≡ r = omega arith in omega (arith, ap (λ k. stretches (set_before q k v P)) e)
        climbs r (suc m) a h =
            let e : r + suc m ≡ suc (r + m) = omega arith in
            omega (
              arith,
              ap (λ k. stretches (set_before q k v P)) e,
              climbs r m a (omega arith),
              next-local (r + m) (omega arith) (omega arith) n,
              rises (r + m) (omega arith) (omega arith),
            )

        -- and at most as many as the whole rectangle
        pub climbs-all : (r : ℕ) → q.top ≤ r → r ≤ suc q.bottom → stretches (set_before q r v P) ≤ stretches (set_rect q v P)
        climbs-all r a h =
            let e : r + (suc q.bottom - r) ≡ suc q.bottom = omega arith in
            omega (arith, ap (λ k. stretches (set_before q k v P)) e, all_runs, climbs r (suc q.bottom - r) a (omega arith))
