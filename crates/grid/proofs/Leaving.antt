-- Whether a rectangle leaves at most as many runs as the limit, from what the world tells: far from the limit it does, and so do its rows
-- on the way; else the sums of what its rows add and take decide. Assumes nothing.
use Prim.Native.Nat.{ℕ, suc, ◌+◌, ◌-◌, ◌≤◌, ◌<◌}
use mathlib.Core.Path.{◌≡◌, sym, ap, ap₂, ◌∙◌}
use mathlib.Core.Bool.{Bool, true}
use mathlib.Core.List.{List}
use native.Mathlib.Omega.{arith}
use lib.Dec.{leb}
use borrow.Author.Tests.{le-leb}
use Rattle.model.specs.Numbers.{size}
use Rattle.model.specs.Positions.{Positions, stretches}
use Rattle.pool.specs.declared.World.{World}
use Rattle.pool.specs.Layout.{held_in}
use Rattle.pool.specs.Soundness.{Footprint, Standing}
use Rattle.changes.proofs.Fitting.{leb-like, logical-most}
use Rattle.model.specs.declared.Rect.{Rect}
use Rattle.model.specs.Grid.{cell, set_rect}
use Rattle.grid.specs.Surveys.{OnPlane}
use Rattle.grid.specs.Rows.{Narrow, set_before, WayFits, gain, loss, row_sum, row_gain, row_loss}
use Rattle.grid.proofs.Locality.{rows-most, rect-most, rect-leaves}

-- ---- what the rectangle leaves
-- far from the limit it fits
pub rect-far : {w : List ℕ} {s : Footprint} {h : World} {limit : ℕ} (q : Rect) (v : Bool) → Standing w s h → h.offset < size → OnPlane q
    → h.runs + 2 + (q.bottom - q.top) ≤ limit → true ≡ leb (stretches (set_rect q v (held_in w h))) limit
rect-far {w} {s} {h} {limit} q v st o on far =
    sym (le-leb (stretches (set_rect q v (held_in w h))) limit (omega (arith, rect-most q v on (held_in w h), logical-most st o, on.rows)))

-- and so do its rows on the way
pub way-far : {w : List ℕ} {s : Footprint} {h : World} {limit : ℕ} (q : Rect) (v : Bool) → Standing w s h → h.offset < size → OnPlane q
    → h.runs + 2 + (q.bottom - q.top) ≤ limit → WayFits q v (held_in w h) limit
way-far {w} {s} {h} {limit} q v st o on far r a b =
    let P : Positions = held_in w h in
    let e : suc r ≡ q.top + (suc r - q.top) = omega arith in
    omega (
      arith,
      ap (λ k. stretches (set_before q k v P)) e,
      rows-most q v on P (suc r - q.top) (omega arith),
      logical-most st o,
    )

-- what row r adds, and what it takes, where its cells are those from a to b
module _ (q : Rect) (v : Bool) {P Q : Positions} (r : ℕ) {a b : ℕ} (at : (a ≡ cell r q.left) × (b ≡ cell r q.right)) (same : P ≡ Q) where
  pub row-adds : gain v P a b ≡ row_gain q v Q r
  row-adds = ap₂ (gain v P) at.0 at.1 ∙ ap (λ P. row_gain q v P r) same

  pub row-takes : loss v P a b ≡ row_loss q v Q r
  row-takes = ap₂ (loss v P) at.0 at.1 ∙ ap (λ P. row_loss q v P r) same

-- else the sums tell
pub rect-counted : (q : Rect) (v : Bool) (P : Positions) (limit : ℕ) {more less : ℕ} → OnPlane q → Narrow q
    → more ≡ stretches P + row_sum (row_gain q v P) q.top (suc q.bottom - q.top)
    → less ≡ limit + row_sum (row_loss q v P) q.top (suc q.bottom - q.top) → leb more less ≡ leb (stretches (set_rect q v P)) limit
rect-counted q v P limit {more} {less} on n em el =
    leb-like (stretches (set_rect q v P)) limit more less (row_sum (row_loss q v P) q.top (suc q.bottom - q.top))
    (em ∙ sym (rect-leaves q v on P n)) el
