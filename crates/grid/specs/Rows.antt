-- What goes over a rectangle row by row asks and promises: the rectangle's rows, how many runs a row gains and loses, and passes over the rows.
-- Assumes nothing: these are definitions.
use Rattle.std.specs.Prelude.{ℕ, zero, suc, ◌+◌, ◌-◌, ◌≤◌, ◌<◌, ◌≡◌, Bool, true, cond, ◌&&◌, if◌then◌else◌, List, ltb, leb}
use Rattle.model.specs.Numbers.{size}
use Rattle.model.specs.Positions.{Positions, one_if, count, run_count, set_range, stretches}
use Rattle.model.specs.Neighbours.{goes_on, held_below, held_above}
use Rattle.pool.specs.declared.World.{World}
use Rattle.pool.specs.Layout.{held_in}
use Rattle.pool.specs.Soundness.{Footprint, SameFrame, Limited}
use Rattle.model.specs.declared.Rect.{Rect}
use Rattle.model.specs.Grid.{cell, within}

-- a rectangle that is narrower than the plane
abbrev pub Narrow : Rect → Type 0
Narrow q = q.right < q.left + 65535

-- row r gets the value v
abbrev pub set_row : Rect → ℕ → Bool → Positions → Positions
set_row q r v P = set_range (cell r q.left) (suc (cell r q.right) - cell r q.left) v P

-- the rows before row r get the value v
unfoldable pub set_before : Rect → ℕ → Bool → Positions → Positions
set_before q r v P x = cond (within q x && ltb x (cell r 0)) v (P x)

-- the sum of f over the m rows from row r on
unfoldable pub row_sum : (ℕ → ℕ) → ℕ → ℕ → ℕ
row_sum f r zero = 0
row_sum f r (suc m) = row_sum f r m + f (r + m)

-- how many cells of row r are held
abbrev pub row_count : Rect → Positions → ℕ → ℕ
row_count q P r = count P true (cell r q.left) (suc (cell r q.right) - cell r q.left)

-- how many runs a set of a..b to v adds: those that are cut at its ends, and itself if it is held
abbrev pub gain : Bool → Positions → ℕ → ℕ → ℕ
gain v P a b = one_if (goes_on P a) + one_if (goes_on P (suc b)) + one_if v

-- and how many it takes: those in it, and, if it is held, those of its neighbours
abbrev pub loss : Bool → Positions → ℕ → ℕ → ℕ
loss v P a b = run_count P true a (suc b - a) + one_if (held_below P a && v) + one_if (v && held_above P b)

-- those of row r
abbrev pub row_gain : Rect → Bool → Positions → ℕ → ℕ
row_gain q v P r = gain v P (cell r q.left) (cell r q.right)

abbrev pub row_loss : Rect → Bool → Positions → ℕ → ℕ
row_loss q v P r = loss v P (cell r q.left) (cell r q.right)

-- to set row r takes no run away
abbrev pub Rises : Rect → Bool → Positions → ℕ → Type 0
Rises q v P r = stretches P ≤ stretches (set_row q r v P)

-- set row by row, no state on the way has more runs than the limit
abbrev pub WayFits : Rect → Bool → Positions → ℕ → Type 0
WayFits q v P limit = (r : ℕ) → q.top ≤ r → r ≤ q.bottom → stretches (set_before q (suc r) v P) ≤ limit

-- a..b gets the value v, where that leaves at most as many runs as the limit; else all stays
abbrev pub set_if : ℕ → ℕ → ℕ → Bool → Positions → Positions
set_if limit a b v P = if leb (stretches (set_range a (suc b - a) v P)) limit then set_range a (suc b - a) v P else P

-- so n rows from the top one on, one after another
unfoldable pub pass_rows : ℕ → Rect → Bool → ℕ → Positions → Positions
pass_rows limit q v zero P = P
pass_rows limit q v (suc n) P = set_if limit (cell (q.top + n) q.left) (cell (q.top + n) q.right) v (pass_rows limit q v n P)

-- the world h became k: a..b got the value v, where that leaves at most as many runs as the limit
pub record RowSet (w w' : List ℕ) (s : Footprint) (h k : World) (limit a b : ℕ) (v : Bool) : Type 0 where
  pub limited : Limited w' s k limit
  pub still : SameFrame w w' s
  pub holds : (x : ℕ) → x < size → held_in w' k x ≡ set_if limit a b v (held_in w h) x

-- whatever share the world has
abbrev pub SetsRow : List ℕ → List ℕ → World → World → ℕ → ℕ → ℕ → Bool → Type 0
SetsRow w w' h k limit a b v = (s : Footprint) → Limited w s h limit → RowSet w w' s h k limit a b v

-- the world h became k: the rows before row r got the value v one after another, each where that left at most as many runs as the limit
pub record Passed (w w' : List ℕ) (s : Footprint) (h k : World) (limit : ℕ) (q : Rect) (v : Bool) (r : ℕ) : Type 0 where
  pub limited : Limited w' s k limit
  pub still : SameFrame w w' s
  pub holds : (x : ℕ) → x < size → held_in w' k x ≡ pass_rows limit q v (r - q.top) (held_in w h) x

-- whatever share the world has
abbrev pub Passes : List ℕ → List ℕ → World → World → ℕ → Rect → Bool → ℕ → Type 0
Passes w w' h k limit q v r = (s : Footprint) → Limited w s h limit → Passed w w' s h k limit q v r
