-- `one_valued` meets its contract. The loop's invariant: the cells of the rows before row r have the first cell's value; the measure is the rows
-- that are left. Assumes nothing.
use Prim.Native.Nat.{◌-◌, ◌≤◌}
use mathlib.Core.Path.{◌≡◌}
use Rattle.pool.specs.Layout.{held}
use Rattle.model.specs.Grid.{cell}
use Rattle.grid.proofs.Alike.{Alike}
use Rattle.grid.proofs.survey.one_valued.Given as goal

abbrev pub invariant-loop-r : goal.invariant-loop-r
invariant-loop-r l =
    (l.b.corner.row ≤ l.r) × (l.value ≡ held l.set (cell l.b.corner.row l.b.corner.column))
    × Alike (held l.set) l.b.corner.row l.b.corner.column (l.r - l.b.corner.row) l.columns l.value

abbrev pub decreases-loop-r : goal.decreases-loop-r
decreases-loop-r l = l.end - l.r
