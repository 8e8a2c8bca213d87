-- `count` meets its contract. The loop's invariant: the sum is that of the rows before row r. Assumes nothing.
use Prim.Native.Nat.{◌-◌}
use mathlib.Core.Path.{◌≡◌}
use Rattle.pool.specs.Layout.{held}
use Rattle.grid.specs.Rows.{row_sum, row_count}
use Rattle.grid.proofs.rows.count.Given as goal

abbrev pub invariant-loop-r : goal.invariant-loop-r
invariant-loop-r l = l.sum ≡ row_sum (row_count l.area.q (held l.set)) l.area.q.top (l.r - l.area.q.top)
