-- `fits` meets its contract. The loop's invariant: `more` is the runs of the world and what the rows before row r add, `less` the limit and
-- what they take. Assumes nothing.
use Prim.Native.Nat.{◌+◌, ◌-◌}
use mathlib.Core.Path.{◌≡◌}
use Rattle.model.specs.Positions.{stretches}
use Rattle.pool.specs.Layout.{held_in}
use Rattle.grid.specs.Rows.{row_sum, row_gain, row_loss}
use Rattle.grid.proofs.rows.Change.fits.Given as goal

abbrev pub invariant-loop-r : goal.invariant-loop-r
invariant-loop-r l =
    (l.more ≡ stretches (held_in l.words l.fn.h) + row_sum (row_gain l.self.area.q l.self.value (held_in l.words l.fn.h)) l.self.area.q.top (l.r - l.self.area.q.top))
    × (l.less ≡ l.self.limit + row_sum (row_loss l.self.area.q l.self.value (held_in l.words l.fn.h)) l.self.area.q.top (l.r - l.self.area.q.top))
