-- `count` meets its contract. The loop's invariant: the sum is that of the rows before row r. Assumes nothing.
use Prim.Native.Nat.{suc, ◌+◌, ◌-◌}
use mathlib.Core.Path.{◌≡◌, sym, ap, ap₂, ◌∙◌}
use mathlib.Core.Bool.{true}
use native.Mathlib.Omega.{arith}
use Rattle.model.specs.Positions.{count}
use Rattle.pool.specs.Layout.{held}
use Rattle.grid.specs.Rows.{row_sum, row_count}
use Rattle.grid.proofs.Cells.{sum-next, sum-none, rect-rows, wide-count}
use Rattle.grid.proofs.Small.{count-few, sum-few}
use Rattle.grid.proofs.rows.count.Goals as goal
use Rattle.grid.proofs.rows.count.Goals.{After-held_cells-sum}

pub returns-then-q : goal.returns-then-q
returns-then-q c =
    let on = c.args.area.on_plane in
    let P = held c.args.set.now in
    c.held_cells.ensures ∙ ap₂ (λ a b. count P true a (suc b - a)) c.cells.ensures.0 c.cells.ensures.1
    ∙ sym (wide-count c.args.area.q P on (omega (arith, c.if-q.true, on.within)) (omega (arith, c.if-q.true, on.within)))

pub loop-r-init : goal.loop-r-init
loop-r-init c = sym (sum-none (row_count c.args.area.q (held c.args.set.now)) c.args.area.q.top)

-- what row r has
here : (c : After-held_cells-sum) → c.held_cells-sum.result ≡ row_count c.args.area.q (held c.args.set.now) c.loop-r.r
here c =
    c.held_cells-sum.ensures
    ∙ ap₂ (λ a b. count (held c.args.set.now) true a (suc b - a)) c.cells-in-loop-r.ensures.0 c.cells-in-loop-r.ensures.1

-- no sum leaves a word
pub overflow_add-sum : goal.overflow_add-sum
overflow_add-sum c =
    let q = c.args.area.q in
    let P = held c.args.set.now in
    omega (
      arith,
      c.loop-r-test.true,
      c.loop-r.invariant,
      c.args.area.on_plane.low,
      here (goal.at.overflow_add-sum c).After-held_cells-sum,
      count-few q c.args.area.on_plane P c.loop-r.r,
      sum-few (row_count q P) q.top (c.loop-r.r - q.top) (λ r. omega (arith, count-few q c.args.area.on_plane P r)),
    )

-- the sum with it
next : (c : After-held_cells-sum) → c.loop-r.sum + c.held_cells-sum.result
    ≡ row_sum (row_count c.args.area.q (held c.args.set.now)) c.args.area.q.top (c.loop-r.r + 1 - c.args.area.q.top)
next c =
    omega (
      arith,
      c.loop-r.invariant,
      here c,
      sum-next (row_count c.args.area.q (held c.args.set.now)) c.args.area.q.top c.loop-r.r c.loop-r.auto.r,
    )

pub loop-r-preserved : goal.loop-r-preserved
loop-r-preserved c = next (goal.at.loop-r-preserved c).After-held_cells-sum

pub returns-else-q-2 : goal.returns-else-q-2
returns-else-q-2 c =
    let q = c.args.area.q in
    let P = held c.args.set.now in
    let e : c.loop-r.r + 1 - q.top ≡ suc q.bottom - q.top = omega (arith, c.loop-r-test.true) in
    next (goal.at.returns-else-q-2 c).After-held_cells-sum ∙ ap (row_sum (row_count q P) q.top) e ∙ sym (rect-rows q P c.args.area.on_plane)
