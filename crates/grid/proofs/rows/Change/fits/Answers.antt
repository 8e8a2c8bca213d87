-- `fits` meets its contract. The loop's invariant: `more` is the runs of the world and what the rows before row r add, `less` the limit and
-- what they take. Assumes nothing.
use Prim.Native.Nat.{suc, ◌+◌, ◌-◌}
use mathlib.Core.Path.{◌≡◌, sym, ap, ◌∙◌}
use borrow.Author.Tests.{leb-true}
use native.Mathlib.Omega.{arith}
use Rattle.model.specs.Positions.{stretches}
use Rattle.pool.specs.Layout.{held_in}
use Rattle.changes.proofs.Fitting.{limit-few, logical-few}
use Rattle.grid.specs.Rows.{row_sum, row_gain, row_loss}
use Rattle.grid.proofs.Cells.{sum-next, sum-none}
use Rattle.grid.proofs.Small.{gain-few, loss-few, sum-few}
use Rattle.grid.proofs.Leaving.{rect-far, row-adds, row-takes, rect-counted}
use Rattle.grid.proofs.rows.Change.fits.Goals as goal
use Rattle.grid.proofs.rows.Change.fits.Goals.{else-loop-r-test, then-loop-r-test+else-r-r-end}

pub returns-then-is_far : goal.returns-then-is_far
returns-then-is_far c =
    rect-far c.args.self.area.q c.args.self.value c.requires.1.standing (omega (arith, c.well_formed)) c.args.self.area.on_plane
    (leb-true _ _ (sym c.is_far.ensures ∙ c.if-is_far.true))

pub loop-r-init : goal.loop-r-init
loop-r-init c =
    let q = c.args.self.area.q in
    let P = held_in c.args.words.now c.args.h in (
      omega (arith, c.logical_runs-more.ensures, ap stretches c.set_of-set.ensures.positions, sum-none (row_gain q c.args.self.value P) q.top),
      omega (arith, sum-none (row_loss q c.args.self.value P) q.top),
    )

pub overflow_add-more : goal.overflow_add-more
overflow_add-more c =
    let q = c.args.self.area.q in
    let on = c.args.self.area.on_plane in
    let P = held_in c.args.words.now c.args.h in
    omega (
      arith,
      c.loop-r-test.true,
      c.loop-r.invariant.0,
      on.low,
      logical-few c.requires.1,
      row-adds q c.args.self.value c.loop-r.r c.cells-row.ensures c.set_of-set.ensures.positions,
      gain-few q on P c.args.self.value c.loop-r.r,
      sum-few (row_gain q c.args.self.value P) q.top (c.loop-r.r - q.top) (λ r. omega (arith, gain-few q on P c.args.self.value r)),
    )

pub overflow_add-less : goal.overflow_add-less
overflow_add-less c =
    let q = c.args.self.area.q in
    let on = c.args.self.area.on_plane in
    let P = held_in c.args.words.now c.args.h in
    omega (
      arith,
      c.loop-r-test.true,
      c.loop-r.invariant.1,
      on.low,
      limit-few c.requires.1,
      row-takes q c.args.self.value c.loop-r.r c.cells-row.ensures c.set_of-set.ensures.positions,
      loss-few q on P c.args.self.value c.loop-r.r,
      sum-few (row_loss q c.args.self.value P) q.top (c.loop-r.r - q.top) (loss-few q on P c.args.self.value),
    )

pub loop-r-preserved : goal.loop-r-preserved
loop-r-preserved c =
    let q = c.args.self.area.q in
    let P = held_in c.args.words.now c.args.h in (
      omega (
        arith,
        c.loop-r.invariant.0,
        row-adds q c.args.self.value c.loop-r.r c.cells-row.ensures c.set_of-set.ensures.positions,
        sum-next (row_gain q c.args.self.value P) q.top c.loop-r.r c.loop-r.auto.r,
      ),
      omega (
        arith,
        c.loop-r.invariant.1,
        row-takes q c.args.self.value c.loop-r.r c.cells-row.ensures c.set_of-set.ensures.positions,
        sum-next (row_loss q c.args.self.value P) q.top c.loop-r.r c.loop-r.auto.r,
      ),
    )

pub returns : goal.returns
returns c =
    let s = c.args.self in
    let q = s.area.q in
    let P = held_in c.args.words.now c.args.h in
    elim c.loop-r-test.branch [
      | else-loop-r-test w ↦ absurd (omega (arith, c.loop-r.auto.r-end, w.loop-r-test.false, s.area.on_plane.rows))
      | then-loop-r-test+else-r-r-end w ↦
          let e : c.loop-r.r + 1 - q.top ≡ suc q.bottom - q.top = omega (arith, w.loop-r-test.true) in
          rect-counted q s.value P s.limit s.area.on_plane s.narrow
          (omega (
            arith,
            w.more-is,
            w.gain-more.ensures,
            c.loop-r.invariant.0,
            row-adds q s.value c.loop-r.r w.cells-row.ensures c.set_of-set.ensures.positions,
            sum-next (row_gain q s.value P) q.top c.loop-r.r c.loop-r.auto.r,
            ap (row_sum (row_gain q s.value P) q.top) e,
          ))
          (omega (
            arith,
            w.less-is,
            w.loss-less.ensures,
            c.loop-r.invariant.1,
            row-takes q s.value c.loop-r.r w.cells-row.ensures c.set_of-set.ensures.positions,
            sum-next (row_loss q s.value P) q.top c.loop-r.r c.loop-r.auto.r,
            ap (row_sum (row_loss q s.value P) q.top) e,
          ))
    ]
