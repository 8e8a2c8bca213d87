-- `pass` meets its contract. The loop's invariant: the rows before row r are passed. Assumes nothing.
use Prim.Native.Nat.{◌+◌}
use mathlib.Core.Path.{◌≡◌, subst}
use native.Mathlib.Omega.{arith}
use Rattle.grid.specs.Rows.{Passes}
use Rattle.grid.proofs.Passing.{passed_none, passed-next}
use Rattle.grid.proofs.rows.Change.pass.Goals as goal
use Rattle.grid.proofs.rows.Change.pass.Goals.{After-set_row-k}

pub loop-r-init : goal.loop-r-init
loop-r-init c = passed_none c.args.self.area.q c.args.self.value

-- row r is passed too
next : (c : After-set_row-k) → Passes c.args.words.now c.set_row-k.new.words c.args.h c.set_row-k.result c.args.self.limit c.args.self.area.q c.args.self.value (c.loop-r.r + 1)
next c =
    passed-next c.loop-r.auto.r c.cells.ensures c.loop-r.invariant c.set_row-k.ensures

pub loop-r-preserved : goal.loop-r-preserved
loop-r-preserved c = next (goal.at.loop-r-preserved c).After-set_row-k

pub returns-2 : goal.returns-2
returns-2 c =
    let e : c.loop-r.r + 1 ≡ c.args.self.area.q.bottom + 1 = omega (arith, c.loop-r-test.true) in
    subst (Passes c.args.words.now c.set_row-k.new.words c.args.h c.set_row-k.result c.args.self.limit c.args.self.area.q c.args.self.value) e
    (next (goal.at.returns-2 c).After-set_row-k)
