-- `one_valued` meets its contract. The loop's invariant: the cells of the rows before row r have the first cell's value; the measure is the rows
-- that are left. Assumes nothing.
use mathlib.Core.Path.{◌≡◌, sym, ap, ap₂, ◌∙◌, subst₂}
use mathlib.Core.Bool.{Bool}
use Prim.Native.Nat.{◌+◌, ◌/◌, ◌^◌}
use native.Mathlib.Omega.{arith}
use Rattle.std.proofs.Math.Nat.{le-max_right}
use Rattle.pool.specs.Layout.{held}
use Rattle.model.specs.Grid.{one_valued}
use Rattle.reports.specs.Reports.{logical_number}
use Rattle.grid.specs.Surveys.{OnGrid}
use Rattle.grid.proofs.Alike.{alike-one, alike_all, alike-rest, alike_next, other-here}
use Rattle.grid.proofs.survey.one_valued.Goals as goal
use Rattle.grid.proofs.survey.one_valued.Goals.{At-loop-r}

-- the rows and columns that were counted are on the grid
on : (l : At-loop-r) → OnGrid l.args.b.corner.row l.args.b.corner.column l.rows.result l.columns-columns.result
on l = subst₂ (OnGrid l.args.b.corner.row l.args.b.corner.column) (sym l.rows.ensures) (sym l.columns-columns.ensures) l.args.b.halved.on

-- and are the block
told : (l : At-loop-r) {v : Bool} → one_valued (held l.args.set.now) l.args.b.corner.row l.args.b.corner.column l.rows.result l.columns-columns.result ≡ v
    → v ≡ one_valued (held l.args.set.now) l.args.b.corner.row l.args.b.corner.column (2 ^ l.args.b.i) (2 ^ l.args.b.j)
told l e = sym e ∙ ap₂ (one_valued (held l.args.set.now) l.args.b.corner.row l.args.b.corner.column) l.rows.ensures l.columns-columns.ensures

pub returns-in_default : goal.returns-in_default
returns-in_default c =
    let l = (goal.at.returns-in_default c).At-loop-r in
    told l
    (alike-one (held c.args.set.now) _ _ _ _ (on l) c.value_at-value.result
    (alike-rest (held c.args.set.now) _ _ _ _ _ (on l) c.loop-r.r c.loop-r.invariant.0 c.loop-r.invariant.2
    (logical_number c.next.result) c.next.ensures (ap logical_number c.in_default.is)))

pub returns-then-y-at : goal.returns-then-y-at
returns-then-y-at c =
    let l = (goal.at.returns-then-y-at c).At-loop-r in
    told l
    (other-here (held c.args.set.now) _ _ _ _ _ (on l) c.loop-r.r c.loop-r.invariant.0 c.loop-r.invariant.2 (logical_number c.next.result) c.next.ensures _
    (ap logical_number c.in-Some.is) c.loop-r-test.true c.loop-r.invariant.1 c.if-y-at.true)

pub loop-r-preserved : goal.loop-r-preserved
loop-r-preserved c = (
  omega (arith, c.loop-r.invariant.0, c.max-r.ensures, le-max_right (c.in-Some.y.0 / 65536) (c.loop-r.r + 1)),
  c.loop-r.invariant.1,
  alike_next (held c.args.set.now) _ _ _ _ _ (on (goal.at.loop-r-preserved c).At-loop-r) c.loop-r.r c.loop-r.invariant.0 c.loop-r.invariant.2
      (logical_number c.next.result) c.next.ensures _ (ap logical_number c.in-Some.is) _ c.if-y-at.false c.max-r.ensures,
)

pub returns : goal.returns
returns c =
    let l = (goal.at.returns c).At-loop-r in
    told l
    (alike-one (held c.args.set.now) _ _ _ _ (on l) _
    (alike_all (held c.args.set.now) _ _ _ _ _ (on l) c.loop-r.r c.loop-r.invariant.0 c.loop-r.invariant.2 c.loop-r-test.false))
