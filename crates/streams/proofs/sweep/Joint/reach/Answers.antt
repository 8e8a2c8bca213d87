-- `reach` meets its contract. At each turn both cursors stand at the same position, and the join has had the other value so far, whatever positions
-- they read. The measure is what is left of the positions. Assumes nothing.
use mathlib.Core.Path.{◌≡◌, sym, ◌∙◌}
use mathlib.Core.Bool.{not}
use native.Mathlib.Omega.{arith}
use Rattle.model.specs.Positions.{Positions}
use Rattle.model.proofs.After.{differing, agreeing}
use Rattle.streams.specs.Sweeping.{Both}
use Rattle.streams.proofs.Sweeps.{value-here, swept-found, swept-onward, swept_none, left-moves, right-moves, swept-on}
use Rattle.streams.proofs.sweep.Joint.reach.Goals as goal
use Rattle.streams.proofs.sweep.Joint.reach.Goals.{In-loop-self}

-- the join has the other value here
other : (c : In-loop-self) (J : Positions) → Both c.args.self.now c.args.from.0 J → J c.loop-self.at.0 ≡ not c.args.value
other c J b =
    sym (value-here (c.loop-self.invariant.1 J b) c.value_at.ensures c.value_at-in-loop-self.ensures c.join.ensures)
    ∙ differing c.join.result c.args.value c.loop-self-test.true

pub returns-in_err-at : goal.returns-in_err-at
returns-in_err-at c = (
  c.loop-self.invariant.0,
  rw c.from_residual.ensures
      (λ J b. swept_none (c.loop-self.invariant.1 J b) c.same_to.ensures c.same_to-in-loop-self.ensures c.min-last.ensures
      (other (goal.at.returns-in_err-at c).In-loop-self J b) c.in_err-at.ensures),
)

pub move_to-requires : goal.move_to-requires
move_to-requires c =
    (_, _, left-moves (c.loop-self.invariant.1 _ c.requires.1) c.same_to.ensures c.same_to-in-loop-self.ensures c.min-last.ensures c.in_ok-at.ensures)

pub move_to-requires-in-loop-self : goal.move_to-requires-in-loop-self
move_to-requires-in-loop-self c =
    (_, _, right-moves (c.loop-self.invariant.1 _ c.requires.1) c.same_to.ensures c.same_to-in-loop-self.ensures c.min-last.ensures c.in_ok-at.ensures)

pub loop-self-smaller : goal.loop-self-smaller
loop-self-smaller c =
    let s = c.loop-self.invariant.1 _ c.requires.1 in
    let h = swept-onward s c.same_to.ensures c.same_to-in-loop-self.ensures c.min-last.ensures in omega (arith, s.small, c.in_ok-at.ensures)

pub loop-self-preserved : goal.loop-self-preserved
loop-self-preserved c = (
  c.loop-self.invariant.0,
  λ J b. swept-on (c.loop-self.invariant.1 J b) c.same_to.ensures c.same_to-in-loop-self.ensures c.min-last.ensures c.in_ok-at.ensures
      (other (goal.at.loop-self-preserved c).In-loop-self J b) (omega (arith, c.well_formed)) c.move_to.ensures c.move_to-in-loop-self.ensures,
)

pub returns : goal.returns
returns c = (
  c.loop-self.invariant.0,
  λ J b.
      let s = c.loop-self.invariant.1 J b in (
        swept-found s (value-here s c.value_at.ensures c.value_at-in-loop-self.ensures c.join.ensures) (agreeing c.join.result c.args.value c.loop-self-test.false),
        s.both,
      ),
)
