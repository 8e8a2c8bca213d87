-- `put_deepest` meets its contract. The loop's invariant: the middle ranks of fewer than d partings are in front. Assumes nothing.
use Rattle.std.proofs.Common.{◌≡◌, arith}
use Rattle.deepest.proofs.Ranks.{filled_none, next-puttable, filled_next, filled-all}
use Rattle.deepest.proofs.list.put_deepest.Goals as goal

pub loop-d-init : goal.loop-d-init
loop-d-init c = (omega arith, filled_none _ _)

pub put_middles-at-requires : goal.put_middles-at-requires
put_middles-at-requires c =
    next-puttable _ _ c.requires _ _ _ c.loop-d-test.true c.loop-d.invariant.1 _ c.least_runs-a.ensures

pub loop-d-preserved : goal.loop-d-preserved
loop-d-preserved c =
    (omega (arith, c.loop-d-test.true), filled_next _ _ c.requires _ _ _ c.loop-d-test.true c.loop-d.invariant.1 _ _ c.put_middles-at.ensures)

pub returns : goal.returns
returns c =
    let all : c.loop-d.d ≡ c.args.h = omega (arith, c.loop-d.invariant.0, c.loop-d-test.false) in
    filled-all _ _ c.requires _ _ _ all c.loop-d.invariant.1
