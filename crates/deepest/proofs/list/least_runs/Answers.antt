-- `least_runs` meets its contract. The loop's invariant: a and b are the numbers for the heights i and i + 1. Assumes nothing.
use Rattle.std.proofs.Common.{◌+◌, arith}
use Rattle.deepest.proofs.Ranks.{least_by}
use Rattle.deepest.proofs.list.least_runs.Goals as goal

pub loop-preserved : goal.loop-preserved
loop-preserved c =
    let n = least_by (c.loop.counter + 1 + 1) (c.loop.counter + 1) c.loop.counter (omega arith) (omega arith) (omega arith) in
    let i = c.loop.invariant in
    (omega arith, i.2, omega (arith, n, i.1, i.2))
