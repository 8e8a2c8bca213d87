-- `join` meets its contract: the node it writes is the cell of the two trees, whose sums it is told.
-- The height and the number of runs fit, since there are fewer than 2^62 runs. Assumes nothing.
use Rattle.std.proofs.Common.{arith}
use Rattle.run_index.proofs.Trees.{height≤runs}
use Rattle.run_index.proofs.join.Goals as goal

pub overflow_add-max : goal.overflow_add-max
overflow_add-max c =
    let p = c.requires in
    let k = p.pullable.children in
    omega (arith, c.max.ensures, p.tells_sums.0 k.0 k.1 k.3, p.tells_sums.1 k.0 k.2 k.4, height≤runs k.1, height≤runs k.2, k.5)
