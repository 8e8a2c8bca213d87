-- `rebalance` meets its contract: where the heights differ by one at most, `rebalanced` joins the trees as they are; else `turn` does what it says.
-- Assumes nothing.
use Rattle.std.proofs.Common.{arith}
use Rattle.run_index.proofs.Trees.{height≤runs}
use Rattle.run_index.proofs.Turning.{plain-rebalanced}
use Rattle.run_index.proofs.rebalance.Goals as goal

-- the heights are no greater than the number of runs, which is small
pub overflow_add-r : goal.overflow_add-r
overflow_add-r c =
    let p = c.requires in
    let h = p.2 in
    omega (arith, c.sums-l.ensures _ p.0 h.left, c.sums-r.ensures _ p.1 h.right, h.few, height≤runs p.0, height≤runs p.1)

pub overflow_add-l : goal.overflow_add-l
overflow_add-l c =
    let p = c.requires in
    let h = p.2 in
    omega (arith, c.sums-l.ensures _ p.0 h.left, c.sums-r.ensures _ p.1 h.right, h.few, height≤runs p.0, height≤runs p.1)

pub returns : goal.returns
returns c =
    λ l r h.
    let sl = c.sums-l.ensures _ l h.left in
    let sr = c.sums-r.ensures _ r h.right in
    plain-rebalanced h (omega (arith, sl, sr, c.if-r-l.false)) (omega (arith, sl, sr, c.if-l-r.false)) c.join.ensures
