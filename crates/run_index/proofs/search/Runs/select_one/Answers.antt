-- `select_one` meets its contract: the k-th held position of the whole tree is the left-th of the part of it at hand, which has more than that.
-- The measure is the height of the part. Assumes nothing.
use Rattle.std.proofs.Common.{◌∙◌, arith}
use Rattle.model.proofs.Search.{select-held}
use Rattle.run_index.proofs.Walking.{walk_start, walk_end, whole-canonical, spot, left-held, walk-left-falls, walk-right-falls, go_left, go_right}
use Rattle.run_index.proofs.Searching.{pick-start, pick-left, pick-in, pick-right, pick-none}
use Rattle.run_index.proofs.search.Runs.select_one.Goals as goal

pub loop-q-init : goal.loop-q-init
loop-q-init c = walk_start c.self.invariant c.self.view_is (pick-start c.args.k c.args.self.now)

pub sums-l-requires : goal.sums-l-requires
sums-l-requires c = left-held c.loop-q.invariant _ c.loop-q-test.true c.read_node-v.ensures

pub loop-q-smaller-then-left-l : goal.loop-q-smaller-then-left-l
loop-q-smaller-then-left-l c =
    walk-left-falls c.loop-q.invariant _ c.loop-q-test.true c.read_node-v.ensures

pub loop-q-preserved-then-left-l : goal.loop-q-preserved-then-left-l
loop-q-preserved-then-left-l c =
    go_left c.loop-q.invariant _ c.loop-q-test.true c.read_node-v.ensures (λ s. pick-left s c.sums-l.ensures c.if-left-l.true)

pub returns-then-left-v : goal.returns-then-left-v
returns-then-left-v c =
    select-held c.args.self.now c.args.k (whole-canonical c.self.invariant c.self.view_is) ∙ pick-in
    (spot c.loop-q.invariant _ c.loop-q-test.true c.read_node-v.ensures) c.sums-l.ensures
    c.if-left-l.false (omega (arith, c.if-left-v.true))

pub loop-q-smaller : goal.loop-q-smaller
loop-q-smaller c =
    walk-right-falls c.loop-q.invariant _ c.loop-q-test.true c.read_node-v.ensures

pub loop-q-preserved : goal.loop-q-preserved
loop-q-preserved c =
    go_right c.loop-q.invariant _ c.loop-q-test.true c.read_node-v.ensures
    (λ s. pick-right s c.sums-l.ensures c.if-left-l.false c.if-left-v.false)

pub returns : goal.returns
returns c =
    absurd (pick-none _ _ c.args.self.now (whole-canonical c.self.invariant c.self.view_is) (walk_end c.loop-q.invariant c.loop-q-test.false) c.requires)
