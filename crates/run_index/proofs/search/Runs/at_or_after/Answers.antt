-- `at_or_after` meets its contract: the node found last counts where the part of the tree at hand has no such run.
-- The measure is the height of that part. Assumes nothing.
use Rattle.run_index.proofs.Walking.{walk_start, whole-canonical, walk-left-falls, walk-right-falls, go_left, go_right}
use Rattle.run_index.proofs.Searching.{first-start, first-left, first-right}
use Rattle.run_index.proofs.search.Runs.at_or_after.Goals as goal

pub loop-q-init : goal.loop-q-init
loop-q-init c = walk_start c.self.invariant c.self.view_is (first-start _ c.args.x c.args.self.now)

pub loop-q-smaller-then-x-v : goal.loop-q-smaller-then-x-v
loop-q-smaller-then-x-v c =
    walk-left-falls c.loop-q.invariant _ c.loop-q-test.true c.read_node-v.ensures

pub loop-q-preserved-then-x-v : goal.loop-q-preserved-then-x-v
loop-q-preserved-then-x-v c =
    go_left c.loop-q.invariant _ c.loop-q-test.true c.read_node-v.ensures (λ s. first-left s c.if-x-v.true)

pub loop-q-smaller : goal.loop-q-smaller
loop-q-smaller c =
    walk-right-falls c.loop-q.invariant _ c.loop-q-test.true c.read_node-v.ensures

pub loop-q-preserved : goal.loop-q-preserved
loop-q-preserved c =
    go_right c.loop-q.invariant _ c.loop-q-test.true c.read_node-v.ensures (λ s. first-right s c.if-x-v.false)

pub returns-clause-in_order : goal.returns-clause-in_order
returns-clause-in_order c = whole-canonical c.self.invariant c.self.view_is
