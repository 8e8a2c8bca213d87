-- `at_or_before` meets its contract: the node found last counts where the part of the tree at hand has no such run.
-- The measure is the height of that part. Assumes nothing.
use Rattle.run_index.proofs.Walking.{walk_start, whole-canonical, walk-left-falls, walk-right-falls, go_left, go_right}
use Rattle.run_index.proofs.Searching.{last-start, last-left, last-right}
use Rattle.run_index.proofs.search.Runs.at_or_before.Goals as goal

pub loop-q-init : goal.loop-q-init
loop-q-init c = walk_start c.self.invariant c.self.view_is (last-start _ c.args.x c.args.self.now)

pub loop-q-smaller-then-v-x : goal.loop-q-smaller-then-v-x
loop-q-smaller-then-v-x c =
    walk-right-falls c.loop-q.invariant _ c.loop-q-test.true c.read_node-v.ensures

pub loop-q-preserved-then-v-x : goal.loop-q-preserved-then-v-x
loop-q-preserved-then-v-x c =
    go_right c.loop-q.invariant _ c.loop-q-test.true c.read_node-v.ensures (λ s. last-right s c.if-v-x.true)

pub loop-q-smaller : goal.loop-q-smaller
loop-q-smaller c =
    walk-left-falls c.loop-q.invariant _ c.loop-q-test.true c.read_node-v.ensures

pub loop-q-preserved : goal.loop-q-preserved
loop-q-preserved c =
    go_left c.loop-q.invariant _ c.loop-q-test.true c.read_node-v.ensures (λ s. last-left s c.if-v-x.false)

pub returns-clause-in_order : goal.returns-clause-in_order
returns-clause-in_order c = whole-canonical c.self.invariant c.self.view_is
