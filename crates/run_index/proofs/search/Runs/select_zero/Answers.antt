-- `select_zero` meets its contract: the k-th free position of the whole tree is the left-th from `low` on in the part of it at hand.
-- It is a position, so `low` never passes the last one. The measure is the height of the part. Assumes nothing.
use Rattle.std.specs.Prelude.{Some}
use Rattle.std.proofs.Common.{ap, ◌∙◌, arith}
use Rattle.model.proofs.Search.{select-gap}
use Rattle.run_index.proofs.Walking.{Spot, walk_start, walk_end, whole-canonical, spot, left-held, walk-left-falls, walk-right-falls, go_left, go_right}
use Rattle.run_index.proofs.Searching.{Gapping, gap-start, gap_below, gap-low, gap-room, gap-left, gap-right, gap-end}
use Rattle.run_index.proofs.search.Runs.select_zero.Goals as goal
use Rattle.run_index.proofs.search.Runs.select_zero.Goals.{After-read_node-v}

-- the node at hand and the part of the tree at it
at-hand : (r : After-read_node-v)
    → Spot r.self.inside.nodes.now r.loop-q.invariant.tag r.loop-q.q r.read_node-v.result (Gapping r.args.k r.loop-q.low r.loop-q.left) r.args.self.now
at-hand r = spot r.loop-q.invariant _ r.loop-q-test.true r.read_node-v.ensures

pub loop-q-init : goal.loop-q-init
loop-q-init c =
    walk_start c.self.invariant c.self.view_is (gap-start c.args.k c.args.self.now (whole-canonical c.self.invariant c.self.view_is))

pub sums-l-requires : goal.sums-l-requires
sums-l-requires c = left-held c.loop-q.invariant _ c.loop-q-test.true c.read_node-v.ensures

pub overflow_sub-free : goal.overflow_sub-free
overflow_sub-free c =
    omega (arith, gap-room (at-hand (goal.at.overflow_sub-free c).After-read_node-v) c.sums-l.ensures)

pub overflow_sub-free-in-loop-q : goal.overflow_sub-free-in-loop-q
overflow_sub-free-in-loop-q c =
    omega (arith, gap-room (at-hand (goal.at.overflow_sub-free-in-loop-q c).After-read_node-v) c.sums-l.ensures)

pub loop-q-smaller-then-left-free : goal.loop-q-smaller-then-left-free
loop-q-smaller-then-left-free c =
    walk-left-falls c.loop-q.invariant _ c.loop-q-test.true c.read_node-v.ensures

pub loop-q-preserved-then-left-free : goal.loop-q-preserved-then-left-free
loop-q-preserved-then-left-free c =
    go_left c.loop-q.invariant _ c.loop-q-test.true c.read_node-v.ensures (λ s. gap-left s c.sums-l.ensures c.if-left-free.true)

pub overflow_add-low : goal.overflow_add-low
overflow_add-low c =
    let h = gap-low _ _ _ c.args.self.now _ (gap-right (at-hand (goal.at.overflow_add-low c).After-read_node-v) c.sums-l.ensures c.if-left-free.false)
    (gap_below c.args.k c.args.self.now (whole-canonical c.self.invariant c.self.view_is) c.requires) in
    omega (arith, h)

pub loop-q-smaller : goal.loop-q-smaller
loop-q-smaller c =
    walk-right-falls c.loop-q.invariant _ c.loop-q-test.true c.read_node-v.ensures

pub loop-q-preserved : goal.loop-q-preserved
loop-q-preserved c =
    go_right c.loop-q.invariant _ c.loop-q-test.true c.read_node-v.ensures
    (λ s. gap-right s c.sums-l.ensures c.if-left-free.false)

pub overflow_add-result : goal.overflow_add-result
overflow_add-result c =
    omega (
      arith,
      gap-end c.args.k _ _ c.args.self.now (walk_end c.loop-q.invariant c.loop-q-test.false),
      gap_below c.args.k c.args.self.now (whole-canonical c.self.invariant c.self.view_is) c.requires,
    )

pub returns : goal.returns
returns c =
    let end = gap-end c.args.k _ _ c.args.self.now (walk_end c.loop-q.invariant c.loop-q-test.false) in
    let below = gap_below c.args.k c.args.self.now (whole-canonical c.self.invariant c.self.view_is) c.requires in
    select-gap c.args.self.now c.args.k (whole-canonical c.self.invariant c.self.view_is) (omega arith) ∙ ap Some end
