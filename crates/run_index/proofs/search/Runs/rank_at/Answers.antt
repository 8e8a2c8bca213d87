-- `rank_at` meets its contract: what the runs that start at or before y have in the whole tree is what was passed and what such runs of the part
-- of it at hand have. Of those runs only the last, found as `at_or_before` finds it, has positions above y. The measure is the height of the
-- part. Assumes nothing.
use Rattle.std.proofs.Common.{ℕ, ◌+◌, ◌*◌, ◌^◌, ◌<◌, ◌≤◌, arith, ◌≡◌, Bool, true, false, leb, ◌∙◌, refl}
use mir.Val.{bool_byte}
use Rattle.model.specs.Positions.{one_if}
use Rattle.run_index.proofs.Walking.{walk_start, walk_end, spot, left-held, whole-few, whole-canonical, walk-left-falls, walk-right-falls, go_left, go_right}
use Rattle.run_index.proofs.Searching.{rank-start, times-most, rank-few, rank_left, rank_right, rank-none, rank-some}
use Rattle.run_index.proofs.search.Runs.rank_at.Goals as goal
use Rattle.run_index.proofs.search.Runs.rank_at.Goals.{After-from-here, After-read_node-v, After-sums-l}

-- the runs passed, with those to the left of the node and its own, are few
few : (a : After-sums-l) → a.loop-q.starts + (a.sums-l.result.runs + 1) < 2 ^ 62
few a = omega (arith, rank-few (spot a.loop-q.invariant _ a.loop-q-test.true a.read_node-v.ensures) a.sums-l.ensures, whole-few a.self.invariant a.self.view_is)

-- a bool as the number that it is
byte : (b : Bool) → bool_byte b ≡ one_if b
byte true = refl
byte false = refl

-- whether the node's run starts at y or before
here : (m : After-from-here) → m.from-here.result ≡ one_if (leb m.read_node-v.result.start m.args.y)
here m = m.from-here.ensures ∙ byte _

-- what the node adds to them is either all of this or nothing
most : (m : After-from-here) (n : ℕ) → m.from-here.result * n ≤ n
most m n = times-most _ n m.read_node-v.result.start m.args.y (here m)

pub loop-q-init : goal.loop-q-init
loop-q-init c = walk_start c.self.invariant c.self.view_is (rank-start _ c.args.y c.args.self.now)

pub sums-l-requires : goal.sums-l-requires
sums-l-requires c = left-held c.loop-q.invariant _ c.loop-q-test.true c.read_node-v.ensures

pub overflow_mul-starts : goal.overflow_mul-starts
overflow_mul-starts c =
    omega (arith, few (goal.at.overflow_mul-starts c).After-sums-l, most (goal.at.overflow_mul-starts c).After-from-here (c.sums-l.result.runs + 1))

pub overflow_add-starts-in-loop-q : goal.overflow_add-starts-in-loop-q
overflow_add-starts-in-loop-q c =
    omega (arith, few (goal.at.overflow_add-starts-in-loop-q c).After-sums-l, most (goal.at.overflow_add-starts-in-loop-q c).After-from-here (c.sums-l.result.runs + 1))

pub loop-q-smaller-then-v-y : goal.loop-q-smaller-then-v-y
loop-q-smaller-then-v-y c =
    walk-right-falls c.loop-q.invariant _ c.loop-q-test.true c.read_node-v.ensures

pub loop-q-preserved-then-v-y : goal.loop-q-preserved-then-v-y
loop-q-preserved-then-v-y c =
    go_right c.loop-q.invariant _ c.loop-q-test.true c.read_node-v.ensures
    (λ s.
    rank_right s c.sums-l.ensures _ _ (here (goal.at.loop-q-preserved-then-v-y c).After-from-here) c.wrapped_width-width.ensures c.if-v-y.true)

pub loop-q-smaller : goal.loop-q-smaller
loop-q-smaller c =
    walk-left-falls c.loop-q.invariant _ c.loop-q-test.true c.read_node-v.ensures

pub loop-q-preserved : goal.loop-q-preserved
loop-q-preserved c =
    go_left c.loop-q.invariant _ c.loop-q-test.true c.read_node-v.ensures
    (λ s.
    rank_left s c.sums-l.ensures _ _ (here (goal.at.loop-q-preserved c).After-from-here) c.wrapped_width-width.ensures c.if-v-y.false)

pub returns-then-best-eq0 : goal.returns-then-best-eq0
returns-then-best-eq0 c =
    let order = whole-canonical c.self.invariant c.self.view_is in
    record {
      ranked = rank-none order (walk_end c.loop-q.invariant c.loop-q-test.false) c.if-best-eq0.true c.default.result c.default.ensures;
      in_order = order;
    }

pub returns : goal.returns
returns c =
    let order = whole-canonical c.self.invariant c.self.view_is in
    record {
      ranked = rank-some order (walk_end c.loop-q.invariant c.loop-q-test.false) _ c.if-best-eq0.false c.read_node-v-2.ensures _ (omega arith) (omega arith);
      in_order = order;
    }
