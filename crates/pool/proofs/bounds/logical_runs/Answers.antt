-- `logical_runs` meets its contract: the physical runs, one more where logical 0 cuts one, one less where physical M and 0 join two.
-- Assumes nothing.
use Rattle.pool.proofs.Base.{◌≡◌, ◌+◌, arith, stretches, mem, turned}
use Rattle.run_index.proofs.Walking.{whole-canonical, whole-few}
use Rattle.pool.proofs.LogicalRuns.{logical-zero, logical-runs, runs-from, from-small}
use Rattle.pool.proofs.bounds.logical_runs.Goals as goal
use Rattle.pool.proofs.bounds.logical_runs.Goals.{After-from-2}

pub returns-then-set-eq0 : goal.returns-then-set-eq0
returns-then-set-eq0 c = logical-zero c.args.set.now.runs (whole-canonical c.runs.invariant c.runs.view_is) c.requires c.if-set-eq0.true

-- what is counted
counted : (c : After-from-2) → stretches (turned c.args.set.now.offset (mem c.args.set.now.runs)) + c.from-2.result ≡ c.args.n + c.from.result
counted c =
    runs-from c.args.n (stretches (turned c.args.set.now.offset (mem c.args.set.now.runs))) c.both_held-cut.result c.both_held-joined.result c.from.ensures c.from-2.ensures
    (logical-runs c.args.set.now.runs (whole-canonical c.runs.invariant c.runs.view_is) c.requires (omega arith) c.if-set-eq0.false
    c.to_physical-zero.ensures c.to_physical-top.ensures c.both_held-cut.ensures c.both_held-joined.ensures)

-- there are so few runs that one more is counted
pub overflow_add-result : goal.overflow_add-result
overflow_add-result c = omega (arith, whole-few c.runs.invariant c.runs.view_is, c.requires, from-small c.both_held-cut.result c.from.ensures)

pub overflow_sub-result : goal.overflow_sub-result
overflow_sub-result c =
    let e = counted (goal.at.overflow_sub-result c).After-from-2 in
    omega (arith, e)

pub returns : goal.returns
returns c =
    let e = counted (goal.at.returns c).After-from-2 in
    omega (arith, e)
