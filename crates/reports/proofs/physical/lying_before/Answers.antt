-- `lying_before` meets its contract: the rank of the position before s tells the held ones, and the rest is free.
-- Assumes nothing.
use Rattle.std.proofs.Common.{arith}
use Rattle.model.specs.Positions.{mem}
use Rattle.reports.proofs.Ranks.{under-zero, ones-fit, under-held, under-free}
use Rattle.reports.proofs.physical.lying_before.Goals as goal

pub returns-in_default : goal.returns-in_default
returns-in_default c = under-zero (mem c.args.runs.now) c.args.value (omega (arith, c.in_default.ensures))

pub overflow_sub-result : goal.overflow_sub-result
overflow_sub-result c = ones-fit c.in-Some.ensures (omega arith) c.rank_at-held.ensures.ranked

pub returns-then-value : goal.returns-then-value
returns-then-value c = under-held c.in-Some.ensures (omega arith) c.rank_at-held.ensures.ranked c.if-value.true

pub returns-else-value : goal.returns-else-value
returns-else-value c = under-free c.in-Some.ensures (omega arith) c.rank_at-held.ensures.ranked c.if-value.false
