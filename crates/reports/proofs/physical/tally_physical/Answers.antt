-- `tally_physical` meets its contract: the ranks of both ends differ by what is held above the first position, and by the runs that start there; the rest is free.
-- Assumes nothing.
use Rattle.std.proofs.Common.{◌+◌, not, inl, inr, ap, ◌∙◌, arith}
use Rattle.model.specs.Numbers.{worth}
use Rattle.pool.proofs.Truths.{byte-small}
use Rattle.reports.proofs.Ranks.{starts-small, starts-ordered, more-fits, tally-more, tally-same}
use Rattle.reports.proofs.physical.tally_physical.Goals as goal
use Rattle.reports.proofs.physical.tally_physical.Goals.{then-value, else-value}

pub overflow_sub-starts : goal.overflow_sub-starts
overflow_sub-starts c =
    starts-ordered c.rank_at-under.ensures.in_order c.args.s.ordered c.rank_at-under.ensures.ranked c.rank_at-upto.ensures.ranked

pub overflow_add-above : goal.overflow_add-above
overflow_add-above c =
    omega (arith, starts-small c.rank_at-upto.ensures.ranked c.rank_at-upto.ensures.in_order, byte-small c.rank_at-under.result.held, c.from.ensures)

pub overflow_sub-above-else-value : goal.overflow_sub-above-else-value
overflow_sub-above-else-value c =
    more-fits c.rank_at-under.ensures.in_order c.args.s.ordered c.rank_at-under.ensures.ranked c.rank_at-upto.ensures.ranked (omega arith)

pub overflow_add-above-else-value : goal.overflow_add-above-else-value
overflow_add-above-else-value c =
    omega (arith, starts-small c.rank_at-upto.ensures.ranked c.rank_at-upto.ensures.in_order, byte-small (not c.rank_at-upto.result.held), c.from-else-value.ensures)

pub returns-then-under-value : goal.returns-then-under-value
returns-then-under-value c =
    tally-more c.rank_at-under.ensures.in_order c.args.s.ordered c.rank_at-under.ensures.ranked c.rank_at-upto.ensures.ranked (omega arith) c.if-under-value.true (omega (arith, c.width-count.ensures))
    (elim c.if-value.branch [
      | then-value w ↦ inl (w.if-value.true, ap (λ x. x.0) w.above-is, ap (λ x. x.1) w.above-is ∙ ap (λ n. _ + n) w.from.ensures)
      | else-value w ↦ inr (w.if-value.false, ap (λ x. x.0) w.above-is, ap (λ x. x.1) w.above-is ∙ ap (λ n. _ + n) w.from-else-value.ensures)
    ])

pub returns-else-under-value : goal.returns-else-under-value
returns-else-under-value c =
    tally-same c.rank_at-under.ensures.in_order c.args.s.ordered c.rank_at-under.ensures.ranked c.rank_at-upto.ensures.ranked (omega arith) c.if-under-value.false (omega (arith, ap worth c.from-count.ensures))
    (elim c.if-value.branch [
      | then-value w ↦ inl (w.if-value.true, ap (λ x. x.0) w.above-is, ap (λ x. x.1) w.above-is ∙ ap (λ n. _ + n) w.from.ensures)
      | else-value w ↦ inr (w.if-value.false, ap (λ x. x.0) w.above-is, ap (λ x. x.1) w.above-is ∙ ap (λ n. _ + n) w.from-else-value.ensures)
    ])
