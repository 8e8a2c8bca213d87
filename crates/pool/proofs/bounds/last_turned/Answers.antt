-- `last_turned` meets its contract: the last run that starts at or before the place of logical M holds it, or ends before it; where there is
-- none, the last run of all is what there is. Assumes nothing.
use Rattle.pool.proofs.Base.{sym, ap, ◌∙◌, arith, le-leb, size, reaches, mem-last}
use Rattle.pool.proofs.Nearby.{last-top}
use Rattle.pool.proofs.bounds.last_turned.Goals as goal

pub returns-then-top-r : goal.returns-then-top-r
returns-then-top-r c =
    last-top c.args.set.now.runs c.at_or_before.ensures.in_order c.args.set.now.offset (omega arith) c.to_physical-top.result.0 c.to_physical-top.ensures
    (mem-last size 0 c.args.set.now.runs c.to_physical-top.result.0 c.at_or_before.ensures.in_order
    ∙ ap (reaches c.to_physical-top.result.0) (sym c.at_or_before.ensures.found ∙ c.in-Some.is) ∙ le-leb c.to_physical-top.result.0 c.in-Some.r.«end» c.if-top-r.true)
