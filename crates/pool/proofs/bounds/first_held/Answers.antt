-- `first_held` meets its contract: the first run of all tells it where nothing is turned. Assumes nothing.
use Rattle.std.proofs.Common.{arith, rules}
use Rattle.pool.proofs.Nearby.{told-first}
use Rattle.pool.proofs.bounds.first_held.Goals as goal

pub returns : goal.returns
returns c =
    told-first c.args.set.now.runs c.at_or_after.ensures.in_order c.args.set.now.offset (omega arith) (omega (arith, c.if-set-ne0.false))
    c.at_or_after.ensures.found c.map_or.ensures (λ r h. search rules)
