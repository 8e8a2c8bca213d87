-- `get_physical` meets its contract: the last run that starts at or before x reaches x exactly if x is held.
-- Assumes nothing.
use Rattle.std.proofs.Common.{arith, rules, tests}
use Rattle.pool.proofs.Nearby.{told-held}
use Rattle.pool.proofs.bounds.get_physical.Goals as goal

pub returns-clause-held : goal.returns-clause-held
returns-clause-held c =
    told-held c.args.runs.now c.at_or_before.ensures.in_order 0 (omega arith) c.args.x.0 c.at_or_before.ensures.found c.is_some_and.ensures
    (λ r h. search (rules, tests))
