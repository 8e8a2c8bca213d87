-- `select_physical` meets its contract: among all positions of the value, the one sought has k and those before s before it.
-- Assumes nothing.
use Rattle.std.proofs.Common.{arith}
use Rattle.model.specs.Positions.{mem}
use Rattle.reports.proofs.Ranks.{chosen-there, chosen-fits, chosen-told}
use Rattle.reports.proofs.physical.select_physical.Goals as goal

pub overflow_add-lying_before : goal.overflow_add-lying_before
overflow_add-lying_before c = omega (arith, chosen-fits (mem c.args.runs.now) c.args.value (omega arith) c.lying_before.ensures c.requires)

pub select-requires : goal.select-requires
select-requires c = chosen-there (mem c.args.runs.now) c.args.value (omega arith) c.lying_before.ensures c.requires

pub returns : goal.returns
returns c = chosen-told (mem c.args.runs.now) c.args.value (omega arith) c.lying_before.ensures _ c.select.ensures
