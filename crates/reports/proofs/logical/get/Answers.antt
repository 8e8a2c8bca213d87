-- `get` meets its contract: a logical position is held where its physical one is.
-- Assumes nothing.
use Rattle.std.proofs.Common.{arith}
use Rattle.model.specs.Positions.{mem}
use Rattle.reports.proofs.Reading.{held_at}
use Rattle.reports.proofs.logical.get.Goals as goal

pub returns : goal.returns
returns c = held_at (mem c.args.set.now.runs) c.args.set.now.offset (omega arith) c.to_physical-s.ensures c.get_physical.ensures.held
