-- `run` meets its contract: in either edition run i stands at its spots. Assumes nothing.
use Rattle.std.proofs.Common.{◌<◌, drop}
use Rattle.codec.proofs.Spots.{told_length, told-run}
use Rattle.codec.proofs.told.ToldRunList.run.Goals as goal
use Rattle.codec.proofs.told.ToldRunList.run.Goals.{Start}

-- run i is one of those told
below : (c : Start) → c.args.i < c.args.self.count
below c = let t = c.args.self in rw (told_length t.edition t.count (drop 5 t.bytes.now)) at c.requires

pub returns-in-Rows : goal.returns-in-Rows
returns-in-Rows c = told-run _ _ _ _ (below (goal.at.returns-in-Rows c).Start) c.args.self.whole c.in-Rows.is c.run_from.ensures

pub returns-in-Columns : goal.returns-in-Columns
returns-in-Columns c = told-run _ _ _ _ (below (goal.at.returns-in-Columns c).Start) c.args.self.whole c.in-Columns.is c.run_from-in-Columns.ensures
