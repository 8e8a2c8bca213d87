-- `set_row` meets its contract: the set of the row was refused, or done. Assumes nothing.
use Rattle.grid.proofs.Passing.{row_made, row_refused}
use Rattle.grid.proofs.rows.Change.set_row.Goals as goal

pub returns-in-None : goal.returns-in-None
returns-in-None c = row_refused c.set.result c.set.ensures.0 c.in-None.is

pub returns-in-Some : goal.returns-in-Some
returns-in-Some c = row_made c.set.result c.set.ensures.0 c.in-Some.is
