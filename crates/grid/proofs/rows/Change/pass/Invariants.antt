-- `pass` meets its contract. The loop's invariant: the rows before row r are passed. Assumes nothing.
use Rattle.grid.specs.Rows.{Passes}
use Rattle.grid.proofs.rows.Change.pass.Given as goal

abbrev pub invariant-loop-r : goal.invariant-loop-r
invariant-loop-r l = Passes l.initial.words l.words l.initial.k l.k l.self.limit l.self.area.q l.self.value l.r
