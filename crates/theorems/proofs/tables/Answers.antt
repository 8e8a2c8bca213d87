use Rattle.theorems.proofs.Theorems.{cases-hold, worked-hold, columns-back}
use Rattle.theorems.proofs.tables.Goals as goal

pub returns : goal.returns
returns c = record {
  cases_hold = cases-hold;
  worked_hold = worked-hold;
  columns_back = columns-back;
}
