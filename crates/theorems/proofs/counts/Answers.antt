use Rattle.theorems.proofs.Laws.{counts-add}
use Rattle.theorems.proofs.counts.Goals as goal

pub returns : goal.returns
returns c = record {
  counts_add = counts-add;
}
