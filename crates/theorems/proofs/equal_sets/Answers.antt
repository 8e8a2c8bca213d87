use Rattle.theorems.proofs.Equal.{equal-answers}
use Rattle.theorems.proofs.equal_sets.Goals as goal

pub returns : goal.returns
returns c = record { equal_answers = equal-answers }
