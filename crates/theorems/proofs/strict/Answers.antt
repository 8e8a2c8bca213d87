use Rattle.theorems.proofs.Laws.{set-strict, flip-strict}
use Rattle.theorems.proofs.strict.Goals as goal

pub returns : goal.returns
returns c = record {
  set_strict = set-strict;
  flip_strict = flip-strict;
}
