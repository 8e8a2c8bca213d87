use Rattle.theorems.proofs.Laws.{overwritten, set-covered, flip-undone}
use Rattle.theorems.proofs.needless.Goals as goal

pub returns : goal.returns
returns c = record {
  overwritten = overwritten;
  set_covered = set-covered;
  flip_undone = flip-undone;
}
