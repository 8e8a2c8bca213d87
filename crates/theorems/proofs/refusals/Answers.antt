use Rattle.theorems.proofs.Laws.{shift-unrefused, unrefused-shifted, converse-fails}
use Rattle.theorems.proofs.refusals.Goals as goal

pub returns : goal.returns
returns c = record {
  shift_unrefused = shift-unrefused;
  unrefused_shifted = unrefused-shifted;
  converse_fails = converse-fails;
}
