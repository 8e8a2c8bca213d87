use Rattle.theorems.proofs.Laws.{reports-swap, worlds-swap, ranges-swap, sets-swap, sets-one-value, flips-swap}
use Rattle.theorems.proofs.swaps.Goals as goal

pub returns : goal.returns
returns c = record {
  reports_swap = reports-swap;
  worlds_swap = worlds-swap;
  ranges_swap = ranges-swap;
  sets_swap = sets-swap;
  sets_one_value = sets-one-value;
  flips_swap = flips-swap;
}
