-- `put_deepest` meets its contract. The loop's invariant: the middle ranks of fewer than d partings are in front. Assumes nothing.
use Rattle.std.proofs.Common.{◌≤◌}
use Rattle.deepest.proofs.Ranks.{Filled}
use Rattle.deepest.proofs.list.put_deepest.Given as goal

abbrev pub invariant-loop-d : goal.invariant-loop-d
invariant-loop-d l = (l.d ≤ l.h) × Filled l.h l.initial.out l.d l.at l.out
