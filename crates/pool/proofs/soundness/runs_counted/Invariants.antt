-- `runs_counted` meets its contract. The loop's invariant: the worlds before k fit, and what they have and claim is counted. Assumes nothing.
use Rattle.pool.proofs.Placed.{Checking}
use Rattle.pool.proofs.soundness.runs_counted.Given as goal

abbrev pub invariant-loop-k : goal.invariant-loop-k
invariant-loop-k l = Checking l.words l.left l.runs l.k
