-- `in_order` meets its contract. The loop's invariant: the first i runs passed, so the order of all is that of the others. Assumes nothing.
use Rattle.run_lists.proofs.Ordered.{Passed}
use Rattle.run_lists.proofs.in_order.Given as goal

abbrev pub invariant-loop-i : goal.invariant-loop-i
invariant-loop-i g l = Passed (g.L.RunList.runs l.runs) l.i l.last
