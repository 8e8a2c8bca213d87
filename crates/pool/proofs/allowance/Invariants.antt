-- `allowance` meets its contract. The invariant of both loops: what is left and what the worlds passed so far claim, but for world k, are the
-- capacity. Assumes nothing.
use Rattle.pool.proofs.Worlds.{LeftOver}
use Rattle.pool.proofs.allowance.Given as goal

abbrev pub invariant-loop-i : goal.invariant-loop-i
invariant-loop-i l = LeftOver l.words l.k l.left l.i

abbrev pub invariant-loop-j : goal.invariant-loop-j
invariant-loop-j l = LeftOver l.words l.k l.left l.j
