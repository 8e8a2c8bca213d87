-- `free_all` meets its contract. The loop's invariant: the nodes after the first `before` form the free chain, from `next` on. Assumes nothing.
use Rattle.pool.proofs.Making.{FreeAfter}
use Rattle.pool.proofs.free.free_all.Given as goal

abbrev pub invariant-loop-before : goal.invariant-loop-before
invariant-loop-before l = FreeAfter l.initial.nodes l.nodes l.n l.before l.next
