-- `thread_all` meets its contract. The loop's invariant: the low nodes after the first `before` are the free chain, from `next` on. Assumes
-- nothing.
use Rattle.pool.proofs.Threading.{Threading}
use Rattle.pool.proofs.relink.thread_all.Given as goal

abbrev pub invariant-loop-before : goal.invariant-loop-before
invariant-loop-before l = Threading l.initial.nodes l.nodes l.n l.before l.next
