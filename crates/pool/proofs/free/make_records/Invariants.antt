-- `make_records` meets its contract. The loop's invariant: the records of the first k worlds are written, and no other cell has changed.
-- Assumes nothing.
use Rattle.pool.proofs.Making.{RecordedTo}
use Rattle.pool.proofs.free.make_records.Given as goal

abbrev pub invariant-loop-k : goal.invariant-loop-k
invariant-loop-k l = RecordedTo l.initial.words l.words l.limits l.n l.k
