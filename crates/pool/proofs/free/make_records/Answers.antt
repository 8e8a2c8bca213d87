-- `make_records` meets its contract. The loop's invariant: the records of the first k worlds are written, and no other cell has changed.
-- Assumes nothing.
use Rattle.pool.proofs.Making.{recorded_more}
use Rattle.pool.proofs.free.make_records.Goals as goal

pub loop-k-preserved : goal.loop-k-preserved
loop-k-preserved c = recorded_more c.loop-k-test.true c.limits_at.ensures c.empty_record-record.ensures c.loop-k.invariant c.write_record.ensures
