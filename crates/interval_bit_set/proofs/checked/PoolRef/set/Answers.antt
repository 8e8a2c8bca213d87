-- A world that was opened can be opened. Assumes nothing.
use Rattle.interval_bit_set.proofs.Looking.{openable}
use Rattle.interval_bit_set.proofs.checked.PoolRef.set.Goals as goal

pub read_set-requires : goal.read_set-requires
read_set-requires c = openable c.args.self.checked c.in_ok-opened.ensures.0
