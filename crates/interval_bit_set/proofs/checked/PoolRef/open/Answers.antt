-- A world that was opened can be opened. Assumes nothing.
use Rattle.interval_bit_set.proofs.Looking.{openable}
use Rattle.interval_bit_set.proofs.checked.PoolRef.open.Goals as goal

pub open-requires : goal.open-requires
open-requires c = openable c.args.self.checked c.in_ok-opened.ensures.0
