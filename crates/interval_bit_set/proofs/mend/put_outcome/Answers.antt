-- `put_outcome` meets its contract: a set that is in order is copied, and another is united. Assumes nothing.
use Rattle.interval_bit_set.proofs.Mending.{right-room, copied, due-told, united}
use Rattle.interval_bit_set.proofs.mend.put_outcome.Goals as goal

pub keep-requires : goal.keep-requires
keep-requires c = right-room _ c.requires.mendable c.if-right.true c.requires.due

pub put_union-requires : goal.put_union-requires
put_union-requires c = due-told _ c.requires.mendable c.requires.due

pub returns-then-right : goal.returns-then-right
returns-then-right c = copied _ c.requires.mendable c.if-right.true _ _ c.keep.ensures

pub returns-else-right : goal.returns-else-right
returns-else-right c = united _ c.requires.mendable _ _ c.put_union.ensures
