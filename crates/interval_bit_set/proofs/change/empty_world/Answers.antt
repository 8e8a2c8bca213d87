-- `empty` meets its contract: the world's nodes are given back, and it has no run. Assumes nothing.
use Rattle.interval_bit_set.proofs.Doors.{lent-stands}
use Rattle.interval_bit_set.proofs.Emptying.{empty-closing, empty-done}
use Rattle.interval_bit_set.proofs.change.empty_world.Goals as goal

pub emptied-k-requires : goal.emptied-k-requires
emptied-k-requires c = lent-stands c.open-h.ensures

pub close-requires : goal.close-requires
close-requires c =
    (_, _, empty-closing c.requires c.open-h.ensures _ c.emptied-k.ensures)

pub returns : goal.returns
returns c =
    empty-done c.requires c.open-h.ensures _ c.emptied-k.ensures c.close.ensures.closes
