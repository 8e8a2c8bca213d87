-- `shift` meets its contract: the positions are moved by the distance, and have no more runs than before. Assumes nothing.
use mathlib.Core.Path.{refl, ap}
use native.Mathlib.Omega.{arith}
use Rattle.model.specs.Positions.{shift_by}
use Rattle.interval_bit_set.proofs.Doors.{lent-held, lent-movable}
use Rattle.interval_bit_set.proofs.Changing.{alters, move-closing, move-done}
use Rattle.interval_bit_set.proofs.change.shift_by.Goals as goal

pub shift-k-requires : goal.shift-k-requires
shift-k-requires c = lent-movable c.open-h.ensures

pub close-requires : goal.close-requires
close-requires c =
    (_, _, move-closing c.requires c.open-h.ensures _ _ _ (omega (arith, c.ranges.distance.fits)) c.shift-k.ensures)

pub returns : goal.returns
returns c =
    move-done (alters refl) refl c.requires c.open-h.ensures (ap (shift_by _ _) (lent-held c.open-h.ensures))
    _ _ _ (omega (arith, c.ranges.distance.fits)) refl c.shift-k.ensures c.close.ensures.closes refl
