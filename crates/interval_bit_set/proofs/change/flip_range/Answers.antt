-- `flip` meets its contract: the positions of the range are inverted, and an empty or reversed one changes nothing. Assumes nothing.
use mathlib.Core.Path.{refl}
use Rattle.interval_bit_set.proofs.Spans.{no-position, its-positions}
use Rattle.interval_bit_set.proofs.Doors.{lent-editable}
use Rattle.interval_bit_set.proofs.Changing.{alters, left_so, fit-full, fit-closing, fit-done, flip-within, flip-none}
use Rattle.interval_bit_set.proofs.change.flip_range.Goals as goal

pub returns-in_default : goal.returns-in_default
returns-in_default c = left_so (alters refl) c.requires refl (flip-none _ _ _ (no-position c.args.lower c.args.upper c.within.ensures c.in_default.is)) refl

pub flip-requires : goal.flip-requires
flip-requires c = lent-editable c.open-h.ensures c.allowance-limit.ensures

pub returns-in_default-flip : goal.returns-in_default-flip
returns-in_default-flip c =
    fit-full (alters refl) refl c.requires c.open-h.ensures (flip-within (its-positions c.args.lower c.args.upper c.within.ensures c.in-Some.is) c.open-h.ensures)
    c.allowance-limit.ensures _ _ c.flip.ensures c.in_default-flip.is

pub close-requires : goal.close-requires
close-requires c = (_, _, fit-closing c.requires c.open-h.ensures c.allowance-limit.ensures _ _ c.flip.ensures c.in-Some-flip.is)

pub returns : goal.returns
returns c =
    fit-done (alters refl) refl c.requires c.open-h.ensures (flip-within (its-positions c.args.lower c.args.upper c.within.ensures c.in-Some.is) c.open-h.ensures)
    c.allowance-limit.ensures _ _ c.flip.ensures c.in-Some-flip.is c.close.ensures.closes refl
