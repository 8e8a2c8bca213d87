-- `set` meets its contract: the positions of the range are set, and an empty or reversed one changes nothing; the tree is the one that the change
-- left, or stays. Assumes nothing.
use mathlib.Core.Path.{refl, ap}
use Rattle.model.specs.Call.{number}
use Rattle.interval_bit_set.proofs.Spans.{no-position, its-positions}
use Rattle.interval_bit_set.proofs.Doors.{lent-editable}
use Rattle.interval_bit_set.proofs.Growing.{none-grows, edit-grows}
use Rattle.interval_bit_set.proofs.Changing.{alters, left_so, edit-full, edit-closing, edit-done, set-within, set-none, changes-none}
use Rattle.interval_bit_set.proofs.change.set_range.Goals as goal

pub returns-in_default-clause-met : goal.returns-in_default-clause-met
returns-in_default-clause-met c =
    let e = no-position c.args.lower c.args.upper c.within.ensures c.in_default.is in
    left_so (alters refl) c.requires refl (set-none _ _ _ e _) (ap number (changes-none _ _ _ _ e))

pub set-requires : goal.set-requires
set-requires c = lent-editable c.open-h.ensures c.allowance-limit.ensures

pub returns-in_default-set-clause-met : goal.returns-in_default-set-clause-met
returns-in_default-set-clause-met c =
    edit-full (alters refl) refl c.requires c.open-h.ensures (set-within (its-positions c.args.lower c.args.upper c.within.ensures c.in-Some.is) c.open-h.ensures _)
    c.allowance-limit.ensures _ _ c.set.ensures.0 c.in_default-set.is

pub close-requires : goal.close-requires
close-requires c = (_, _, edit-closing c.requires c.open-h.ensures c.allowance-limit.ensures _ _ c.set.ensures.0 c.in-Some-set.is)

pub returns-clause-met : goal.returns-clause-met
returns-clause-met c =
    edit-done (alters refl) refl c.requires c.open-h.ensures (set-within (its-positions c.args.lower c.args.upper c.within.ensures c.in-Some.is) c.open-h.ensures _)
    c.allowance-limit.ensures _ _ c.set.ensures.0 c.in-Some-set.is c.close.ensures.closes refl

pub returns-in_default-clause-grows : goal.returns-in_default-clause-grows
returns-in_default-clause-grows c = none-grows (no-position c.args.lower c.args.upper c.within.ensures c.in_default.is)

pub returns-clause-grows : goal.returns-clause-grows
returns-clause-grows c =
    edit-grows _ _ c.requires c.open-h.ensures c.allowance-limit.ensures _ c.set.ensures.0 c.set.ensures.1 c.in-Some-set.is
    (its-positions c.args.lower c.args.upper c.within.ensures c.in-Some.is) c.close.ensures.headed
