-- `going_on` meets its contract: a run goes on there where the position before x and x are held. Assumes nothing.
use Rattle.std.proofs.Common.{sym, ◌∙◌, arith}
use Rattle.changes.proofs.Neighbours.{both-yes, both-no, goes_on-below}
use Rattle.changes.proofs.edit.going_on.Goals as goal

pub returns-then-held_before : goal.returns-then-held_before
returns-then-held_before c = both-yes c.if-held_before.true c.held_before.ensures c.get.ensures ∙ sym (goes_on-below _ _ (omega (arith, c.well_formed)))

pub returns-else-held_before : goal.returns-else-held_before
returns-else-held_before c = both-no _ c.if-held_before.false c.held_before.ensures ∙ sym (goes_on-below _ _ (omega (arith, c.well_formed)))
