-- `going_past` meets its contract: a run goes on there where x and the position after it are held. Assumes nothing.
use Rattle.std.proofs.Common.{sym, ◌∙◌}
use Rattle.changes.proofs.Neighbours.{both-yes, both-no, goes_on-above}
use Rattle.changes.proofs.edit.going_past.Goals as goal

pub returns-then-held_after : goal.returns-then-held_after
returns-then-held_after c = both-yes c.if-held_after.true c.held_after.ensures c.get.ensures ∙ sym (goes_on-above _ _)

pub returns-else-held_after : goal.returns-else-held_after
returns-else-held_after c = both-no _ c.if-held_after.false c.held_after.ensures ∙ sym (goes_on-above _ _)
