-- `set` meets its contract: it is refused, or `apply_set` does it, and what the world tells before and after it tells what changed.
-- Assumes nothing.
use Rattle.std.proofs.Common.{sym, ◌∙◌, arith, leb-true}
use Rattle.changes.proofs.Gaining.{set-edited}
use Rattle.changes.proofs.edit.set.Goals as goal

pub returns : goal.returns
returns c =
    set-edited _ _ c.outcome.result c.requires (omega (arith, c.well_formed)) (omega (arith, c.apply_set-k.type_inv))
    (leb-true _ _ (sym c.set_fits.ensures ∙ c.if-not-set_fits.false)) c.apply_set-k.ensures c.outcome.ensures.world c.outcome.ensures.changed
