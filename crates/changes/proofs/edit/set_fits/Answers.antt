-- `set_fits` meets its contract: far from the limit any set fits; else the runs outside of the range tell what it leaves, and the neighbours of
-- its ends. Assumes nothing.
use Rattle.std.proofs.Common.{leb, ap, ◌∙◌, arith}
use Rattle.model.specs.Positions.{set_range, stretches}
use Rattle.model.specs.Range.{many}
use Rattle.changes.proofs.Fitting.{far-fits, outside-few, true-fits}
use Rattle.changes.proofs.edit.set_fits.Goals as goal

pub returns-then-h-limit : goal.returns-then-h-limit
returns-then-h-limit c =
    far-fits c.requires.1.standing c.args.r.first.0 c.args.r.last.0 c.args.value (omega (arith, c.well_formed)) c.args.r.ordered (omega (arith, c.well_formed)) c.if-h-limit.true

pub overflow_add-result : goal.overflow_add-result
overflow_add-result c = omega (arith, outside-few c.around-border.ensures c.args.r.ordered (omega (arith, c.well_formed)) c.requires.1 c.set_of-set.ensures.positions)

pub returns-then-value : goal.returns-then-value
returns-then-value c =
    true-fits c.around-border.ensures c.args.r.ordered (omega (arith, c.well_formed)) c.args.limit c.if-value.true
    ∙ ap (λ P. leb (stretches (set_range c.args.r.first.0 (many c.args.r) c.args.value P)) c.args.limit) c.set_of-set.ensures.positions
