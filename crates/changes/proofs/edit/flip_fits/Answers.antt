-- `flip_fits` meets its contract: far from the limit any flip fits; else the gaps of the range are the runs in it, with the neighbours of its ends.
-- Assumes nothing.
use Rattle.std.proofs.Common.{false, leb, ap, ◌∙◌, subst, arith}
use Rattle.model.specs.Positions.{flip_range, stretches}
use Rattle.model.specs.Range.{many}
use Rattle.reports.specs.Reports.{Measured}
use Rattle.changes.proofs.Fitting.{beside-few, outside-few}
use Rattle.changes.proofs.Flipping.{gaps-few, flip-fits-far, flip-fits-counted}
use Rattle.changes.proofs.edit.flip_fits.Goals as goal

pub returns-then-h-limit : goal.returns-then-h-limit
returns-then-h-limit c =
    flip-fits-far _ _ c.requires.1.standing (omega (arith, c.well_formed)) c.args.r.ordered (omega (arith, c.well_formed)) c.if-h-limit.true

pub overflow_add-result : goal.overflow_add-result
overflow_add-result c = omega (arith, beside-few c.around-border.ensures, outside-few c.around-border.ensures c.args.r.ordered (omega (arith, c.well_formed)) c.requires.1 c.set_of-set.ensures.positions)

pub overflow_add-result-2 : goal.overflow_add-result-2
overflow_add-result-2 c =
    omega (
      arith,
      beside-few c.around-border.ensures,
      outside-few c.around-border.ensures c.args.r.ordered (omega (arith, c.well_formed)) c.requires.1 c.set_of-set.ensures.positions,
      gaps-few c.requires.1 c.args.r.ordered (omega (arith, c.well_formed))
          (subst (λ P. Measured P false c.args.r.first.0 (many c.args.r) c.tally-gaps.result) c.set_of-set.ensures.positions c.tally-gaps.ensures),
    )

pub returns : goal.returns
returns c =
    flip-fits-counted c.around-border.ensures c.args.r.ordered (omega (arith, c.well_formed)) c.tally-gaps.ensures c.args.limit
    ∙ ap (λ P. leb (stretches (flip_range c.args.r.first.0 (many c.args.r) P)) c.args.limit) c.set_of-set.ensures.positions
