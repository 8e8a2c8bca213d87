-- `flip` meets its contract. The loop's invariant: the positions from the first one up to x are flipped; the measure is what is left of the
-- range. Assumes nothing.
use Rattle.std.proofs.Common.{◌≤◌, sym, ◌∙◌, subst, arith, leb-true}
use Rattle.model.specs.Positions.{flip_range, stretches}
use Rattle.model.specs.Range.{many}
use Rattle.pool.specs.Layout.{held_in}
use Rattle.reports.specs.Reports.{StretchEnd}
use Rattle.changes.proofs.Flipping.{Flipping, flips-none, stretch-applies, flipping-more, flips-done}
use Rattle.changes.proofs.edit.flip.Goals as goal
use Rattle.changes.proofs.edit.flip.Goals.{At-loop-r, After-stretch_end-y}

-- what it leaves is few enough
few : (l : At-loop-r) → stretches (flip_range l.args.r.first.0 (many l.args.r) (held_in l.args.words.now l.args.h)) ≤ l.args.limit
few l = leb-true _ _ (sym l.flip_fits.ensures ∙ l.if-not-flip_fits.false)

-- how far the loop has come
here : (l : At-loop-r) → Flipping l.args.words.now l.loop-r.words l.requires.0 l.args.h l.loop-r.k l.args.limit l.args.r.first.0 l.args.r.last.0 l.loop-r.x.0
here l = l.loop-r.invariant l.requires.0 l.args.limit l.requires.1 (few l)

-- the stretch from x on, in the world as it is
stretch : (c : After-stretch_end-y)
    → StretchEnd (held_in c.loop-r.words c.loop-r.k) c.get-value.result c.loop-r.x.0 c.args.r.last.0 c.stretch_end-y.result.0
stretch c =
    subst (λ P. StretchEnd P c.get-value.result c.loop-r.x.0 c.args.r.last.0 c.stretch_end-y.result.0) c.set_of-set.ensures.positions
    c.stretch_end-y.ensures

pub loop-r-init : goal.loop-r-init
loop-r-init c = flips-none c.args.r.ordered (omega (arith, c.well_formed))

pub apply_set-k-requires : goal.apply_set-k-requires
apply_set-k-requires c =
    stretch-applies (here (goal.at.apply_set-k-requires c).At-loop-r) (stretch (goal.at.apply_set-k-requires c).After-stretch_end-y)

pub loop-r-preserved : goal.loop-r-preserved
loop-r-preserved c s limit lim few' =
    flipping-more (c.loop-r.invariant s limit lim few') (stretch (goal.at.loop-r-preserved c).After-stretch_end-y) c.apply_set-k.ensures.0 c.if-y-r.false

pub returns-then-y-r : goal.returns-then-y-r
returns-then-y-r c = (
  few (goal.at.returns-then-y-r c).At-loop-r,
  λ s limit lim few'.
      flips-done (c.loop-r.invariant s limit lim few') (stretch (goal.at.returns-then-y-r c).After-stretch_end-y) c.apply_set-k.ensures.0 c.if-y-r.true,
)
