-- `set` meets its contract: a rectangle of full width is one range; any other is refused, or passes set it, and what the world tells before and
-- after them tells what changed. Assumes nothing.
use Prim.Native.Nat.{suc, ◌-◌}
use mathlib.Core.Path.{sym, ◌∙◌, subst, ap₂}
use borrow.Author.Tests.{leb-true}
use native.Mathlib.Omega.{arith}
use Rattle.model.specs.Positions.{Positions, set_range}
use Rattle.pool.specs.declared.World.{World}
use Rattle.pool.specs.Layout.{held_in}
use Rattle.changes.specs.Edits.{Edited, Makes}
use Rattle.changes.proofs.Gaining.{set-changes}
use Rattle.model.specs.Grid.{set_rect}
use Rattle.grid.proofs.Cells.{rect-range}
use Rattle.grid.proofs.Passing.{rect-adds, rect-frees}
use Rattle.grid.proofs.rows.set.Goals as goal

pub returns-then-q : goal.returns-then-q
returns-then-q c =
    let on = c.args.area.on_plane in
    let P = held_in c.args.words.now c.args.h in
    subst (λ (Q : Positions). Edited c.args.words.now c.set.new.words c.args.h c.args.limit Q c.set.result)
    (ap₂ (λ a b. set_range a (suc b - a) c.args.value P) c.cells.ensures.0 c.cells.ensures.1
    ∙ rect-range c.args.area.q on (omega (arith, c.if-q.true, on.within)) (omega (arith, c.if-q.true, on.within)) c.args.value P)
    c.set.ensures.0

pub returns : goal.returns
returns c =
    let P = held_in c.args.words.now c.args.h in
    let few = leb-true _ _ (sym c.fits.ensures ∙ c.if-not-fits.false) in (
      few,
      subst (λ (k : World). Makes c.args.words.now c.make-k.new.words c.args.h k (set_rect c.args.area.q c.args.value P)) (sym c.outcome.ensures.world) c.make-k.ensures,
      set-changes c.requires.1.standing (c.make-k.ensures c.requires.0 c.args.limit c.requires.1 few) (omega (arith, c.well_formed))
          (omega (arith, c.make-k.type_inv)) c.outcome.result.changed c.args.value
          (λ x. (rect-adds c.args.area.q c.args.value P x, rect-frees c.args.area.q c.args.value P x)) c.outcome.ensures.changed,
    )
