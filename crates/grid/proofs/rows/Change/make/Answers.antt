-- `make` meets its contract: far from the limit one pass sets the rectangle, and else two do. Assumes nothing.
use mathlib.Core.Path.{sym, ◌∙◌}
use borrow.Author.Tests.{leb-true}
use native.Mathlib.Omega.{arith}
use Rattle.grid.proofs.Leaving.{way-far}
use Rattle.grid.proofs.Passing.{passed-once, passed-twice}
use Rattle.grid.proofs.rows.Change.make.Goals as goal

pub returns-then-is_far : goal.returns-then-is_far
returns-then-is_far c =
    let l = c.requires.editable.1 in
    passed-once c.args.self.area.on_plane l
    (way-far c.args.self.area.q c.args.self.value l.standing (omega (arith, c.well_formed)) c.args.self.area.on_plane
    (leb-true _ _ (sym c.is_far.ensures ∙ c.if-is_far.true)))
    c.pass-k.ensures

pub returns : goal.returns
returns c =
    passed-twice c.args.self.area.on_plane c.args.self.narrow c.requires.editable.1 c.requires.fits c.pass-k.ensures c.pass.ensures
