-- `set_rect` meets its contract: a rectangle that is none of the plane is refused, and the cells of another get the value. Assumes nothing.
use Rattle.std.proofs.Common.{◌≡◌, refl, subst, ap₂}
use Rattle.model.specs.Grid
use Rattle.pool.specs.Layout.{held_in, held_by}
use Rattle.pool.proofs.Parts.{lent}
use Rattle.grid.specs.Areas.{AreaOf}
use Rattle.interval_bit_set.proofs.Planes.{plane-first, plane-passes}
use Rattle.interval_bit_set.proofs.Doors.{lent-editable, lent-held}
use Rattle.interval_bit_set.proofs.Changing.{alters, refused-first, edit-full, edit-closing, edit-done}
use Rattle.interval_bit_set.proofs.cells.set_cells.Goals as goal
use Rattle.interval_bit_set.proofs.cells.set_cells.Goals.{After-open-h}

-- its cells, in the part that is lent, are those of the world
cells : (o : After-open-h) → let a = o.args in
    Grid.set_rect o.in-Some.area.q a.value (held_in (lent a.words.now) o.open-h.result) ≡ Grid.set_rect a.q a.value (held_by a.words.now a.world)
cells o =
    ap₂ (λ q P. Grid.set_rect q o.args.value P) (subst (AreaOf o.args.q) o.in-Some.is o.area_of.ensures).1 (lent-held o.open-h.ensures)

pub returns-in_default : goal.returns-in_default
returns-in_default c =
    refused-first (alters refl) c.requires (plane-first _ (subst (AreaOf c.args.q) c.in_default.is c.area_of.ensures))

pub set-requires : goal.set-requires
set-requires c = lent-editable c.open-h.ensures c.allowance-limit.ensures

pub returns-in_default-set : goal.returns-in_default-set
returns-in_default-set c =
    edit-full (alters refl) (plane-passes _ (subst (AreaOf c.args.q) c.in-Some.is c.area_of.ensures).0) c.requires c.open-h.ensures
    (cells (goal.at.returns-in_default-set c).After-open-h) c.allowance-limit.ensures _ _ c.set.ensures c.in_default-set.is

pub close-requires : goal.close-requires
close-requires c = (_, _, edit-closing c.requires c.open-h.ensures c.allowance-limit.ensures _ _ c.set.ensures c.in-Some-set.is)

pub returns : goal.returns
returns c =
    edit-done (alters refl) (plane-passes _ (subst (AreaOf c.args.q) c.in-Some.is c.area_of.ensures).0) c.requires c.open-h.ensures
    (cells (goal.at.returns c).After-open-h) c.allowance-limit.ensures _ _ c.set.ensures c.in-Some-set.is c.close.ensures.closes refl
