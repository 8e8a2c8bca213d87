-- `count_rect` meets its contract: a rectangle that is none of the plane is refused, and of another the cells are counted. Assumes nothing.
use Rattle.std.proofs.Common.{refl, ap, ◌∙◌, subst}
use Rattle.model.specs.Grid.{count_rect}
use Rattle.model.specs.Call.{number}
use Rattle.pool.specs.Layout.{held}
use Rattle.grid.specs.Areas.{AreaOf}
use Rattle.interval_bit_set.proofs.Planes.{plane-refused, plane-passes}
use Rattle.interval_bit_set.proofs.Meeting.{refused-by, met-read, asks}
use Rattle.interval_bit_set.proofs.Looking.{found, shut-out}
use Rattle.interval_bit_set.proofs.checked.PoolRef.count_rect.Goals as goal

pub returns-in_default : goal.returns-in_default
returns-in_default c =
    refused-by (asks refl) (found c.args.self.checked c.in_ok-set.ensures.0) 15 (plane-refused _ (subst (AreaOf c.args.q) c.in_default.is c.area_of.ensures))

pub returns : goal.returns
returns c =
    let a = subst (AreaOf c.args.q) c.in-Some.is c.area_of.ensures in
    met-read (asks refl) (found c.args.self.checked c.in_ok-set.ensures.0) c.in_ok-set.set c.in_ok-set.ensures.1 (plane-passes _ a.0)
    (ap number (c.count.ensures ∙ ap (λ q. count_rect q (held c.in_ok-set.set)) a.1))

pub returns-in_err-set : goal.returns-in_err-set
returns-in_err-set c = shut-out _ _ c.from_residual.ensures.1 (λ e p. p) refl c.args.self.checked c.in_err-set.ensures
