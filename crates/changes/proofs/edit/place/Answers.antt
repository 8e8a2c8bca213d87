-- `place` meets its contract: the range lies at one physical range, or at two; what is written there is the set asked for, turned.
-- Assumes nothing.
use Rattle.std.proofs.Common.{suc, ◌-◌, arith}
use Rattle.pool.proofs.Turn.{Lies, lies-from-to}
use Rattle.changes.proofs.Setting.{never-parted, whole-puts, whole-settable, whole-reached, first-settable, second-settable, parted-reached}
use Rattle.changes.proofs.edit.place.Goals as goal
use Rattle.changes.proofs.edit.place.Goals.{After-links_of-x}

-- where the range lies
lies : (x : After-links_of-x) → Lies x.args.h.offset x.args.r.first.0 (suc x.args.r.last.0 - x.args.r.first.0)
    x.to_physical-first.result.0 x.to_physical-last.result.0
lies x =
    lies-from-to x.requires.2.ordered (omega (arith, x.well_formed)) (omega (arith, x.well_formed)) x.to_physical-first.ensures x.to_physical-last.ensures

pub set_physical-requires : goal.set_physical-requires
set_physical-requires c =
    whole-settable c.args.value c.links_of-x.ensures (lies (goal.at.set_physical-requires c).After-links_of-x) c.requires.2.limited c.if-first-last.true c.requires.2.few

pub returns-then-first-last : goal.returns-then-first-last
returns-then-first-last c = (
  λ s limit lim few. whole-reached c.args.value c.links_of-x.ensures (lies (goal.at.returns-then-first-last c).After-links_of-x) lim c.if-first-last.true few c.set_physical.ensures.0,
  whole-puts _ _ c.args.h _ _ c.links_of-x.ensures (lies (goal.at.returns-then-first-last c).After-links_of-x) c.requires.2.ordered c.set_physical.ensures.1,
)

pub set_physical-y-requires : goal.set_physical-y-requires
set_physical-y-requires c =
    first-settable c.args.value c.links_of-x.ensures (lies (goal.at.set_physical-y-requires c).After-links_of-x) c.requires.2.limited c.if-first-last.false

pub set_physical-requires-2 : goal.set_physical-requires-2
set_physical-requires-2 c =
    second-settable c.args.value c.links_of-x.ensures (lies (goal.at.set_physical-requires-2 c).After-links_of-x) c.requires.2.limited c.if-first-last.false c.set_physical-y.ensures.0 c.requires.2.few

pub returns : goal.returns
returns c =
    let l = c.if-first-last.false in (
      λ s limit lim few. parted-reached c.args.value c.links_of-x.ensures (lies (goal.at.returns c).After-links_of-x) lim l c.set_physical-y.ensures.0 few c.set_physical-2.ensures.0,
      λ z. absurd (never-parted (lies (goal.at.returns c).After-links_of-x) z c.requires.2.ordered l),
    )
