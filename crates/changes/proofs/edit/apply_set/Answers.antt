-- `apply_set` meets its contract: `place` writes the set asked for, and `refresh_set` makes a world of it. Assumes nothing.
use Rattle.std.proofs.Common.{arith}
use Rattle.changes.proofs.Setting.{reached-resettable, reached-became, puts-grows}
use Rattle.changes.proofs.edit.apply_set.Goals as goal

pub refresh_set-requires : goal.refresh_set-requires
refresh_set-requires c =
    let p = c.requires.2 in
    reached-resettable _ _ _ p.limited.standing (omega (arith, c.well_formed)) c.args.r.ordered (omega (arith, c.well_formed)) (c.place-y.ensures.0 c.requires.0 c.requires.1 p.limited p.few)

pub returns : goal.returns
returns c = (
  λ s limit lim few. reached-became (c.place-y.ensures.0 s limit lim few) c.refresh_set.ensures.0,
  puts-grows _ _ c.args.h c.refresh_set.result _ _ _ c.place-y.ensures.1 c.refresh_set.ensures.1,
)
