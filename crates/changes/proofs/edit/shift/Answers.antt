-- `shift` meets its contract: with no root or no distance nothing moves; else what would leave is cleared, or all is, and the offset moves the rest.
-- Assumes nothing.
use Rattle.std.proofs.Common.{◌<◌, sym, subst, ⊎_elim, inl, inr, arith}
use Rattle.model.specs.Numbers.{size}
use Rattle.pool.specs.declared.World.{World}
use Rattle.model.specs.Positions.{shift_by}
use Rattle.pool.specs.Soundness.{Footprint, Limited}
use Rattle.changes.proofs.Shifting.{Cleared, cleared-same, none_stays, all_stay, leaving-applies, all-leave, none-leaves, some-leave, rest-moves}
use Rattle.changes.proofs.edit.shift.Goals as goal
use Rattle.changes.proofs.edit.shift.Goals.{
  Joined-gone-h-2,
  then-gone-h-2+then-h-gone-2,
  else-gone-h-2,
  else-gone-h-2-via-then-gone-h-2+else-h-gone-2,
  else-gone-h-2-via-else-gone-h-2,
}

-- what would leave is cleared
cleared : (j : Joined-gone-h-2) {s : Footprint} {limit : _} → Limited j.args.words.now s j.args.h limit
    → Cleared j.args.words.now j.if-gone-h-2.words s j.args.h j.if-gone-h-2.k j.leaving-up.result.0.first.0 j.args.d (shift_by j.args.d j.args.left)
cleared j lim =
    elim j.if-gone-h-2.branch [
      | then-gone-h-2+then-h-gone-2 w ↦
          cleared-same w.words-is w.k-is
          (some-leave _ _ j.leaving-up.result.1 (omega (arith, j.ranges.d.fits)) j.if-d-eq0.false lim j.if-h-eq0.false (omega (arith, j.well_formed)) j.args.left
          j.leaving-up.ensures (⊎_elim (λ x. inr x.1) (λ x. inl x) j.else-gone-h.either) w.apply_set-k.ensures.0)
      | else-gone-h-2 w ↦
          cleared-same w.words-is w.k-is
          (none-leaves _ _ j.leaving-up.result.1 (omega (arith, j.ranges.d.fits)) j.if-d-eq0.false lim j.if-h-eq0.false (omega (arith, j.well_formed)) j.args.left
          j.leaving-up.ensures
          (elim w.else-gone-h-2.branch [
            | else-gone-h-2-via-then-gone-h-2+else-h-gone-2 v ↦ inr v.if-h-gone-2.false
            | else-gone-h-2-via-else-gone-h-2 v ↦ inl v.if-gone-h-2.false
          ]))
    ]

-- the world that is left has a small offset
small : (j : Joined-gone-h-2) → j.if-gone-h-2.k.offset < size
small j =
    elim j.if-gone-h-2.branch [
      | then-gone-h-2+then-h-gone-2 w ↦ subst (λ (z : World). z.offset < size) (sym w.k-is) (omega (arith, w.apply_set-k.type_inv))
      | else-gone-h-2 w ↦ subst (λ (z : World). z.offset < size) (sym w.k-is) (omega (arith, j.well_formed))
    ]

pub returns-then-h-eq0 : goal.returns-then-h-eq0
returns-then-h-eq0 c = ⊎_elim (λ z. none_stays _ _ z) (λ z. all_stay _ z.1) c.then-h-eq0.either

pub returns-then-h-gone : goal.returns-then-h-gone
returns-then-h-gone c = λ s limit lim.
    all-leave _ _ c.leaving-up.result.1 (omega (arith, c.ranges.d.fits)) c.if-d-eq0.false lim c.if-h-eq0.false (omega (arith, c.well_formed)) c.args.left c.leaving-up.ensures
    c.if-gone-h.true c.if-h-gone.true (c.emptied.ensures s lim.standing)

pub apply_set-k-requires : goal.apply_set-k-requires
apply_set-k-requires c =
    leaving-applies _ _ c.leaving-up.result.1 (omega (arith, c.ranges.d.fits)) c.if-d-eq0.false c.args.left c.leaving-up.ensures c.requires.2

pub returns : goal.returns
returns c = λ s limit lim.
    rest-moves _ c.leaving-up.result.0.last.0 _ (omega (arith, c.ranges.d.fits)) c.if-d-eq0.false c.args.left c.leaving-up.ensures (cleared (goal.at.returns c).Joined-gone-h-2 lim)
    (small (goal.at.returns c).Joined-gone-h-2)
