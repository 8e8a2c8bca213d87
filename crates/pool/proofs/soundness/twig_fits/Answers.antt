-- `twig_fits` meets its contract: what hangs at a link of such a node is a leaf. Assumes nothing.
use Rattle.pool.proofs.Base.{true, false, sym, ◌∙◌, subst, arith, Room, Tells}
use mathlib.Core.Bool.{and-true}
use Rattle.pool.proofs.Truths.{never}
use Rattle.pool.proofs.Tests.{inside-out, zeros-below}
use Rattle.pool.proofs.Steps.{outside, refuses, none, leaf-side, left-leaves, right-leaves, words-fail, sides-decide, side-high, own-refuses, right-there}
use Rattle.pool.proofs.soundness.twig_fits.Goals as goal
use Rattle.pool.proofs.soundness.twig_fits.Goals.{Else-not-inside, Else-not-inside-2, Else-not-inside-4, then-words_fit-3, else-words_fit-3}
use Rattle.pool.proofs.soundness.twig_fits.Goals.{then-not-inside-3-via-then-not-inside-3, then-not-inside-3-via-else-not-inside-3+then-not-inside-4}

-- the sides that were found inside have room
right-room : (c : Else-not-inside) → Room c.args.words.now c.args.v.right
right-room c = inside-out _ _ (sym c.inside.ensures ∙ c.if-not-inside.false)

left-room : (c : Else-not-inside-2) → Room c.args.words.now c.args.v.left
left-room c = inside-out _ _ (sym c.inside-then-v-eq0-2.ensures ∙ c.if-not-inside-2.false)

left-room-2 : (c : Else-not-inside-4) → Room c.args.words.now c.args.v.left
left-room-2 c = inside-out _ _ (sym c.inside-2.ensures ∙ c.if-not-inside-3.false)

right-room-2 : (c : Else-not-inside-4) → Room c.args.words.now c.args.v.right
right-room-2 c = inside-out _ _ (sym c.inside-else-not-inside-3.ensures ∙ c.if-not-inside-4.false)

-- ---- nothing hangs on the left
pub returns-then-not-inside : goal.returns-then-not-inside
returns-then-not-inside c = λ n s. outside s c.args.bounds false c.inside.ensures c.if-not-inside.true

pub below-y-requires : goal.below-y-requires
below-y-requires c = right-room c

pub returns-then-words_fit : goal.returns-then-words_fit
returns-then-words_fit c = λ n s.
    let x = zeros-below _ _ _ c.if-v-eq0.true c.default.ensures in
    sides-decide s c.args.bounds x c.below-y.ensures c.words_fit.ensures c.requires c.if-words_fit.true
    true _ (λ own. none s c.args.bounds true c.if-v-eq0.true)
    (λ own. leaf-side s c.args.bounds false own c.requires c.below-y.ensures (right-there s c.args.bounds own (omega (arith, c.requires)) c.if-v-eq0.true)
    (right-room (goal.at.returns-then-words_fit c).Else-not-inside) _ (right-leaves c.args.v c.args.bounds (omega arith) _ c.right_of.ensures) _ c.side_fits.ensures)
    (λ l r.
    let z = c.default.ensures.1.1.1.1.0 in
    let h = side-high c.below-y.result c.right_of.result (sym c.side_fits.ensures ∙ r) in
    (omega (arith, z), omega (arith, h), omega (arith, h)))

pub returns-else-words_fit : goal.returns-else-words_fit
returns-else-words_fit c = λ n s d h.
    c.if-words_fit.false
    ∙ words-fail s c.args.bounds (zeros-below _ _ _ c.if-v-eq0.true c.default.ensures) c.below-y.ensures c.words_fit.ensures c.if-words_fit.false d h

-- ---- nothing hangs on the right
pub returns-then-not-inside-2 : goal.returns-then-not-inside-2
returns-then-not-inside-2 c = λ n s. outside s c.args.bounds true c.inside-then-v-eq0-2.ensures c.if-not-inside-2.true

pub below-x-requires : goal.below-x-requires
below-x-requires c = left-room c

pub returns-then-words_fit-2 : goal.returns-then-words_fit-2
returns-then-words_fit-2 c = λ n s.
    let y = zeros-below _ _ _ c.if-v-eq0-2.true c.default-then-v-eq0-2.ensures in
    subst (Tells c.args.words.now c.args.bounds n) (and-true _)
    (sides-decide s c.args.bounds c.below-x.ensures y c.words_fit-then-v-eq0-2.ensures c.requires c.if-words_fit-2.true
    _ true
    (λ own. leaf-side s c.args.bounds true own c.requires c.below-x.ensures c.if-v-eq0.false
    (left-room (goal.at.returns-then-words_fit-2 c).Else-not-inside-2) _ (left-leaves c.args.v c.args.bounds _ c.left_of.ensures) _ c.side_fits-then-words_fit-2.ensures)
    (λ own. none s c.args.bounds false c.if-v-eq0-2.true)
    (λ l r.
    let z = c.default-then-v-eq0-2.ensures.1.1.1.1.0 in
    let h = side-high c.below-x.result c.left_of.result (sym c.side_fits-then-words_fit-2.ensures ∙ l) in
    (omega (arith, h), omega (arith, z), omega (arith, h))))

pub returns-else-words_fit-2 : goal.returns-else-words_fit-2
returns-else-words_fit-2 c = λ n s d h.
    c.if-words_fit-2.false
    ∙ words-fail s c.args.bounds c.below-x.ensures (zeros-below _ _ _ c.if-v-eq0-2.true c.default-then-v-eq0-2.ensures) c.words_fit-then-v-eq0-2.ensures c.if-words_fit-2.false d h

-- ---- a leaf hangs on either side
pub returns-then-not-inside-3 : goal.returns-then-not-inside-3
returns-then-not-inside-3 c = λ n s.
    elim c.then-not-inside-3.branch [
      | then-not-inside-3-via-then-not-inside-3 w ↦ outside s c.args.bounds true c.inside-2.ensures w.if-not-inside-3.true
      | then-not-inside-3-via-else-not-inside-3+then-not-inside-4 w ↦ outside s c.args.bounds false w.inside-else-not-inside-3.ensures w.if-not-inside-4.true
    ]

pub below-x-requires-2 : goal.below-x-requires-2
below-x-requires-2 c = left-room-2 c

pub below-y-requires-2 : goal.below-y-requires-2
below-y-requires-2 c = right-room-2 (goal.at.below-y-requires-2 c).Else-not-inside-4

pub returns-then-side_fits : goal.returns-then-side_fits
returns-then-side_fits c =
    elim c.if-words_fit-3.branch [
      | then-words_fit-3 w ↦ λ n s.
          let t = sym w.value-is ∙ c.if-side_fits.true in
          sides-decide s c.args.bounds c.below-x-2.ensures c.below-y-2.ensures c.words_fit-2.ensures c.requires w.if-words_fit-3.true
          true _
          (λ own. leaf-side s c.args.bounds true own c.requires c.below-x-2.ensures c.if-v-eq0.false
          (left-room-2 (goal.at.returns-then-side_fits c).Else-not-inside-4) _ (left-leaves c.args.v c.args.bounds _ w.left_of-then-words_fit-3.ensures) true (sym t ∙ w.side_fits-then-words_fit-3.ensures))
          (λ own. leaf-side s c.args.bounds false own c.requires c.below-y-2.ensures c.if-v-eq0-2.false
          (right-room-2 (goal.at.returns-then-side_fits c).Else-not-inside-4) _ (right-leaves c.args.v c.args.bounds (omega arith) _ c.right_of-then-side_fits.ensures) _ c.side_fits-then-side_fits.ensures)
          (λ l r.
          let p = side-high c.below-x-2.result w.left_of-then-words_fit-3.result (sym w.side_fits-then-words_fit-3.ensures ∙ t) in
          let q = side-high c.below-y-2.result c.right_of-then-side_fits.result (sym c.side_fits-then-side_fits.ensures ∙ r) in
          (omega (arith, p), omega (arith, q), omega (arith, p)))
      | else-words_fit-3 w ↦ never (sym w.if-words_fit-3.false ∙ sym w.value-is ∙ c.if-side_fits.true)
    ]

pub returns-else-side_fits : goal.returns-else-side_fits
returns-else-side_fits c =
    elim c.if-words_fit-3.branch [
      | then-words_fit-3 w ↦ λ n s d h.
          let t = sym w.value-is ∙ c.if-side_fits.false in
          c.if-side_fits.false
          ∙ own-refuses s c.args.bounds (λ own. refuses s c.args.bounds true (leaf-side s c.args.bounds true own c.requires c.below-x-2.ensures c.if-v-eq0.false
          (left-room-2 (goal.at.returns-else-side_fits c).Else-not-inside-4) _ (left-leaves c.args.v c.args.bounds _ w.left_of-then-words_fit-3.ensures) false (sym t ∙ w.side_fits-then-words_fit-3.ensures))) d h
      | else-words_fit-3 w ↦ λ n s d h. w.value-is ∙ w.if-words_fit-3.false
          ∙ words-fail s c.args.bounds c.below-x-2.ensures c.below-y-2.ensures c.words_fit-2.ensures w.if-words_fit-3.false d h
    ]
