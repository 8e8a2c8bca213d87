-- `tree_fits` meets its contract. The loop's invariant: the walk of the link at hand decides for the whole, at any depth that is left, and
-- no node there is higher than the link's. The tests are the definition's; either side of a node is lower than the node. The measure of the
-- recursion and of the loop is the height that the words give. Assumes nothing.
use Rattle.pool.proofs.Base.{◌≡◌, ℕ, true, false, Some, None, sym, ap, ◌∙◌, subst, arith, Node, Room, Bounds, Seen}
use Rattle.pool.proofs.Tests.{inside-out}
use Rattle.pool.proofs.Steps.{OwnFits, SideTells, tells_none, missing, outside, node-fails, node-passes, left-leaves, right-leaves, crowded, lower, walked, refuses, sides}
use Rattle.pool.proofs.soundness.+tree_fits.Goals as goal
use Rattle.pool.proofs.soundness.+tree_fits.Goals.{After-below-v, Else-not-inside-2, Else-not-node_fits, then-v-eq0-via-then-v-eq0, then-v-eq0-via-else-v-eq0+then-v-eq0-2}
use Rattle.pool.proofs.soundness.+tree_fits.Goals.{then-v-eq0-via-else-v-eq0+else-v-eq0-2+then-not-inside, then-v-eq0-via-else-v-eq0+else-v-eq0-2+else-not-inside+then-not-inside-2}

-- the node at hand
seen : (t : ℕ) (c : After-below-v t) → Seen c.args.words.now c.loop-k.k c.below-v.result
seen t c = record { some = c.loop-k-test.true; room = c.loop-k.invariant.room; is = c.below-v.ensures }

-- its sides have room
left-room : (t : ℕ) (c : Else-not-inside-2 t) → Room c.args.words.now c.below-v.result.left
left-room t c = inside-out _ _ (sym c.inside.ensures ∙ c.if-not-inside.false)

right-room : (t : ℕ) (c : Else-not-inside-2 t) → Room c.args.words.now c.below-v.result.right
right-room t c = inside-out _ _ (sym c.inside-else-not-inside.ensures ∙ c.if-not-inside-2.false)

-- its own tests pass
own : (t : ℕ) (c : Else-not-node_fits t) → OwnFits c.args.words.now c.below-v.result c.loop-k.left_over
own t c =
    let s : Seen c.args.words.now c.loop-k.k c.below-v.result = record { some = c.loop-k-test.true; room = c.loop-k.invariant.room; is = c.below-v.ensures } in
    node-passes s c.loop-k.left_over c.below-x.ensures c.below-y.ensures c.node_fits.ensures c.if-not-node_fits.false

pub returns-then-v-le2 : goal.returns-then-v-le2
returns-then-v-le2 t c = c.loop-k.invariant.tells _ (c.low_fits.ensures _ (seen t (goal.at.returns-then-v-le2 t c).After-below-v))

pub returns-then-v-eq0 : goal.returns-then-v-eq0
returns-then-v-eq0 t c =
    let s = seen t (goal.at.returns-then-v-eq0 t c).After-below-v in
    c.loop-k.invariant.tells _
    (elim c.then-v-eq0.branch [
      | then-v-eq0-via-then-v-eq0 w ↦ missing s c.loop-k.left_over true c.if-v-le2.false w.if-v-eq0.true
      | then-v-eq0-via-else-v-eq0+then-v-eq0-2 w ↦ missing s c.loop-k.left_over false c.if-v-le2.false w.if-v-eq0-2.true
      | then-v-eq0-via-else-v-eq0+else-v-eq0-2+then-not-inside w ↦ outside s c.loop-k.left_over true w.inside.ensures w.if-not-inside.true
      | then-v-eq0-via-else-v-eq0+else-v-eq0-2+else-not-inside+then-not-inside-2 w ↦
          outside s c.loop-k.left_over false w.inside-else-not-inside.ensures w.if-not-inside-2.true
    ])

pub below-x-requires : goal.below-x-requires
below-x-requires t c = left-room t c

pub below-y-requires : goal.below-y-requires
below-y-requires t c = right-room t (goal.at.below-y-requires t c).Else-not-inside-2

pub returns-then-not-node_fits : goal.returns-then-not-node_fits
returns-then-not-node_fits t c =
    c.loop-k.invariant.tells _
    (node-fails (seen t (goal.at.returns-then-not-node_fits t c).After-below-v) c.loop-k.left_over c.below-x.ensures c.below-y.ensures
    c.node_fits.ensures c.if-not-node_fits.true)

pub returns-in_default : goal.returns-in_default
returns-in_default t c =
    let s = seen t (goal.at.returns-in_default t c).After-below-v in
    c.loop-k.invariant.tells _ (refuses s c.loop-k.left_over true (crowded s c.loop-k.left_over true c.if-v-eq0.false (left-leaves c.below-v.result c.loop-k.left_over None c.in_default.ensures)))

pub tree_fits-requires : goal.tree_fits-requires
tree_fits-requires t c =
    let s = seen t (goal.at.tree_fits-requires t c).After-below-v in
    let l = (lower s c.loop-k.left_over (own t (goal.at.tree_fits-requires t c).Else-not-node_fits) true).0 in
    (omega (arith, c.decreases, c.loop-k.invariant.lower, l, ap (λ (u : Node). u.height) c.below-v.ensures), left-room t (goal.at.tree_fits-requires t c).Else-not-inside-2)

pub returns-then-not-tree_fits : goal.returns-then-not-tree_fits
returns-then-not-tree_fits t c =
    let s = seen t (goal.at.returns-then-not-tree_fits t c).After-below-v in
    let l = walked s c.loop-k.left_over (own t (goal.at.returns-then-not-tree_fits t c).Else-not-node_fits) true c.in-Some.before
    (left-leaves c.below-v.result c.loop-k.left_over (Some c.in-Some.before) c.in-Some.ensures) c.tree_fits.ensures in
    c.loop-k.invariant.tells _ (refuses s c.loop-k.left_over true (subst (SideTells s c.loop-k.left_over true) c.if-not-tree_fits.true l))

pub returns-in_default-right_of : goal.returns-in_default-right_of
returns-in_default-right_of t c =
    let s = seen t (goal.at.returns-in_default-right_of t c).After-below-v in
    c.loop-k.invariant.tells _ (refuses s c.loop-k.left_over false (crowded s c.loop-k.left_over false c.if-v-eq0-2.false (right-leaves c.below-v.result c.loop-k.left_over c.loop-k.invariant.high None c.in_default-right_of.ensures)))

pub loop-k-smaller : goal.loop-k-smaller
loop-k-smaller t c =
    let s = seen t (goal.at.loop-k-smaller t c).After-below-v in
    omega (arith, (lower s c.loop-k.left_over (own t (goal.at.loop-k-smaller t c).Else-not-node_fits) false).0, ap (λ (u : Node). u.height) c.below-v.ensures)

pub loop-k-preserved : goal.loop-k-preserved
loop-k-preserved t c =
    let s = seen t (goal.at.loop-k-preserved t c).After-below-v in
    let o = own t (goal.at.loop-k-preserved t c).Else-not-node_fits in
    let l = walked s c.loop-k.left_over o true c.in-Some.before
    (left-leaves c.below-v.result c.loop-k.left_over (Some c.in-Some.before) c.in-Some.ensures) c.tree_fits.ensures in
    let e : c.in-Some-right_of.after.high ≡ c.loop-k.left_over.high = ap (λ (D : Bounds). D.high) c.in-Some-right_of.ensures.1 in
    record {
      room = right-room t (goal.at.loop-k-preserved t c).Else-not-inside-2;
      high = omega (arith, c.loop-k.invariant.high);
      lower = omega (arith, c.loop-k.invariant.lower, (lower s c.loop-k.left_over o false).0, ap (λ (u : Node). u.height) c.below-v.ensures);
      tells = λ r h. c.loop-k.invariant.tells r
          (sides s c.loop-k.left_over o (subst (SideTells s c.loop-k.left_over true) c.if-not-tree_fits.false l)
          (walked s c.loop-k.left_over o false c.in-Some-right_of.after (right-leaves c.below-v.result c.loop-k.left_over c.loop-k.invariant.high (Some c.in-Some-right_of.after) c.in-Some-right_of.ensures) h));
    }

pub returns : goal.returns
returns t c = c.loop-k.invariant.tells _ (tells_none _ _ _ c.loop-k-test.false)
