-- `lean_left` meets its contract: the tree at p is a join of its root and its two sides, which `rotate_left` may be given.
-- The heights that it reads are those of the sides, so it goes the way that `lean_left` goes. Assumes nothing.
use Rattle.std.proofs.Common.{sym, refl, ap, ◌∙◌, arith}
use Rattle.run_index.specs.Shape.{lean_left}
use Rattle.run_index.proofs.Trees.{some_at, height≤runs}
use Rattle.run_index.proofs.Heap.{view, made_as, stays, seen_parts}
use Rattle.run_index.proofs.Turning.{lean_left-turns, lean_left-stays}
use Rattle.run_index.proofs.lean_left.Goals as goal

pub sums-outer-requires : goal.sums-outer-requires
sums-outer-requires c =
    let h = c.requires.0.1 in
    let v = view _ _ _ _ _ h.at c.requires.1 c.read_node-v.ensures in
    (_, v.l, v.left)

pub sums-inner-requires : goal.sums-inner-requires
sums-inner-requires c =
    let h = c.requires.0.1 in
    let v = view _ _ _ _ _ h.at c.requires.1 c.read_node-v.ensures in
    (_, v.r, v.right)

pub rotate_left-requires-clause-joinable : goal.rotate_left-requires-clause-joinable
rotate_left-requires-clause-joinable c =
    let h = c.requires.0.1 in
    let v = view _ _ _ _ _ h.at c.requires.1 c.read_node-v.ensures in
    let si = c.sums-inner.ensures _ v.r v.right in
    (v.l, v.r, seen_parts h v)

pub rotate_left-requires-clause-q_nonzero : goal.rotate_left-requires-clause-q_nonzero
rotate_left-requires-clause-q_nonzero c =
    let h = c.requires.0.1 in
    let v = view _ _ _ _ _ h.at c.requires.1 c.read_node-v.ensures in
    let si = c.sums-inner.ensures _ v.r v.right in
    some_at v.r v.right (omega (arith, si, c.if-outer-inner.true, height≤runs v.r))

pub returns-then-outer-inner : goal.returns-then-outer-inner
returns-then-outer-inner c =
    λ t h.
    let v = view _ _ _ _ _ h.at c.requires.1 c.read_node-v.ensures in
    let so = c.sums-outer.ensures _ v.l v.left in
    let si = c.sums-inner.ensures _ v.r v.right in
    made_as v.is (ap lean_left v.is ∙ lean_left-turns _ _ _ v.l v.r (omega (arith, so, si, c.if-outer-inner.true)))
    (c.rotate_left.ensures v.l v.r (seen_parts h v))

pub returns : goal.returns
returns c =
    λ t h.
    let v = view _ _ _ _ _ h.at c.requires.1 c.read_node-v.ensures in
    let so = c.sums-outer.ensures _ v.l v.left in
    let si = c.sums-inner.ensures _ v.r v.right in
    made_as refl (ap lean_left v.is ∙ lean_left-stays _ _ _ v.l v.r (omega (arith, so, si, c.if-outer-inner.false)) ∙ sym v.is) (stays _ t h.at)
