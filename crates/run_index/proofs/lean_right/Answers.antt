-- `lean_right` meets its contract: the tree at p is a join of its root and its two sides, which `rotate_right` may be given.
-- The heights that it reads are those of the sides, so it goes the way that `lean_right` goes. Assumes nothing.
use Rattle.std.proofs.Common.{sym, refl, ap, ◌∙◌, arith}
use Rattle.run_index.specs.Shape.{lean_right}
use Rattle.run_index.proofs.Trees.{some_at, height≤runs}
use Rattle.run_index.proofs.Heap.{view, made_as, stays, seen_parts}
use Rattle.run_index.proofs.Turning.{lean_right-turns, lean_right-stays}
use Rattle.run_index.proofs.lean_right.Goals as goal

pub sums-outer-requires : goal.sums-outer-requires
sums-outer-requires c =
    let h = c.requires.0.1 in
    let v = view _ _ _ _ _ h.at c.requires.1 c.read_node-v.ensures in
    (_, v.r, v.right)

pub sums-inner-requires : goal.sums-inner-requires
sums-inner-requires c =
    let h = c.requires.0.1 in
    let v = view _ _ _ _ _ h.at c.requires.1 c.read_node-v.ensures in
    (_, v.l, v.left)

pub rotate_right-requires-clause-joinable : goal.rotate_right-requires-clause-joinable
rotate_right-requires-clause-joinable c =
    let h = c.requires.0.1 in
    let v = view _ _ _ _ _ h.at c.requires.1 c.read_node-v.ensures in
    let si = c.sums-inner.ensures _ v.l v.left in
    (v.l, v.r, seen_parts h v)

pub rotate_right-requires-clause-p_nonzero : goal.rotate_right-requires-clause-p_nonzero
rotate_right-requires-clause-p_nonzero c =
    let h = c.requires.0.1 in
    let v = view _ _ _ _ _ h.at c.requires.1 c.read_node-v.ensures in
    let si = c.sums-inner.ensures _ v.l v.left in
    some_at v.l v.left (omega (arith, si, c.if-outer-inner.true, height≤runs v.l))

pub returns-then-outer-inner : goal.returns-then-outer-inner
returns-then-outer-inner c =
    λ t h.
    let v = view _ _ _ _ _ h.at c.requires.1 c.read_node-v.ensures in
    let so = c.sums-outer.ensures _ v.r v.right in
    let si = c.sums-inner.ensures _ v.l v.left in
    made_as v.is (ap lean_right v.is ∙ lean_right-turns _ _ _ v.l v.r (omega (arith, so, si, c.if-outer-inner.true)))
    (c.rotate_right.ensures v.l v.r (seen_parts h v))

pub returns : goal.returns
returns c =
    λ t h.
    let v = view _ _ _ _ _ h.at c.requires.1 c.read_node-v.ensures in
    let so = c.sums-outer.ensures _ v.r v.right in
    let si = c.sums-inner.ensures _ v.l v.left in
    made_as refl (ap lean_right v.is ∙ lean_right-stays _ _ _ v.l v.r (omega (arith, so, si, c.if-outer-inner.false)) ∙ sym v.is) (stays _ t h.at)
