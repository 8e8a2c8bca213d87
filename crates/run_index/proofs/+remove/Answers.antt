-- `remove` meets its contract: it goes down the side that the start names; where the root itself goes, the first node of the right side takes its place.
-- The measure is the height of the tree at hand, as its word has it. Assumes nothing.
use Rattle.std.proofs.Common.{arith}
use Rattle.run_index.proofs.Heap.{view, left-falls, right-falls, left-owned, right-owned}
use Rattle.run_index.proofs.Turning.{left-parts, right-parts}
use Rattle.run_index.proofs.Removing.{side-spot, left_cut, right-cut, fuse-spot, cut-none, cut_left, cut_right, cut-last, cut-root}
use Rattle.run_index.proofs.+remove.Goals as goal

pub returns-then-p-eq0 : goal.returns-then-p-eq0
returns-then-p-eq0 t c = λ u h. cut-none _ u h c.if-p-eq0.true

pub remove-x-requires : goal.remove-x-requires
remove-x-requires t c =
    let h = c.requires.1 in
    let v = view _ _ _ _ _ h.at c.if-p-eq0.false c.read_node-v.ensures in
    (omega (arith, left-falls h.at v, c.decreases), (v.l, left-owned h v))

pub rebalance-r-requires : goal.rebalance-r-requires
rebalance-r-requires t c =
    let h = c.requires.1 in
    let v = view _ _ _ _ _ h.at c.if-p-eq0.false c.read_node-v.ensures in
    let fr = c.remove-x.ensures v.l (left-owned h v) in
    (_, _, left-parts (side-spot h v v.right (left_cut h v _)) fr.made)

pub returns-then-start-v : goal.returns-then-start-v
returns-then-start-v t c =
    λ u h.
    let v = view _ _ _ _ _ h.at c.if-p-eq0.false c.read_node-v.ensures in
    let fr = c.remove-x.ensures v.l (left-owned h v) in
    cut_left h v fr (c.rebalance-r.ensures _ _ (left-parts (side-spot h v v.right (left_cut h v _)) fr.made)) c.if-start-v.true

pub remove-x-requires-then-v-start : goal.remove-x-requires-then-v-start
remove-x-requires-then-v-start t c =
    let h = c.requires.1 in
    let v = view _ _ _ _ _ h.at c.if-p-eq0.false c.read_node-v.ensures in
    (omega (arith, right-falls h.at v, c.decreases), (v.r, right-owned h v))

pub rebalance-r-requires-then-v-start : goal.rebalance-r-requires-then-v-start
rebalance-r-requires-then-v-start t c =
    let h = c.requires.1 in
    let v = view _ _ _ _ _ h.at c.if-p-eq0.false c.read_node-v.ensures in
    let fr = c.remove-x-then-v-start.ensures v.r (right-owned h v) in
    (_, _, right-parts (side-spot h v v.left (right-cut h v _)) fr.made)

pub returns-then-v-start : goal.returns-then-v-start
returns-then-v-start t c =
    λ u h.
    let v = view _ _ _ _ _ h.at c.if-p-eq0.false c.read_node-v.ensures in
    let fr = c.remove-x-then-v-start.ensures v.r (right-owned h v) in
    cut_right h v fr (c.rebalance-r-then-v-start.ensures _ _ (right-parts (side-spot h v v.left (right-cut h v _)) fr.made))
    c.if-start-v.false c.if-v-start.true

pub returns-then-v-eq0 : goal.returns-then-v-eq0
returns-then-v-eq0 t c =
    λ u h.
    let v = view _ _ _ _ _ h.at c.if-p-eq0.false c.read_node-v.ensures in
    cut-last h v c.if-start-v.false c.if-v-start.false c.if-v-eq0.true

pub pop_first-x-requires-clause-ours : goal.pop_first-x-requires-clause-ours
pop_first-x-requires-clause-ours t c =
    let h = c.requires.1 in
    let v = view _ _ _ _ _ h.at c.if-p-eq0.false c.read_node-v.ensures in
    (v.r, right-owned h v)

pub rebalance-r-requires-2 : goal.rebalance-r-requires-2
rebalance-r-requires-2 t c =
    let h = c.requires.1 in
    let v = view _ _ _ _ _ h.at c.if-p-eq0.false c.read_node-v.ensures in
    let ps = c.pop_first-x.ensures v.r (right-owned h v) in
    (_, _, right-parts (fuse-spot h v c.if-v-eq0.false ps) ps.made)

pub returns : goal.returns
returns t c =
    λ u h.
    let v = view _ _ _ _ _ h.at c.if-p-eq0.false c.read_node-v.ensures in
    let ps = c.pop_first-x.ensures v.r (right-owned h v) in
    cut-root h v c.if-v-eq0.false ps
    (c.rebalance-r-2.ensures _ _ (right-parts (fuse-spot h v c.if-v-eq0.false ps) ps.made))
    c.if-start-v.false c.if-v-start.false
