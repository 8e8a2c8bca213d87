-- `pop_first` meets its contract: it goes left to the node that has no left side, and joins the sides again on the way up.
-- The measure is the height of the tree at hand, as its word has it. Assumes nothing.
use Rattle.std.proofs.Common.{arith}
use Rattle.run_index.proofs.Heap.{view, left-falls, left-owned}
use Rattle.run_index.proofs.Turning.{left-parts}
use Rattle.run_index.proofs.Removing.{side-spot, left-popped, pop-here, pop-there}
use Rattle.run_index.proofs.+pop_first.Goals as goal

pub returns-then-v-eq0 : goal.returns-then-v-eq0
returns-then-v-eq0 t c =
    λ u h.
    let v = view _ _ _ _ _ h.at c.requires.p_nonzero c.read_node-v.ensures in
    pop-here h v c.if-v-eq0.true

pub pop_first-x-requires : goal.pop_first-x-requires
pop_first-x-requires t c =
    let h = c.requires.ours.1 in
    let v = view _ _ _ _ _ h.at c.requires.p_nonzero c.read_node-v.ensures in
    (omega (arith, left-falls h.at v, c.decreases), ((v.l, left-owned h v), c.if-v-eq0.false))

pub rebalance-r-requires : goal.rebalance-r-requires
rebalance-r-requires t c =
    let h = c.requires.ours.1 in
    let v = view _ _ _ _ _ h.at c.requires.p_nonzero c.read_node-v.ensures in
    let ps = c.pop_first-x.ensures v.l (left-owned h v) in
    (_, _, left-parts (side-spot h v v.right (left-popped h v c.if-v-eq0.false)) ps.made)

pub returns : goal.returns
returns t c =
    λ u h.
    let v = view _ _ _ _ _ h.at c.requires.p_nonzero c.read_node-v.ensures in
    let ps = c.pop_first-x.ensures v.l (left-owned h v) in
    pop-there h v c.if-v-eq0.false ps (c.rebalance-r.ensures _ _ (left-parts (side-spot h v v.right (left-popped h v c.if-v-eq0.false)) ps.made))
