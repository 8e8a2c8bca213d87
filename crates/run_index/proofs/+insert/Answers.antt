-- `insert` meets its contract: the run goes down the side that its start names, and the sides are joined again on the way up.
-- The measure is the height of the tree at hand, as its word has it. Assumes nothing.
use Rattle.std.proofs.Common.{refl, arith}
use Rattle.run_index.proofs.Heap.{view, made_as, left-falls, right-falls}
use Rattle.run_index.proofs.Turning.{left-parts, right-parts}
use Rattle.run_index.proofs.Inserting.{kept-sides, swapped-sides, new-made, side-ready, side-spot, side-made, insert-left, insert-right}
use Rattle.run_index.proofs.+insert.Goals as goal

pub returns-then-p-eq0 : goal.returns-then-p-eq0
returns-then-p-eq0 t c = λ u h. new-made u h c.if-p-eq0.true c.pull.ensures

pub insert-l-requires : goal.insert-l-requires
insert-l-requires t c =
    let h = c.requires.1 in
    let v = view _ _ _ _ _ h.at c.if-p-eq0.false c.read_node-v.ensures in
    (omega (arith, left-falls h.at v, c.decreases), (v.l, side-ready h v v.left v.right (kept-sides v.l v.r)))

pub rebalance-requires : goal.rebalance-requires
rebalance-requires t c =
    let h = c.requires.1 in
    let v = view _ _ _ _ _ h.at c.if-p-eq0.false c.read_node-v.ensures in
    let md = c.insert-l.ensures v.l (side-ready h v v.left v.right (kept-sides v.l v.r)) in
    (_, _, left-parts (side-spot h v v.left v.right (kept-sides v.l v.r)) md)

pub insert-r-requires : goal.insert-r-requires
insert-r-requires t c =
    let h = c.requires.1 in
    let v = view _ _ _ _ _ h.at c.if-p-eq0.false c.read_node-v.ensures in
    (omega (arith, right-falls h.at v, c.decreases), (v.r, side-ready h v v.right v.left (swapped-sides v.l v.r)))

pub rebalance-requires-else-start-v : goal.rebalance-requires-else-start-v
rebalance-requires-else-start-v t c =
    let h = c.requires.1 in
    let v = view _ _ _ _ _ h.at c.if-p-eq0.false c.read_node-v.ensures in
    let md = c.insert-r.ensures v.r (side-ready h v v.right v.left (swapped-sides v.l v.r)) in
    (_, _, right-parts (side-spot h v v.right v.left (swapped-sides v.l v.r)) md)

pub returns-then-start-v : goal.returns-then-start-v
returns-then-start-v t c =
    λ u h.
    let v = view _ _ _ _ _ h.at c.if-p-eq0.false c.read_node-v.ensures in
    let md = c.insert-l.ensures v.l (side-ready h v v.left v.right (kept-sides v.l v.r)) in
    let j = c.rebalance.ensures _ _ (left-parts (side-spot h v v.left v.right (kept-sides v.l v.r)) md) in
    made_as refl (insert-left h v c.if-start-v.true) (side-made h v v.left v.right (kept-sides v.l v.r) md j (λ m. refl))

pub returns-else-start-v : goal.returns-else-start-v
returns-else-start-v t c =
    λ u h.
    let v = view _ _ _ _ _ h.at c.if-p-eq0.false c.read_node-v.ensures in
    let md = c.insert-r.ensures v.r (side-ready h v v.right v.left (swapped-sides v.l v.r)) in
    let j = c.rebalance-else-start-v.ensures _ _ (right-parts (side-spot h v v.right v.left (swapped-sides v.l v.r)) md) in
    made_as refl (insert-right h v c.if-start-v.false) (side-made h v v.right v.left (swapped-sides v.l v.r) md j (λ m. omega arith))
