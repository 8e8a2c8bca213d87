-- `free_tree` meets its contract: each side is given back, and then the root. The measure is the height of the tree at hand, as its word has
-- it. Assumes nothing.
use Rattle.std.proofs.Common.{arith}
use Rattle.run_index.proofs.Trees.{wrote_as}
use Rattle.run_index.proofs.Heap.{view, left-falls, left-owned}
use Rattle.run_index.proofs.Felling.{felled-none, right-stays, right-low, felled-all}
use Rattle.run_index.proofs.chains.+free_tree.Goals as goal

pub returns-then-p-eq0 : goal.returns-then-p-eq0
returns-then-p-eq0 t c = λ g u o. felled-none u c.if-p-eq0.true o

pub free_tree-a-requires : goal.free_tree-a-requires
free_tree-a-requires t c =
    let o = c.requires.2 in
    let v = view _ _ _ _ _ o.at c.if-p-eq0.false c.read_node-v.ensures in
    (omega (arith, left-falls o.at v, c.decreases), (_, _, left-owned o v))

pub free_tree-b-requires : goal.free_tree-b-requires
free_tree-b-requires t c =
    let o = c.requires.2 in
    let v = view _ _ _ _ _ o.at c.if-p-eq0.false c.read_node-v.ensures in
    let f₁ = c.free_tree-a.ensures _ _ (left-owned o v) in
    (omega (arith, right-low o v f₁, c.decreases), (_, _, right-stays o v f₁))

pub returns : goal.returns
returns t c =
    λ g u o.
    let v = view _ _ _ _ u o.at c.if-p-eq0.false c.read_node-v.ensures in
    let f₁ = c.free_tree-a.ensures _ _ (left-owned o v) in
    felled-all o v f₁ (c.free_tree-b.ensures _ _ (right-stays o v f₁)) (wrote_as c.free.ensures c.write_node.ensures)
