-- The tree reached from a root is the tree that is there, if links are followed as deep as it is high: so a tree is seen as its runs in order.
-- Assumes nothing.
use Rattle.std.proofs.Common.{◌≡◌, ℕ, zero, suc, ◌-◌, ◌^◌, ◌≤◌, List, sym, refl, ap, ◌∙◌, arith}
use Rattle.run_index.specs.declared.Node.{Node}
use Rattle.run_index.specs.Cells.{cell_at}
use Rattle.run_index.specs.Tree.{Tree, leaf, node, link, height, runs, inorder, cell, At, tree_from}
use Rattle.run_index.specs.Search.{Index, runs_from}
use Rattle.run_index.proofs.Trees.{rep_pos, rep-cell, rep-left, rep-right}

-- the tree from a link, opened by one step: at 0
from-none : (d : ℕ) (w : List ℕ) (k : ℕ) → k ≡ 0 → tree_from d w k ≡ leaf
unfolding tree_from
from-none zero w k e = refl
from-none (suc d) w zero e = refl
from-none (suc d) w (suc k) e = absurd (omega arith)

-- at a node
from-node : (d : ℕ) (w : List ℕ) (n : ℕ) (v : Node) → v ≡ cell_at w n → 1 ≤ n → 1 ≤ d
    → tree_from d w n ≡ node n v.start v.«end» (tree_from (d - 1) w v.left) (tree_from (d - 1) w v.right)
unfolding tree_from
from-node zero w n v e p q = absurd (omega arith)
from-node (suc d) w zero v e p q = absurd (omega arith)
from-node (suc d) w (suc n) v e p q = let z : suc d - 1 ≡ d = omega arith in rw (z, e)

-- it is the tree that is there
pub from-tree : (w : List ℕ) (g : ℕ) (t : Tree) (d k : ℕ) → At w g k t → height t ≤ d → tree_from d w k ≡ t
from-tree w g leaf d k h le = from-none d w k (sym h.linked)
from-tree w g (node n a b l r) d k h le =
    let kn : k ≡ n = sym h.linked in
    let il = from-tree w g l (d - 1) (link l) (record { rep = rep-left h.rep; linked = refl }) (omega arith) in
    let ir = from-tree w g r (d - 1) (link r) (record { rep = rep-right h.rep; linked = refl }) (omega arith) in
    rw kn (from-node d w n (cell a b l r g) (sym (rep-cell h.rep)) (rep_pos h.rep) (omega arith) ∙ rw (il, ir))

-- no tree is higher than it has nodes
height-runs : (t : Tree) → height t ≤ runs t
height-runs leaf = omega arith
height-runs (node n a b l r) = omega (arith, height-runs l, height-runs r)

-- the runs in order of an index are those that its root leads to
pub index-runs : {w : List ℕ} {p g : ℕ} {t : Tree} → Index w p g t → runs_from w p ≡ inorder t
unfolding runs_from
index-runs {w} {p} {g} {t} i = ap inorder (from-tree w g t (2 ^ 62) p i.at (omega (arith, height-runs t, i.few)))
