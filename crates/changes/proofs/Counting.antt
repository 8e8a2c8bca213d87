-- The measure of the loops over runs: how many runs the words give of what is at a root.
-- Assumes nothing.
use Rattle.std.proofs.Common.{◌≡◌, ℕ, zero, suc, ◌≤◌, List, length, sym, ap, ◌∙◌, arith}
use Rattle.run_index.specs.declared.Node.{Node}
use Rattle.run_index.specs.Cells.{cell_at}
use Rattle.run_index.specs.Tree.{Tree, leaf, node, runs, inorder, At}
use Rattle.run_index.proofs.Trees.{rep_pos, rep-cell}
use Rattle.run_index.proofs.Totals.{runs-length}

-- the number of runs that the words give of what is at p
abbrev pub runs_of : List ℕ → ℕ → ℕ
runs_of w zero = 0
runs_of w (suc p) = (cell_at w (suc p)).runs

-- it is that of the tree there
tree-runs : {w : List ℕ} {g p : ℕ} (t : Tree) → At w g p t → runs_of w p ≡ runs t
tree-runs {w} leaf h = ap (runs_of w) (sym h.linked)
tree-runs {w} (node zero a b l r) h = absurd (let pos : 1 ≤ 0 = rep_pos h.rep in omega arith)
tree-runs {w} (node (suc n) a b l r) h = ap (runs_of w) (sym h.linked) ∙ ap (λ (v : Node). v.runs) (rep-cell h.rep)

-- and how many runs are in it
pub runs_of_lem : {w : List ℕ} {g p : ℕ} (t : Tree) → At w g p t → runs_of w p ≡ length (inorder t)
runs_of_lem t h = tree-runs t h ∙ runs-length t
