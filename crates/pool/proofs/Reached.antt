-- The tree reached from a root is the tree that is there: a tree of so few nodes is at most 22 high, and that deep links are followed.
-- Assumes nothing.
use Rattle.pool.proofs.Base.{◌≡◌, ℕ, ◌≤◌, List, sym, ap, ◌∙◌, arith, Run, mem, Tree, height, inorder, At, tree_from, Index, runs_from, index-runs, Links, highest, physical_runs, turned, held_from, Footprint, Represents}
use Rattle.run_index.proofs.Least.{height_bound}
use Rattle.run_index.proofs.Reached.{from-tree}
use Rattle.pool.proofs.Nodes.{tree-few, kept-index}

-- of any tree that is low enough
pub tree-reached : {w : List ℕ} {g p : ℕ} {t : Tree} → At w g p t → height t ≤ highest → tree_from highest w p ≡ t
tree-reached {w} {g} {p} {t} h le = from-tree w g t highest p h le

pub tree-physical : {w : List ℕ} {g p : ℕ} {t : Tree} → At w g p t → height t ≤ 22 → physical_runs w p ≡ inorder t
unfolding physical_runs
tree-physical h le = ap inorder (tree-reached h le)

-- so what is held from its root is the tree's, turned by the offset
pub tree-held : {w : List ℕ} {g p : ℕ} {t : Tree} (o : ℕ) → At w g p t → height t ≤ 22 → held_from w p o ≡ turned o (mem (inorder t))
unfolding held_from
tree-held o h le = ap (λ (rs : List Run). turned o (mem rs)) (tree-physical h le)

-- which a search sees, turned by the offset
pub tree-seen : {w : List ℕ} {g p : ℕ} {t : Tree} (o : ℕ) → Index w p g t → height t ≤ 22 → turned o (mem (runs_from w p)) ≡ held_from w p o
tree-seen o i le = ap (λ (rs : List Run). turned o (mem rs)) (index-runs i) ∙ sym (tree-held o i.at le)

module _ {w : List ℕ} {s : Footprint} {x : Links} {t : Tree} {ns : List ℕ} (k : Represents w s x t ns) where
  -- a kept tree is at most 22 high
  pub kept_low : height t ≤ 22
  kept_low = height_bound t k.balanced (omega (arith, tree-few k, k.few))

  -- its runs are those that are reached
  pub kept-physical : physical_runs w x.root ≡ inorder t
  kept-physical = tree-physical k.linked kept_low

  -- and those that a search sees
  pub kept-runs : runs_from w x.root ≡ inorder t
  kept-runs = index-runs (kept-index k)

  -- so it is what is reached from its root
  pub kept-tree : tree_from highest w x.root ≡ t
  kept-tree = tree-reached k.linked kept_low

  -- and what is held from its root
  pub kept-held : (o : ℕ) → held_from w x.root o ≡ turned o (mem (inorder t))
  kept-held o = tree-held o k.linked kept_low

  -- which a search sees
  pub kept-seen : (o : ℕ) → turned o (mem (runs_from w x.root)) ≡ held_from w x.root o
  kept-seen o = tree-seen o (kept-index k) kept_low
