-- The nodes of a tree are its world's own: each has its world's number as its tag, and a height. So no node is in two worlds' trees. Assumes
-- nothing.
use Rattle.pool.proofs.Base.{◌≡◌, ℕ, ◌<◌, ◌≤◌, List, sym, ap, ◌∙◌, arith, ℕ_discrete, size, cell_at, Room, count, world_at, nodes, tree_at, sum_to, without, count_at, Planted}
use Rattle.run_index.proofs.Apart.{rep-tagged}
use Rattle.pool.proofs.Sums.{sum-some, without-here, without-there}
use Rattle.pool.proofs.Reached.{tree-reached}
use Rattle.pool.proofs.Orders.{node_in}

-- the tree that a world's root leads to is the planted one
pub tree-planted : (w : List ℕ) (k : ℕ) (P : Planted (nodes w) (world_at w k)) → tree_at w k ≡ P.tree
unfolding tree_at
tree-planted w k P = tree-reached P.linked P.low

-- a node of world k: it has room, a height and the tag k
pub record NodeOf (w : List ℕ) (k m : ℕ) : Type 0 where
  pub some : 1 ≤ m
  pub room : Room w m
  pub high : 1 ≤ (cell_at w m).height
  pub tagged : (cell_at w m).tag ≡ k

module _ (w : List ℕ) (k : ℕ) (P : Planted (nodes w) (world_at w k)) (m : ℕ) where
  -- counted in either tree
  count-planted : count_at w m k ≡ count m P.tree
  count-planted = ap (count m) (tree-planted w k P)

  -- no node stands twice in its tree
  pub count-once : count_at w m k ≤ 1
  count-once = omega (arith, count-planted, P.once m)

  -- the nodes of its tree are its own
  pub node_of : 1 ≤ count_at w m k → NodeOf (nodes w) k m
  node_of i =
      let j : 1 ≤ count m P.tree = omega (arith, count-planted) in
      let h = node_in (nodes w) k P.tree 0 size P.linked.rep P.ordered m j in
      record { some = h.some; room = h.room; high = h.high; tagged = (rep-tagged (nodes w) k P.tree P.linked.rep m j).0 }

-- a node that is in another world's tree does not have this one's number
pub others_apart : (w : List ℕ) (n k : ℕ) → ((j : ℕ) → j < n → Planted (nodes w) (world_at w j))
    → (m : ℕ) → 1 ≤ sum_to n (without k (count_at w m)) → (cell_at (nodes w) m).tag ≡ k → ⊥
others_apart w n k planted m i e = let r = sum-some n (without k (count_at w m)) i in go r.0 r.1 r.2 (ℕ_discrete r.0 k)
  where
    go : (j : ℕ) → j < n → 1 ≤ without k (count_at w m) j → Dec (j ≡ k) → ⊥
    go j l h (yes q) = absurd (omega (arith, without-here k (count_at w m) j q))
    go j l h (no ne) = ne (sym (node_of w j (planted j l) m (omega (arith, without-there k (count_at w m) j ne))).tagged ∙ e)
