-- The nodes of a pool, shared out: a node of a tree has its world's number as its tag, so no node is in two trees; it has a height, and a free
-- node has none, so the free chain meets no tree. So where the trees and the chain have as many nodes as there are, each node is in one of
-- them, once, by counting. Assumes nothing.
use Rattle.pool.proofs.Base.{◌≡◌, ℕ, ◌+◌, ◌*◌, ◌<◌, ◌≤◌, List, length, sym, arith, ℕ_discrete, cell_at, times, free_head, world_at, nodes, tree_at, Chain, sum_to, runs_at, count_at, Planted}
use Rattle.pool.proofs.Sums.{sum-some, sum-single}
use Rattle.pool.proofs.Counting.{Among, each-once}
use Rattle.pool.proofs.Chains.{chain-once, chain-free, free-low}
use Rattle.pool.proofs.Sharing.{count-once, node_of}

module _ (w : List ℕ) (c n : ℕ) (planted : (k : ℕ) → k < n → Planted (nodes w) (world_at w k)) (ns : List ℕ) (chain : Chain (nodes w) (free_head w) ns) where
  -- no node is in two trees
  trees-apart : (m : ℕ) → sum_to n (count_at w m) ≤ 1
  trees-apart m =
      sum-single n (cell_at (nodes w) m).tag (count_at w m)
      (λ k l. count-once w k (planted k l) m) (λ k l i. sym (node_of w k (planted k l) m i).tagged)

  -- nor in a tree and the chain
  all_apart : (m : ℕ) → sum_to n (count_at w m) + times m ns ≤ 1
  all_apart m = go (ℕ_discrete (sum_to n (count_at w m)) 0) (ℕ_discrete (times m ns) 0)
    where
      go : Dec (sum_to n (count_at w m) ≡ 0) → Dec (times m ns ≡ 0) → sum_to n (count_at w m) + times m ns ≤ 1
      go (yes z) d = omega (arith, chain-once (nodes w) (free_head w) ns chain m)
      go (no s) (yes z) = omega (arith, trees-apart m)
      go (no s) (no t) =
          let r = sum-some n (count_at w m) (omega arith) in
          let h = node_of w r.0 (planted r.0 r.1) m r.2 in
          absurd (omega (arith, h.high, free-low (chain-free (nodes w) (free_head w) ns chain m (omega arith))))

  -- so if they have all c nodes, each is in one of them
  pub shared-out : length (nodes w) ≡ 8 * (c + 1) → sum_to n (runs_at w) + length ns ≡ c
      → (m : ℕ) → 1 ≤ m → m ≤ c → sum_to n (count_at w m) + times m ns ≡ 1
  shared-out sized = each-once c n (tree_at w) ns trees-among chain-among all_apart
    where
      trees-among : (k : ℕ) → k < n → Among c (λ m. count_at w m k)
      trees-among k l m i = let h = node_of w k (planted k l) m i in (h.some, omega (arith, h.room))

      chain-among : Among c (λ m. times m ns)
      chain-among m i = let h = chain-free (nodes w) (free_head w) ns chain m i in (h.some, omega (arith, h.room))
