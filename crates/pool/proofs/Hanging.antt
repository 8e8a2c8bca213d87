-- A tree that hangs at a link, in order and balanced; and a planted one, which can be searched, and whose world stands where nodes are shared
-- out with others. Assumes nothing.
use Rattle.pool.proofs.Base.{◌≡◌, ℕ, zero, suc, ◌+◌, ◌*◌, ◌^◌, ◌<◌, ◌≤◌, List, length, subst, arith, size, Canon, Tree, leaf, node, height, runs, count, inorder, At, Balanced, Index, times, World, Chain}
use Rattle.pool.proofs.Base.{Footprint, Standing, Planted}
use native.Mathlib.Nat.{one-le-pow, pow-succ'}

-- a tree of nodes with the tag g at the link k, in order within lo .. total - 1, balanced, at most d high
pub record Hangs (d : ℕ) (w : List ℕ) (g k lo total : ℕ) : Type 0 where
  pub t : Tree
  pub at : At w g k t
  pub ordered : Canon total lo (inorder t)
  pub balanced : Balanced t
  pub low : height t ≤ d

-- a tree at most d high has fewer than 2^d runs
pub low-runs : (t : Tree) (d : ℕ) → height t ≤ d → runs t < 2 ^ d
low-runs leaf d le = omega (arith, one-le-pow d 2 (omega arith))
low-runs (node n a b l r) zero le = absurd (omega arith)
low-runs (node n a b l r) (suc d) le = rw (pow-succ' 2 d) (omega (arith, low-runs l d (omega arith), low-runs r d (omega arith)))

-- so one that hangs from a root can be searched
pub hangs-index : {w : List ℕ} {g k : ℕ} (T : Hangs 22 w g k 0 size) → Index w k g T.t
hangs-index T = record { at = T.at; canonical = T.ordered; few = omega (arith, low-runs T.t 22 T.low) }

-- as can a planted one
pub planted-index : {w : List ℕ} {h : World} (P : Planted w h) → Index w h.root h.tag P.tree
planted-index P = record { at = P.linked; canonical = P.ordered; few = omega (arith, low-runs P.tree 22 P.low) }

-- and its world stands where it, a free chain and other worlds share the nodes out
pub world-stands : {w : List ℕ} {s : Footprint} {h : World} (P : Planted w h) (ns : List ℕ) → length w ≡ 8 * (s.nodes + 1) → s.nodes ≤ 65568
    → s.own ≤ s.nodes → h.tag ≡ s.tag → Chain w h.free ns
    → ((m : ℕ) → 1 ≤ m → m ≤ s.nodes → count m P.tree + times m ns + s.others m ≡ 1)
    → runs P.tree + length ns ≡ s.own → Standing w s h
world-stands {w} {s} {h} P ns sized few part tagged chain shared counted = record {
  tree = P.tree;
  free = ns;
  kept = record {
    sized = sized;
    few = few;
    part = part;
    linked = subst (λ (g : ℕ). At w g h.root P.tree) tagged P.linked;
    tagged = tagged;
    once = P.once;
    ordered = P.ordered;
    balanced = P.balanced;
    chained = chain;
    shared = shared;
    counted = counted;
  };
  ones-are = P.ones-are;
  runs-are = P.runs-are;
  first-is = P.first-is;
  last-is = P.last-is;
  empty-offset = P.empty-offset;
}
