-- The path of a reading, and the walk down a tree that puts nodes on it. What is to come is the same all along the walk: at a node whose
-- run ends before p that run and the left side are dropped, and any other node is put on the path for its run and its right side.
-- Assumes nothing.
use Prim.Native.Nat.{ℕ, ◌+◌, ◌-◌, ◌≤◌, ◌<◌, max}
use mathlib.Core.Path.{◌≡◌, refl, sym, ap, ◌∙◌, subst}
use mathlib.Core.List.{List, [], ◌∷◌, ◌++◌, append_assoc}
use native.Mathlib.Omega.{arith}
use lib.ListN.{length}
use Rattle.model.specs.declared.Run.{Run}
use Rattle.model.specs.Numbers.{size}
use Rattle.model.specs.Positions.{run}
use Rattle.model.specs.RunList.{Canon}
use Rattle.model.proofs.RunList.{canon-weaken, canon-wider}
use Rattle.model.proofs.Search.{canon-split}
use Rattle.run_index.specs.declared.Node.{Node}
use Rattle.run_index.specs.Cells.{cell_at, Room}
use Rattle.run_index.specs.Tree.{Tree, height, inorder, Rep}
use Rattle.run_index.proofs.Trees.{at_none}
use Rattle.run_index.proofs.Heap.{View, view, height_at, left-falls, right-falls}
use Rattle.streams.specs.declared.source.Path.{Path}
use Rattle.streams.specs.Reading.{Rest, more, from, Below, Descends}
use Rattle.streams.proofs.Dropping.{from-skip, from-keep}

-- what is to come, qs, from the link k on
pub record Leads (w : List ℕ) (p : Path) (k q : ℕ) (qs : List Run) : Type 0 where
  pub t : Tree
  pub rs : List Run
  pub below : Below w p k t rs
  pub is : qs ≡ from q (inorder t) ++ rs

-- so it is all along the walk
pub record Lead (w : List ℕ) (p₀ p : Path) (link q k : ℕ) : Type 0 where
  pub goes : (t : Tree) (rs : List Run) → Below w p₀ link t rs → Leads w p k q (from q (inorder t) ++ rs)

pub lead-start : {w : List ℕ} {p : Path} {link q : ℕ} → Lead w p p link q link
lead-start = record { goes = λ t rs b. record { t = t; rs = rs; below = b; is = refl } }

-- where there is no further node the path has it all
pub lead-end : {w : List ℕ} {p₀ p : Path} {link q k : ℕ} → Lead w p₀ p link q k → k ≡ 0 → Descends w p₀ link q p
lead-end {w} {p = p} {q = q} h e t rs b =
    let s = h.goes t rs b in
    let gone : from q (inorder s.t) ≡ [] = ap (λ u. from q (inorder u)) (at_none s.t s.below.at e) in
    subst (λ us. Rest w p.nodes.items us) (sym (s.is ∙ ap (λ us. us ++ s.rs) gone)) s.below.rest

-- the walk at a node v that was read
module _ {w : List ℕ} {p₀ p : Path} {link q k : ℕ} (h : Lead w p₀ p link q k) (v : Node) (ne : k ≡ 0 → ⊥) (e : v ≡ cell_at w k) where
  -- the tree there
  seen : {t : Tree} {rs : List Run} (b : Below w p₀ link t rs) → View w (h.goes t rs b).below.tag k v (h.goes t rs b).t
  seen {t} {rs} b = view w (h.goes t rs b).below.tag k v (h.goes t rs b).t (h.goes t rs b).below.at ne e

  -- it lies within the words
  pub lead-room : {t : Tree} {rs : List Run} → Below w p₀ link t rs → Room w k
  lead-room b = (seen b).room

  -- the path has room for it
  pub lead-deep : {t : Tree} {rs : List Run} → Below w p₀ link t rs → length p.nodes.items < 22
  lead-deep {t} {rs} b = let s = h.goes t rs b in omega (arith, s.below.low, ap height (seen b).is)

  -- either side is lower
  pub lead-left-falls : {t : Tree} {rs : List Run} → Below w p₀ link t rs → height_at w v.left < height_at w k
  lead-left-falls {t} {rs} b = left-falls (h.goes t rs b).below.at (seen b)

  pub lead-right-falls : {t : Tree} {rs : List Run} → Below w p₀ link t rs → height_at w v.right < height_at w k
  lead-right-falls {t} {rs} b = right-falls (h.goes t rs b).below.at (seen b)

  -- what is known of the parts there
  module _ {t : Tree} {rs : List Run} (b : Below w p₀ link t rs) where
    ordered : (Canon (v.start - 1) 0 (inorder (seen b).l)) × (0 ≤ v.start) × (v.start ≤ v.«end») × (v.«end» < size) × Canon size (v.«end» + 2) (inorder (seen b).r)
    ordered = canon-split size 0 (inorder (seen b).l) (run v.start v.«end») (inorder (seen b).r)
        (subst (λ u. Canon size 0 (inorder u)) (seen b).is (h.goes t rs b).below.ordered)

    low : 1 + max (height (seen b).l) (height (seen b).r) + length p.nodes.items ≤ 22
    low = subst (λ u. height u + length p.nodes.items ≤ 22) (seen b).is (h.goes t rs b).below.low

    all : from q (inorder t) ++ rs ≡ from q (inorder (seen b).l ++ (run v.start v.«end» ∷ inorder (seen b).r)) ++ (h.goes t rs b).rs
    all = (h.goes t rs b).is ∙ ap (λ u. from q (inorder u) ++ (h.goes t rs b).rs) (seen b).is

  -- on its right
  pub lead-right : v.«end» < q → Lead w p₀ p link q v.right
  lead-right before = record {
    goes = λ t rs b.
        let s = h.goes t rs b in
        let n = seen b in
        let o = ordered b in
        record {
          t = n.r;
          rs = s.rs;
          below = record {
            tag = s.below.tag;
            at = n.right;
            ordered = canon-weaken size (v.«end» + 2) 0 (inorder n.r) (omega arith) o.4;
            low = omega (arith, low b);
            rest = s.below.rest;
          };
          is = all b ∙ ap (λ us. us ++ s.rs) (from-skip q (inorder n.l) (run v.start v.«end») (inorder n.r) o.0 o.2 before);
        };
  }

  -- on its left, with it on the path
  pub lead-left : q ≤ v.«end» → {p' : Path} → p'.nodes.items ≡ p.nodes.items ++ k ∷ [] → length p'.nodes.items ≡ length p.nodes.items + 1
      → Lead w p₀ p' link q v.left
  lead-left from-here put deeper = record {
    goes = λ t rs b.
        let s = h.goes t rs b in
        let n = seen b in
        let o = ordered b in
        record {
          t = n.l;
          rs = run v.start v.«end» ∷ (inorder n.r ++ s.rs);
          below = record {
            tag = s.below.tag;
            at = n.left;
            ordered = canon-wider (v.start - 1) size 0 (inorder n.l) (omega (arith, o.2, o.3)) o.0;
            low = omega (arith, low b, deeper);
            rest = more put (subst (λ u. Rep w s.below.tag u) n.is s.below.at.rep) (low b) s.below.rest;
          };
          is = all b ∙ ap (λ us. us ++ s.rs) (from-keep q (inorder n.l) (run v.start v.«end») (inorder n.r) from-here)
              ∙ append_assoc (from q (inorder n.l)) (run v.start v.«end» ∷ inorder n.r) s.rs;
        };
  }
