-- Adding a run takes the first free node, removing one gives its node back as the first, and giving a tree back frees all of its nodes. The
-- tree and the chain have the same nodes before and after, since the tree's count of each number changes by those nodes alone.
-- Assumes nothing.
use Rattle.pool.proofs.Base.{◌≡◌, ℕ, ◌+◌, ◌≤◌, Bool, true, false, eqb, List, [], ◌∷◌, ◌++◌, length, sym, refl, ap, ◌∙◌, subst, arith, Run, size, Canon, Node, cell_at, Room, Wrote, Tree, leaf, node, δ}
use Rattle.pool.proofs.Base.{count, inorder, At, Made, times, Free, free_cell, δ-same, leaf-at, rep-numbered, times-append, length_both, strung-kept, Links, Chain, Footprint, Represents, GivesBack}
use Rattle.model.proofs.RunList.{canon-weaken}
use Rattle.run_index.specs.declared.Removed.{Removed}
use Rattle.run_index.specs.Order.{pick_runs, remove_run, Rising}
use Rattle.run_index.specs.Shape.{inserted, removed, number_of}
use Rattle.run_index.specs.Promises.{Ready, Inserts, Owned, Freed, Removes}
use Rattle.run_index.specs.Strung.{felled, Felled, Fells}
use Rattle.run_index.proofs.Heap.{keep}
use Rattle.run_index.proofs.Counts.{insert-count}
use Rattle.run_index.proofs.Numbers.{remove-count, number_in, starts-number}
use Rattle.run_index.proofs.Balance.{insert-balanced, remove-balanced}
use Rattle.run_index.proofs.Ordering.{insert-inorder, remove-inorder}
use Rattle.run_index.proofs.Strings.{count-felled, length-felled, strung-append}
use Rattle.pool.specs.Free.{RoomFor, Sprouted, Adds, HasRun, RemovesRun}
use Rattle.pool.proofs.Nodes.{node-once, no_zero, few-runs, kept-still}
use Rattle.pool.proofs.Reached.{kept-tree}

-- canonical runs rise
pub canon-rising : (total k lo : ℕ) (rs : List Run) → lo ≤ k → Canon total k rs → Rising lo rs
canon-rising total k lo [] le c = tt
canon-rising total k lo (r ∷ rs) le c =
    (omega (arith, c.0), canon-rising total (r.«end» + 2) (r.start + 1) rs (omega (arith, c.1)) c.3)

-- canonical runs without one of them are canonical
pub remove-canon : (total k a : ℕ) (rs : List Run) → Canon total k rs → Canon total k (remove_run a rs)
remove-canon total k a [] c = tt
remove-canon total k a (r ∷ rs) c = go (eqb r.start a) (remove-canon total (r.«end» + 2) a rs c.3)
  where
    go : (d : Bool) → Canon total (r.«end» + 2) (remove_run a rs) → Canon total k (pick_runs d rs (r ∷ remove_run a rs))
    go true ih = canon-weaken total (r.«end» + 2) k rs (omega (arith, c.0, c.1)) c.3
    go false ih = (c.0, c.1, c.2, ih)

module _ {w : List ℕ} {s : Footprint} {x : Links} {t : Tree} {ns : List ℕ} (k : Represents w s x t ns) where
  -- the runs of a world rise
  pub kept-rising : Rising 0 (inorder t)
  kept-rising = canon-rising size 0 0 (inorder t) (omega arith) k.ordered

  -- its tree has the tag that the links tell
  pub kept_at : At w x.tag x.root t
  kept_at = subst (λ (g : ℕ). At w g x.root t) (sym k.tagged) k.linked

  -- the tree is the caller's
  pub kept-owned : Owned w x.root x.tag t
  kept-owned = record { at = kept_at; apart = k.once; few = omega (arith, few-runs k) }

-- a tree with the links' tag has the world's
pub world-tag : {w w' : List ℕ} {s : Footprint} {x : Links} {t u : Tree} {ns : List ℕ} {p : ℕ} → Represents w s x t ns → At w' x.tag p u → At w' s.tag p u
world-tag {w' = w'} {u = u} {p = p} k h = subst (λ (g : ℕ). At w' g p u) k.tagged h

-- ---- adding
module _ {w : List ℕ} {s : Footprint} {x : Links} {a b : ℕ} {t : Tree} where
  -- the free head has room
  pub free-room : (ns : List ℕ) → RoomFor w s x a b t ns → Room w x.free
  free-room [] r = absurd (omega (arith, r.some))
  free-room (f ∷ ns) r = let ro : Room w f = r.kept.chained.2 in omega (arith, r.kept.chained.0)

  -- it may be put into the tree
  pub add-ready : (ns : List ℕ) → RoomFor w s x a b t ns → Ready w x.root x.free a b x.tag t
  add-ready [] r = absurd (omega (arith, r.some))
  add-ready (f ∷ ns) r =
      let k = r.kept in
      let ro : Room w f = k.chained.2 in
      record {
        at = kept_at k;
        apart = λ m. omega (arith, node-once k m, ap (δ m) k.chained.0);
        some = omega (arith, k.chained.0, k.chained.1);
        room = omega (arith, k.chained.0);
        ordered = r.ordered;
        few = few-runs k;
      }

  -- the tree with the run, and the chain without its first node
  add_kept : {w' : List ℕ} {v : Node} {p : ℕ} (f : ℕ) (ns : List ℕ) → v ≡ cell_at w x.free → (r : RoomFor w s x a b t (f ∷ ns))
      → Made w w' x.tag p (node x.free a b t leaf) (inserted x.free a b t)
      → Represents w' s (record { tag = x.tag; root = p; free = v.left }) (inserted x.free a b t) ns
  add_kept {w'} {v} {p} f ns ev r md =
      let k = r.kept in
      let is : x.free ≡ f = k.chained.0 in
      let next : (cell_at w f).left ≡ v.left = ap (λ (n : ℕ). (cell_at w n).left) (sym is) ∙ sym (ap (λ (y : Node). y.left) ev) in
      record {
        sized = md.long ∙ k.sized;
        few = k.few;
        part = k.part;
        linked = world-tag k md.at;
        tagged = k.tagged;
        once = λ m. omega (arith, insert-count x.free a b m t, node-once k m, ap (δ m) is);
        ordered = subst (Canon size 0) (sym (insert-inorder x.free a b 0 t (kept-rising k))) r.fits;
        balanced = insert-balanced x.free a b t k.balanced;
        chained = subst (λ (n : ℕ). Chain w' n ns) next
            (strung-kept Free w w' md.long (cell_at w f).left ns 0 (λ m i. md.kept m (omega (arith, node-once k m, ap (δ m) is))) k.chained.4);
        shared = λ m q le. omega (arith, insert-count x.free a b m t, k.shared m q le, ap (δ m) is);
        counted = omega (arith, insert-count x.free a b 0 t, k.counted);
      }

-- the run is added
pub add-becomes : {w w' : List ℕ} {x : Links} {a b p : ℕ} {v : Node} → v ≡ cell_at w x.free → Inserts w w' p x.root x.free a b x.tag
    → Adds w w' x (record { tag = x.tag; root = p; free = v.left }) a b
add-becomes ev ins s t [] r = absurd (omega (arith, r.some))
add-becomes {w} {w'} {x} {a} {b} ev ins s t (f ∷ ns) r =
    let md = ins t (add-ready (f ∷ ns) r) in
    record {
      tree = inserted x.free a b t;
      nodes = ns;
      kept = add_kept f ns ev r md;
      runs-are = insert-inorder x.free a b 0 t (kept-rising r.kept);
      still = kept-still r.kept (λ m z. md.kept m (omega (arith, ap (δ m) r.kept.chained.0))) md.long;
    }

-- and its tree is the old one with the run put in
pub add-sprouted : {w w' : List ℕ} {s : Footprint} {x : Links} {a b p : ℕ} {v : Node} {t : Tree} (ns : List ℕ) → v ≡ cell_at w x.free
    → Inserts w w' p x.root x.free a b x.tag → RoomFor w s x a b t ns → Sprouted w w' x.root p a b
add-sprouted [] ev ins r = absurd (omega (arith, r.some))
add-sprouted {x = x} {a = a} {b = b} {t = t} (f ∷ ns) ev ins r =
    (x.free, kept-tree (add_kept f ns ev r (ins t (add-ready (f ∷ ns) r))) ∙ ap (inserted x.free a b) (sym (kept-tree r.kept)))

-- ---- removing
module _ {w : List ℕ} {s : Footprint} {x : Links} {a : ℕ} {t : Tree} {ns : List ℕ} (r : HasRun w s x a t ns) where
  -- a node holds the run
  number-some : number_of a t ≡ 0 → ⊥
  number-some = starts-number a 0 t (kept-rising r.kept) (no_zero r.kept) r.starts

  -- it has room
  number-room : Room w (number_of a t)
  number-room = rep-numbered w s.tag t r.kept.linked.rep (number_of a t) (number_in a t number-some)

  module _ {w' : List ℕ} {y : Removed} (fr : Freed w w' y a x.tag t) where
    -- the freed node has room
    pub freed-room : Room w' y.freed
    freed-room = let ro : Room w (number_of a t) = number-room in omega (arith, fr.freed-is, fr.made.long)

    -- it is none of the chain's
    freed-apart : (m : ℕ) → 1 ≤ times m ns → m ≡ y.freed → ⊥
    freed-apart m i e = omega (arith, number_in a t number-some, ap (λ (j : ℕ). count j t) (e ∙ fr.freed-is), node-once r.kept m)

    -- the tree without the run, and the chain with its node in front
    remove-kept : {w'' : List ℕ} → Wrote w' w'' y.freed (free_cell x.free)
        → Represents w'' s (record { tag = x.tag; root = y.root; free = y.freed }) (removed a t) (y.freed ∷ ns)
    remove-kept {w''} wr =
        let k = r.kept in
        let is : y.freed ≡ number_of a t = fr.freed-is in
        let long : length w'' ≡ length w = wr.long ∙ fr.made.long in
        let ro : Room w' y.freed = freed-room in
        let ne : number_of a t ≡ 0 → ⊥ = number-some in
        let chain : Chain w'' x.free ns =
        strung-kept Free w w'' long x.free ns 0 (λ m i. wr.there m (freed-apart m i) ∙ fr.made.kept m (omega (arith, node-once k m))) k.chained in
        record {
          sized = long ∙ k.sized;
          few = k.few;
          part = k.part;
          linked = world-tag k (keep wr (omega (arith, remove-count a y.freed t ne, k.once y.freed, ap (δ y.freed) is, δ-same y.freed)) fr.made.at);
          tagged = k.tagged;
          once = λ m. omega (arith, remove-count a m t ne, k.once m);
          ordered = subst (Canon size 0) (sym (remove-inorder a 0 t (kept-rising k))) (remove-canon size 0 a (inorder t) k.ordered);
          balanced = remove-balanced a t k.balanced;
          chained = (
            refl,
            positive is ne,
            omega (arith, wr.long),
            wr.here ∙ ap (λ (z : Node). free_cell z.left) (sym wr.here),
            subst (λ (z : Node). Chain w'' z.left ns) (sym wr.here) chain,
          );
          shared = λ m q le. omega (arith, remove-count a m t ne, k.shared m q le, ap (δ m) is);
          counted = omega (arith, remove-count a 0 t ne, k.counted);
        }
      where
        positive : y.freed ≡ number_of a t → (number_of a t ≡ 0 → ⊥) → 1 ≤ y.freed
        positive e ne = omega arith

    -- no other cell has changed
    remove-same : {w'' : List ℕ} → Wrote w' w'' y.freed (free_cell x.free) → (m : ℕ) → count m t + times m ns ≡ 0 → cell_at w'' m ≡ cell_at w m
    remove-same wr m z = wr.there m off ∙ fr.made.kept m (omega arith)
      where
        off : m ≡ y.freed → ⊥
        off e = omega (arith, number_in a t number-some, ap (λ (j : ℕ). count j t) (e ∙ fr.freed-is))

-- the run is removed
pub remove-becomes : {w w' w'' : List ℕ} {x : Links} {a : ℕ} {y : Removed} → Removes w w' y x.root a x.tag → Wrote w' w'' y.freed (free_cell x.free)
    → RemovesRun w w'' x (record { tag = x.tag; root = y.root; free = y.freed }) a
remove-becomes {a = a} {y = y} rm wr s t ns r =
    let fr = rm t (kept-owned r.kept) in
    record {
      tree = removed a t;
      nodes = y.freed ∷ ns;
      kept = remove-kept r fr wr;
      runs-are = remove-inorder a 0 t (kept-rising r.kept);
      still = kept-still r.kept (remove-same r fr wr) (wr.long ∙ fr.made.long);
    }

-- ---- giving back
-- the nodes of the tree, and then those of the chain, are free
pub given_back : {w w' : List ℕ} {x : Links} {f : ℕ} → Fells w w' f x.root x.free → GivesBack w w' x (record { tag = x.tag; root = 0; free = f })
given_back {w} {w'} {x} {f} fe s t ns k = record {
  tree = leaf;
  nodes = felled t ++ ns;
  kept = record {
    sized = f₁.long ∙ k.sized;
    few = k.few;
    part = k.part;
    linked = leaf-at;
    tagged = k.tagged;
    once = λ m. omega arith;
    ordered = tt;
    balanced = tt;
    chained = strung-append Free w' f (felled t) ns x.free 0 f₁.free
        (strung-kept Free w w' f₁.long x.free ns 0 (λ m i. f₁.kept m (omega (arith, node-once k m))) k.chained);
    shared = λ m q le. omega (arith, k.shared m q le, times-append m (felled t) ns, count-felled m t);
    counted = omega (arith, k.counted, length_both (felled t) ns, length-felled t);
  };
  runs-are = refl;
  still = kept-still k (λ m z. f₁.kept m (omega arith)) f₁.long;
}
  where
    f₁ : Felled w w' f x.free t
    f₁ = fe x.tag t (kept-owned k)
