-- The tests of specs/Decision.antt decide whether a world fits. A walk that accepts a link has met a tree there, in order and balanced, and
-- each such tree is accepted; what a world's tests say of its tree, its sums and its bounds follows. Assumes nothing.
use Rattle.pool.proofs.Base.{◌≡◌, ℕ, zero, suc, ◌+◌, ◌-◌, ◌≤◌, true, not, ◌||◌, eqb, List, sym, refl, ◌∙◌, subst, arith, eq-eqb, eqb-true, ℕ_discrete, size, held_runs, Canon, nat_tests, and-holds}
use Rattle.pool.proofs.Base.{Node, cell_at, Tree, leaf, node, height, runs, ones, inorder, cell, Rep, At, Sums, Balanced, same-node, rep_pos, rep-room, rep-cell, rep-left, rep-right, sums-node, World, held_in, first_of, last_of}
use Rattle.pool.proofs.Base.{Planted, inside_b, below_of, agrees_b, cell_b, tree_b, world_b}
use Rattle.run_index.specs.Tree.{link, rep-leaf, rep-node}
use Rattle.run_index.proofs.Trees.{sums-leaf}
use Rattle.pool.proofs.Truths.{both-in}
use Rattle.pool.proofs.Tests.{inside-out, inside-in, below_none, below-some, run_out, run_in, heights-out, heights-in, sums-out, sums-in}
use Rattle.pool.proofs.Steps.{Fits, cell_out, tree-none, tree-node}
use Rattle.pool.proofs.Orders.{About, canon-out, canon-in, distinct}
use Rattle.pool.proofs.Hanging.{Hangs}

-- ---- trees
-- the words at a link tell the height and the sums of the tree there
pub below-sums : (w : List ℕ) (g k : ℕ) (t : Tree) → At w g k t → Sums (below_of w k) t
below-sums w g k t h = go (ℕ_discrete k 0)
  where
    go : Dec (k ≡ 0) → Sums (below_of w k) t
    go (yes e) = subst (λ (v : Node). Sums v t) (below_none w k e) (sums-leaf t h e)
    go (no ne) = sums-node w k (below_of w k) (sym (below-some w k ne)) ne g t h

-- no tree
empty : (d : ℕ) (w : List ℕ) (g lo total : ℕ) → Hangs d w g 0 lo total
empty d w g lo total = record { t = leaf; at = record { rep = rep-leaf; linked = refl }; ordered = tt; balanced = tt; low = omega arith }

-- two trees and a node make a tree
joined : (d : ℕ) (w : List ℕ) (g n lo total : ℕ) {v : Node} → v ≡ cell_at w n → 1 ≤ n → inside_b w n ≡ true → Fits v (below_of w v.left) (below_of w v.right) g lo total
    → Hangs d w g v.left lo (v.start - 1) → Hangs d w g v.right (v.«end» + 2) total → Hangs (suc d) w g n lo total
joined d w g n lo total {v} is pos inside own L R =
    let x = below-sums w g v.left L.t L.at in
    let y = below-sums w g v.right R.t R.at in
    let i = run_out _ _ _ g lo total own.run_fits in
    let h = heights-out v.height (height L.t) (height R.t) (rw (x.height-is, y.height-is) at own.heights-fit) in
    let s = sums-out v.runs (runs L.t) (runs R.t) v.ones (ones L.t) (ones R.t) v.start v.«end» (rw (x.runs-is, y.runs-is, x.ones_is, y.ones_is) at own.sums-fit) in
    record {
      t = node n v.start v.«end» L.t R.t;
      at = record {
        rep = rep-node pos (inside-out w n inside) i.ordered
            (sym is ∙ same-node v (cell v.start v.«end» L.t R.t g) refl refl (sym L.at.linked) (sym R.at.linked) h.0 s.0 s.1 i.tagged)
            L.at.rep R.at.rep;
        linked = refl;
      };
      ordered = canon-in total lo (inorder L.t) v.start v.«end» (inorder R.t) (record {
        before = L.ordered;
        above = i.above;
        ordered = i.ordered;
        under = i.under;
        after = R.ordered;
      });
      balanced = (h.1, h.2, L.balanced, R.balanced);
      low = omega (arith, h.0, L.low, R.low);
    }

-- where the walk accepts a link a tree hangs
pub tree-yes : (d : ℕ) (w : List ℕ) (g k lo total : ℕ) → tree_b d w g k lo total ≡ true → Hangs d w g k lo total
unfolding tree_b
tree-yes zero w g k lo total e = subst (λ (j : ℕ). Hangs zero w g j lo total) (sym (eqb-true k 0 e)) (empty zero w g lo total)
tree-yes (suc d) w g zero lo total e = empty (suc d) w g lo total
tree-yes (suc d) w g (suc n) lo total e =
    let p = and-holds _ _ e in
    let q = and-holds _ _ p.1 in
    let r = and-holds _ _ q.1 in
    joined d w g (suc n) lo total refl (omega arith) p.0 (cell_out _ _ _ g lo total q.0)
    (tree-yes d w g (cell_at w (suc n)).left lo ((cell_at w (suc n)).start - 1) r.0)
    (tree-yes d w g (cell_at w (suc n)).right ((cell_at w (suc n)).«end» + 2) total r.1)

-- the tests of a node of a tree by itself
own-tests : (w : List ℕ) (g n a b lo total : ℕ) (l r : Tree) → Rep w g (node n a b l r) → About total lo (inorder l) a b (inorder r)
    → height l ≤ height r + 1 → height r ≤ height l + 1 → cell_b (cell a b l r g) (below_of w (link l)) (below_of w (link r)) g lo total ≡ true
unfolding cell_b agrees_b
own-tests w g n a b lo total l r h A bl br =
    let x = below-sums w g (link l) l (record { rep = rep-left h; linked = refl }) in
    let y = below-sums w g (link r) r (record { rep = rep-right h; linked = refl }) in
    both-in _ _
    (run_in a b g g lo total (record { tagged = refl; above = A.above; ordered = A.ordered; under = A.under }))
    (rw (x.height-is, y.height-is, x.runs-is, y.runs-is, x.ones_is, y.ones_is)
    (both-in _ _ (heights-in _ (height l) (height r) refl bl br) (sums-in _ (runs l) (runs r) _ (ones l) (ones r) a b refl refl)))

-- and each such tree is accepted
pub tree-no : (w : List ℕ) (g : ℕ) (t : Tree) (d k lo total : ℕ) → At w g k t → Canon total lo (inorder t) → Balanced t → height t ≤ d
    → tree_b d w g k lo total ≡ true
tree-no w g leaf d k lo total h c b le = tree-none d w g k lo total (sym h.linked)
tree-no w g (node n s e l r) zero k lo total h c b le = absurd (omega arith)
tree-no w g (node n s e l r) (suc d) k lo total h c b le =
    let A = canon-out total lo (inorder l) s e (inorder r) c in
    let nz : n ≡ 0 → ⊥ = λ z. omega (arith, rep_pos h.rep) in
    rw (sym h.linked) (tree-node d w g n lo total (sym (rep-cell h.rep) ∙ below-some w n nz) nz
    ∙ rw (
      inside-in w n (rep-room h.rep),
      own-tests w g n s e lo total l r h.rep A b.0 b.1,
      tree-no w g l d (link l) lo (s - 1) (record { rep = rep-left h.rep; linked = refl }) A.before b.2 (omega arith),
      tree-no w g r d (link r) (e + 2) total (record { rep = rep-right h.rep; linked = refl }) A.after b.3 (omega arith),
    ) refl)

-- as a tree that hangs
pub hangs-walked : {d : ℕ} {w : List ℕ} {g k lo total : ℕ} → Hangs d w g k lo total → tree_b d w g k lo total ≡ true
hangs-walked {d} {w} {g} {k} {lo} {total} T = tree-no w g T.t d k lo total T.at T.ordered T.balanced T.low

-- ---- one world
-- an offset that fits
offset-out : (k o : ℕ) → (not (eqb k 0) || eqb o 0) ≡ true → k ≡ 0 → o ≡ 0
offset-out k o e z = grind (arith, nat_tests)

-- and back
offset-in : (k o : ℕ) → (k ≡ 0 → o ≡ 0) → (not (eqb k 0) || eqb o 0) ≡ true
offset-in k o f = grind (arith, nat_tests)

-- what the tests of a world say
pub world_b-yes : (w : List ℕ) (h : World) → world_b w h ≡ true → Planted w h
unfolding world_b
world_b-yes w h e =
    let a = and-holds _ _ e in
    let T = tree-yes 22 w h.tag h.root 0 size a.0 in
    let S = below-sums w h.tag h.root T.t T.at in
    let b : (h.ones ≡ (below_of w h.root).ones) × (h.runs ≡ (below_of w h.root).runs) × (h.first ≡ first_of (held_runs (held_in w h)))
    × (h.last ≡ last_of (held_runs (held_in w h))) × ((not (eqb h.root 0) || eqb h.offset 0) ≡ true) = grind (arith, nat_tests, a.1) in
    record {
      tree = T.t;
      linked = T.at;
      once = distinct w h.tag T.t 0 size T.at.rep T.ordered;
      ordered = T.ordered;
      balanced = T.balanced;
      low = T.low;
      ones-are = b.0 ∙ S.ones_is;
      runs-are = b.1 ∙ S.runs-is;
      first-is = b.2;
      last-is = b.3;
      empty-offset = offset-out h.root h.offset b.4;
    }

-- and back
pub world_b-no : (w : List ℕ) (h : World) → Planted w h → world_b w h ≡ true
unfolding world_b
world_b-no w h P =
    let S = below-sums w h.tag h.root P.tree P.linked in
    rw (tree-no w h.tag P.tree 22 h.root 0 size P.linked P.ordered P.balanced P.low, eq-eqb _ _ (P.ones-are ∙ sym S.ones_is), eq-eqb _ _ (P.runs-are ∙ sym S.runs-is), eq-eqb _ _ P.first-is, eq-eqb _ _ P.last-is)
    (offset-in h.root h.offset P.empty-offset)
