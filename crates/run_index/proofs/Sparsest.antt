-- The list of `deepest_runs h`, put one by one into no tree, makes a tree of height h. It goes level by level through the sparsest tree of height h:
-- the tree so far is that one cut off at some depth, and the next level adds leaves to it. On the way the two sides of each node differ in height
-- by one at most, so nothing is rotated: the runs before a node's own go into its left side, and then those after it into its right one.
-- Assumes nothing.
use Rattle.std.proofs.Common.{◌≡◌, ℕ, zero, suc, ◌+◌, ◌-◌, ◌*◌, ◌≤◌, min, List, [], ◌∷◌, ◌++◌, sym, refl, ap, ◌∙◌, subst, arith, le-ltb, lt-ltb}
use Rattle.model.specs.declared.Run.{Run}
use Rattle.model.specs.RunList.{StartFrom}
use Rattle.model.specs.Deepest.{least, middles, middles_up_to, runs_at, deepest_runs}
use Rattle.model.proofs.Deepest.{no-middles, Between, middles-between, runs_append}
use Rattle.run_index.specs.Tree.{Tree, leaf, node, height, Balanced}
use Rattle.run_index.specs.Shape.{rebalanced, inserted, Sown}
use Rattle.run_index.specs.Order.{Before}
use Rattle.run_index.proofs.Balance.{insert-balanced, insert-height}
use Rattle.run_index.proofs.Sowing.{sown-some, sown-append, sown-higher}

-- ---- into a node
module _ (n a b : ℕ) where
  -- two sides whose heights differ by one at most stay as they are
  level : (l r : Tree) → height l ≤ height r + 1 → height r ≤ height l + 1 → rebalanced n a b l r ≡ node n a b l r
  level l r le ge = rw (le-ltb (height r + 1) (height l) le, le-ltb (height l + 1) (height r) ge)

  -- runs that start before the node's own go into its left side, where that gets no higher than one more than the right one
  sown-left : (rs : List Run) (l r u : Tree) → Before a rs → Balanced l → height r ≤ height l + 1
      → ((m : Tree) → Sown l rs m → height m ≤ height r + 1) → Sown (node n a b l r) rs u → (m : Tree) × Sown l rs m × (u ≡ node n a b m r)
  sown-left [] l r u before bal ge most s = (l, refl, s)
  sown-left (x ∷ rs) l r u before bal ge most s =
      let m = inserted s.0 x.start x.«end» l in
      let bal-m : Balanced m = insert-balanced s.0 x.start x.«end» l bal in
      let up : height l ≤ height m = (insert-height s.0 x.start x.«end» l bal).0 in
      let any : (v : Tree) × Sown m rs v = sown-some m rs in
      let le : height m ≤ height r + 1 = omega (arith, most any.0 (s.0, any.1), sown-higher m rs any.0 bal-m any.1) in
      let is : inserted s.0 x.start x.«end» (node n a b l r) ≡ node n a b m r =
      rw (lt-ltb x.start a before.0) (level m r le (omega arith)) in
      let rest = sown-left rs m r u before.1 bal-m (omega arith) (λ v q. most v (s.0, q)) (subst (λ (t : Tree). Sown t rs u) is s.1) in
      (rest.0, (s.0, rest.1), rest.2)

  -- those that start at it or later go into its right side
  sown-right : (rs : List Run) (l r u : Tree) → StartFrom a rs → Balanced r → height l ≤ height r + 1
      → ((m : Tree) → Sown r rs m → height m ≤ height l + 1) → Sown (node n a b l r) rs u → (m : Tree) × Sown r rs m × (u ≡ node n a b l m)
  sown-right [] l r u from bal ge most s = (r, refl, s)
  sown-right (x ∷ rs) l r u from bal ge most s =
      let m = inserted s.0 x.start x.«end» r in
      let bal-m : Balanced m = insert-balanced s.0 x.start x.«end» r bal in
      let up : height r ≤ height m = (insert-height s.0 x.start x.«end» r bal).0 in
      let any : (v : Tree) × Sown m rs v = sown-some m rs in
      let le : height m ≤ height l + 1 = omega (arith, most any.0 (s.0, any.1), sown-higher m rs any.0 bal-m any.1) in
      let is : inserted s.0 x.start x.«end» (node n a b l r) ≡ node n a b l m =
      rw (le-ltb x.start a from.0) (level l m (omega arith) le) in
      let rest = sown-right rs l m u from.1 bal-m (omega arith) (λ v q. most v (s.0, q)) (subst (λ (t : Tree). Sown t rs u) is s.1) in
      (rest.0, (s.0, rest.1), rest.2)

-- the node n with what comes of its two sides by two lists
pub record Both (n a b : ℕ) (xs ys : List Run) (l r u : Tree) : Type 0 where
  pub left : Tree
  pub right : Tree
  pub left-sown : Sown l xs left
  pub right-sown : Sown r ys right
  pub is : u ≡ node n a b left right

-- so a list of runs before the node's own and then of runs after it goes into both sides
module _ (n a b : ℕ) (xs ys : List Run) (l r : Tree) (before : Before a xs) (from : StartFrom a ys) (bl : Balanced l) (br : Balanced r)
    (ge : height r ≤ height l + 1)
    (most-left : (m : Tree) → Sown l xs m → height m ≤ height r + 1)
    (most-right : (m : Tree) → Sown r ys m → height m ≤ height l + 1) where
  -- after the first list, the second one goes into the right side
  sown-second : (u m : Tree) → Sown l xs m → Sown (node n a b m r) ys u → Both n a b xs ys l r u
  sown-second u m p s =
      let up : height l ≤ height m = sown-higher l xs m bl p in
      let q = sown-right n a b ys m r u from br (most-left m p) (λ v g. omega (arith, most-right v g)) s in
      record { left = m; right = q.0; left-sown = p; right-sown = q.1; is = q.2 }

  -- and the first one before it into the left side
  sown-first : (u v : Tree) → Sown (node n a b l r) xs v → Sown v ys u → Both n a b xs ys l r u
  sown-first u v p s =
      let q = sown-left n a b xs l r v before bl ge most-left p in
      sown-second u q.0 q.1 (subst (λ (t : Tree). Sown t ys u) q.2 s)

  -- the two as one list
  sown-both : (u : Tree) → Sown (node n a b l r) (xs ++ ys) u → Both n a b xs ys l r u
  sown-both u s = let q = sown-append (node n a b l r) xs ys u s in sown-first u q.0 q.1 q.2

-- ---- the sparsest tree
-- t is the sparsest tree of height h, with the ranks from k on, cut off at the depth d
abbrev Cut : ℕ → ℕ → ℕ → Tree → Type 0
Cut zero h k t = t ≡ leaf
Cut (suc d) h k leaf = h ≡ 0
Cut (suc d) h k (node n a b l r) =
    (1 ≤ h) × (a ≡ 2 * (k + least (h - 1))) × Cut d (h - 1) k l × Cut d (h - 2) (k + least (h - 1) + 1) r

-- its height
cut-height : (d h k : ℕ) (t : Tree) → Cut d h k t → height t ≡ min d h
cut-height zero h k t c = ap height c ∙ omega arith
cut-height (suc d) h k leaf c = omega arith
cut-height (suc d) h k (node n a b l r) c =
    omega (arith, c.0, cut-height d (h - 1) k l c.2, cut-height d (h - 2) (k + least (h - 1) + 1) r c.3)

-- it is balanced
cut-balanced : (d h k : ℕ) (t : Tree) → Cut d h k t → Balanced t
cut-balanced zero h k t c = subst Balanced (sym c) tt
cut-balanced (suc d) h k leaf c = tt
cut-balanced (suc d) h k (node n a b l r) c =
    let hl : height l ≡ min d (h - 1) = cut-height d (h - 1) k l c.2 in
    let hr : height r ≡ min d (h - 2) = cut-height d (h - 2) (k + least (h - 1) + 1) r c.3 in
    (omega arith, omega arith, cut-balanced d (h - 1) k l c.2, cut-balanced d (h - 2) (k + least (h - 1) + 1) r c.3)

-- the runs of ranks below another one start before its run
runs-before : (lo hi : ℕ) (ks : List ℕ) → Between lo hi ks → Before (2 * hi) (runs_at ks)
unfolding runs_at
runs-before lo hi [] b = tt
runs-before lo hi (k ∷ ks) b = (omega (arith, b.1), runs-before lo hi ks b.2)

-- and those of ranks above it do not
runs-from : (m lo hi : ℕ) (ks : List ℕ) → m ≤ lo → Between lo hi ks → StartFrom (2 * m) (runs_at ks)
unfolding runs_at
runs-from m lo hi [] le b = tt
runs-from m lo hi (k ∷ ks) le b = (omega (arith, b.0), runs-from m lo hi ks le b.2)

-- a node of the tree cut off: the level under it goes into both sides
module _ (d h k n a b : ℕ) (l r u : Tree) (c : Cut (suc d) h k (node n a b l r)) where
  -- the ranks of the right side begin here
  abbrev j : ℕ
  j = k + least (h - 1) + 1

  -- the runs that go into the left side
  abbrev lefts : List Run
  lefts = runs_at (middles d (h - 1) k)

  -- and those that go into the right one
  abbrev rights : List Run
  rights = runs_at (middles d (h - 2) j)

  -- the ones start before the node's own run
  lefts-before : Before a lefts
  lefts-before = rw c.1 (runs-before k (k + least (h - 1)) (middles d (h - 1) k) (middles-between d (h - 1) k))

  -- and the others after it
  rights-from : StartFrom a rights
  rights-from = rw c.1 (runs-from (k + least (h - 1)) j (j + least (h - 2)) (middles d (h - 2) j) (omega arith) (middles-between d (h - 2) j))

  -- what is shown of both sides holds of the node
  node-sown : ((m : Tree) → Sown l lefts m → Cut (suc d) (h - 1) k m) → ((m : Tree) → Sown r rights m → Cut (suc d) (h - 2) j m)
      → Sown (node n a b l r) (runs_at (middles (suc d) h k)) u → Cut (suc (suc d)) h k u
  unfolding middles
  node-sown left right s =
      let hl : height l ≡ min d (h - 1) = cut-height d (h - 1) k l c.2 in
      let hr : height r ≡ min d (h - 2) = cut-height d (h - 2) j r c.3 in
      go (sown-both n a b lefts rights l r lefts-before rights-from (cut-balanced d (h - 1) k l c.2) (cut-balanced d (h - 2) j r c.3) (omega arith)
      (λ m q. omega (arith, c.0, cut-height (suc d) (h - 1) k m (left m q)))
      (λ m q. omega (arith, c.0, cut-height (suc d) (h - 2) j m (right m q)))
      u (subst (λ (rs : List Run). Sown (node n a b l r) rs u) (runs_append (middles d (h - 1) k) (middles d (h - 2) j)) s))
    where
      go : Both n a b lefts rights l r u → Cut (suc (suc d)) h k u
      go both =
          subst (Cut (suc (suc d)) h k) (sym both.is) (c.0, c.1, left both.left both.left-sown, right both.right both.right-sown)

-- the level at the depth d, put into the tree cut off at d, gives the tree cut off at d + 1
cut-sown : (d h k : ℕ) (t u : Tree) → Cut d h k t → Sown t (runs_at (middles d h k)) u → Cut (suc d) h k u
unfolding middles runs_at
cut-sown zero zero k t u c s = subst (Cut 1 0 k) (sym (s ∙ c)) refl
cut-sown zero (suc h) k t u c s =
    let e : suc h - 1 ≡ h = omega arith in
    let is : u ≡ node s.0 (2 * (k + least h)) (2 * (k + least h)) leaf leaf = s.1 ∙ ap (inserted s.0 (2 * (k + least h)) (2 * (k + least h))) c in
    subst (Cut 1 (suc h) k) (sym is) (omega arith, omega (arith, ap least e), refl, refl)
cut-sown (suc d) h k leaf u c s =
    let none : middles (suc d) h k ≡ [] = ap (λ j. middles (suc d) j k) c ∙ no-middles (suc d) k in
    subst (Cut (suc (suc d)) h k) (sym (subst (λ (ks : List ℕ). Sown leaf (runs_at ks) u) none s)) c
cut-sown (suc d) h k (node n a b l r) u c s =
    node-sown d h k n a b l r u c
    (λ m. cut-sown d (h - 1) k l m c.2)
    (λ m. cut-sown d (h - 2) (k + least (h - 1) + 1) r m c.3)
    s

-- d levels, put into no tree, are the tree cut off at d
levels-sown : (d h : ℕ) (u : Tree) → Sown leaf (runs_at (middles_up_to d h)) u → Cut d h 0 u
unfolding middles_up_to runs_at
levels-sown zero h u s = s
levels-sown (suc d) h u s =
    let both = sown-append leaf (runs_at (middles_up_to d h)) (runs_at (middles d h 0)) u
    (subst (λ (rs : List Run). Sown leaf rs u) (runs_append (middles_up_to d h) (middles d h 0)) s) in
    cut-sown d h 0 both.0 u (levels-sown d h both.0 both.1) both.2

-- THE HEIGHT of what the list makes
pub deepest-height : (h : ℕ) (t : Tree) → Sown leaf (deepest_runs h) t → height t ≡ h
unfolding deepest_runs
deepest-height h t s = cut-height h h 0 t (levels-sown h h t s) ∙ omega arith
