-- Runs in order, split at a run of the middle: those before it end two below its start, those after it start two above its end. So a
-- tree in words whose runs rise has no node twice: the node's own start would have to lie in two places. Assumes nothing.
use Rattle.pool.proofs.Base.{◌≡◌, ℕ, ◌+◌, ◌-◌, ◌<◌, ◌≤◌, List, [], ◌∷◌, ◌++◌, sym, ap, ◌∙◌, subst, arith, ℕ_discrete, Run, Canon, Node, cell_at, Room, Tree, leaf, node, inorder, count}
use Rattle.pool.proofs.Base.{cell, Rep, δ-other, δ≤1, rep_pos, rep-room, rep-cell, rep-left, rep-right}
use Rattle.run_index.specs.Tree.{Distinct}
use Rattle.run_index.proofs.Trees.{rep-ordered}

-- the parts of a list in order about one of its runs
pub record About (total lo : ℕ) (xs : List Run) (a b : ℕ) (ys : List Run) : Type 0 where
  pub before : Canon (a - 1) lo xs
  pub above : lo ≤ a
  pub ordered : a ≤ b
  pub under : b < total
  pub after : Canon total (b + 2) ys

-- what is before ends two below the start of the middle
pub canon-out : (total lo : ℕ) (xs : List Run) (a b : ℕ) (ys : List Run)
    → Canon total lo (xs ++ (record { start = a; «end» = b }) ∷ ys) → About total lo xs a b ys
canon-out total lo [] a b ys c = record { before = tt; above = c.0; ordered = c.1; under = c.2; after = c.3 }
canon-out total lo (x ∷ xs) a b ys c =
    let h = canon-out total (x.«end» + 2) xs a b ys c.3 in
    let u = h.above in
    record {
      before = (c.0, c.1, omega arith, h.before);
      above = omega arith;
      ordered = h.ordered;
      under = h.under;
      after = h.after;
    }

-- and back
pub canon-in : (total lo : ℕ) (xs : List Run) (a b : ℕ) (ys : List Run) → About total lo xs a b ys
    → Canon total lo (xs ++ (record { start = a; «end» = b }) ∷ ys)
canon-in total lo [] a b ys h = (h.above, h.ordered, h.under, h.after)
canon-in total lo (x ∷ xs) a b ys h =
    let c = h.before in
    let o = h.ordered in
    let u = h.under in
    let e : x.«end» < a - 1 = c.2 in (
      c.0,
      c.1,
      omega arith,
      canon-in total (x.«end» + 2) xs a b ys (record {
        before = c.3;
        above = omega arith;
        ordered = o;
        under = u;
        after = h.after;
      }),
    )

-- a node of a tree in words
pub record Node-in (w : List ℕ) (lo total m : ℕ) : Type 0 where
  pub some : 1 ≤ m
  pub room : Room w m
  pub high : 1 ≤ (cell_at w m).height
  pub above : lo ≤ (cell_at w m).start
  pub ordered : (cell_at w m).start ≤ (cell_at w m).«end»
  pub under : (cell_at w m).«end» < total

-- the same under wider bounds
wider : {w : List ℕ} {lo total m : ℕ} (lo' total' : ℕ) → lo' ≤ lo → total ≤ total' → Node-in w lo total m → Node-in w lo' total' m
wider lo' total' p q h =
    let a = h.above in
    let u = h.under in
    record { some = h.some; room = h.room; high = h.high; above = omega arith; ordered = h.ordered; under = omega arith }

-- the root of a tree
own : {w : List ℕ} {g n a b : ℕ} {l r : Tree} (lo total : ℕ) → Rep w g (node n a b l r) → lo ≤ a → b < total → Node-in w lo total n
own {w} {g} {n} {a} {b} {l} {r} lo total h p q =
    let c : cell_at w n ≡ cell a b l r g = rep-cell h in
    let ea : (cell_at w n).start ≡ a = ap (λ (v : Node). v.start) c in
    let eb : (cell_at w n).«end» ≡ b = ap (λ (v : Node). v.«end») c in
    let eh = ap (λ (v : Node). v.height) c in
    let o : a ≤ b = rep-ordered h in
    record {
      some = rep_pos h;
      room = rep-room h;
      high = omega arith;
      above = omega arith;
      ordered = omega arith;
      under = omega arith;
    }

-- each node of a tree lies within the tree's bounds
pub node_in : (w : List ℕ) (g : ℕ) (t : Tree) (lo total : ℕ) → Rep w g t → Canon total lo (inorder t) → (m : ℕ) → 1 ≤ count m t → Node-in w lo total m
node_in w g leaf lo total h c m i = absurd (omega arith)
node_in w g (node n a b l r) lo total h c m i =
    let A = canon-out total lo (inorder l) a b (inorder r) c in
    go A (ℕ_discrete m n) (ℕ_discrete (count m l) 0)
    (node_in w g l lo (a - 1) (rep-left h) A.before m)
    (node_in w g r (b + 2) total (rep-right h) A.after m)
  where
    go : About total lo (inorder l) a b (inorder r) → Dec (m ≡ n) → Dec (count m l ≡ 0) → (1 ≤ count m l → Node-in w lo (a - 1) m)
        → (1 ≤ count m r → Node-in w (b + 2) total m) → Node-in w lo total m
    go A (yes e) d il ir = subst (λ (k : ℕ). Node-in w lo total k) (sym e) (own lo total h A.above A.under)
    go A (no ne) (yes z) il ir =
        let p = A.above in
        let q = A.ordered in
        wider lo total (omega arith) (omega arith) (ir (omega (arith, δ-other m n ne)))
    go A (no ne) (no some) il ir =
        let p = A.ordered in
        let q = A.under in
        wider lo total (omega arith) (omega arith) (il (omega arith))

-- so no node stands twice
pub distinct : (w : List ℕ) (g : ℕ) (t : Tree) (lo total : ℕ) → Rep w g t → Canon total lo (inorder t) → Distinct t
distinct w g leaf lo total h c m = omega arith
distinct w g (node n a b l r) lo total h c m =
    let A = canon-out total lo (inorder l) a b (inorder r) c in
    let o = A.ordered in
    let il = distinct w g l lo (a - 1) (rep-left h) A.before m in
    let ir = distinct w g r (b + 2) total (rep-right h) A.after m in
    let hl : 1 ≤ count m l → (cell_at w m).start + 1 < a = λ i. let x = node_in w g l lo (a - 1) (rep-left h) A.before m i in omega (arith, x.ordered, x.under) in
    let hr : 1 ≤ count m r → b < (cell_at w m).start = λ i. let y = node_in w g r (b + 2) total (rep-right h) A.after m i in omega (arith, y.above) in
    let hn : m ≡ n → (cell_at w m).start ≡ a = λ e. ap (λ (k : ℕ). (cell_at w k).start) e ∙ ap (λ (v : Node). v.start) (rep-cell h) in
    grind (arith, δ≤1 m n, δ-other m n)
