-- The way that a search takes to a run: in a tree whose runs rise it leads to each of them, and a resize changes the sum of positions by what
-- that run gains. By induction along the way. Assumes nothing.
use Rattle.std.proofs.Common.{◌≡◌, ℕ, ◌+◌, ◌%◌, ◌^◌, ◌<◌, ◌≤◌, ◌⊎◌, List, [], ◌∷◌, ◌++◌, ap, inl, inr, ⊎_elim, arith, le-ltb, lt-ltb}
use native.Mathlib.Nat.{add-mod-mod, mod-add-mod}
use Rattle.model.specs.declared.Run.{Run}
use Rattle.model.proofs.Numbers.{split}
use Rattle.run_index.specs.Tree.{Tree, leaf, node, runs, ones, width, inorder}
use Rattle.run_index.specs.Order.{Rising, Before, Starts, Has}
use Rattle.run_index.specs.Shape.{resized, Leads, at-root, on-left, on-right}
use Rattle.run_index.proofs.Ordering.{rising-left, rising-before, rising-right}
use Rattle.run_index.proofs.Numbers.{starts-before, starts-after}

-- ---- where the way goes on
module _ {k d n a b : ℕ} {l r : Tree} where
  -- to the left of a root that starts later
  pub leads-left : k < a → Leads k d (node n a b l r) → Leads k d l
  leads-left lt (at-root ea eb) = absurd (omega arith)
  leads-left lt (on-left i h) = h
  leads-left lt (on-right i h) = absurd (omega arith)

  -- to the right of one that starts earlier
  pub leads-right : a < k → Leads k d (node n a b l r) → Leads k d r
  leads-right lt (at-root ea eb) = absurd (omega arith)
  leads-right lt (on-left i h) = absurd (omega arith)
  leads-right lt (on-right i h) = h

-- it leads to some run
pub leads-some : {k d : ℕ} (t : Tree) → Leads k d t → 1 ≤ runs t
leads-some leaf h = elim h [ ]
leads-some (node n a b l r) h = omega arith

-- ---- the sum of positions
-- what the run at the root gains, taken modulo 2^64 at each step
gain-root : (x y m : ℕ) → (x % 2 ^ 64 + (y + m) % 2 ^ 64) % 2 ^ 64 ≡ ((x % 2 ^ 64 + y) % 2 ^ 64 + m) % 2 ^ 64
gain-root x y m = simp (mod-add-mod, add-mod-mod) (ap (λ n. n % 2 ^ 64) (omega arith))

-- what the left side gains
gain-left : (x y z m : ℕ) → (((x + m) % 2 ^ 64 + y) % 2 ^ 64 + z) % 2 ^ 64 ≡ (((x + y) % 2 ^ 64 + z) % 2 ^ 64 + m) % 2 ^ 64
gain-left x y z m = simp mod-add-mod (ap (λ n. n % 2 ^ 64) (omega arith))

-- what the right side gains
gain-right : (x y z m : ℕ) → ((x + (y + m) % 2 ^ 64) % 2 ^ 64 + z) % 2 ^ 64 ≡ (((x + y) % 2 ^ 64 + z) % 2 ^ 64 + m) % 2 ^ 64
gain-right x y z m = simp (mod-add-mod, add-mod-mod) (ap (λ n. n % 2 ^ 64) (omega arith))

-- a tree gains what the run gains
pub resize-ones : (k d a b more : ℕ) → (width k d + more) % 2 ^ 64 ≡ width a b → (t : Tree) → Leads k d t → ones (resized k a b t) ≡ (ones t + more) % 2 ^ 64
resize-ones k d a b more g leaf h = elim h [ ]
resize-ones k d a b more g (node n c e l r) (at-root ec ee) =
    rw (le-ltb k c (omega arith), le-ltb c k (omega arith), ← g, ← ec, ← ee) (gain-root (ones l + ones r) (width c e) more)
resize-ones k d a b more g (node n c e l r) (on-left lt h) =
    rw (lt-ltb k c lt, resize-ones k d a b more g l h) (gain-left (ones l) (ones r) (width c e) more)
resize-ones k d a b more g (node n c e l r) (on-right lt h) =
    rw (le-ltb k c (omega arith), lt-ltb c k lt, resize-ones k d a b more g r h) (gain-right (ones l) (ones r) (width c e) more)

-- ---- the runs in order
-- a run that is there starts there
has-starts : (k d : ℕ) (xs : List Run) → Has k d xs → Starts k xs
has-starts k d [] h = absurd h
has-starts k d (x ∷ xs) (inl e) = inl e.0
has-starts k d (x ∷ xs) (inr h) = inr (has-starts k d xs h)

-- in a list put together of two it is in one of them
has_split : (k d : ℕ) (xs ys : List Run) → Has k d (xs ++ ys) → Has k d xs ⊎ Has k d ys
has_split k d [] ys h = inr h
has_split k d (x ∷ xs) ys (inl e) = inl (inl e)
has_split k d (x ∷ xs) ys (inr h) = ⊎_elim (λ (i : Has k d xs). inl (inr i)) (λ (i : Has k d ys). inr i) (has_split k d xs ys h)

-- the way leads to each run of a tree whose runs rise
pub has-leads : (k d lo : ℕ) (t : Tree) → Rising lo (inorder t) → Has k d (inorder t) → Leads k d t
has-leads k d lo leaf s h = absurd h
has-leads k d lo (node n a b l r) s h =
    go (has_split k d (inorder l) (y ∷ inorder r) h) (has-leads k d lo l (rising-left y (inorder r) lo (inorder l) s)) (has-leads k d (a + 1) r up)
  where
    y : Run
    y = record { start = a; «end» = b }

    up : Rising (a + 1) (inorder r)
    up = rising-right y (inorder r) lo (inorder l) s

    past : Before a (inorder l)
    past = rising-before y (inorder r) lo (inorder l) s

    -- a run of the left side starts before a
    early : Has k d (inorder l) → (k < a) ⊎ (a ≤ k) → k < a
    early i (inl lt) = lt
    early i (inr le) = absurd (starts-before k a (inorder l) past le (has-starts k d (inorder l) i))

    -- one of the right side after it
    late : Has k d (inorder r) → (k < a + 1) ⊎ (a + 1 ≤ k) → a < k
    late i (inl lt) = absurd (starts-after k (a + 1) (inorder r) up lt (has-starts k d (inorder r) i))
    late i (inr le) = omega arith

    go : Has k d (inorder l) ⊎ (((a ≡ k) × (b ≡ d)) ⊎ Has k d (inorder r)) → (Has k d (inorder l) → Leads k d l) → (Has k d (inorder r) → Leads k d r)
        → Leads k d (node n a b l r)
    go (inl i) il ir = on-left (early i (split k a)) (il i)
    go (inr (inl e)) il ir = at-root e.0 e.1
    go (inr (inr i)) il ir = on-right (late i (split k (a + 1))) (ir i)
