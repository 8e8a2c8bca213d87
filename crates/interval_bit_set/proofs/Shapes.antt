-- Trees without the numbers of their nodes: runs and heights stay, and a run is put in alike, since only heights say where a tree is turned.
-- Assumes nothing.
use Rattle.std.specs.Prelude.{nat_lt}
use Rattle.std.proofs.Common.{◌≡◌, ℕ, ◌+◌, max, Bool, true, false, List, ◌∷◌, ◌++◌, refl, ap, ap₂, ◌∙◌}
use Rattle.model.specs.declared.Run.{Run}
use Rattle.model.specs.Positions.{run}
use Rattle.run_index.specs.Tree.{Tree, leaf, node, height, inorder}
use Rattle.run_index.specs.Shape.{pick, rotate_left, rotate_right, lean_left, lean_right, rebalanced, inserted}
use Rattle.interval_bit_set.specs.Grown.{shape}

-- the same height
pub shape-height : (t : Tree) → height (shape t) ≡ height t
shape-height leaf = refl
shape-height (node n a b l r) = ap₂ (λ (h k : ℕ). 1 + max h k) (shape-height l) (shape-height r)

-- the same runs
pub shape-inorder : (t : Tree) → inorder (shape t) ≡ inorder t
shape-inorder leaf = refl
shape-inorder (node n a b l r) = ap₂ (λ (xs ys : List Run). xs ++ run a b ∷ ys) (shape-inorder l) (shape-inorder r)

-- one of two trees
pick-shape : (b : Bool) (t u : Tree) {v w : Tree} → shape t ≡ v → shape u ≡ w → shape (pick b t u) ≡ pick b v w
pick-shape true t u p q = p
pick-shape false t u p q = q

-- turned
left-shape : (n a b : ℕ) (l r : Tree) → shape (rotate_left n a b l r) ≡ rotate_left 0 a b (shape l) (shape r)
left-shape n a b l leaf = refl
left-shape n a b l (node m c d x y) = refl

right-shape : (n a b : ℕ) (l r : Tree) → shape (rotate_right n a b l r) ≡ rotate_right 0 a b (shape l) (shape r)
right-shape n a b leaf r = refl
right-shape n a b (node m c d x y) r = refl

lean-left-shape : (t : Tree) → shape (lean_left t) ≡ lean_left (shape t)
lean-left-shape leaf = refl
lean-left-shape (node n a b l r) =
    rw (shape-height l, shape-height r) (pick-shape (nat_lt (height l) (height r)) _ _ (left-shape n a b l r) refl)

lean-right-shape : (t : Tree) → shape (lean_right t) ≡ lean_right (shape t)
lean-right-shape leaf = refl
lean-right-shape (node n a b l r) =
    rw (shape-height l, shape-height r) (pick-shape (nat_lt (height r) (height l)) _ _ (right-shape n a b l r) refl)

rebalanced-shape : (n a b : ℕ) (l r : Tree) → shape (rebalanced n a b l r) ≡ rebalanced 0 a b (shape l) (shape r)
rebalanced-shape n a b l r =
    let left = left-shape n a b l (lean_right r) ∙ ap (rotate_left 0 a b (shape l)) (lean-right-shape r) in
    let right = right-shape n a b (lean_left l) r ∙ ap (λ (t : Tree). rotate_right 0 a b t (shape r)) (lean-left-shape l) in
    rw (shape-height l, shape-height r)
    (pick-shape (nat_lt (height r + 1) (height l)) _ _ right (pick-shape (nat_lt (height l + 1) (height r)) _ _ left refl))

-- a run put in, whatever its node's number
pub shape-inserted : (f a b : ℕ) (t : Tree) → shape (inserted f a b t) ≡ inserted 0 a b (shape t)
shape-inserted f a b leaf = refl
shape-inserted f a b (node n c d l r) =
    pick-shape (nat_lt a c) _ _
    (rebalanced-shape n c d (inserted f a b l) r ∙ ap (λ (t : Tree). rebalanced 0 c d t (shape r)) (shape-inserted f a b l))
    (rebalanced-shape n c d l (inserted f a b r) ∙ ap (rebalanced 0 c d (shape l)) (shape-inserted f a b r))
