-- Putting a list of runs into a tree, one by one: what comes of it is no lower, and has no run that is touched, if none of the tree and of the list
-- is. Assumes nothing.
use Rattle.std.proofs.Common.{ℕ, ◌+◌, ◌<◌, ◌≤◌, Bool, true, false, ltb, ◌⊎◌, List, [], ◌∷◌, ◌++◌, sym, refl, ap, subst, arith}
use Rattle.model.specs.declared.Run.{Run}
use Rattle.model.specs.Positions.{run}
use Rattle.model.specs.RunList.{TouchesNone}
use Rattle.model.proofs.RunList.{touch-both, touch-parts}
use Rattle.run_index.specs.Tree.{Tree, leaf, node, height, inorder, Balanced}
use Rattle.run_index.specs.Shape.{pick, rebalanced, inserted, Sown}
use Rattle.run_index.proofs.Balance.{insert-balanced, insert-height}
use Rattle.run_index.proofs.Ordering.{rebalanced-inorder}

-- some tree comes of it
pub sown-some : (t : Tree) (rs : List Run) → (u : Tree) × Sown t rs u
sown-some t [] = (t, refl)
sown-some t (r ∷ rs) = let s = sown-some (inserted 0 r.start r.«end» t) rs in (s.0, (0, s.1))

-- of two lists, the one after the other
pub sown-append : (t : Tree) (xs ys : List Run) (u : Tree) → Sown t (xs ++ ys) u → (m : Tree) × Sown t xs m × Sown m ys u
sown-append t [] ys u s = (t, refl, s)
sown-append t (x ∷ xs) ys u s =
    let rest = sown-append (inserted s.0 x.start x.«end» t) xs ys u s.1 in
    (rest.0, (s.0, rest.1), rest.2)

-- a run more at the end of the list
pub sown-more : (f : ℕ) (t : Tree) (xs : List Run) (r : Run) (u : Tree) → Sown t xs u → Sown t (xs ++ r ∷ []) (inserted f r.start r.«end» u)
sown-more f t [] r u s = (f, ap (inserted f r.start r.«end») s)
sown-more f t (x ∷ xs) r u s = (s.0, sown-more f (inserted s.0 x.start x.«end» t) xs r u s.1)

-- it is no lower than the one that it comes of
pub sown-higher : (t : Tree) (rs : List Run) (u : Tree) → Balanced t → Sown t rs u → height t ≤ height u
sown-higher t [] u b s = omega (arith, ap height s)
sown-higher t (r ∷ rs) u b s =
    omega (
      arith,
      (insert-height s.0 r.start r.«end» t b).0,
      sown-higher (inserted s.0 r.start r.«end» t) rs u (insert-balanced s.0 r.start r.«end» t b) s.1,
    )

-- a tree with one run more, which is not touched
insert-untouched : (s e f : ℕ) (r : Run) (t : Tree) → (r.«end» + 1 < s) ⊎ (e + 1 < r.start) → TouchesNone s e (inorder t)
    → TouchesNone s e (inorder (inserted f r.start r.«end» t))
insert-untouched s e f r leaf far p = (far, tt)
insert-untouched s e f r (node n c d x y) far p =
    let q = touch-parts s e (inorder x) (run c d ∷ inorder y) p in
    go (ltb r.start c) q.0 q.1 (insert-untouched s e f r x far q.0) (insert-untouched s e f r y far q.1.1)
  where
    go : (b : Bool) → TouchesNone s e (inorder x) → TouchesNone s e (run c d ∷ inorder y) → TouchesNone s e (inorder (inserted f r.start r.«end» x))
        → TouchesNone s e (inorder (inserted f r.start r.«end» y))
        → TouchesNone s e (inorder (pick b (rebalanced n c d (inserted f r.start r.«end» x) y) (rebalanced n c d x (inserted f r.start r.«end» y))))
    go true p q l o =
        let left = inserted f r.start r.«end» x in
        rw (rebalanced-inorder n c d left y) (touch-both s e (inorder left) (run c d ∷ inorder y) l q)
    go false p q l o =
        let right = inserted f r.start r.«end» y in
        rw (rebalanced-inorder n c d x right) (touch-both s e (inorder x) (run c d ∷ inorder right) p (q.0, o))

-- so it is with all runs of a list
pub sown-untouched : (s e : ℕ) (t : Tree) (rs : List Run) (u : Tree) → TouchesNone s e rs → TouchesNone s e (inorder t) → Sown t rs u → TouchesNone s e (inorder u)
sown-untouched s e t [] u far p g = subst (λ (v : Tree). TouchesNone s e (inorder v)) (sym g) p
sown-untouched s e t (r ∷ rs) u far p g =
    sown-untouched s e (inserted g.0 r.start r.«end» t) rs u far.1 (insert-untouched s e g.0 r t far.0 p) g.1
