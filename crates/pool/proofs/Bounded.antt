-- The tree at the root of a world, as the check walks it. The positions of a world are those of this tree, turned by its offset, so what `bounds`
-- returns of the tree is what the world has to say. Assumes nothing.
use Rattle.pool.proofs.Base.{◌≡◌, ℕ, ◌≤◌, Bool, true, not, ◌&&◌, ◌||◌, eqb, List, ap, ◌∙◌, arith, Run, size, Positions, held_runs, Node, Indexed, runs_from, World, Set, held, held_in, first_of, last_of}
use Rattle.pool.proofs.Base.{below_of, tree_b, world_b, Tells}
use Rattle.pool.proofs.Steps.{inside-linked}
use Rattle.pool.proofs.Reached.{tree-seen}
use Rattle.pool.proofs.Hanging.{Hangs, hangs-index}
use Rattle.pool.proofs.Decided.{below-sums, tree-yes, hangs-walked}

-- a tree that the walk accepts is low
pub walked-low : (d : ℕ) (w : List ℕ) (g k lo total : ℕ) → tree_b d w g k lo total ≡ true → (below_of w k).height ≤ d
walked-low d w g k lo total e = let T = tree-yes d w g k lo total e in omega (arith, (below-sums w g k T.t T.at).height-is, T.low)

module _ (w : List ℕ) (h : World) where
  -- what the walk of the root says
  pub root-walked : {v : Node} → v ≡ below_of w h.root → v.height ≤ 22 → {b : Bool} → Tells w (record { tag = h.tag; low = 0; high = 18446744073709551615 }) h.root b
      → b ≡ tree_b 22 w h.tag h.root 0 size
  root-walked ev low eb = let q = ap (λ (x : Node). x.height) ev in eb 22 (omega arith)

  module _ (T : Hangs 22 w h.tag h.root 0 size) where
    -- the tree can be searched
    pub indexed : Indexed w h.root
    indexed = (h.tag, T.t, hangs-index T)

    -- its set has the world's positions, of which `bounds` returns the first and the last, g
    told : (g : List Run → ℕ) (z : Set) → z ≡ record { runs = runs_from w h.root; offset = h.offset } → (r : ℕ) → r ≡ g (held_runs (held z)) → r ≡ g (held_runs (held_in w h))
    told g z of r e = e ∙ ap (λ (P : Positions). g (held_runs P)) (ap held of ∙ tree-seen h.offset (hangs-index T) T.low)

    -- so what is left to test are the sums, the bounds and the offset
    pub world-is : (v : Node) → v ≡ below_of w h.root → (z : Set) → z ≡ record { runs = runs_from w h.root; offset = h.offset }
        → (f : ℕ) → f ≡ first_of (held_runs (held z)) → (l : ℕ) → l ≡ last_of (held_runs (held z))
        → world_b w h ≡ (eqb h.ones v.ones && (eqb h.runs v.runs && (eqb h.first f && (eqb h.last l && (not (eqb h.root 0) || eqb h.offset 0)))))
    unfolding world_b
    world-is v ev z of f tf l tl = rw (hangs-walked T, ← ev, ← told first_of z of f tf, ← told last_of z of l tl)

pub ruleset rooted = (walked-low, root-walked, world-is, indexed, inside-linked)
