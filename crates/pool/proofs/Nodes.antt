-- The nodes of a world: each is in its tree, in the free chain, or another world's, once. A tree and a chain whose cells are as they were are
-- as they were; and what a change does to cells of the tree and the chain alone leaves others still. Assumes nothing.
use Rattle.pool.proofs.Base.{◌≡◌, ℕ, ◌+◌, ◌*◌, ◌^◌, ◌<◌, ◌≤◌, ◌⊎◌, List, [], ◌∷◌, length, refl, ap, ◌∙◌, inl, inr, arith, ℕ_discrete, split, cell_at, Room, Tree, runs, count, Rep}
use Rattle.pool.proofs.Base.{times, Index, δ-other, rep-positive, rep-numbered, Links, capacity, Chain, Footprint, Foreign, SameFrame, Represents}
use Rattle.run_index.proofs.Bound.{few-nodes}
use Rattle.pool.proofs.Capacities.{length-capacity}

-- a number that is 0 or has no room is none of a chain's
pub chain-outside : (w : List ℕ) (k : ℕ) (ns : List ℕ) → Chain w k ns → (m : ℕ) → (1 ≤ m → Room w m → ⊥) → times m ns ≡ 0
chain-outside w k [] c m out = refl
chain-outside w k (n ∷ ns) c m out =
    let pos : 1 ≤ n = c.1 in
    let ro : Room w n = c.2 in
    omega (arith, δ-other m n (λ (e : m ≡ n). out (omega arith) (omega arith)), chain-outside w (cell_at w n).left ns c.4 m out)

-- and none of a tree's
pub tree-outside : (w : List ℕ) (g : ℕ) (t : Tree) → Rep w g t → (m : ℕ) → (1 ≤ m → Room w m → ⊥) → count m t ≡ 0
tree-outside w g t h m out = go (ℕ_discrete (count m t) 0) (ℕ_discrete m 0)
  where
    go : Dec (count m t ≡ 0) → Dec (m ≡ 0) → count m t ≡ 0
    go (yes z) d = z
    go (no some) (yes e) = ap (λ (j : ℕ). count j t) e ∙ rep-positive w g t h
    go (no some) (no pos) = absurd (out (omega arith) (rep-numbered w g t h m (omega arith)))

-- the length of a pool, and how many nodes it may have
pub sized-length : (w : List ℕ) → 1 ≤ capacity w → (length w ≡ 8 * (capacity w + 49)) × (capacity w ≤ 65536)
sized-length w h = length-capacity (length w) h

module _ {w : List ℕ} {s : Footprint} {x : Links} {t : Tree} {ns : List ℕ} (k : Represents w s x t ns) where
  -- the numbers that are nodes of neither
  none_of : (m : ℕ) → (1 ≤ m → Room w m → ⊥) → count m t + times m ns ≡ 0
  none_of m out = omega (arith, tree-outside w s.tag t k.linked.rep m out, chain-outside w x.free ns k.chained m out)

  -- every number stands at most once in the tree and the chain
  pub node-once : (m : ℕ) → count m t + times m ns ≤ 1
  node-once m = go (split m 1) (split s.nodes m)
    where
      go : (m < 1) ⊎ (1 ≤ m) → (s.nodes < m) ⊎ (m ≤ s.nodes) → count m t + times m ns ≤ 1
      go (inl z) d = omega (arith, none_of m (λ p ro. omega arith))
      go (inr p) (inl far) = omega (arith, none_of m (λ _ ro. omega (arith, k.sized)))
      go (inr p) (inr le) = omega (arith, k.shared m p le)

  -- what is foreign stands in neither
  pub foreign-none : (m : ℕ) → Foreign s m → count m t + times m ns ≡ 0
  foreign-none m f = go (split m 1) (split s.nodes m)
    where
      go : (m < 1) ⊎ (1 ≤ m) → (s.nodes < m) ⊎ (m ≤ s.nodes) → count m t + times m ns ≡ 0
      go (inl z) d = none_of m (λ p ro. omega arith)
      go (inr p) (inl far) = none_of m (λ _ ro. omega (arith, k.sized))
      go (inr p) (inr le) = omega (arith, k.shared m p le, f p le)

  -- so a change of cells of the two alone leaves others still
  pub kept-still : {w' : List ℕ} → ((m : ℕ) → count m t + times m ns ≡ 0 → cell_at w' m ≡ cell_at w m) → length w' ≡ length w → SameFrame w w' s
  kept-still same long = record { cells = λ m f. same m (foreign-none m f); long = long }

  -- no node of the tree is 0
  pub no_zero : count 0 t ≡ 0
  no_zero = rep-positive w s.tag t k.linked.rep

  -- nor of the chain
  pub chain-no-zero : times 0 ns ≡ 0
  chain-no-zero = chain-outside w x.free ns k.chained 0 (λ p ro. omega arith)

  -- the tree has no more nodes than there are
  pub tree-few : runs t ≤ s.nodes
  tree-few = omega (arith, few-nodes w s.tag t k.linked.rep k.once, k.sized)

  -- they are few
  pub few-runs : runs t + 1 < 2 ^ 62
  few-runs = omega (arith, tree-few, k.few)

  -- the tree can be searched
  pub kept-index : Index w x.root s.tag t
  kept-index = record { at = k.linked; canonical = k.ordered; few = omega (arith, few-runs) }

-- one change after another
pub still-then : {w w₁ w₂ : List ℕ} {s : Footprint} → SameFrame w w₁ s → SameFrame w₁ w₂ s → SameFrame w w₂ s
still-then p q = record { cells = λ m f. q.cells m f ∙ p.cells m f; long = q.long ∙ p.long }

-- no change
pub still-same : {w : List ℕ} {s : Footprint} → SameFrame w w s
still-same = record { cells = λ m f. refl; long = refl }
