-- The free list in order: what stringing the free nodes together promises, and that a pool so relinked has every world as it was. Assumes
-- nothing: these are definitions.
use Rattle.std.specs.Prelude.{ℕ, zero, suc, ◌<◌, ◌≤◌, ◌≡◌, ◌⊎◌, cond, List, [], ◌∷◌, eqb, length}
use Rattle.model.specs.Numbers.{most_worlds}
use Rattle.run_index.specs.Cells.{cell_at, Wrote}
use Rattle.run_index.specs.Strung.{times, free_cell}
use Rattle.pool.specs.Layout.{opened_at, free_head, record_at, floor_at, ceiling_at, nodes, node_count, held_by}
use Rattle.pool.specs.Soundness.{Chain, Sound}

-- those of the nodes k + 1 .. k + n that have no height, in the order in which they lie
abbrev pub lows : List ℕ → ℕ → ℕ → List ℕ
lows w k zero = []
lows w k (suc n) = cond (eqb (cell_at w (suc k)).height 0) (suc k ∷ lows w (suc k) n) (lows w (suc k) n)

-- node k, if it has no height, is a free one that leads to `next`, and r is the first node then
abbrev pub Threads : List ℕ → List ℕ → ℕ → ℕ → ℕ → Type 0
Threads w w' k next r =
    (((cell_at w k).height ≡ 0) × (r ≡ k) × Wrote w w' k (free_cell next)) ⊎ (((cell_at w k).height ≡ 0 → ⊥) × (r ≡ next) × (w' ≡ w))

-- all those of n nodes are the free chain from r on, and no other cell has changed
pub record Threaded (w w' : List ℕ) (n r : ℕ) : Type 0 where
  pub chain : Chain w' r (lows w 0 n)
  pub kept : (m : ℕ) → times m (lows w 0 n) ≡ 0 → cell_at w' m ≡ cell_at w m
  pub long : length w' ≡ length w

-- w' is a sound pool of the same length, and every world is as it was
pub record Tidied (w w' : List ℕ) : Type 0 where
  pub sound : Sound w'
  pub opened : opened_at w' ≡ opened_at w
  pub held : (j : ℕ) → j < opened_at w → held_by w' j ≡ held_by w j
  pub floors : (j : ℕ) → j < most_worlds → floor_at w' j ≡ floor_at w j
  pub ceilings : (j : ℕ) → j < most_worlds → ceiling_at w' j ≡ ceiling_at w j
  pub long : length w' ≡ length w

-- the free nodes of w, in the order in which they lie
abbrev pub free_nodes : List ℕ → List ℕ
free_nodes w = lows (nodes w) 0 (node_count w)

-- the free chain of w' leads through these in that order, and no other node and no record has changed
pub record InOrder (w w' : List ℕ) : Type 0 where
  pub chain : Chain (nodes w') (free_head w') (free_nodes w)
  pub others : (m : ℕ) → 1 ≤ m → times m (free_nodes w) ≡ 0 → cell_at (nodes w') m ≡ cell_at (nodes w) m
  pub records : (k : ℕ) → k < most_worlds → record_at w' k ≡ record_at w k
