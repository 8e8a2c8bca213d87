-- What making a pool, and adding, removing and resizing a run, ask and promise. Assumes nothing: these are definitions.
use Rattle.std.specs.Prelude.{◌≡◌, ℕ, zero, suc, ◌/◌, ◌<◌, ◌≤◌, Bool, true, false, cond, ◌⊎◌, List, [], ◌∷◌, length, nat_lt}
use Rattle.model.specs.declared.Run.{Run}
use Rattle.model.specs.Numbers.{size, most_worlds}
use Rattle.model.specs.Positions.{run}
use Rattle.model.specs.declared.Limits.{Limits}
use Rattle.model.specs.Refusals.{bad_limits}
use Rattle.model.specs.Pools.{PlainWorld, limits_at, limits_of, empty_worlds}
use Rattle.model.specs.RunList.{Canon, TouchesNone}
use Rattle.run_index.specs.Cells.{cell_at}
use Rattle.run_index.specs.Tree.{Tree, inorder, tree_from}
use Rattle.run_index.specs.Shape.{inserted}
use Rattle.run_index.specs.Order.{insert_run, remove_run, replace_run, Starts, Has}
use Rattle.pool.specs.declared.Links.{Links}
use Rattle.pool.specs.declared.layout.Record.{Record}
use Rattle.pool.specs.Layout.{record_at, capacity, worlds_of, highest}
use Rattle.pool.specs.Soundness.{Chain, Footprint, SameFrame, Represents, Sound}

-- the numbers n + 1 .. n + k
abbrev pub after : ℕ → ℕ → List ℕ
after n zero = []
after n (suc k) = suc n ∷ after (suc n) k

-- all n nodes are the free chain from r
pub record Chained (w w' : List ℕ) (n r : ℕ) : Type 0 where
  pub chain : Chain w' r (after 0 n)
  -- what lies before them is as it was
  pub before : cell_at w' 0 ≡ cell_at w 0
  pub long : length w' ≡ length w

-- the limits of world k, of n that the words ls lend: 0 and 0 where there is no such world
abbrev pub limits_or_none : List ℕ → ℕ → ℕ → Limits
limits_or_none ls n k = cond (nat_lt k n) (limits_at ls k) (record { floor = 0; ceiling = 0 })

-- the record of an empty world with these limits
abbrev pub empty_record : Limits → Record
empty_record l = record { root = 0; offset = 0; ones = 0; runs = 0; first = 0; last = 0; floor = l.floor; ceiling = l.ceiling }

-- each record is that of its world, and no other word has changed
pub record Recorded (w w' ls : List ℕ) (n : ℕ) : Type 0 where
  pub here : (k : ℕ) → k < most_worlds → record_at w' k ≡ empty_record (limits_or_none ls n k)
  pub there : (m : ℕ) → (m ≡ 0) ⊎ (most_worlds < m) → cell_at w' m ≡ cell_at w m
  pub long : length w' ≡ length w

-- words of a pool's length, and limits of n worlds that 11 does not refuse
pub record Makeable (w ls : List ℕ) (n : ℕ) : Type 0 where
  pub sized : 1 ≤ capacity w
  pub many : n ≡ length ls / 2
  pub good : bad_limits (capacity w) (limits_of ls) ≡ false

-- w' is a sound pool of the same length with the worlds ws
pub record Pooled (w w' : List ℕ) (ws : List PlainWorld) : Type 0 where
  pub sound : Sound w'
  pub worlds : worlds_of w' ≡ ws
  pub long : length w' ≡ length w

-- one of empty worlds with the limits ls
abbrev pub Emptied : List ℕ → List ℕ → List Limits → Type 0
Emptied w w' ls = Pooled w w' (empty_worlds ls)

-- the runs rs are in the tree that the links y lead to; others stand still
pub record Becomes (w w' : List ℕ) (s : Footprint) (y : Links) (rs : List Run) : Type 0 where
  pub tree : Tree
  pub nodes : List ℕ
  pub kept : Represents w' s y tree nodes
  pub runs-are : inorder tree ≡ rs
  pub still : SameFrame w w' s

-- there is a free node, and the runs with a .. b among them are canonical
pub record RoomFor (w : List ℕ) (s : Footprint) (x : Links) (a b : ℕ) (t : Tree) (ns : List ℕ) : Type 0 where
  pub kept : Represents w s x t ns
  pub some : 1 ≤ length ns
  pub fits : Canon size 0 (insert_run (run a b) (inorder t))
  pub ordered : a ≤ b

abbrev pub Addable : List ℕ → Links → ℕ → ℕ → Type 0
Addable w x a b = (s : Footprint) × (t : Tree) × (ns : List ℕ) × RoomFor w s x a b t ns

abbrev pub Adds : List ℕ → List ℕ → Links → Links → ℕ → ℕ → Type 0
Adds w w' x y a b = (s : Footprint) (t : Tree) (ns : List ℕ) → RoomFor w s x a b t ns → Becomes w w' s y (insert_run (run a b) (inorder t))

-- the tree from q is the one that was from p, with the run a .. b put in
abbrev pub Sprouted : List ℕ → List ℕ → ℕ → ℕ → ℕ → ℕ → Type 0
Sprouted w w' p q a b = (f : ℕ) × (tree_from highest w' q ≡ inserted f a b (tree_from highest w p))

-- it is so where a .. b are to be held and no run of that tree touches them
abbrev pub Sprouts : List ℕ → List ℕ → ℕ → ℕ → ℕ → ℕ → Bool → Type 0
Sprouts w w' p q a b v = v ≡ true → TouchesNone a b (inorder (tree_from highest w p)) → Sprouted w w' p q a b

-- a run starts at a
pub record HasRun (w : List ℕ) (s : Footprint) (x : Links) (a : ℕ) (t : Tree) (ns : List ℕ) : Type 0 where
  pub kept : Represents w s x t ns
  pub starts : Starts a (inorder t)

abbrev pub Removable : List ℕ → Links → ℕ → Type 0
Removable w x a = (s : Footprint) × (t : Tree) × (ns : List ℕ) × HasRun w s x a t ns

abbrev pub RemovesRun : List ℕ → List ℕ → Links → Links → ℕ → Type 0
RemovesRun w w' x y a = (s : Footprint) (t : Tree) (ns : List ℕ) → HasRun w s x a t ns → Becomes w w' s y (remove_run a (inorder t))

-- one of the runs is k .. l, and the runs with a .. b in its place are canonical
pub record Alterable (w : List ℕ) (s : Footprint) (x : Links) (k l a b : ℕ) (t : Tree) (ns : List ℕ) : Type 0 where
  pub kept : Represents w s x t ns
  pub has : Has k l (inorder t)
  pub fits : Canon size 0 (replace_run k (run a b) (inorder t))
  pub ordered : a ≤ b

abbrev pub Changeable : List ℕ → Links → ℕ → ℕ → ℕ → ℕ → Type 0
Changeable w x k l a b = (s : Footprint) × (t : Tree) × (ns : List ℕ) × Alterable w s x k l a b t ns

abbrev pub Changes : List ℕ → List ℕ → Links → ℕ → ℕ → ℕ → ℕ → Type 0
Changes w w' x k l a b =
    (s : Footprint) (t : Tree) (ns : List ℕ) → Alterable w s x k l a b t ns → Becomes w w' s x (replace_run k (run a b) (inorder t))

-- some tree and some chain are kept
abbrev pub Keepable : List ℕ → Links → Type 0
Keepable w x = (s : Footprint) × (t : Tree) × (ns : List ℕ) × Represents w s x t ns

-- every node of the tree is free
abbrev pub GivesBack : List ℕ → List ℕ → Links → Links → Type 0
GivesBack w w' x y = (s : Footprint) (t : Tree) (ns : List ℕ) → Represents w s x t ns → Becomes w w' s y []
