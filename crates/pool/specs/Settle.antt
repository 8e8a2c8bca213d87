-- What bringing a world into agreement with its tree, and making a tree of free nodes that were given runs, ask and promise.
-- Assumes nothing: these are definitions.
use Rattle.std.specs.Prelude.{◌≡◌, ℕ, suc, ◌-◌, ◌<◌, ◌≤◌, Bool, true, false, List, length, ◌≢◌}
use Rattle.model.specs.declared.Run.{Run}
use Rattle.model.specs.Numbers.{size, most_worlds}
use Rattle.model.specs.Positions.{Positions, set_range, held_runs, stretches, mem}
use Rattle.model.specs.RunList.{Canon}
use Rattle.run_index.specs.Cells.{cell_at}
use Rattle.run_index.specs.Tree.{Tree, leaf, inorder}
use Rattle.run_index.specs.Strung.{FreeChain, Filled}
use Rattle.pool.specs.declared.World.{World}
use Rattle.pool.specs.declared.Links.{Links}
use Rattle.pool.specs.Layout.{opened_at, floor_at, ceiling_at, nodes, allowance, turned, world_at, held_in, held_by}
use Rattle.pool.specs.Soundness.{first_of, last_of, Footprint, Apart, SameFrame, Represents, Standing, Limited, footprint_of, Sound}

-- w' is a sound pool of the same length, whose world k holds P; all else is as it was: how many worlds there are, the positions of the others,
-- and every floor and ceiling
pub record Settled (w w' : List ℕ) (k : ℕ) (P : Positions) : Type 0 where
  pub sound : Sound w'
  pub holds : (x : ℕ) → x < size → held_by w' k x ≡ P x
  pub opened : opened_at w' ≡ opened_at w
  pub others : (j : ℕ) → j < opened_at w → (j ≢ k) → held_by w' j ≡ held_by w j
  pub floors : (j : ℕ) → j < most_worlds → floor_at w' j ≡ floor_at w j
  pub ceilings : (j : ℕ) → j < most_worlds → ceiling_at w' j ≡ ceiling_at w j
  pub long : length w' ≡ length w

-- the world h stands in the nodes w and holds P
pub record Shows (w : List ℕ) (s : Footprint) (h : World) (P : Positions) : Type 0 where
  pub standing : Standing w s h
  pub holds : (x : ℕ) → x < size → held_in w h x ≡ P x

-- THE PROMISE OF A CHANGE: in the nodes w, which are w' now, the world h stands and holds P; others stand still
pub record Became (w w' : List ℕ) (s : Footprint) (h : World) (P : Positions) : Type 0 where
  pub shows : Shows w' s h P
  pub still : SameFrame w w' s

-- the world r of the tree that the links x lead to, under the offset o
abbrev pub Refreshes : List ℕ → Links → ℕ → World → Type 0
Refreshes w x o r = (s : Footprint) (t : Tree) (ns : List ℕ) → Represents w s x t ns → Shows w s r (turned o (mem (inorder t)))

-- the world r has the root of the links x, and no offset if o is none
pub record Rooted (x : Links) (o : ℕ) (r : World) : Type 0 where
  pub root_is : r.root ≡ x.root
  pub no-offset : o ≡ 0 → r.offset ≡ 0

-- the world h still tells of the positions P, and the tree t keeps P with a .. b set to v
pub record Altered (h : World) (t : Tree) (a b : ℕ) (v : Bool) (P : Positions) : Type 0 where
  pub ordered : a ≤ b
  pub below : b < size
  pub first-was : h.first ≡ first_of (held_runs P)
  pub last-was : h.last ≡ last_of (held_runs P)
  pub none-were : h.runs ≡ 0 → (x : ℕ) → x < size → P x ≡ false
  pub some-were : (h.runs ≢ 0) → (x : ℕ) × (x < size) × (P x ≡ true)
  pub set_to : (x : ℕ) → x < size → turned h.offset (mem (inorder t)) x ≡ set_range a (suc b - a) v P x

abbrev pub Resettable : List ℕ → Links → World → ℕ → ℕ → Bool → Type 0
Resettable w x h a b v = (s : Footprint) × (t : Tree) × (ns : List ℕ) × (P : Positions) × Represents w s x t ns × Altered h t a b v P

-- the same, where one end of the range is told
abbrev pub ResettableFrom : List ℕ → Links → World → ℕ → Bool → Type 0
ResettableFrom w x h a v = (b : ℕ) × Resettable w x h a b v

abbrev pub ResettableTo : List ℕ → Links → World → ℕ → Bool → Type 0
ResettableTo w x h b v = (a : ℕ) × Resettable w x h a b v

-- the first n nodes of the free chain from f hold the runs rs
abbrev pub Lays : List ℕ → List ℕ → ℕ → ℕ → List Run → Type 0
Lays w w' f n rs = (ns : List ℕ) → FreeChain w f ns → n ≤ length ns → (q : ℕ) × Filled w w' f q n ns rs

-- in the words v all nodes of the world were free; the first n of them hold the runs rs now
pub record Strewn (v w : List ℕ) (s : Footprint) (x : Links) (n q : ℕ) (ns : List ℕ) (rs : List Run) : Type 0 where
  pub kept : Represents v s x leaf ns
  pub filled : Filled v w x.free q n ns rs
  pub canonical : Canon size 0 rs

abbrev pub Linkable : List ℕ → Links → ℕ → Type 0
Linkable w x n = (v : List ℕ) × (s : Footprint) × (q : ℕ) × (ns : List ℕ) × (rs : List Run) × Strewn v w s x n q ns rs

-- the world r has these runs
abbrev pub LinksUp : List ℕ → List ℕ → Links → ℕ → World → Type 0
LinksUp w w' x n r = (v : List ℕ) (s : Footprint) (q : ℕ) (ns : List ℕ) (rs : List Run) → Strewn v w s x n q ns rs → Became v w' s r (mem rs)

-- ---- the door between a pool and a world of it
-- a world of a sound pool that was opened
pub record Openable (w : List ℕ) (k : ℕ) : Type 0 where
  pub sound : Sound w
  pub named : k < opened_at w

-- the world h is world k of the words w: it has its allowance, and holds what that does; its nodes are told by their tag
pub record Opened (w : List ℕ) (k : ℕ) (h : World) : Type 0 where
  pub is : h ≡ world_at w k
  pub limited : Limited (nodes w) (footprint_of w k) h (allowance w k)
  pub held : held_in (nodes w) h ≡ held_by w k
  pub apart : Apart (nodes w) (footprint_of w k)

-- in the words w, of which the nodes alone have changed since they were w₀, the world h holds P; P has no more runs than it may have
pub record Closing (w₀ w : List ℕ) (h : World) (P : Positions) : Type 0 where
  pub openable : Openable w₀ h.tag
  pub before : (m : ℕ) → m ≤ most_worlds → cell_at w m ≡ cell_at w₀ m
  pub long : length w ≡ length w₀
  pub became : Became (nodes w₀) (nodes w) (footprint_of w₀ h.tag) h P
  pub few : stretches P ≤ allowance w₀ h.tag

abbrev pub Closable : List ℕ → World → Type 0
Closable w h = (w₀ : List ℕ) × (P : Positions) × Closing w₀ w h P

-- then the pool settles
abbrev pub Closes : List ℕ → List ℕ → World → Type 0
Closes w w' h = (w₀ : List ℕ) (P : Positions) → Closing w₀ w h P → Settled w₀ w' h.tag P
