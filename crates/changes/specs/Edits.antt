-- What changes of a world promise. Assumes nothing: these are definitions.
use Rattle.std.specs.Prelude.{Option, None, Some}
use Rattle.changes.specs.declared.edit.Edit.{Edit}
use Rattle.changes.specs.declared.edit.Border.{Border}
use Rattle.std.specs.Prelude.{◌≡◌, ℕ, suc, ◌+◌, ◌-◌, ◌%◌, ◌<◌, ◌≤◌, Bool, true, false, List}
use Rattle.model.specs.declared.Count.{Count}
use Rattle.model.specs.Numbers.{size, worth}
use Rattle.model.specs.Positions.{Positions, one_if, set_range, stretches, changes, empty, mem}
use Rattle.model.specs.Neighbours.{goes_on, held_below, held_above}
use Rattle.run_index.specs.Tree.{Tree, inorder}
use Rattle.pool.specs.declared.World.{World}
use Rattle.pool.specs.declared.Links.{Links}
use Rattle.pool.specs.Layout.{turned, held_in}
use Rattle.pool.specs.Soundness.{Footprint, SameFrame, Represents, Standing, Limited}
use Rattle.pool.specs.Settle.{Became}
use Rattle.pool.specs.Free.{Sprouts}

-- whatever share the world h has of the nodes w, and whatever limit, it became k and holds Q
abbrev pub Makes : List ℕ → List ℕ → World → World → Positions → Type 0
Makes w w' h k Q = (s : Footprint) (limit : ℕ) → Limited w s h limit → stretches Q ≤ limit → Became w w' s k Q

-- a change that made k of a world, in which c positions changed
abbrev pub changed_to : World → Count → Option Edit
changed_to k c = Some (record { world = k; changed = c })

-- the world h, changed to Q: refused where Q has more runs than the limit, and then the nodes are as they were; else it became one
-- that holds Q, and the answer is how many positions are in just one of the old and the new
abbrev pub Edited : List ℕ → List ℕ → World → ℕ → Positions → Option Edit → Type 0
Edited w w' h limit Q None = (limit < stretches Q) × (w' ≡ w)
Edited w w' h limit Q (Some e) = (stretches Q ≤ limit) × Makes w w' h e.world Q × (worth e.changed ≡ changes (held_in w h) Q)

-- where the world h has no offset, and a .. b are to be held and touch none of its runs, they were put into its tree, which is at p
abbrev pub PutsIn : List ℕ → List ℕ → World → ℕ → ℕ → ℕ → Bool → Type 0
PutsIn w w' h p a b v = h.offset ≡ 0 → Sprouts w w' h.root p a b v

-- so they were where it became the world k, which has no offset either
abbrev pub Grows : List ℕ → List ℕ → World → World → ℕ → ℕ → Bool → Type 0
Grows w w' h k a b v = PutsIn w w' h k.root a b v × (h.offset ≡ 0 → k.offset ≡ 0)

-- unless the change was refused
abbrev pub GrowsBy : List ℕ → List ℕ → World → ℕ → ℕ → Bool → Option Edit → Type 0
GrowsBy w w' h a b v None = Unit
GrowsBy w w' h a b v (Some e) = Grows w w' h e.world a b v

-- as `Edited`, of a change that counts nothing
abbrev pub Fitted : List ℕ → List ℕ → World → ℕ → Positions → Option World → Type 0
Fitted w w' h limit Q None = (limit < stretches Q) × (w' ≡ w)
Fitted w w' h limit Q (Some k) = (stretches Q ≤ limit) × Makes w w' h k Q

-- a .. b may get the value v: at most as many runs are left as the world may have
pub record MayApply (w : List ℕ) (s : Footprint) (h : World) (limit a b : ℕ) (v : Bool) : Type 0 where
  pub limited : Limited w s h limit
  pub ordered : a ≤ b
  pub few : stretches (set_range a (suc b - a) v (held_in w h)) ≤ limit

abbrev pub Appliable : List ℕ → World → ℕ → ℕ → Bool → Type 0
Appliable w h a b v = (s : Footprint) × (limit : ℕ) × MayApply w s h limit a b v

-- the links y lead to physical positions in w' that are P, turned by the offset o; others stand still
pub record Reached (w w' : List ℕ) (s : Footprint) (y : Links) (o : ℕ) (P : Positions) : Type 0 where
  pub tree : Tree
  pub nodes : List ℕ
  pub kept : Represents w' s y tree nodes
  pub holds : (x : ℕ) → x < size → turned o (mem (inorder tree)) x ≡ P x
  pub still : SameFrame w w' s

-- whatever share the world h has of the nodes w, and whatever limit, the links y lead to Q
abbrev pub Places : List ℕ → List ℕ → World → Links → Positions → Type 0
Places w w' h y Q = (s : Footprint) (limit : ℕ) → Limited w s h limit → stretches Q ≤ limit → Reached w w' s y h.offset Q

-- a world's root and sum tell that n positions are held: the sum is kept modulo 2^64, and a world that holds none has no root
pub record TellsHeld (root ones n : ℕ) : Type 0 where
  pub most : n ≤ size
  pub sum : ones ≡ n % size
  pub none : root ≡ 0 → n ≡ 0
  pub rootless : n ≡ 0 → root ≡ 0

-- the count is how many positions are held that were not, from one root and sum to others that tell no fewer
abbrev pub Gains : ℕ → ℕ → ℕ → ℕ → Count → Type 0
Gains root ones root' ones' c = (m n : ℕ) → TellsHeld root ones m → TellsHeld root' ones' n → m ≤ n → worth c ≡ n - m

-- so it is of a set to a value that made k of the world h: one to true adds positions, one to false frees some
abbrev pub SetGains : World → World → Bool → Count → Type 0
SetGains h k true c = Gains h.root h.ones k.root k.ones c
SetGains h k false c = Gains k.root k.ones h.root h.ones c

-- what is around the positions from a to b
pub record Surrounds (P : Positions) (a b : ℕ) (r : Border) : Type 0 where
  pub outside-is : r.outside ≡ stretches (set_range a (suc b - a) false P)
  pub over-is : r.over ≡ one_if (goes_on P a) + one_if (goes_on P (suc b))
  pub beside-is : r.beside ≡ one_if (held_below P a) + one_if (held_above P b)

-- where all positions move by d, those from low to high leave, and the others move up by so many modulo 2^64
abbrev pub Leaves : ℕ → Bool → ℕ → ℕ → ℕ → Type 0
Leaves d true low high up = (low ≡ size - d) × (high ≡ size - 1) × (up ≡ d)
Leaves d false low high up = (low ≡ 0) × (high ≡ d - 1) × (up ≡ size - d)

-- a shift adds no run, so only a limit that the world keeps is asked
abbrev pub Moves : List ℕ → List ℕ → World → World → Positions → Type 0
Moves w w' h k Q = (s : Footprint) (limit : ℕ) → Limited w s h limit → Became w w' s k Q

abbrev pub Movable : List ℕ → World → Type 0
Movable w h = (s : Footprint) × (limit : ℕ) × Limited w s h limit

-- the world k holds nothing
abbrev pub Empties : List ℕ → List ℕ → World → World → Type 0
Empties w w' h k = (s : Footprint) → Standing w s h → Became w w' s k empty
