-- What giving physical positions a value asks, and what it promises. Assumes nothing: these are definitions.
use Rattle.std.specs.Prelude.{◌≡◌, ℕ, suc, ◌+◌, ◌-◌, ◌<◌, ◌≤◌, Bool, List, ◌∷◌, ◌++◌, nat_le}
use Rattle.model.specs.declared.Run.{Run}
use Rattle.model.specs.Numbers.{size}
use Rattle.model.specs.Positions.{Positions, run, set_range, stretches, mem}
use Rattle.model.specs.RunList.{EndBelow, StartFrom, insert, clear}
use Rattle.run_index.specs.Tree.{Tree, inorder}
use Rattle.pool.specs.declared.Links.{Links}
use Rattle.pool.specs.Soundness.{Footprint, SameFrame, Represents}
use Rattle.pool.specs.Free.{Becomes}
use Rattle.changes.specs.declared.change.Reach.{Reach}

-- the positions from s to e may get the value v: the nodes are enough for the runs that there will be
pub record MaySet (w : List ℕ) (sh : Footprint) (x : Links) (s e : ℕ) (v : Bool) (t : Tree) (ns : List ℕ) : Type 0 where
  pub kept : Represents w sh x t ns
  pub below : e < size
  pub fits : stretches (set_range s (suc e - s) v (mem (inorder t))) ≤ sh.own

abbrev pub Settable : List ℕ → Links → ℕ → ℕ → Bool → Type 0
Settable w x s e v = (sh : Footprint) × (t : Tree) × (ns : List ℕ) × MaySet w sh x s e v t ns

-- the links y lead to the physical positions Q in w'; others stand still
pub record Holding (w w' : List ℕ) (sh : Footprint) (y : Links) (Q : Positions) : Type 0 where
  pub tree : Tree
  pub nodes : List ℕ
  pub kept : Represents w' sh y tree nodes
  pub positions-are : (x : ℕ) → x < size → mem (inorder tree) x ≡ Q x
  pub still : SameFrame w w' sh

abbrev pub Sets : List ℕ → List ℕ → Links → Links → ℕ → ℕ → Bool → Type 0
Sets w w' x y s e v =
    (sh : Footprint) (t : Tree) (ns : List ℕ) → MaySet w sh x s e v t ns → Holding w w' sh y (set_range s (suc e - s) v (mem (inorder t)))

-- x is at most one past b
abbrev pub Reaching : ℕ → ℕ → Bool → Type 0
Reaching b x r = r ≡ nat_le x (b + 1)

-- the runs rs are ls, r and us, and r is the first that holds or touches a position from s to e
pub record Touching (rs : List Run) (s e : ℕ) (r : Run) : Type 0 where
  pub ls : List Run
  pub us : List Run
  pub is : rs ≡ ls ++ (r ∷ us)
  pub below : EndBelow (s - 1) ls
  pub from : s ≤ r.«end» + 1
  pub upto : r.start ≤ e + 1

-- none does: the runs ls end before them, and us start after them
pub record Apart (rs : List Run) (s e : ℕ) : Type 0 where
  pub ls : List Run
  pub us : List Run
  pub is : rs ≡ ls ++ us
  pub below : EndBelow (s - 1) ls
  pub from : StartFrom (e + 2) us

-- the runs that the links x lead to are ls and then us
pub record Parted (w : List ℕ) (sh : Footprint) (x : Links) (ls us : List Run) (t : Tree) (ns : List ℕ) : Type 0 where
  pub kept : Represents w sh x t ns
  pub runs-are : inorder t ≡ ls ++ us

-- one of the runs is start .. b
abbrev pub Absorbable : List ℕ → Links → ℕ → ℕ → Type 0
Absorbable w x start b =
    (sh : Footprint) × (ls : List Run) × (us : List Run) × (t : Tree) × (ns : List ℕ) × Parted w sh x ls (run start b ∷ us) t ns

-- of the runs us after start .. b those are left that do not join what reaches up to e; with the others it reaches up to `last`
pub record Absorbed (w w' : List ℕ) (sh : Footprint) (y : Links) (start e last : ℕ) (ls us : List Run) (b : ℕ) : Type 0 where
  pub left : List Run
  pub becomes : Becomes w w' sh y (ls ++ (run start b ∷ left))
  pub joined : (a : ℕ) → a ≤ start → insert a e us ≡ run a last ∷ left

-- it is so however the runs are parted
abbrev pub Absorbs : List ℕ → List ℕ → Links → ℕ → ℕ → ℕ → Reach → Type 0
Absorbs w w' x start b e r =
    (sh : Footprint) (ls us : List Run) (t : Tree) (ns : List ℕ) → Parted w sh x ls (run start b ∷ us) t ns
    → Absorbed w w' sh r.links start e r.«end».0 ls us b

-- the runs are ls, which end before s, and then us, which start at s or after it
pub record Cut (w : List ℕ) (sh : Footprint) (x : Links) (s : ℕ) (ls us : List Run) (t : Tree) (ns : List ℕ) : Type 0 where
  pub parted : Parted w sh x ls us t ns
  pub below : EndBelow s ls
  pub from : StartFrom s us

-- no run goes on from before s
abbrev pub Clearable : List ℕ → Links → ℕ → Type 0
Clearable w x s = (sh : Footprint) × (ls : List Run) × (us : List Run) × (t : Tree) × (ns : List ℕ) × Cut w sh x s ls us t ns

-- of the runs from s on those positions are left that are above e
abbrev pub ClearsFrom : List ℕ → List ℕ → Links → Links → ℕ → ℕ → Type 0
ClearsFrom w w' x y s e =
    (sh : Footprint) (ls us : List Run) (t : Tree) (ns : List ℕ) → Cut w sh x s ls us t ns → Becomes w w' sh y (ls ++ clear s e us)
