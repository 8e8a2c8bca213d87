-- What a reader tells of a set of positions, and what its functions ask and promise. Callers use `Reads`, `Draws` and their parts; `Ahead` is the
-- reader's own. Assumes nothing: these are definitions.
use Rattle.std.specs.Prelude.{ℕ, suc, ◌+◌, ◌-◌, ◌≤◌, ◌<◌, ◌≡◌, Bool, true, false, cond, List, [], ◌∷◌, ◌++◌, ltb, eqb, length, Option, None, Some}
use Rattle.model.specs.declared.Run.{Run}
use Rattle.model.specs.declared.Logical.{Logical}
use Rattle.model.specs.Numbers.{size}
use Rattle.model.specs.Positions.{Positions, run, mem}
use Rattle.model.specs.RunList.{Canon}
use Rattle.run_index.specs.Tree.{Tree, node, inorder, height, Rep, At}
use Rattle.pool.specs.Layout.{physical_runs, highest}
use Rattle.streams.specs.declared.source.View.{View}
use Rattle.streams.specs.declared.source.Path.{Path}
use Rattle.streams.specs.declared.source.Reader.{Reader}

-- at p is a tree that can be read: its runs are canonical, and a path has room for the way to any of its nodes
pub record Rooted (w : List ℕ) (p : ℕ) : Type 0 where
  -- the tag of its nodes, whatever it is
  pub tag : ℕ
  -- the tree
  pub tree : Tree
  -- links name nodes, and each has this tag; heights and sums are right
  pub at : At w tag p tree
  -- in order, start ≤ end and each start ≥ previous end + 2
  pub ordered : Canon size 0 (inorder tree)
  -- no node is deeper than the path is long
  pub low : height tree ≤ highest

-- nothing is held from x on
abbrev pub Clear : ℕ → Positions → Type 0
Clear x Q = (z : ℕ) → x ≤ z → z < size → Q z ≡ false

-- a .. b is the first run of Q from x on
pub record RunFrom (x a b : ℕ) (Q : Positions) : Type 0 where
  pub onward : x ≤ a
  pub ordered : a ≤ b
  pub small : b < size
  pub clear : (z : ℕ) → x ≤ z → z < a → Q z ≡ false
  pub held : (z : ℕ) → a ≤ z → z ≤ b → Q z ≡ true
  pub stops : suc b < size → Q (suc b) ≡ false

-- THE NEXT RUN of a reading that has Q from x on, and what it has then; or nothing is left
abbrev pub Draws : {A : Type 0} → (A → ℕ → Positions → Type 0) → A → Option Run → A → Type 0
Draws Has a None a' = (x : ℕ) (Q : Positions) → Has a x Q → Clear x Q × Has a' x Q
Draws Has a (Some r) a' = (x : ℕ) (Q : Positions) → Has a x Q → RunFrom x r.start r.«end» Q × Has a' (suc r.«end») Q

-- how many positions there are from one on, if there is one
abbrev pub positions_from : Option Logical → ℕ
positions_from None = 0
positions_from (Some a) = size - a.0

-- the position after x, if there is one
abbrev pub After : ℕ → Option Logical → Type 0
After x None = size ≤ suc x
After x (Some a) = a.0 ≡ suc x

-- ---- the path
-- the nodes of a path, the last one first, have the runs rs to come: each its own, and those of its right side; whatever tags they have
pub data Rest (w : List ℕ) : List ℕ → List Run → Type 0 where
  none : Rest w [] []
  more :
      {path ks : List ℕ} {n a b g : ℕ} {l r : Tree} {rs : List Run}
      → path ≡ ks ++ n ∷ []
      → Rep w g (node n a b l r)
      → height (node n a b l r) + length ks ≤ highest
      → Rest w ks rs
      → Rest w path (run a b ∷ (inorder r ++ rs))

-- the path has the runs rs to come, in order
pub record OnPath (w : List ℕ) (p : Path) (rs : List Run) : Type 0 where
  pub rest : Rest w p.nodes.items rs
  pub ordered : Canon size 0 rs

-- the runs of a list from p on
abbrev pub from : ℕ → List Run → List Run
from p [] = []
from p (r ∷ rs) = cond (ltb r.«end» p) (from p rs) (r ∷ rs)

-- descending the tree t at a link, whatever its tag, puts its runs from p on before those to come
pub record Below (w : List ℕ) (p : Path) (link : ℕ) (t : Tree) (rs : List Run) : Type 0 where
  pub tag : ℕ
  pub at : At w tag link t
  pub ordered : Canon size 0 (inorder t)
  pub low : height t + length p.nodes.items ≤ highest
  pub rest : Rest w p.nodes.items rs

abbrev pub Descendable : List ℕ → Path → ℕ → Type 0
Descendable w p link = (t : Tree) × (rs : List Run) × Below w p link t rs

abbrev pub Descends : List ℕ → Path → ℕ → ℕ → Path → Type 0
Descends w p link q p' =
    (t : Tree) (rs : List Run) → Below w p link t rs → Rest w p'.nodes.items (from q (inorder t) ++ rs)

-- the run x is taken off the path
pub record Taken (w : List ℕ) (p' : Path) (x : Run) (rs : List Run) : Type 0 where
  pub others : List Run
  pub is : rs ≡ x ∷ others
  pub on : OnPath w p' others

abbrev pub Pops : List ℕ → Path → Option Run → Path → Type 0
Pops w p None p' = (rs : List Run) → OnPath w p rs → (rs ≡ []) × OnPath w p' []
Pops w p (Some x) p' = (rs : List Run) → OnPath w p rs → Taken w p' x rs

-- the nearest run starts at 0
abbrev pub starts_at_zero : List Run → Bool
starts_at_zero [] = false
starts_at_zero (r ∷ rs) = eqb r.start 0

abbrev pub TellsZero : List ℕ → Path → Bool → Type 0
TellsZero w p b = (rs : List Run) → OnPath w p rs → b ≡ starts_at_zero rs

-- ---- the reader
-- the first of the runs ends at p or later
abbrev pub EndsFrom : ℕ → List Run → Type 0
EndsFrom p [] = Unit {0}
EndsFrom p (r ∷ rs) = p ≤ r.«end»

-- of Q from y on the part up to top is to come, in which position z is kept at z + s - o: the last part, from o on, has s = 0 and reaches
-- to M, and the first, below o, has s = 2^64
pub record InPart (w : List ℕ) (p : Path) (o s top y : ℕ) (Q : Positions) : Type 0 where
  pub runs : List Run
  pub on : OnPath w p runs
  pub reach : EndsFrom (y + s - o) runs
  pub past : o ≤ y + s
  pub tells : (z : ℕ) → y ≤ z → z < top → Q z ≡ mem runs (z + s - o)

abbrev pub InLast : List ℕ → View → Path → ℕ → Positions → Type 0
InLast w v p y Q = InPart w p v.offset 0 size y Q

-- some of the first part, and then all of the last
pub record InFirst (w : List ℕ) (v : View) (p : Path) (y : ℕ) (Q : Positions) : Type 0 where
  pub part : InPart w p v.offset size v.offset y Q
  pub before : y < v.offset
  pub small : v.offset < size
  pub then : (z : ℕ) → v.offset ≤ z → z < size → Q z ≡ mem (physical_runs w v.root) (z - v.offset)

-- what is to come of Q from y on
pub data Ahead (w : List ℕ) (v : View) (p : Path) (y : ℕ) (Q : Positions) : Type 0 where
  lastly : InLast w v p y Q → Ahead w v p y Q
  firstly : InFirst w v p y Q → Ahead w v p y Q

-- a reader that stands at y, in the last part, in the first, and in either
pub record LastAt (r : Reader) (y : ℕ) (Q : Positions) : Type 0 where
  pub rooted : Rooted r.words.now r.view.root
  pub part : InLast r.words.now r.view r.path y Q

pub record FirstAt (r : Reader) (y : ℕ) (Q : Positions) : Type 0 where
  pub rooted : Rooted r.words.now r.view.root
  pub part : InFirst r.words.now r.view r.path y Q

pub record Stands (r : Reader) (y : ℕ) (Q : Positions) : Type 0 where
  pub rooted : Rooted r.words.now r.view.root
  pub ahead : Ahead r.words.now r.view r.path y Q

-- it finds the next run, and stands after it
abbrev pub Finds : (Reader → ℕ → Positions → Type 0) → Reader → ℕ → Option Run → Reader → Type 0
Finds At r y None r' = (Q : Positions) → At r y Q → Clear y Q × Rooted r'.words.now r'.view.root × (r'.from ≡ r.from)
Finds At r y (Some x) r' = (Q : Positions) → At r y Q → RunFrom y x.start x.«end» Q × Stands r' (suc x.«end») Q

-- Q from y on is to be read from a position on, or nothing is left of it
abbrev pub Left : List ℕ → View → Path → ℕ → Positions → Option Logical → Type 0
Left w v p y Q None = Clear y Q
Left w v p y Q (Some a) = (a.0 ≡ y) × Ahead w v p y Q

-- A READER that has Q to read from y on
pub record Reads (r : Reader) (y : ℕ) (Q : Positions) : Type 0 where
  pub rooted : Rooted r.words.now r.view.root
  pub left : Left r.words.now r.view r.path y Q r.from
