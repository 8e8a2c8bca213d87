-- How the calls of the laws are written: a call that was done, and two worlds that are each shifted once. Assumes nothing: these are definitions.
use Rattle.std.specs.Prelude.{ℕ, ◌≡◌, Bool, List}
use Rattle.model.specs.Positions.{Positions}
use Rattle.model.specs.Call.{Call, done, Answer, gave}
use Rattle.pool.specs.Layout.{held_by, worlds_of}
use Rattle.interval_bit_set.specs.Met.{Site, site, Met}

-- the call c on world i of the words w was done: it was not refused, gave success alone and left the words w'
abbrev pub Did : List ℕ → ℕ → Call Site → List ℕ → Type 0
Did w i c w' = Met w i c (gave done) w'

-- the positions of a world of a pool
abbrev pub holds : Site → Positions
holds s = held_by s.words s.world

-- world i of w, which is w' now, and world j of v, which is v' now, hold the same; and where the two pools had the same worlds before, and both numbers
-- are one, they have the same worlds now: positions, floors, ceilings and how many
abbrev pub SameLeft : List ℕ → ℕ → List ℕ → List ℕ → ℕ → List ℕ → Type 0
SameLeft w i w' v j v' = (held_by w' i ≡ held_by v' j) × (worlds_of w ≡ worlds_of v → i ≡ j → worlds_of w' ≡ worlds_of v')

-- `shift` by d on each of two worlds, once, which answers a and b: they are worlds of two pools; two worlds of one pool, of which either may be the first
-- to be shifted; or one world
pub data BothShift (d : ℕ) (left : Bool) : Answer → Answer → Site → Site → Site → Site → Type 0 where
  two_pools :
      {u u' v v' : List ℕ} {j k : ℕ} {a b : Answer}
      → Met u j (Call.shift d left) a u'
      → Met v k (Call.shift d left) b v'
      → BothShift d left a b (site u j) (site v k) (site u' j) (site v' k)
  one_pool :
      {u u' u'' : List ℕ} {j k : ℕ} {a b : Answer}
      → (j ≡ k → ⊥)
      → Met u j (Call.shift d left) a u'
      → Met u' k (Call.shift d left) b u''
      → BothShift d left a b (site u j) (site u k) (site u'' j) (site u'' k)
  one_pool_turned :
      {u u' u'' : List ℕ} {j k : ℕ} {a b : Answer}
      → (j ≡ k → ⊥)
      → Met u k (Call.shift d left) b u'
      → Met u' j (Call.shift d left) a u''
      → BothShift d left a b (site u j) (site u k) (site u'' j) (site u'' k)
  one_world :
      {u u' : List ℕ} {j : ℕ} {a : Answer}
      → Met u j (Call.shift d left) a u'
      → BothShift d left a a (site u j) (site u j) (site u' j) (site u' j)

-- `shifted` by d of each of two worlds, once, into two pools; into two worlds of one pool, of which either may be the first; or of one world, into one
pub data BothShifted (d : ℕ) (left : Bool) : Site → Site → Site → Site → Type 0 where
  into_pools :
      {s t : Site} {u u' v v' : List ℕ} {j k : ℕ}
      → Did u j (Call.shifted d left s) u'
      → Did v k (Call.shifted d left t) v'
      → BothShifted d left s t (site u' j) (site v' k)
  into_pool :
      {s t : Site} {u u' u'' : List ℕ} {j k : ℕ}
      → (j ≡ k → ⊥)
      → Did u j (Call.shifted d left s) u'
      → Did u' k (Call.shifted d left t) u''
      → BothShifted d left s t (site u'' j) (site u'' k)
  into_pool_turned :
      {s t : Site} {u u' u'' : List ℕ} {j k : ℕ}
      → (j ≡ k → ⊥)
      → Did u k (Call.shifted d left t) u'
      → Did u' j (Call.shifted d left s) u''
      → BothShifted d left s t (site u'' j) (site u'' k)
  into_world :
      {s : Site} {u u' : List ℕ} {j : ℕ}
      → Did u j (Call.shifted d left s) u'
      → BothShifted d left s s (site u' j) (site u' j)

-- shifts in place of worlds of one pool, by any distances and either way, refused ones too, led from the words w to the words w'
pub data Shifts : List ℕ → List ℕ → Type 0 where
  none : {w : List ℕ} → Shifts w w
  shift :
      {w w' w'' : List ℕ} {j d : ℕ} {left : Bool} {a : Answer}
      → Met w j (Call.shift d left) a w'
      → Shifts w' w''
      → Shifts w w''
