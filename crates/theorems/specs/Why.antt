-- Why a list stopped, as a caller reads it: over the ranges and the model's own calls alone. Assumes nothing: these are definitions.
use Rattle.std.specs.Prelude.{ℕ, suc, ◌+◌, ◌≤◌, ◌<◌, ◌≡◌, false, List, length, take, get_or}
use Rattle.model.specs.Range.{first_allowed, past_allowed}
use Rattle.model.specs.Positions.{Positions, inside, run_at, mem}
use Rattle.model.specs.declared.between.Range.{Range}
use Rattle.model.specs.Spawning.{entries_of}
use Rattle.union.specs.Entries.{In}
use Rattle.why_full.specs.Placing.{Climbing}

-- x is a position of the range at place p of the list
pub record IsListed (ranges : List Range) (d : Range) (p x : ℕ) : Type 0 where
  pub from : first_allowed (get_or ranges p d).lower ≤ x
  pub before : x < past_allowed (get_or ranges p d).upper

-- the positions of the ranges up to place f and with it
abbrev pub union_up_to : List Range → ℕ → Positions
union_up_to ranges f = mem (take (suc f) (entries_of ranges))

-- the range at place p is the first one listed, up to place f, that has a position in some run of their union
pub record IsFirstInRun (ranges : List Range) (d : Range) (f p : ℕ) : Type 0 where
  pub up_to : p ≤ f
  pub x : ℕ
  pub has : IsListed ranges d p x
  pub first :
      (q y : ℕ) → q < p → IsListed ranges d q y
      → inside (run_at (union_up_to ranges f) x).start (run_at (union_up_to ranges f) x).«end» y ≡ false

-- ps are the places of those ranges, rising, C + 1 of them, and the last of them is f
pub record ArePlaces (C : ℕ) (ranges : List Range) (d : Range) (f : ℕ) (ps : List ℕ) : Type 0 where
  pub many : length ps ≡ C + 1
  pub rising : Climbing 0 ps
  pub last : get_or ps C 0 ≡ f
  pub each : (p : ℕ) → In p ps → IsFirstInRun ranges d f p
  pub all : (p : ℕ) → IsFirstInRun ranges d f p → In p ps
