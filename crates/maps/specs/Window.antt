-- A window and its map, and what is counted of them. Assumes nothing: these are definitions.
use Rattle.std.specs.Prelude.{◌≡◌, ℕ, ◌+◌, ◌-◌, ◌*◌, ◌%◌, ◌^◌, ◌≤◌, Bool, true, ◌&&◌, List, length, ◌==◌}
use Rattle.model.specs.declared.between.Interval.{Interval}
use Rattle.model.specs.Numbers.{size, longest}
use Rattle.model.specs.Positions.{Positions, one_if, run_count, stretches, changes}
use Rattle.model.specs.Bytes.{bits, map_bit, mapped, map_length}
use Rattle.pool.specs.declared.World.{World}
use Rattle.pool.specs.Layout.{held_in}
use Rattle.pool.specs.Soundness.{Footprint, Limited}
use Rattle.maps.specs.declared.read.Survey.{Survey}

-- n positions from base on, and the bytes of their map
pub record MapOfWindow (base n : ℕ) (bs : List ℕ) : Type 0 where
  pub some : 1 ≤ n
  pub few : n ≤ longest
  pub within : base + n ≤ size
  pub exact : length bs ≡ map_length n

-- the place of position x in a map that begins at base, counted modulo 2^64
abbrev pub place_in : ℕ → ℕ → ℕ
place_in base x = (x + 2 ^ 64 - base) % 2 ^ 64

-- the positions of the bits from i to e of a map that begins at base
pub record Part (base i e : ℕ) (r : Interval) : Type 0 where
  pub first-is : r.first.0 ≡ base + i
  pub last-is : r.last.0 ≡ base + e

-- whether the eight bits from i on, the first of a byte, all have the value
unfoldable pub whole_b : List ℕ → ℕ → Bool → Bool
whole_b bs i v = (i % 8 == 0) && (bits (map_bit bs) i 8 == one_if v * (2 ^ 8 - 1))

pub record Surveyed (P : Positions) (base n : ℕ) (bs : List ℕ) (s : Survey) : Type 0 where
  pub runs-are : s.runs ≡ run_count (mapped base n bs P) true base n
  pub changed-are : s.changed ≡ changes P (mapped base n bs P)

-- a window of a world may get the map's values: at most as many runs are left as the world may have
pub record Fits (w : List ℕ) (s : Footprint) (h : World) (limit base n : ℕ) (bs : List ℕ) : Type 0 where
  pub limited : Limited w s h limit
  pub window : MapOfWindow base n bs
  pub few : stretches (mapped base n bs (held_in w h)) ≤ limit

abbrev pub MayMap : List ℕ → World → ℕ → ℕ → List ℕ → Type 0
MayMap w h base n bs = (s : Footprint) × (limit : ℕ) × Fits w s h limit base n bs
