-- What the calls of the benchmarks promise of a pool's world 0: that it is made, grown by sets that look random, and searched.
-- Assumes nothing: these are definitions.
use Rattle.std.specs.Prelude.{◌≡◌, ℕ, zero, suc, ◌+◌, ◌-◌, ◌*◌, ◌/◌, ◌%◌, ◌^◌, ◌<◌, ◌≤◌, bit_xor}
use Rattle.std.specs.Prelude.{Bool, true, false, cond, not, ◌&&◌, ◌==◌, List, nat_le, nat_lt, is_some}
use Rattle.model.specs.Numbers.{size}
use Rattle.model.specs.Positions.{Positions, one_if, empty, gap, set_range, stretches}
use Rattle.model.specs.Pools.{alone}
use Rattle.pool.specs.Layout.{capacity, allowance, held_by}
use Rattle.pool.specs.Free.{Pooled}
use Rattle.pool.specs.Settle.{Settled}
use Rattle.pool.specs.Decision.{sound_b}

-- whether words are a sound pool
abbrev pub is_pool : List ℕ → Bool
is_pool w = not (capacity w == 0) && sound_b w

-- words of a pool's length became a pool of one empty world, with floor 0 and the capacity as its ceiling; any others are as they were
abbrev pub Renewed : List ℕ → List ℕ → Bool → Type 0
Renewed w w' true = Pooled w w' (alone (capacity w) empty)
Renewed w w' false = w' ≡ w

-- ---- random sets
-- z combined with itself moved up by k bits, and moved down
abbrev pub mixed_up : ℕ → ℕ → ℕ
mixed_up k z = bit_xor z (z * 2 ^ k % 2 ^ 64)

abbrev pub mixed_down : ℕ → ℕ → ℕ
mixed_down k z = bit_xor z (z / 2 ^ k)

-- the number that follows z in the row
abbrev pub next_number : ℕ → ℕ
next_number z = mixed_up 17 (mixed_down 7 (mixed_up 13 z))

-- how many positions after `first` a set has, as the number z tells: none where 99 of them would go past the end
abbrev pub more_after : ℕ → ℕ → ℕ
more_after first z = cond (nat_lt (size - 100) first) 0 (z % 100)

-- how far the growing is: the last number of the row, the positions held, and how many sets were admitted
pub record Growth : Type 0 where
  pub number : ℕ
  pub positions : Positions
  pub admitted : ℕ

-- nothing is set yet
abbrev pub ungrown : ℕ → Positions → Growth
ungrown z P = record { number = z; positions = P; admitted = 0 }

-- where the next set starts, and how many positions it has
abbrev pub next_first : Growth → ℕ
next_first g = next_number g.number

abbrev pub next_many : Growth → ℕ
next_many g = suc (more_after (next_first g) (next_number (next_first g)))

-- the positions with the next set
abbrev pub with_next : Growth → Positions
with_next g = set_range (next_first g) (next_many g) true g.positions

-- one set more, which is admitted where it leaves at most so many runs
abbrev pub grown_by : ℕ → Growth → Bool → Growth
grown_by limit g fits = record {
  number = next_number (next_first g);
  positions = cond fits (with_next g) g.positions;
  admitted = one_if fits + g.admitted;
}

-- so many sets more
unfoldable pub grown : ℕ → Growth → ℕ → Growth
grown limit g zero = g
grown limit g (suc n) = grown_by limit (grown limit g n) (nat_le (stretches (with_next (grown limit g n))) limit)

-- world 0 of the words w after n sets, with the row of numbers after z
abbrev pub growth_of : List ℕ → ℕ → ℕ → Growth
growth_of w z n = grown (allowance w 0) (ungrown z (held_by w 0)) n

-- world 0 was to become Q: it did, or Q has more runs than it may have, and the words are as they were
abbrev pub Tried : List ℕ → List ℕ → Positions → Bool → Type 0
Tried w w' Q true = (stretches Q ≤ allowance w 0) × Settled w w' 0 Q
Tried w w' Q false = (allowance w 0 < stretches Q) × (w' ≡ w)

-- n sets in a sound pool w, with the row of numbers after z, left w', and r of them were admitted: those that the model admits
pub record Grows (w w' : List ℕ) (z n r : ℕ) : Type 0 where
  pub admitted : r ≡ (growth_of w z n).admitted
  pub left : Settled w w' 0 (growth_of w z n).positions
  pub most : r ≤ n

-- words that are no sound pool are as they were, and none was
abbrev pub GrowsIf : Bool → List ℕ → List ℕ → ℕ → ℕ → ℕ → Type 0
GrowsIf true w w' z n r = Grows w w' z n r
GrowsIf false w w' z n r = (r ≡ 0) × (w' ≡ w)

-- ---- searches
-- whether world 0 has n neighbouring free positions among the k from `first` on
abbrev pub has_gap : List ℕ → ℕ → ℕ → ℕ → Bool
has_gap w first k n = is_some (gap (held_by w 0) first k n)

-- how many of so many searches find a gap: all or none, and none in words that are no sound pool, in a reversed range or for a gap of length 0
abbrev pub found_in : List ℕ → ℕ → ℕ → ℕ → ℕ → ℕ
found_in w first last n searches =
    cond (is_pool w && (nat_le first last && (nat_le 1 n && has_gap w first (suc last - first) n))) searches 0
