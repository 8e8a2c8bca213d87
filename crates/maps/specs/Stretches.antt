-- The stretches of a map. Assumes nothing: these are definitions.
use Rattle.std.specs.Prelude.{◌≡◌, ℕ, ◌+◌, ◌-◌, ◌<◌, ◌≤◌, List, Option, None, Some}
use Rattle.model.specs.Bytes.{map_bit}
use Rattle.reports.specs.Reports.{StretchEnd}
use Rattle.maps.specs.declared.stretches.Stretch.{Stretch}

-- of n bits, the stretch that begins with bit i, and the bit j after it
pub record NextStretch (bs : List ℕ) (n i : ℕ) (s : Stretch) (j : ℕ) : Type 0 where
  pub first-is : s.first ≡ i
  pub within : i < n
  pub ends : StretchEnd (map_bit bs) s.value i (n - 1) s.last
  pub next-is : j ≡ s.last + 1

-- what comes where the bits from i on are still to come, and from which bit on they are then: none comes after the last bit
abbrev pub GivesStretch : List ℕ → ℕ → ℕ → Option Stretch → ℕ → Type 0
GivesStretch bs n i None j = (n ≤ i) × (j ≡ i)
GivesStretch bs n i (Some s) j = NextStretch bs n i s j
