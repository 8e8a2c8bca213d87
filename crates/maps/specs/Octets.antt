-- The bytes of a map, one after the other. Assumes nothing: these are definitions.
use Rattle.std.specs.Prelude.{◌≡◌, ℕ, zero, suc, ◌+◌, ◌-◌, ◌*◌, ◌/◌, ◌<◌, ◌≤◌, min, if◌then◌else◌, nat_le, List, length, slice_set}
use Rattle.model.specs.Numbers.{size}
use Rattle.model.specs.Positions.{Positions}
use Rattle.model.specs.Bytes.{bits, map_length}
use Rattle.streams.specs.declared.sweep.Cursor.{Cursor}
use Rattle.streams.specs.Sweeping.{Points, same_until}

-- a cursor in Q stands at x, before k positions more
pub record Stood (c : Cursor) (x k : ℕ) (Q : Positions) : Type 0 where
  pub points : Points c x Q
  pub some : 1 ≤ k
  pub few : k ≤ 8
  pub within : x + k ≤ size

abbrev pub Placed : Cursor → ℕ → ℕ → Type 0
Placed c x k = (Q : Positions) × Stood c x k Q

-- their bits, and the cursor at the last of them
pub record Octeted (x k r : ℕ) (c : Cursor) (Q : Positions) : Type 0 where
  pub bits_are : r ≡ bits Q x k
  pub points : Points c (x + k - 1) Q

abbrev pub Octets : Cursor → ℕ → ℕ → ℕ → Cursor → Type 0
Octets c x k r c' = (Q : Positions) → Stood c x k Q → Octeted x k r c' Q

-- the bytes f 0, f 1, .. f (n - 1) stored from j on
unfoldable pub stores : (ℕ → ℕ) → ℕ → ℕ → List ℕ → List ℕ
stores f j zero out = out
stores f j (suc n) out = slice_set (stores f j n out) (j + n) (f n)

-- a cursor in Q stands at x, before more than a byte of the left positions of a map, for which there is room from j on
pub record Due (c : Cursor) (x left j : ℕ) (out : List ℕ) (Q : Positions) : Type 0 where
  pub points : Points c x Q
  pub more : 8 < left
  pub within : x + left ≤ size
  pub room : j + map_length left ≤ length out

abbrev pub BytesDue : Cursor → ℕ → ℕ → ℕ → List ℕ → Type 0
BytesDue c x left j out = (Q : Positions) × Due c x left j out Q

-- n bytes of it are there, but not the last one, and the cursor is at their last position
pub record Done (c : Cursor) (x left j : ℕ) (out out' : List ℕ) (n : ℕ) (c' : Cursor) (Q : Positions) : Type 0 where
  -- all those that lie in the stretch of c, where it stood before, or one
  pub many : n ≡ (if nat_le 7 (same_until c.run x - x) then min (same_until c.run x - x + 1) (left - 1) / 8 else 1)
  pub points : Points c' (x + 8 * n - 1) Q
  pub bytes : out' ≡ stores (λ i. bits Q (x + 8 * i) 8) j n out

abbrev pub StoresNext : Cursor → ℕ → ℕ → ℕ → List ℕ → List ℕ → ℕ → Cursor → Type 0
StoresNext c x left j out out' n c' = (Q : Positions) → Due c x left j out Q → Done c x left j out out' n c' Q
