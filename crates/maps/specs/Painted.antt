-- Words of a map, and painting: some bits become 1, the others stay. Assumes nothing: these are definitions.
use Rattle.std.specs.Prelude.{◌≡◌, ℕ, zero, suc, ◌+◌, ◌*◌, ◌/◌, ◌%◌, ◌^◌, ◌<◌, ◌≤◌, Bool, true, false, cond, ◌&&◌, ◌||◌, ◌⊎◌, List, length, ◌==◌, nat_le, nat_lt, slice_index}
use Rattle.model.specs.Positions.{inside}
use Rattle.model.specs.Bytes.{bits, map_bit}
use Rattle.run_index.specs.Cells.{cell_at}
use Rattle.pool.specs.declared.World.{World}
use Rattle.pool.specs.Places.{physical_of}
use Rattle.pool.specs.Soundness.{Footprint, Apart, Standing}

-- ---- words
-- the k bytes from j on are the low bits of v, the lowest in the first of them, and the others are as they were
pub record Puts (out out' : List ℕ) (j k v : ℕ) : Type 0 where
  pub here : bits (map_bit out') (8 * j) (8 * k) ≡ v % 2 ^ (8 * k)
  pub there : (i : ℕ) → (i < j) ⊎ (j + k ≤ i) → slice_index out' i ≡ slice_index out i
  pub long : length out' ≡ length out

-- ---- painting
-- the bits of the word q that are bits of v are 1, and all others as they were
pub record Adds (out out' : List ℕ) (q v : ℕ) : Type 0 where
  pub here : (b : ℕ) → b < 64 → map_bit out' (64 * q + b) ≡ map_bit out (64 * q + b) || v / 2 ^ b % 2 == 1
  pub there : (i : ℕ) → (i < 64 * q) ⊎ (64 * q + 64 ≤ i) → map_bit out' i ≡ map_bit out i
  pub long : length out' ≡ length out

-- the bits from a on, before e, are 1, and the others as they were
pub record Paints (out out' : List ℕ) (a e : ℕ) : Type 0 where
  pub here : (i : ℕ) → a ≤ i → i < e → map_bit out' i ≡ true
  pub there : (i : ℕ) → (i < a) ⊎ (e ≤ i) → map_bit out' i ≡ map_bit out i
  pub long : length out' ≡ length out

-- i is one of f, f + 1, .. l, where 2^64 − 1 is followed by 0
unfoldable pub round : ℕ → ℕ → ℕ → Bool
round f l i = cond (nat_le f l) (inside f l i) (nat_le f i || nat_le i l)

-- of the first n bits those that such a run has are 1, and all others as they were
pub record PaintsRun (map map' : List ℕ) (n f l : ℕ) : Type 0 where
  pub bits_are : (i : ℕ) → map_bit map' i ≡ (nat_lt i n && round f l i) || map_bit map i
  pub long : length map' ≡ length map

-- ---- nodes
-- the physical position p is in the run of node m, which has a height and the tag g
unfoldable pub shows : List ℕ → ℕ → ℕ → ℕ → Bool
shows w g p m = nat_lt 0 (cell_at w m).height && ((cell_at w m).tag == g && inside (cell_at w m).start (cell_at w m).«end» p)

-- of one of the nodes 1 .. m
unfoldable pub shown_to : List ℕ → ℕ → ℕ → ℕ → Bool
shown_to w g p zero = false
shown_to w g p (suc m) = shown_to w g p m || shows w g p (suc m)

-- of the n bits from base on those that the first m nodes show are 1, and all others as they were
pub record PaintsNodes (w : List ℕ) (h : World) (base n m : ℕ) (map map' : List ℕ) : Type 0 where
  pub bits_are : (i : ℕ) → map_bit map' i ≡ (nat_lt i n && shown_to w h.tag (physical_of (base + i) h.offset) m) || map_bit map i
  pub long : length map' ≡ length map

-- a world whose nodes are told by their tag
pub record Scans (w : List ℕ) (s : Footprint) (h : World) : Type 0 where
  pub standing : Standing w s h
  pub apart : Apart w s

abbrev pub Scannable : List ℕ → World → Type 0
Scannable w h = (s : Footprint) × Scans w s h
