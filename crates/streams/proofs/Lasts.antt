-- The last part of a reading: its next run is that of the part, clipped to M, and then the rest of the part is to come.
-- Assumes nothing.
use Rattle.std.specs.Prelude.{None, Some}
use Prim.Native.Nat.{ℕ, suc, ◌+◌, ◌-◌, ◌≤◌, ◌<◌, max, min}
use mathlib.Core.Path.{◌≡◌}
use mathlib.Core.List.{List}
use native.Mathlib.Omega.{arith}
use Rattle.model.specs.declared.Run.{Run}
use Rattle.model.specs.Numbers.{size}
use Rattle.model.specs.Positions.{Positions}
use Rattle.pool.specs.Places.{physical_of, logical_of}
use Rattle.streams.specs.declared.source.Path.{Path}
use Rattle.streams.specs.Reading.{Clear, RunFrom, InPart, Pops}
use Rattle.streams.proofs.Parts.{found-run, part_none, pop-clear, pop-found, pop-then}

-- a position m that is kept, as the caller counts it
pub unwrapped : (m o a : ℕ) → m + o < size → a ≡ logical_of m o → a ≡ m + o
unwrapped m o a h e = omega arith

pub wrapped : (m o a : ℕ) → size ≤ m + o → m < size → o < size → a ≡ logical_of m o → a + size ≡ m + o
wrapped m o a h k l e = omega arith

-- and y, as it is kept
pub kept_last : (y o q : ℕ) → o ≤ y → y < size → q ≡ physical_of y o → q ≡ y + 0 - o
kept_last y o q h k e = omega arith

module _ {w : List ℕ} {p p' : Path} {o y : ℕ} {Q : Positions} (i : InPart w p o 0 size y Q) where
  -- nothing is on the path
  pub last_none : Pops w p None p' → Clear y Q
  last_none ps = part_none i ps

  module _ {x : Run} (ps : Pops w p (Some x) p') where
    -- it starts past M, which is kept at t
    pub last-past : {t : ℕ} → o < size → t ≡ physical_of (size - 1) o → t < x.start → Clear y Q
    last-past {t} os et l z g k =
        let e : t ≡ size - 1 - o = omega arith in
        pop-clear i ps z g k (omega arith)

    -- it starts before M: it ends there or before
    module _ (small : y < size) (os : o < size) {t : ℕ} (et : t ≡ physical_of (size - 1) o) (lo : x.start ≤ t) {q m n a b : ℕ}
        (eq : q ≡ physical_of y o) (em : m ≡ max x.start q) (ea : a ≡ logical_of m o) (en : n ≡ min x.«end» t) (eb : b ≡ logical_of n o) where
      is-t : t ≡ size - 1 - o
      is-t = omega arith

      at-q : q ≡ y + 0 - o
      at-q = let g = i.past in kept_last y o q (omega arith) small eq

      is-a : a + 0 ≡ max x.start (y + 0 - o) + o
      is-a = let e = unwrapped m o a (omega (arith, i.past, at-q, is-t)) ea in omega (arith, at-q)

      is-b : b ≡ min x.«end» (size - 1 - o) + o
      is-b = let e = unwrapped n o b (omega (arith, is-t)) eb in omega (arith, is-t)

      in-a : a < size
      in-a = omega (arith, is-a, i.past, is-t)

      pub last-run : RunFrom y a b Q
      last-run =
          found-run
          (pop-found i ps small a b is-a in-a (omega (arith, is-b)) (omega (arith, is-b)) (λ l. omega (arith, is-b)))
          (omega arith)
          (λ e l. absurd (omega arith))

      pub last-then : InPart w p' o 0 size (suc b) Q
      last-then = pop-then i ps small a b is-a in-a (omega (arith, is-b)) (omega (arith, is-b)) (λ l. omega (arith, is-b))
