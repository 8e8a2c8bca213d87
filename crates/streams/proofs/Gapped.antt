-- The lowest gap and the runs that a reader hands out: what a reader that stands at x tells of the lowest gap from x on. From the laws of a gap
-- (model/proofs/Gaps.antt) and what a reader promises. Assumes nothing.
use Rattle.std.specs.Prelude.{None, Some}
use Prim.Native.Nat.{ℕ, suc, ◌+◌, ◌-◌, ◌≤◌, ◌<◌, min, max}
use mathlib.Core.Path.{◌≡◌, refl, sym, ◌∙◌, subst}
use mathlib.Core.Bool.{false}
use native.Mathlib.Omega.{arith}
use native.Mathlib.Numerals.{add-one}
use Rattle.model.specs.declared.Run.{Run}
use Rattle.model.specs.Numbers.{size}
use Rattle.model.specs.Positions.{Positions, gap}
use Rattle.model.proofs.Gaps.{Taken, gap_here, gap_from, gap-none}
use Rattle.streams.specs.declared.source.Reader.{Reader}
use Rattle.streams.specs.Reading.{RunFrom, Draws, Reads}

-- a range with fewer than n positions has no gap
pub gap-short : (Q : Positions) (a b n : ℕ) → a ≤ b → b - a < n - 1 → gap Q a (suc b - a) n ≡ None
gap-short Q a b n h l = gap-none Q a (suc b - a) n (omega arith)

-- a search of the range from a to b that stands at x: the reader has Q from there on, n positions are left, and the lowest gap is that of what
-- is left
pub record Sought (r : Reader) (a b n x : ℕ) (Q : Positions) : Type 0 where
  pub reads : Reads r x Q
  pub room : x + n ≤ suc b
  pub same : gap Q a (suc b - a) n ≡ gap Q x (suc b - x) n

-- at the range's first position
pub sought-first : {r : Reader} {a b n : ℕ} {Q : Positions} → a ≤ b → 1 ≤ n → n - 1 ≤ b - a → Reads r a Q → Sought r a b n a Q
sought-first h one l r = record { reads = r; room = omega arith; same = refl }

module _ {r : Reader} {a b n x : ℕ} {Q : Positions} (k : Sought r a b n x Q) where
  -- n free positions from x on are the lowest gap
  found : ((z : ℕ) → x ≤ z → z < x + n → Q z ≡ false) → gap Q a (suc b - a) n ≡ Some x
  found f = k.same ∙ gap_here Q x (suc b - x) n (omega (arith, k.room)) f

  -- no run is left
  pub sought-clear : {r' : Reader} → Draws Reads r None r' → b < size → gap Q a (suc b - a) n ≡ Some x
  sought-clear d small = let c = (d x Q k.reads).0 in found (λ z i j. c z i (omega (arith, k.room)))

  -- a run is handed out
  module _ {u : Run} {r' : Reader} (d : Draws Reads r (Some u) r') where
    pub sought-run : RunFrom x u.start u.«end» Q
    sought-run = (d x Q k.reads).0

    -- n positions before it are free
    pub sought-before : n ≤ u.start - x → gap Q a (suc b - a) n ≡ Some x
    sought-before l = found (λ z i j. sought-run.clear z i (omega arith))

    module _ (one : 1 ≤ n) (few : u.start - x < n) where
      -- with fewer before it, what starts before it has its first position, and what starts in it is held
      taken : (y : ℕ) → x ≤ y → y ≤ u.«end» → Taken Q y n
      taken y i j =
          let z = max y u.start in
          (z, omega arith, omega (arith, sought-run.onward), sought-run.held z (omega arith) (omega (arith, sought-run.ordered)))

      -- so there is no gap where fewer are left after it
      pub sought-over : b - u.«end» < n → gap Q a (suc b - a) n ≡ None
      sought-over l =
          let z = min (suc u.«end») (suc b) in
          k.same ∙ gap_from Q x z (suc b) n (omega (arith, k.room, sought-run.onward, sought-run.ordered)) (omega arith) one (λ y i j m. taken y i (omega arith))
          ∙ gap-none Q z (suc b - z) n (omega arith)

      -- and else the search goes on after it
      pub sought-on : n ≤ b - u.«end» → Sought r' a b n (u.«end» + 1) Q
      sought-on l = record {
        reads = subst (λ z. Reads r' z Q) (sym (add-one u.«end»)) (d x Q k.reads).1;
        room = omega arith;
        same =
            k.same
            ∙ gap_from Q x (u.«end» + 1) (suc b) n (omega (arith, sought-run.onward, sought-run.ordered)) (omega arith) one (λ y i j m. taken y i (omega arith));
      }
