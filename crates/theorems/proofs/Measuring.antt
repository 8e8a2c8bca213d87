-- The list for the deepest tree, over what its call promises (document 02, Ticket 10): where it is not refused, the front of the slice is the list.
-- Assumes nothing.
use Rattle.std.specs.Prelude.{Option, None, Some}
use Prim.Native.Nat.{ℕ, ◌*◌}
use mathlib.Core.Path.{◌≡◌, ap₂, ◌∙◌}
use mathlib.Core.List.{List}
use native.Mathlib.Omega.{arith}
use lib.Dec.{eqb}
use lib.ListN.{length, take}
use Rattle.model.specs.Bytes.{into_front}
use Rattle.model.specs.Deepest.{least, deepest_words}
use Rattle.model.proofs.Deepest.{deepest-words}
use Rattle.model.specs.Refusals.{refusal}
use Rattle.model.specs.Call.{deepest, written, gave}
use Rattle.model.specs.Pools.{PlainWorld, settle_measured, measure_conditions, measure_by}
use Rattle.pool.specs.Layout.{capacity, worlds_of}
use Rattle.interval_bit_set.specs.Met.{measured_of, Measured}
use Rattle.interval_bit_set.proofs.Putting.{take-front}

-- an answer that is no refusal is what is due
unrefused : (y : Option ℕ) (ws : List PlainWorld) (n k : ℕ) (bs cs : List ℕ) → gave (written n bs) ≡ (settle_measured y ws (written k cs)).answer → (n ≡ k) × (bs ≡ cs)
unrefused None ws n k bs cs e = (cc e, cc e)
unrefused (Some m) ws n k bs cs e = let z : ◌≡◌ {A = ℕ} 0 1 = cc e in absurd (omega arith)

module _ {w : List ℕ} {h : ℕ} {out out' : List ℕ} {n : ℕ} {w' : List ℕ} (m : Measured w (deepest h) out (gave (written n out')) w') where
  -- the number and the slice are those of the list
  told : (n ≡ length (deepest_words h)) × (out' ≡ into_front (deepest_words h) out)
  unfolding measured_of measure_by
  told =
      unrefused (refusal (measure_conditions (eqb (capacity w) 0) (capacity w) (deepest h) out)) (worlds_of w) n (length (deepest_words h)) out' (into_front (deepest_words h) out)
      m.answered

  -- so it has as many words
  pub list-long : n ≡ 2 * least h
  list-long = told.0 ∙ deepest-words h

  -- and they are in front
  pub list-is : take n out' ≡ deepest_words h
  list-is = ap₂ take told.0 told.1 ∙ take-front (deepest_words h) out
