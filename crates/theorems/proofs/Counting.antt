-- The counts of AND and OR, over what the calls promise: a tally is the count of the positions held. Assumes nothing.
use Prim.Native.Nat.{ℕ, ◌+◌}
use mathlib.Core.Path.{◌≡◌, sym, ap, ap₂, ◌∙◌}
use mathlib.Core.Bool.{Bool}
use mathlib.Core.List.{List}
use Rattle.model.specs.Ends.{Bound}
use Rattle.model.specs.declared.Operation.{Operation}
use Rattle.model.specs.declared.Operation.TheVariants.{And, Or}
use Rattle.model.specs.Range.{first_allowed, extent}
use Rattle.model.specs.Positions.{count, combined}
use Rattle.model.specs.Call.{Call, tallied, gave}
use Rattle.interval_bit_set.specs.Met.{Site, Met}
use Rattle.theorems.specs.Pairs.{Did, holds}
use Rattle.theorems.proofs.Joining.{counts-add}
use Rattle.theorems.proofs.Calls.{combine-gets, tally-count}

module _ (s t : Site) (l u : Bound) (v : Bool) where
  -- a tally of what was joined
  joined-count : (op : Operation) {w w' w'' : List ℕ} {i n r : ℕ} → Did w i (Call.combine op s t) w' → Met w' i (Call.tally l u v) (gave (tallied n r)) w''
      → n ≡ count (combined op (holds s) (holds t)) v (first_allowed l) (extent l u)
  joined-count op m k = tally-count l u v k ∙ ap (λ P. count P v (first_allowed l) (extent l u)) (combine-gets op s t m).held

  pub tallies-add : {w w' w'' x x' x'' s' t' : List ℕ} {i j n m p q r₁ r₂ r₃ r₄ : ℕ} → Did w i (Call.combine And s t) w' → Met w' i (Call.tally l u v) (gave (tallied n r₁)) w''
      → Did x j (Call.combine Or s t) x' → Met x' j (Call.tally l u v) (gave (tallied m r₂)) x''
      → Met s.words s.world (Call.tally l u v) (gave (tallied p r₃)) s' → Met t.words t.world (Call.tally l u v) (gave (tallied q r₄)) t'
      → n + m ≡ p + q
  tallies-add a b c d e f =
      ap₂ ◌+◌ (joined-count And a b) (joined-count Or c d) ∙ counts-add (holds s) (holds t) v (first_allowed l) (extent l u)
      ∙ sym (ap₂ ◌+◌ (tally-count l u v e) (tally-count l u v f))
