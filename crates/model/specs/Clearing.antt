-- Clearing a map's spare bits (document 02, Ticket 2). The call has no pool, so it is no call of the plain model and in no list of demand 3.
-- Assumes nothing: these are definitions.
use Rattle.std.specs.Prelude.{Bool, List, [], ◌∷◌, ℕ}
use Rattle.model.specs.Bytes.{stray_bits, cleared, mapped}
use Rattle.model.specs.Refusals.{window, ◌when◌, refusal, bad_window, bad_map}
use Rattle.model.specs.Call.{Fed, number}
use Rattle.model.specs.Handled.{Handled, handle}
use Rattle.model.specs.Model.{counting, Outcome, serve}

-- zeroes the spare bits, and answers how many were one; refused with 6 only
unfoldable pub clear_map : ℕ → ℕ → List ℕ → Handled
clear_map base n bs = handle (refusal (window when bad_window base n ∷ window when bad_map n bs ∷ [])) bs (number (stray_bits n bs)) (cleared n bs)

-- how document 01 read a map, before this ticket: whatever its spare bits were. Kept for one law alone, that `serve` reads the cleared map so.
unfoldable pub document_one_reading : (ℕ → Bool) → Fed → ℕ → ℕ → List ℕ → Outcome
document_one_reading full s base n bs = serve full s (counting (window when bad_window base n ∷ window when bad_map n bs ∷ []) (mapped base n bs))
