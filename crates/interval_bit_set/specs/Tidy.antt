-- When the free list is put in order, and what the end of a call promises of it. Assumes nothing: these are definitions.
use Rattle.std.specs.Prelude.{ℕ, ◌/◌, ◌<◌, ◌≤◌, ◌≡◌, List, length, Ok, Err}
use Rattle.model.specs.Answers.{OrRefusal}
use Rattle.pool.specs.Relink.{Tidied, InOrder}

-- w' is such a pool: with its chain in order where that was worn, of the links looked at more leading back than one for 2048 nodes, else with each
-- word as it was
pub record Tidies (w w' : List ℕ) (worn : ℕ) : Type 0 where
  pub tidied : Tidied w w'
  pub in-order : length w / 16384 < worn → InOrder w w'
  pub left : worn ≤ length w / 16384 → w' ≡ w

-- the same unless the call was refused: then every word is as it was
abbrev pub TidiesIf : {T : Type 0} → List ℕ → List ℕ → ℕ → OrRefusal T → Type 0
TidiesIf w w' worn (Err r) = w' ≡ w
TidiesIf w w' worn (Ok x) = Tidies w w' worn

-- the end of a call that answered r, where the chain was so worn at its beginning: it answers that
pub record Ended {T : Type 0} (w w' : List ℕ) (worn : ℕ) (r r' : OrRefusal T) : Type 0 where
  pub answered : r' ≡ r
  pub tidies : TidiesIf w w' worn r
