-- The lent listing: what a draw that moves it answers. Assumes nothing: these are definitions.
use Rattle.std.specs.Prelude.{Option, Ok, Err}
use Rattle.model.specs.Answers.{OrRefusal, answer_by}
use Rattle.model.specs.declared.Run.{Run}
use Rattle.std.specs.Prelude.{◌≡◌, ℕ, Bool, List}
use Rattle.model.specs.declared.Listing.{Listing}
use Rattle.model.specs.Call.{Call, Answer, gave, drawn}
use Rattle.interval_bit_set.specs.Met.{Site, Met}

abbrev pub listing_of : ℕ → ℕ → Bool → Listing
listing_of a b v = record { first = a; last = b; value = v }

-- the answer of a draw that left the listing l
abbrev pub item_answer : OrRefusal (Option Run) → Listing → Answer
item_answer r l = answer_by (λ o. gave (drawn o l)) r

-- a refused draw does not move the listing
abbrev pub Unmoved : OrRefusal (Option Run) → Listing → Listing → Type 0
Unmoved (Err r) l l' = l' ≡ l
Unmoved (Ok o) l l' = Unit {0}

-- a draw (from the front or the back) of the listing l in world i of the words w answered r and left the listing l'
pub record Draws (draw : Listing → Call Site) (w : List ℕ) (i : ℕ) (l : Listing) (r : OrRefusal (Option Run)) (l' : Listing) : Type 0 where
  pub met : Met w i (draw l) (item_answer r l') w
  pub unmoved : Unmoved r l l'
