-- Runs that are set one by one by the public call, each set as that call promises. Assumes nothing: these are definitions.
use Rattle.std.specs.Prelude.{ℕ, ◌≡◌, true, List, [], ◌∷◌, Ok}
use Rattle.std.specs.declared.ops.Bound.TheVariants.{Included}
use Rattle.model.specs.declared.Count.{Count}
use Rattle.model.specs.declared.Run.{Run}
use Rattle.model.specs.Answers.{counted_answer}
use Rattle.model.specs.Call.{Call}
use Rattle.interval_bit_set.specs.Met.{Met}
use Rattle.interval_bit_set.specs.Grown.{Grows}

-- the run r was set in world i of the words w: the call was not refused, and left w'
pub record SetRun (w : List ℕ) (i : ℕ) (r : Run) (w' : List ℕ) : Type 0 where
  pub changed : Count
  pub met : Met w i (Call.set (Included r.start) (Included r.«end») true) (counted_answer (Ok changed)) w'
  pub grows : Grows w i (Included r.start) (Included r.«end») true (Ok changed) w'

-- the runs were set one by one, and the last set left w'
abbrev pub SetOneByOne : List ℕ → ℕ → List Run → List ℕ → Type 0
SetOneByOne w i [] w' = w' ≡ w
SetOneByOne w i (r ∷ rs) w' = (v : List ℕ) × SetRun w i r v × SetOneByOne v i rs w'
