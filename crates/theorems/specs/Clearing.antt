-- Reading and writing maps, as the theorems of cleared maps name them (document 02, Ticket 2). Assumes nothing: these are definitions.
use Rattle.std.specs.Prelude.{ℕ, ◌≡◌, List, take}
use Rattle.model.specs.Call.{Call, written, gave}
use Rattle.model.specs.Model.{Outcome}
use Rattle.model.specs.Clearing.{document_one_reading}
use Rattle.interval_bit_set.specs.Met.{fed_of, full_at, Met}

-- ---- a cleared map
-- how document 01 read the map bs into world i of the words w
abbrev pub old_reading : List ℕ → ℕ → ℕ → ℕ → List ℕ → Outcome
old_reading w i base n bs = document_one_reading (full_at w i) (fed_of w i) base n bs

-- ---- a written map
-- world i of the words w wrote bs as the map of n positions from base on
pub record WritesMap (w : List ℕ) (i base n : ℕ) (bs : List ℕ) : Type 0 where
  pub out : List ℕ
  pub count : ℕ
  pub slice : List ℕ
  pub after : List ℕ
  pub met : Met w i (Call.write_map base n out) (gave (written count slice)) after
  pub bytes : bs ≡ take count slice
