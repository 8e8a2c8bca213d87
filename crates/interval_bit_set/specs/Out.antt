-- Calls that write into a lent slice. Assumes nothing: these are definitions.
use Rattle.std.specs.Prelude.{Ok, Err}
use Rattle.model.specs.Answers.{OrRefusal}
use Rattle.model.specs.declared.Mended.{Mended}
use Rattle.std.specs.Prelude.{ℕ, ◌≡◌, Bool, List}
use Rattle.model.specs.declared.Edition.{Edition}
use Rattle.model.specs.Answers.{written_answer, mended_answer}
use Rattle.model.specs.Bytes.{decode}
use Rattle.model.specs.RunList.{AllBytes}
use Rattle.model.specs.Refusals.{ordered_from}
use Rattle.model.specs.Call.{Call, Measure}
use Rattle.codec.specs.Parsed.{Shaped}
use Rattle.interval_bit_set.specs.Met.{Site, Met, Measured}

-- a refusal leaves the slice
abbrev pub Unwritten : OrRefusal ℕ → List ℕ → List ℕ → Type 0
Unwritten (Err r) out out' = out' ≡ out
Unwritten (Ok n) out out' = Unit {0}

-- the call c on world i of the words w and the slice out answered r and left the slice out'
pub record WritesOut (c : List ℕ → Call Site) (w : List ℕ) (i : ℕ) (out : List ℕ) (r : OrRefusal ℕ) (out' : List ℕ) : Type 0 where
  pub met : Met w i (c out) (written_answer r out') w
  pub unwritten : Unwritten r out out'

-- ---- measuring
-- measuring the words w for q, with the slice out, answered r and left the slice out'
pub record WritesMeasured (w : List ℕ) (q : Measure) (out : List ℕ) (r : OrRefusal ℕ) (out' : List ℕ) : Type 0 where
  pub measured : Measured w q out (written_answer r out') w
  pub unwritten : Unwritten r out out'

-- ---- mending (document 02, Ticket 9)
-- a refusal leaves both slices
abbrev pub Unmended : OrRefusal Mended → List ℕ → List ℕ → List ℕ → List ℕ → Type 0
Unmended (Err r) out out' report report' = (out' ≡ out) × (report' ≡ report)
Unmended (Ok m) out out' report report' = Unit {0}

-- bytes that tell n runs in the edition e, and whether these are in order
pub record Mendable (bs : List ℕ) (e : Edition) (n : ℕ) (right : Bool) : Type 0 where
  pub bytes : AllBytes bs
  pub shaped : Shaped bs e n
  pub tested : right ≡ ordered_from 0 (decode bs)

-- mending the bytes bs into world i of the words w answered r and left the words w' and the slices out' and report'
pub record Mends (w : List ℕ) (i : ℕ) (bs out report : List ℕ) (r : OrRefusal Mended) (w' out' report' : List ℕ) : Type 0 where
  pub met : Met w i (Call.mend bs out report) (mended_answer r out' report') w'
  pub unmended : Unmended r out out' report report'
