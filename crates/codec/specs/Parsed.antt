-- What bytes are as a written set, before any world is asked. Assumes nothing: these are definitions.
use Rattle.std.specs.Prelude.{None, Some}
use Rattle.std.specs.Prelude.{ℕ, ◌+◌, ◌*◌, ◌≡◌, true, List, length, Result, Ok, Err}
use Rattle.model.specs.declared.Edition.{Edition}
use Rattle.model.specs.declared.Refusal.{Refusal}
use Rattle.model.specs.Numbers.{refusal_number}
use Rattle.model.specs.Bytes.{runs_due, edition_of, decode}
use Rattle.model.specs.Refusals.{refusal, shape_conditions, set_conditions, ordered_from}
use Rattle.codec.specs.declared.told.Told.{Told}

-- bytes that can be mended tell n runs, in the edition e
pub record Shaped (bs : List ℕ) (e : Edition) (n : ℕ) : Type 0 where
  pub free : refusal (shape_conditions bs) ≡ None
  pub edition : e ≡ edition_of bs
  pub due : n ≡ runs_due bs
  pub long : length bs ≡ 5 + 16 * n

-- they are refused for their shape, or t tells them
abbrev pub TellsShape : List ℕ → Result Told Refusal → Type 0
TellsShape bs (Err r) = refusal (shape_conditions bs) ≡ Some (refusal_number r)
TellsShape bs (Ok t) = (t.bytes.now ≡ bs) × Shaped bs t.edition t.count

-- bytes that can be read tell them in order
pub record Acceptable (bs : List ℕ) (e : Edition) (n : ℕ) : Type 0 where
  pub shaped : Shaped bs e n
  pub free : refusal (set_conditions bs) ≡ None
  pub ordered : ordered_from 0 (decode bs) ≡ true

-- they are refused for their shape or their order, or t tells them
abbrev pub TellsRuns : List ℕ → Result Told Refusal → Type 0
TellsRuns bs (Err r) = refusal (set_conditions bs) ≡ Some (refusal_number r)
TellsRuns bs (Ok t) = (t.bytes.now ≡ bs) × Acceptable bs t.edition t.count
