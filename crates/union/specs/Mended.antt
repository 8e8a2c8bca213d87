-- What mending a written set asks of its slices, and what it leaves in them. Assumes nothing: these are definitions.
use Rattle.std.specs.Prelude.{◌≡◌, ℕ, ◌+◌, ◌*◌, ◌≤◌, List, length}
use Rattle.model.specs.declared.Run.{Run}
use Rattle.model.specs.declared.Edition.{Edition}
use Rattle.model.specs.Positions.{held_runs, stretches, mem}
use Rattle.model.specs.Bytes.{encode, into_front}
use Rattle.model.specs.Mending.{fates_from}

-- the union of the runs es has `total` runs, and the slices have room for it and for a byte a run
pub record Due (es : List Run) (total : ℕ) (out report : List ℕ) : Type 0 where
  pub counted : total ≡ stretches (mem es)
  pub room : 5 + 16 * total ≤ length out
  pub room₂ : length es ≤ length report

-- both are written
abbrev pub United : Edition → List Run → List ℕ → List ℕ → List ℕ → List ℕ → Type 0
United e es out report out' report' = (out' ≡ into_front (encode e (held_runs (mem es))) out) × (report' ≡ into_front (fates_from es 0 es) report)
