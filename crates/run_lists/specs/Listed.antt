-- Runs as words, and what may follow a run of a list in order. Assumes nothing: these are definitions.
use Rattle.std.specs.Prelude.{ℕ, zero, suc, ◌+◌, Option, Some, None, List, [], ◌∷◌, get_or, drop}
use Rattle.model.specs.declared.Run.{Run}
use Rattle.run_lists.specs.declared.Runs.{Runs}
use Rattle.model.specs.Positions.{run}

-- the least start after a run that ended at last; the first run of a list has none before it
abbrev pub least_after : Option ℕ → ℕ
least_after None = 0
least_after (Some last) = last + 2

-- the first n runs of a list of words
unfoldable pub pairs : ℕ → List ℕ → List Run
pairs zero ws = []
pairs (suc n) ws = run (get_or ws 0 0) (get_or ws 1 0) ∷ pairs n (drop 2 ws)

-- the runs that are still to come, of those that `runs` reads of a list
abbrev pub left : {L : Type 0} → (L → List Run) → Runs L → List Run
left runs s = drop s.next (runs s.list)
