-- Calls on a lent slice alone: they have no pool, so they are no calls of the plain model and in no list of demand 3.
-- Assumes nothing: these are definitions.
use Rattle.std.specs.Prelude.{Option, None, Some}
use Rattle.std.specs.Prelude.{List, ℕ}
use Rattle.model.specs.Call.{Result, Answer, refused, gave}

-- what a call on a lent slice alone answers, and the whole slice after it
pub record Handled : Type 0 where
  pub answer : Answer
  pub slice : List ℕ

-- a refused call answers its number alone, and the slice stays
abbrev pub handle : Option ℕ → List ℕ → Result → List ℕ → Handled
handle None bs a cs = record { answer = gave a; slice = cs }
handle (Some n) bs a cs = record { answer = refused n; slice = bs }
