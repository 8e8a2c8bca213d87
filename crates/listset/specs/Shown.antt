-- What showing an input comes to. Assumes nothing: these are definitions.
use Rattle.std.specs.Prelude.{ℕ, List, Option, Result, Ok, Err, IfSome, ⊤}
use Rattle.std.specs.Io.KnownBytes.{Keeps, Appends}
use Rattle.listset.specs.declared.Failure.{Failure}
use Rattle.listset.specs.declared.Failure.TheVariants.{Input, Output}
use Rattle.listset.specs.Text.{printed}

-- a writer that held `old`, where that is known, holds `new` after the bytes bs were to be shown: what is printed of them follows; where it could
-- not be written, some part of it may. The bytes are there, so no reading fails
abbrev pub Shows : Option (List ℕ) → Option (List ℕ) → List ℕ → Result Unit Failure → Type 0
Shows old new bs (Ok u) = Appends old new (printed bs)
Shows old new bs (Err Input) = ⊥
Shows old new bs (Err Output) = ⊤

-- the same of all bytes that a reader had left, where these are known too; where they could not be read, nothing follows
abbrev pub Lists : Option (List ℕ) → Option (List ℕ) → Option (List ℕ) → Result Unit Failure → Type 0
Lists left old new (Ok u) = IfSome left (λ bs. Appends old new (printed bs))
Lists left old new (Err Input) = Keeps old new
Lists left old new (Err Output) = ⊤
