-- THEOREMS ABOUT THE PLAIN MODEL ALONE: the worked cases, and tables of bytes. Assumes nothing: these are statements.
use Rattle.std.specs.Prelude.{ℕ, ◌*◌, ◌≡◌, List, length}
use Rattle.model.specs.Bytes.{columns}
use Rattle.model.specs.Cases.{AllHold, table}
use Rattle.model.specs.Worked.{Worked-cases}

-- the worked cases hold: the sixteen and more calls on one world; and those of cells, pools of several worlds, measured lists, and slices alone
abbrev pub Cases-hold : Type 0
Cases-hold = AllHold table

abbrev pub Worked-hold : Type 0
Worked-hold = Worked-cases

-- a table of any number of rows and columns of bytes, arranged by its columns, is had back by arranging that by its rows
abbrev pub Columns-back : Type 0
Columns-back = (R C : ℕ) (bs : List ℕ) → length bs ≡ R * C → columns C R (columns R C bs) ≡ bs
