-- What `listset` prints of its input, as ASCII (document 01, "Written sets, maps, fill").
-- Assumes nothing: these are definitions.
use Rattle.std.specs.Prelude.{ℕ, zero, suc, ◌/◌, true, cond, List, [], ◌∷◌, ◌++◌, ltb, length}
use Rattle.listset.specs.Digits.{last_digits}
use Rattle.model.specs.declared.Run.{Run}
use Rattle.model.specs.Numbers.{size}
use Rattle.model.specs.Positions.{Positions, count, held_runs, stretches, empty}
use Rattle.model.specs.Call.{Call, Answer, refused, gave}
use Rattle.model.specs.Model.{planned, Outcome}
use Rattle.model.specs.Pools.{serve_at, alone}

-- how many decimal digits n has, if not more than f + 1
unfoldable pub places : ℕ → ℕ → ℕ
places zero n = 1
places (suc f) n = cond (ltb n 10) 1 (suc (places f (n / 10)))

-- a number of at most 20 digits in decimal, as every count of positions is
unfoldable pub decimal : ℕ → List ℕ
decimal n = last_digits 10 (places 19 n) n

-- the words that are printed, each with the space or line feed after it
abbrev pub space : List ℕ
space = 32 ∷ []

abbrev pub line_feed : List ℕ
line_feed = 10 ∷ []

-- "runs ", "ones ", "refused ", "too long"
abbrev pub runs_word : List ℕ
runs_word = 114 ∷ 117 ∷ 110 ∷ 115 ∷ 32 ∷ []

abbrev pub ones_word : List ℕ
ones_word = 111 ∷ 110 ∷ 101 ∷ 115 ∷ 32 ∷ []

abbrev pub refused_word : List ℕ
refused_word = 114 ∷ 101 ∷ 102 ∷ 117 ∷ 115 ∷ 101 ∷ 100 ∷ 32 ∷ []

abbrev pub too_long_line : List ℕ
too_long_line = 116 ∷ 111 ∷ 111 ∷ 32 ∷ 108 ∷ 111 ∷ 110 ∷ 103 ∷ 10 ∷ []

unfoldable pub refused_line : ℕ → List ℕ
refused_line n = refused_word ++ decimal n ++ line_feed

unfoldable pub count_lines : ℕ → ℕ → List ℕ
count_lines runs ones = runs_word ++ decimal runs ++ line_feed ++ ones_word ++ decimal ones ++ line_feed

unfoldable pub run_line : Run → List ℕ
run_line r = decimal r.start ++ space ++ decimal r.«end» ++ line_feed

unfoldable pub run_lines : List Run → List ℕ
run_lines [] = []
run_lines (r ∷ rs) = run_line r ++ run_lines rs

-- the lines of a set
unfoldable pub set_lines : Positions → List ℕ
set_lines P = count_lines (stretches P) (count P true 0 size) ++ run_lines (held_runs P)

-- the lines of an outcome: the refusal's number alone, or the set
abbrev pub outcome_lines : Answer → Positions → List ℕ
outcome_lines (refused n) P = refused_line n
outcome_lines (gave r) P = set_lines P

-- what loading the bytes into the only world, which is empty, of a pool of capacity 950 comes to: its floor is 0 and its ceiling 950
unfoldable pub loaded : List ℕ → Outcome
loaded bs = serve_at 950 (alone 950 empty) 0 (planned (Call.load bs))

-- WHAT IS PRINTED of the bytes on standard input
unfoldable pub printed : List ℕ → List ℕ
printed bs = cond (ltb 15205 (length bs)) too_long_line (outcome_lines (loaded bs).answer (loaded bs).positions)
