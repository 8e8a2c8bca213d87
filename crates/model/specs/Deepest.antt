-- The shortest list of runs that makes a tree of height h, set one by one in that order into an empty world (document 02, Ticket 10). Which one
-- is left open there; this one follows from h alone. Assumes nothing: these are definitions.
use Rattle.std.specs.Prelude.{List, [], ◌∷◌, ◌++◌, ℕ, zero, suc, ◌+◌, ◌-◌, ◌*◌}
use Rattle.model.specs.declared.Run.{Run}
use Rattle.model.specs.Positions.{run}

-- how many runs it has: 1, 2, 4, 7, 12 and so on, each one more than the last two together
unfoldable pub least : ℕ → ℕ
least zero = 0
least (suc zero) = 1
least (suc (suc h)) = least (suc h) + least h + 1

-- the middle one of `least h` ranks from k on parts them into `least (h − 1)` lesser and `least (h − 2)` greater ones
abbrev pub middle : ℕ → ℕ → List ℕ
middle zero k = []
middle (suc h) k = (k + least h) ∷ []

-- and so on in both parts: the ranks that are middle ones after d partings, rising
unfoldable pub middles : ℕ → ℕ → ℕ → List ℕ
middles zero h k = middle h k
middles (suc d) h k = middles d (h - 1) k ++ middles d (h - 2) (k + least (h - 1) + 1)

-- those after no parting, after one, and so on, up to d
unfoldable pub middles_up_to : ℕ → ℕ → List ℕ
middles_up_to zero h = []
middles_up_to (suc d) h = middles_up_to d h ++ middles d h 0

-- the rank k as a run: no two of them touch
unfoldable pub runs_at : List ℕ → List Run
runs_at [] = []
runs_at (k ∷ ks) = run (2 * k) (2 * k) ∷ runs_at ks

-- the list for the height h
unfoldable pub deepest_runs : ℕ → List Run
deepest_runs h = runs_at (middles_up_to h h)

-- it as words: start and end of each run, in turn
unfoldable pub words_of : List Run → List ℕ
words_of [] = []
words_of (r ∷ rs) = r.start ∷ (r.«end» ∷ words_of rs)

unfoldable pub deepest_words : ℕ → List ℕ
deepest_words h = words_of (deepest_runs h)
