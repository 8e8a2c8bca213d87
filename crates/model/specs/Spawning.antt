-- THE PLAIN MODEL: why a list of ranges, set to true one by one from an empty store of one world with ceiling C, is refused with 8 (document 02,
-- Ticket 13).
use Rattle.std.specs.Prelude.{Option, None, Some}
use Rattle.std.specs.Prelude.{Bool, true, false, cond, not, ◌&&◌, ◌||◌, List, [], ◌∷◌, ◌≡◌, ℕ, zero, suc, ◌+◌, ◌-◌, ◌*◌, ◌/◌, leb, ltb, length, get_or, take}
use Rattle.model.specs.declared.between.Range.{Range}
use Rattle.model.specs.declared.Run.{Run}
use Rattle.model.specs.Range.{range_by, first_allowed, past_allowed}
use Rattle.model.specs.Positions.{run, find, stretches, run_at, mem}
use Rattle.model.specs.Call.{set, PoolCall, at, Answer, refused, gave}
use Rattle.model.specs.Model.{Plan, planned}

-- ---- a list of ranges
-- it is lent as words, four for a range: kind and value of the lower bound, kind and value of the upper one. Words after the last whole four are
-- no range
abbrev pub range_at : List ℕ → ℕ → Range
range_at ws k =
    range_by (get_or ws (4 * k) 0) (get_or ws (4 * k + 1) 0) (get_or ws (4 * k + 2) 0) (get_or ws (4 * k + 3) 0)

unfoldable pub ranges_from : List ℕ → ℕ → ℕ → List Range
ranges_from ws k zero = []
ranges_from ws k (suc n) = range_at ws k ∷ ranges_from ws (suc k) n

unfoldable pub ranges_of : List ℕ → List Range
ranges_of ws = ranges_from ws 0 (length ws / 4)

-- the calls: each range is set to true
unfoldable pub sets_of : List Range → List (PoolCall Plan)
sets_of [] = []
sets_of (r ∷ rs) = at 0 (planned (set r.lower r.upper true)) ∷ sets_of rs

-- the entry of a range is the run of its positions. One that is empty or reversed holds none: its entry starts above its end
unfoldable pub entry_of : Range → Run
entry_of r = cond (ltb (first_allowed r.lower) (past_allowed r.upper)) (run (first_allowed r.lower) (past_allowed r.upper - 1)) (run 1 0)

unfoldable pub entries_of : List Range → List Run
entries_of [] = []
entries_of (r ∷ rs) = entry_of r ∷ entries_of rs

-- ---- the first refused call
-- how many runs the union of the first n entries has
abbrev pub runs_after : List Run → ℕ → ℕ
runs_after es n = stretches (mem (take n es))

-- the place of the first entry by which the union has more than C
unfoldable pub first_refused : ℕ → List Run → Option ℕ
first_refused C es = find (λ n. ltb C (runs_after es (suc n))) true 0 (length es)

-- how many entries there are up to it and with it, and 0 where no call is refused
abbrev pub count_up_to : Option ℕ → ℕ
count_up_to None = 0
count_up_to (Some f) = suc f

unfoldable pub up_to_refused : ℕ → List Run → ℕ
up_to_refused C es = count_up_to (first_refused C es)

-- ---- the smallest sublist that is refused
-- whether an entry of the list has a position in the run q
unfoldable pub meets : Run → List Run → Bool
meets q [] = false
meets q (r ∷ rs) = (leb r.start r.«end» && (leb r.start q.«end» && leb q.start r.«end»)) || meets q rs

-- whether the entry r at place p of the list es holds a position, and is the first in its run of the union
unfoldable pub leads : List Run → ℕ → Run → Bool
leads es p r = leb r.start r.«end» && not (meets (run_at (mem es) r.start) (take p es))

-- the places of those that are, rising; p is the first place of the rest of the list
unfoldable pub places_from : List Run → ℕ → List Run → List ℕ
places_from es p [] = []
places_from es p (r ∷ rs) = cond (leads es p r) (p ∷ places_from es (suc p) rs) (places_from es (suc p) rs)

unfoldable pub places : List Run → List ℕ
places es = places_from es 0 es

-- WHY THE LIST STOPS: of the entries up to the first refused one, the first in each run of their union
abbrev pub why_full_up_to : List Run → Option ℕ → Option (List ℕ)
why_full_up_to es None = None
why_full_up_to es (Some f) = Some (places (take (suc f) es))

unfoldable pub why_full : ℕ → List Run → Option (List ℕ)
why_full C es = why_full_up_to es (first_refused C es)

-- 16: no call of the list is refused
abbrev pub none_refused : Option (List ℕ) → Bool
none_refused None = true
none_refused (Some ps) = false

-- the places that are answered, where one is
abbrev pub places_told : Option (List ℕ) → List ℕ
places_told None = []
places_told (Some ps) = ps

-- the sublist at places; d stands for what is not there
abbrev pub pick : {A : Type 0} → A → List A → List ℕ → List A
pick d xs [] = []
pick d xs (p ∷ ps) = get_or xs p d ∷ pick d xs ps

-- ---- what the model's own calls answer
-- none is refused
abbrev pub AllGiven : List Answer → Type 0
AllGiven [] = Unit {0}
AllGiven (refused n ∷ rest) = ⊥
AllGiven (gave r ∷ rest) = AllGiven rest

-- that at place n is refused with 8, and none before it
abbrev pub StopsAt : ℕ → List Answer → Type 0
StopsAt n [] = ⊥
StopsAt zero (a ∷ rest) = a ≡ refused 8
StopsAt (suc n) (refused m ∷ rest) = ⊥
StopsAt (suc n) (gave r ∷ rest) = StopsAt n rest
