-- Entries in rising order, joined to the runs of their union. Assumes nothing: these are definitions.
use Rattle.std.specs.Prelude.{◌≡◌, ℕ, ◌+◌, ◌<◌, ◌≤◌, min, max, Bool, true, false, cond, ◌&&◌, ◌||◌, ◌⊎◌, List, [], ◌∷◌, ◌++◌, length, ◌==◌, nat_lt, slice_index}
use Rattle.model.specs.declared.Run.{Run}
use Rattle.model.specs.Positions.{run}
use Rattle.union.specs.declared.Group.{Group}
use Rattle.union.specs.Entries.{entry}

-- the run of each group
abbrev pub runs_of : List Group → List Run
runs_of [] = []
runs_of (g ∷ gs) = run g.start g.«end» ∷ runs_of gs

-- h is one of the groups
abbrev pub OneOf : Group → List Group → Type 0
OneOf h [] = ⊥
OneOf h (g ∷ gs) = (h ≡ g) ⊎ OneOf h gs

-- a group of the entry at place p alone, and one that it joins
abbrev pub alone : List Run → ℕ → Group
alone es p = record { start = (entry es p).start; «end» = (entry es p).«end»; place = p; sole = true }

abbrev pub joining : List Run → Group → ℕ → Group
joining es g p = record { start = g.start; «end» = max g.«end» (entry es p).«end»; place = min g.place p; sole = false }

-- THE GROUPS of the places, which come in rising order: an entry joins the last group if it overlaps it or touches it, else it begins one
pub data Grouped (es : List Run) : List ℕ → List Group → Type 0 where
  none : Grouped es [] []
  first : (p : ℕ) → Grouped es (p ∷ []) (alone es p ∷ [])
  begins :
      (ps : List ℕ) (gs : List Group) (g : Group) (p : ℕ)
      → Grouped es ps (gs ++ g ∷ [])
      → g.«end» + 1 < (entry es p).start
      → Grouped es (ps ++ p ∷ []) ((gs ++ g ∷ []) ++ alone es p ∷ [])
  joins :
      (ps : List ℕ) (gs : List Group) (g : Group) (p : ℕ)
      → Grouped es ps (gs ++ g ∷ [])
      → (entry es p).start ≤ g.«end» + 1
      → Grouped es (ps ++ p ∷ []) (gs ++ joining es g p ∷ [])

-- ---- the report
-- one of the groups is that of the entry at place p alone
unfoldable pub kept : ℕ → List Group → Bool
kept p [] = false
kept p (g ∷ gs) = (g.sole && g.place == p) || kept p gs

-- what is reported of place p where these are the groups: 0 if it does not count, 2 if it is alone in one of them, else 1
unfoldable pub mark : List Run → List Group → ℕ → ℕ
mark es gs p = cond (nat_lt (entry es p).«end» (entry es p).start) 0 (cond (kept p gs) 2 1)

-- the front of a list has the mark of each place
pub record Marked (es : List Run) (gs : List Group) (rep : List ℕ) : Type 0 where
  pub room : length es ≤ length rep
  pub marks : (p : ℕ) → p < length es → slice_index rep p ≡ mark es gs p
