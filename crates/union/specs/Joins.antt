-- A union on its way: which entries are joined, and which runs are handed out. Assumes nothing: these are definitions.
use Rattle.std.specs.Option.{option_len}
use Rattle.std.specs.Prelude.{◌≡◌, ℕ, ◌+◌, ◌<◌, ◌⊎◌, List, [], ◌∷◌, ◌++◌, length, Option, None, Some}
use Rattle.model.specs.declared.Run.{Run}
use Rattle.model.specs.Numbers.{size}
use Rattle.model.specs.RunList.{AllWords}
use Rattle.union.specs.declared.Group.{Group}
use Rattle.union.specs.declared.union.Union.{Union}
use Rattle.union.specs.Entries.{Counts, In, Lists}
use Rattle.union.specs.Groups.{Grouped}
use Rattle.union.specs.Bands.{Rises, ahead}

-- the groups of the entries that come first in rising order
pub record Front (es : List Run) (gs : List Group) : Type 0 where
  pub words : AllWords es
  pub few : length es < size
  pub upto : ℕ
  pub places : List ℕ
  pub rest : List ℕ
  pub lists : Lists es (length es) 0 upto (places ++ rest)
  pub grouped : Grouped es places gs

-- the groups of all entries
pub record Complete (es : List Run) (gs : List Group) : Type 0 where
  pub front : Front es gs
  pub each : (p : ℕ) → Counts es p → In p front.places

-- the entries at the places ps are joined to the groups `done`, and then the last one; without that there is none at all, or no entry is left
abbrev pub Joined : List Run → List ℕ → List Group → Option Group → Type 0
Joined es ps done None = ((ps ≡ []) × (done ≡ [])) ⊎ (Grouped es ps done × ((p : ℕ) → Counts es p → In p ps))
Joined es ps done (Some g) = Grouped es ps (done ++ g ∷ [])

-- A UNION ON ITS WAY: all groups but the last are handed out
pub record Joining {L : Type 0} (es : List Run) (done : List Group) (u : Union L) : Type 0 where
  pub places : List ℕ
  pub rises : Rises es places u.places
  pub joined : Joined es places done u.last

-- THE NEXT GROUP is handed out, or all are
abbrev pub Draws : {L : Type 0} → List Run → Union L → Option Group → Union L → Type 0
Draws es u None u' = (done : List Group) → Joining es done u → Complete es done × Joining es done u'
Draws es u (Some g) u' = (done : List Group) → Joining es done u → Front es (done ++ g ∷ []) × Joining es (done ++ g ∷ []) u'

-- ---- as an iterator
-- some groups are handed out of the union of the entries that `runs` reads of its list
abbrev pub OnItsWay : {L : Type 0} → (L → List Run) → Union L → Type 0
OnItsWay runs u = (done : List Group) × Joining (runs u.places.list) done u

-- the next one is, and the list stays
abbrev pub GivesGroup : {L : Type 0} → (L → List Run) → Union L → Option Group → Union L → Type 0
GivesGroup runs u r u' = (u'.places.list ≡ u.places.list) × Draws (runs u.places.list) u r u'

-- more than can come next: what is ahead of its places, and the last group
abbrev pub pending : {L : Type 0} → Union L → ℕ
pending u = ahead u.places + option_len u.last
