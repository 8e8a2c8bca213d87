-- What looking at pools and worlds for 1, 7 and 12 tells. Assumes nothing: these are definitions.
use Rattle.std.specs.Prelude.{◌≡◌, ◌≤◌, ◌<◌, ℕ, true, false, Some, List, [], ◌∷◌, Ok, Err}
use Rattle.model.specs.Answers.{OrRefusal}
use Rattle.model.specs.Numbers.{refusal_number}
use Rattle.model.specs.declared.Refusal.TheVariants.{Unsound, WorldUnopened}
use Rattle.pool.specs.declared.Set.{Set}
use Rattle.pool.specs.declared.World.{World}
use Rattle.pool.specs.Layout.{capacity, opened_at, held, held_by}
use Rattle.pool.specs.Settle.{Opened}
use Rattle.pool.specs.Decision.{sound_b, worn}
use Rattle.streams.specs.declared.source.View.{View}
use Rattle.interval_bit_set.specs.Joined.{ViewOf}
use Rattle.interval_bit_set.specs.Met.{faults}

-- the words pass the check: they are a sound pool
pub record Checked (w : List ℕ) : Type 0 where
  pub sized : 1 ≤ capacity w
  pub passed : sound_b w ≡ true

abbrev pub AllChecked : List (List ℕ) → Type 0
AllChecked [] = Unit
AllChecked (w ∷ ws) = Checked w × AllChecked ws

-- the check of the pool w and of further ones: the first refusal of all of them, or how worn the free chain of w is
abbrev pub Checks : List ℕ → List (List ℕ) → OrRefusal ℕ → Type 0
Checks w ws (Ok n) = AllChecked (w ∷ ws) × (n ≡ worn w)
Checks w ws (Err r) = faults (w ∷ ws) ≡ Some (refusal_number r)

-- the test of soundness alone
abbrev pub Sounds : List ℕ → OrRefusal ℕ → Type 0
Sounds w (Ok n) = (sound_b w ≡ true) × (n ≡ worn w)
Sounds w (Err r) = (sound_b w ≡ false) × (r ≡ Unsound)

-- asking for world i of the words w: it was opened, and then R holds of what is told of it; or 12
abbrev pub Finds : {T : Type 0} → List ℕ → ℕ → (T → Type 0) → OrRefusal T → Type 0
Finds w i R (Ok x) = (i < opened_at w) × R x
Finds w i R (Err r) = (opened_at w ≤ i) × (r ≡ WorldUnopened)

abbrev pub FindsSet : List ℕ → ℕ → OrRefusal Set → Type 0
FindsSet w i r = Finds w i (λ s. held s ≡ held_by w i) r

abbrev pub FindsWorld : List ℕ → ℕ → OrRefusal World → Type 0
FindsWorld w i r = Finds w i (λ h. Opened w i h) r

abbrev pub FindsView : List ℕ → ℕ → OrRefusal View → Type 0
FindsView w i r = Finds w i (λ v. ViewOf w i v) r
