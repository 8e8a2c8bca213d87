-- What making a world of others promises. Assumes nothing: these are definitions.
use Rattle.std.specs.Prelude.{Ok, Err}
use Rattle.model.specs.Answers.{OrRefusal}
use Rattle.std.specs.Prelude.{ℕ, ◌≤◌, ◌<◌, ◌≡◌, List}
use Rattle.model.specs.declared.Refusal.TheVariants.{Capacity}
use Rattle.model.specs.Positions.{Positions, stretches}
use Rattle.pool.specs.Layout.{nodes, allowance, world_at, held_from, held_by}
use Rattle.pool.specs.Settle.{Settled}
use Rattle.streams.specs.declared.source.View.{View}
use Rattle.streams.specs.Reading.{Rooted}

-- the view of world i of the words w: its positions are read from its root, under its offset
pub record ViewOf (w : List ℕ) (i : ℕ) (v : View) : Type 0 where
  pub is : v ≡ record { root = (world_at w i).root; offset = (world_at w i).offset }
  pub rooted : Rooted (nodes w) v.root
  pub held : held_from (nodes w) v.root v.offset ≡ held_by w i

-- world i of the words w, overwritten by Q: it holds Q, or, where Q has more runs than it may have, 8 is given and the words are as they were
abbrev pub Carried : List ℕ → List ℕ → ℕ → Positions → OrRefusal Unit → Type 0
Carried w w' i Q (Ok u) = (stretches Q ≤ allowance w i) × Settled w w' i Q
Carried w w' i Q (Err r) = (r ≡ Capacity) × (allowance w i < stretches Q) × (w' ≡ w)
