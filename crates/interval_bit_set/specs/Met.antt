-- What every public call on a world promises: its answer and what it leaves are what the plain model gives, and a refusal leaves every word as
-- it was. Only the offset and the arrangement of nodes are left open; of them soundness and the positions held are said.
-- Assumes nothing: these are definitions.
use Rattle.std.specs.Prelude.{ℕ, ◌≡◌, Bool, false, cond, not, ◌||◌, Option, None, Some, List, [], ◌∷◌, eqb}
use Rattle.model.specs.declared.Limits.{Limits}
use Rattle.model.specs.Positions.{Positions}
use Rattle.model.specs.Call.{Fed, wrong_length, unsound, holding, Call, Measure, Answer, refused, gave}
use Rattle.model.specs.Model.{plan, Outcome, serve}
use Rattle.model.specs.Pools.{world_of, fed_by, full, PoolOutcome, make_by, measure_by}
use Rattle.pool.specs.Layout.{capacity, held_by, worlds_of}
use Rattle.pool.specs.Decision.{sound_b}
use Rattle.pool.specs.Free.{Emptied}
use Rattle.pool.specs.Settle.{Settled, Openable}

-- a world of a further pool: the words lent, and the number
pub record Site : Type 0 where
  pub words : List ℕ
  pub world : ℕ

abbrev pub site : List ℕ → ℕ → Site
site w i = record { words = w; world = i }

-- what the words of some pools earn, whichever worlds are named: 1 where any is of no pool's length, then 7 where any is not sound
abbrev pub short : List ℕ → Bool
short w = eqb (capacity w) 0

abbrev pub any_is : (List ℕ → Bool) → List (List ℕ) → Bool
any_is f [] = false
any_is f (w ∷ ws) = f w || any_is f ws

abbrev pub faults : List (List ℕ) → Option ℕ
faults ws = cond (any_is short ws) (Some 1) (cond (any_is (λ w. not (sound_b w)) ws) (Some 7) None)

-- what the model is fed of world i of the words w: the refusal that is earned, or the positions held
unfoldable pub fed_of : List ℕ → ℕ → Fed
fed_of w i = cond (eqb (capacity w) 0) wrong_length (cond (sound_b w) (fed_by (world_of (worlds_of w) i)) unsound)

abbrev pub fed_at : Site → Fed
fed_at s = fed_of s.words s.world

-- which numbers of runs are too many for world i
unfoldable pub full_at : List ℕ → ℕ → ℕ → Bool
full_at w i = full (capacity w) (worlds_of w) i

-- what the model says of a call on world i of the words w
unfoldable pub outcome_of : List ℕ → ℕ → Call Site → Outcome
outcome_of w i c = serve (full_at w i) (fed_of w i) (plan fed_at c)

-- what is left of the words: all as it was after a refusal, else a sound pool whose world i holds the outcome's positions, and all else is as it
-- was
abbrev pub Leaves : List ℕ → List ℕ → ℕ → Positions → Answer → Type 0
Leaves w w' i P (refused n) = w' ≡ w
Leaves w w' i P (gave r) = Settled w w' i P

-- THE CONTRACT of a call c on world i of the words w that answered a and left w'
pub record Met (w : List ℕ) (i : ℕ) (c : Call Site) (a : Answer) (w' : List ℕ) : Type 0 where
  pub answered : a ≡ (outcome_of w i c).answer
  pub left : Leaves w w' i (outcome_of w i c).positions a

-- ---- making
-- what the model says of making the words w a pool with the limits ls
unfoldable pub made_of : List ℕ → List Limits → PoolOutcome
made_of w ls = make_by (eqb (capacity w) 0) (capacity w) (worlds_of w) ls

abbrev pub MakeLeaves : List ℕ → List ℕ → List Limits → Answer → Type 0
MakeLeaves w w' ls (refused n) = w' ≡ w
MakeLeaves w w' ls (gave r) = Emptied w w' ls

-- THE CONTRACT of making that answered a and left w'
pub record Made (w : List ℕ) (ls : List Limits) (a : Answer) (w' : List ℕ) : Type 0 where
  pub answered : a ≡ (made_of w ls).answer
  pub left : MakeLeaves w w' ls a

-- ---- measuring
-- what the model says of measuring the words w for q, with the slice out
unfoldable pub measured_of : List ℕ → Measure → List ℕ → PoolOutcome
measured_of w q out = measure_by (eqb (capacity w) 0) (capacity w) (worlds_of w) q out

-- THE CONTRACT of that call, which answered a and left w': all as it was, sound or not
pub record Measured (w : List ℕ) (q : Measure) (out : List ℕ) (a : Answer) (w' : List ℕ) : Type 0 where
  pub answered : a ≡ (measured_of w q out).answer
  pub left : w' ≡ w

-- ---- a world that can be read: its pool is sound, it was opened, and it is fed as its positions
pub record Readable (w : List ℕ) (i : ℕ) : Type 0 where
  pub openable : Openable w i
  pub fed : fed_of w i ≡ holding (held_by w i)
