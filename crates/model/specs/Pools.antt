-- THE PLAIN MODEL, part 6: worlds in one pool (document 02, Ticket 3). It keeps the capacity C and, for each opened world, its positions, its
-- floor and its ceiling.
use Rattle.std.specs.Prelude.{Option, None, Some}
use Rattle.std.specs.Prelude.{Bool, false, ◌||◌, List, [], ◌∷◌, ℕ, zero, suc, ◌+◌, ◌-◌, ◌*◌, ◌/◌, max, min, ltb, length, get_or}
use Rattle.model.specs.declared.Limits.{Limits}
use Rattle.model.specs.Positions.{Positions, empty, stretches}
use Rattle.model.specs.Bytes.{into_front}
use Rattle.model.specs.Deepest.{least, deepest_words}
use Rattle.model.specs.Spawning
use Rattle.model.specs.Spawning.{ranges_of, entries_of, none_refused, places_told}
use Rattle.model.specs.Refusals.{store_length, world_limits, tree_height, not_refused, capacity, output_short, Condition, ◌when◌, refusal, bad_limits, bad_height, no_room}
use Rattle.model.specs.Call.{Fed, unopened, holding, Measure, deepest, why_full, PoolCall, make, measure, at, Result, done, written, Answer, refused, gave}
use Rattle.model.specs.Model.{Plan, Outcome, serve}

pub record PlainWorld : Type 0 where
  pub positions : Positions
  pub floor : ℕ
  pub ceiling : ℕ

-- the world of a number, if it was opened
abbrev pub world_of : List PlainWorld → ℕ → Option PlainWorld
world_of [] i = None
world_of (x ∷ xs) zero = Some x
world_of (x ∷ xs) (suc i) = world_of xs i

abbrev pub fed_by : Option PlainWorld → Fed
fed_by None = unopened
fed_by (Some x) = holding x.positions

-- what a world claims of the pool with r runs: the larger of r and its floor
abbrev pub claim_with : PlainWorld → ℕ → ℕ
claim_with x r = max r x.floor

abbrev pub claim : PlainWorld → ℕ
claim x = claim_with x (stretches x.positions)

-- the sum of the claims of all worlds, and of all but world i
unfoldable pub claims : List PlainWorld → ℕ
claims [] = 0
claims (x ∷ xs) = claim x + claims xs

unfoldable pub other_claims : List PlainWorld → ℕ → ℕ
other_claims [] i = 0
other_claims (x ∷ xs) zero = claims xs
other_claims (x ∷ xs) (suc i) = claim x + other_claims xs i

-- 8: r runs are too many for a world where they exceed its ceiling, or where the sum of the claims, with r runs for this world, exceeds C
abbrev pub exceeds : ℕ → ℕ → Option PlainWorld → ℕ → Bool
exceeds C others None r = false
exceeds C others (Some x) r = ltb x.ceiling r || ltb C (claim_with x r + others)

unfoldable pub full : ℕ → List PlainWorld → ℕ → ℕ → Bool
full C ws i r = exceeds C (other_claims ws i) (world_of ws i) r

-- the worlds with the positions P in world i
abbrev pub with_positions : PlainWorld → Positions → PlainWorld
with_positions x P = record { positions = P; floor = x.floor; ceiling = x.ceiling }

unfoldable pub holding_at : ℕ → Positions → List PlainWorld → List PlainWorld
holding_at i P [] = []
holding_at zero P (x ∷ xs) = with_positions x P ∷ xs
holding_at (suc i) P (x ∷ xs) = x ∷ holding_at i P xs

-- what a call answers, and the worlds after it
pub record PoolOutcome : Type 0 where
  pub answer : Answer
  pub worlds : List PlainWorld

-- a call on world i
unfoldable pub serve_at : ℕ → List PlainWorld → ℕ → Plan → Outcome
serve_at C ws i p = serve (full C ws i) (fed_by (world_of ws i)) p

abbrev pub leaving : List PlainWorld → ℕ → Outcome → PoolOutcome
leaving ws i o = record { answer = o.answer; worlds = holding_at i o.positions ws }

-- limits as they are lent, in words: floor and ceiling in turn. A last word without its partner is no world
abbrev pub limits_at : List ℕ → ℕ → Limits
limits_at ws k = record { floor = get_or ws (2 * k) 0; ceiling = get_or ws (2 * k + 1) 0 }

unfoldable pub limits_from : List ℕ → ℕ → ℕ → List Limits
limits_from ws k zero = []
limits_from ws k (suc n) = limits_at ws k ∷ limits_from ws (suc k) n

unfoldable pub limits_of : List ℕ → List Limits
limits_of ws = limits_from ws 0 (length ws / 2)

-- making: 1, then 11; then each world is opened, empty
abbrev pub empty_world : Limits → PlainWorld
empty_world l = record { positions = empty; floor = l.floor; ceiling = l.ceiling }

unfoldable pub empty_worlds : List Limits → List PlainWorld
empty_worlds [] = []
empty_worlds (l ∷ ls) = empty_world l ∷ empty_worlds ls

abbrev pub make_conditions : Bool → ℕ → List Limits → List Condition
make_conditions short C ls = store_length when short ∷ world_limits when bad_limits C ls ∷ []

abbrev pub settle_make : Option ℕ → List PlainWorld → List PlainWorld → PoolOutcome
settle_make None ws new = record { answer = gave done; worlds = new }
settle_make (Some n) ws new = record { answer = refused n; worlds = ws }

unfoldable pub make_by : Bool → ℕ → List PlainWorld → List Limits → PoolOutcome
make_by short C ws ls = settle_make (refusal (make_conditions short C ls)) ws (empty_worlds ls)

-- measuring: 1, then what the question asks, then 2. The pool is measured, and no more, so the worlds stay
abbrev pub settle_measured : Option ℕ → List PlainWorld → Result → PoolOutcome
settle_measured None ws a = record { answer = gave a; worlds = ws }
settle_measured (Some n) ws a = record { answer = refused n; worlds = ws }

-- why the list of ranges that words tell is refused, at the capacity C
abbrev pub stopped : ℕ → List ℕ → Option (List ℕ)
stopped C rs = Spawning.why_full C (entries_of (ranges_of rs))

-- the list for the deepest tree asks 13, then 8 for a capacity below its length (document 02, Ticket 10); why a list is refused asks 16 (Ticket 13)
abbrev pub asks : Measure → ℕ → List Condition
asks (deepest h) C = tree_height when bad_height h ∷ capacity when ltb C (least h) ∷ []
asks (why_full rs) C = not_refused when none_refused (stopped C rs) ∷ []

-- the words that are due: that list; the places of the ranges
abbrev pub words_due : Measure → ℕ → List ℕ
words_due (deepest h) C = deepest_words h
words_due (why_full rs) C = places_told (stopped C rs)

abbrev pub measure_conditions : Bool → ℕ → Measure → List ℕ → List Condition
measure_conditions short C q out = store_length when short ∷ output_short when no_room out (words_due q C) ∷ asks q C

unfoldable pub measure_by : Bool → ℕ → List PlainWorld → Measure → List ℕ → PoolOutcome
measure_by short C ws q out =
    settle_measured (refusal (measure_conditions short C q out)) ws (written (length (words_due q C)) (into_front (words_due q C) out))

-- THE MODEL: one call on a capacity and worlds; of one on a world, what it does
unfoldable pub step : ℕ → List PlainWorld → PoolCall Plan → PoolOutcome
step C ws (make ls) = make_by false C ws ls
step C ws (measure q out) = measure_by false C ws q out
step C ws (at i p) = leaving ws i (serve_at C ws i p)

-- lists of calls: every answer, and the worlds after the last call
unfoldable pub answers : ℕ → List PlainWorld → List (PoolCall Plan) → List Answer
answers C ws [] = []
answers C ws (c ∷ cs) = (step C ws c).answer ∷ answers C (step C ws c).worlds cs

unfoldable pub after : ℕ → List PlainWorld → List (PoolCall Plan) → List PlainWorld
after C ws [] = ws
after C ws (c ∷ cs) = after C (step C ws c).worlds cs

-- the worlds of a pool of one world, which may have all that the pool has
abbrev pub alone : ℕ → Positions → List PlainWorld
alone C P = record { positions = P; floor = 0; ceiling = C } ∷ []

-- the most runs that world i may have where the limits are kept: one number for the two conditions of 8 (proofs/Pools.antt)
abbrev pub allowance_of : ℕ → ℕ → Option PlainWorld → ℕ
allowance_of C others None = 0
allowance_of C others (Some x) = min x.ceiling (C - others)

unfoldable pub allowance : ℕ → List PlainWorld → ℕ → ℕ
allowance C ws i = allowance_of C (other_claims ws i) (world_of ws i)
