-- Plays: what is asked of one pool, calls singly and lists of them in frames, makings and refused ones among them, each
-- getting the pool as the last one left it, and nobody else writing it. A move is what the public function of that call
-- promises, and nothing more. Assumes nothing: these are definitions.
use Rattle.std.specs.Prelude.{ℕ, ◌≡◌, List, [], ◌∷◌, Option}
use Rattle.model.specs.declared.Limits.{Limits}
use Rattle.model.specs.declared.Listing.{Listing}
use Rattle.model.specs.declared.Mended.{Mended}
use Rattle.model.specs.declared.Run.{Run}
use Rattle.model.specs.Answers.{OrRefusal, completed_answer, written_answer, mended_answer}
use Rattle.model.specs.Refusals.{output_short, ◌when◌, refusal, no_room}
use Rattle.model.specs.Call.{Call, Measure, PoolCall, make, measure, at, told_as}
use Rattle.model.specs.Call.{Result, done, drawn, written, mended, Answer, refused, gave}
use Rattle.model.specs.Model.{Plan, plan}
use Rattle.model.specs.Pools.{PlainWorld, PoolOutcome, step, answers, after}
use Rattle.pool.specs.Layout.{capacity, worlds_of}
use Rattle.interval_bit_set.specs.Met.{Site, fed_at, Met, Made}
use Rattle.interval_bit_set.specs.Out.{WritesOut, WritesMeasured, Mends}
use Rattle.interval_bit_set.specs.Lent.{item_answer, Draws}
use Rattle.flat.specs.Records.{records_of}
use Rattle.frame.specs.Records.{calls_of}
use Rattle.frame.specs.Frame.{Framed, FrameOutcome, settle_frame}

-- ---- moves
-- what a move is lent to be written, beside the pool: nothing, a listing, a slice, or two
pub data Lent : Type 0 where
  nothing : Lent
  listing : Listing → Lent
  slice : List ℕ → Lent
  slices : List ℕ → List ℕ → Lent

-- a call, and what it is lent; or a frame: the words of its calls, and the slice for their answers
pub data Move (C : Type 0) : Type 0 where
  single : PoolCall C → Lent → Move C
  frame : List ℕ → List ℕ → Move C

-- a move as the plain model is given it: what its call does
abbrev pub plan_move : Move (Call Site) → Move Plan
plan_move (single c l) = single (told_as (plan fed_at) c) l
plan_move (frame calls out) = frame calls out

-- and a list of them
abbrev pub plans : List (Move (Call Site)) → List (Move Plan)
plans [] = []
plans (m ∷ ms) = plan_move m ∷ plans ms

-- what a move is lent
abbrev pub lent_to : Move (Call Site) → Lent
lent_to (single c l) = l
lent_to (frame calls out) = slice out

-- what a move answered, and what it was lent, as it left that
pub record Heard : Type 0 where
  pub answer : Answer
  pub lent : Lent

-- that it answered a and left l
abbrev pub heard_as : Answer → Lent → Heard
heard_as a l = record { answer = a; lent = l }

-- the move m on the words w was heard as h and left the words w', as its contract permits
pub data Moves : List ℕ → Move (Call Site) → Heard → List ℕ → Type 0 where
  made :
      {w w' : List ℕ} {ls : List Limits} {a : Answer}
      → Made w ls a w'
      → Moves w (single (make ls) nothing) (heard_as a nothing) w'
  met :
      {w w' : List ℕ} {i : ℕ} {c : Call Site} {a : Answer}
      → Met w i c a w'
      → Moves w (single (at i c) nothing) (heard_as a nothing) w'
  drew :
      {w : List ℕ} {i : ℕ} (draw : Listing → Call Site) {l l' : Listing} {r : OrRefusal (Option Run)}
      → Draws draw w i l r l'
      → Moves w (single (at i (draw l)) (listing l)) (heard_as (item_answer r l') (listing l')) w
  wrote :
      {w : List ℕ} {i : ℕ} (c : List ℕ → Call Site) {out out' : List ℕ} {r : OrRefusal ℕ}
      → WritesOut c w i out r out'
      → Moves w (single (at i (c out)) (slice out)) (heard_as (written_answer r out') (slice out')) w
  measured :
      {w : List ℕ} {q : Measure} {out out' : List ℕ} {r : OrRefusal ℕ}
      → WritesMeasured w q out r out'
      → Moves w (single (measure q out) (slice out)) (heard_as (written_answer r out') (slice out')) w
  mends :
      {w w' : List ℕ} {i : ℕ} {bs out out' report report' : List ℕ} {r : OrRefusal Mended}
      → Mends w i bs out report r w' out' report'
      → Moves w (single (at i (Call.mend bs out report)) (slices out report))
      (heard_as (mended_answer r out' report') (slices out' report')) w'
  framed :
      {w w' calls out out' : List ℕ} (r : OrRefusal Unit)
      → Framed w calls out (completed_answer r) w' out'
      → Moves w (frame calls out) (heard_as (completed_answer r) (slice out')) w'

-- ---- plays
-- a new pool of capacity C with the limits ls: what making leaves in words of that capacity
pub record New (C : ℕ) (ls : List Limits) (w : List ℕ) : Type 0 where
  pub before : List ℕ
  pub sized : capacity before ≡ C
  pub made : Made before ls (gave done) w

-- the words w, after the moves ms, which were heard as hs, and were the words ws after each of them
pub data Plays : List ℕ → List (Move (Call Site)) → List Heard → List (List ℕ) → Type 0 where
  rest : {w : List ℕ} → Plays w [] [] []
  move :
      {w w' : List ℕ} {m : Move (Call Site)} {h : Heard} {ms : List (Move (Call Site))} {hs : List Heard} {ws : List (List ℕ)}
      → Moves w m h w'
      → Plays w' ms hs ws
      → Plays w (m ∷ ms) (h ∷ hs) (w' ∷ ws)

-- the words after the last move
abbrev pub left : List ℕ → List (List ℕ) → List ℕ
left w [] = w
left w (w' ∷ ws) = left w' ws

-- ---- the plain model's moves
-- what the model hears of a move, and the worlds after it
pub record MoveOutcome : Type 0 where
  pub heard : Heard
  pub worlds : List PlainWorld

-- what a result leaves of what was lent: what was moved or written is a part of it, and all else is left
abbrev pub left_by : Result → Lent → Lent
left_by (drawn r l') (listing l) = listing l'
left_by (written n out') (slice out) = slice out'
left_by (mended n out' m report') (slices out report) = slices out' report'
left_by r l = l

-- what an answer leaves: a refusal all of it
abbrev pub lent_after : Answer → Lent → Lent
lent_after (refused n) l = l
lent_after (gave r) l = left_by r l

-- a frame is refused with 2 where the slice is shorter than its answers; else each of its calls is answered, in the
-- front of the slice
abbrev pub frame_by : ℕ → List PlainWorld → List ℕ → List ℕ → FrameOutcome
frame_by C ws calls out =
    settle_frame (refusal (output_short when no_room out (records_of (answers C ws (calls_of calls))) ∷ []))
    ws (after C ws (calls_of calls)) (records_of (answers C ws (calls_of calls))) out

-- a call by what the model says of it, a frame by what it says of its calls
abbrev pub single_outcome : PoolOutcome → Lent → MoveOutcome
single_outcome o l = record { heard = heard_as o.answer (lent_after o.answer l); worlds = o.worlds }

abbrev pub frame_outcome : FrameOutcome → MoveOutcome
frame_outcome o = record { heard = heard_as o.answer (slice o.slice); worlds = o.worlds }

abbrev pub move_outcome : ℕ → List PlainWorld → Move Plan → MoveOutcome
move_outcome C ws (single c l) = single_outcome (step C ws c) l
move_outcome C ws (frame calls out) = frame_outcome (frame_by C ws calls out)

-- the worlds after the last move
abbrev pub worlds_after : ℕ → List PlainWorld → List (Move Plan) → List PlainWorld
worlds_after C ws [] = ws
worlds_after C ws (m ∷ ms) = worlds_after C (move_outcome C ws m).worlds ms

-- ---- going along with the model
-- the move m from the words w to w', heard as h, is as the model says: the answer, what was lent, how many worlds there
-- are, and the positions, floor and ceiling of each; and refused, it left every word, the listing and the slices
pub record IsAsTold (o : MoveOutcome) (w : List ℕ) (m : Move (Call Site)) (h : Heard) (w' : List ℕ) : Type 0 where
  pub heard : h ≡ o.heard
  pub worlds : worlds_of w' ≡ o.worlds
  pub unchanged : (n : ℕ) → h.answer ≡ refused n → (w' ≡ w) × (h.lent ≡ lent_to m)

-- each move is, from the worlds vs on
pub data Follows (C : ℕ) : List PlainWorld → List ℕ → List (Move (Call Site)) → List Heard → List (List ℕ) → Type 0 where
  over : {vs : List PlainWorld} {w : List ℕ} → Follows C vs w [] [] []
  next :
      {vs : List PlainWorld} {w w' : List ℕ} {m : Move (Call Site)} {h : Heard}
      {ms : List (Move (Call Site))} {hs : List Heard} {ws : List (List ℕ)}
      → IsAsTold (move_outcome C vs (plan_move m)) w m h w'
      → Follows C (move_outcome C vs (plan_move m)).worlds w' ms hs ws
      → Follows C vs w (m ∷ ms) (h ∷ hs) (w' ∷ ws)
