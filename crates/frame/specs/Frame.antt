-- THE CONTRACT of a frame: its answers, the worlds after it and the whole slice are the plain model's over the list of its calls. Assumes
-- nothing: these are definitions.
use Rattle.std.specs.Prelude.{Option, None, Some}
use Rattle.std.specs.Prelude.{◌≡◌, ℕ, List, [], ◌∷◌}
use Rattle.model.specs.Bytes.{into_front}
use Rattle.model.specs.Refusals.{output_short, ◌when◌, refusal, no_room}
use Rattle.model.specs.Model.{Plan, or_else}
use Rattle.model.specs.Call.{PoolCall, done, Answer, refused, gave}
use Rattle.model.specs.Pools.{PlainWorld, answers, after}
use Rattle.pool.specs.Layout.{capacity, worlds_of}
use Rattle.pool.specs.Free.{Pooled}
use Rattle.interval_bit_set.specs.Met.{faults}
use Rattle.frame.specs.Records.{calls_of}
use Rattle.flat.specs.Records.{records_of}

-- what a frame answers, the worlds after it, and the slice
pub record FrameOutcome : Type 0 where
  pub answer : Answer
  pub worlds : List PlainWorld
  pub slice : List ℕ

-- refused, all stays; else the records are the front of the slice, and the words after them do not change
abbrev pub settle_frame : Option ℕ → List PlainWorld → List PlainWorld → List ℕ → List ℕ → FrameOutcome
settle_frame None ws vs due out = record { answer = gave done; worlds = vs; slice = into_front due out }
settle_frame (Some n) ws vs due out = record { answer = refused n; worlds = ws; slice = out }

-- a list of calls on the pool w: 1, 7, and 2 where the slice is shorter than the words due. 12 stands in the answers
unfoldable pub frame_of : List ℕ → List (PoolCall Plan) → List ℕ → FrameOutcome
frame_of w cs out =
    settle_frame (or_else (faults (w ∷ [])) (refusal (output_short when no_room out (records_of (answers (capacity w) (worlds_of w) cs)) ∷ [])))
    (worlds_of w) (after (capacity w) (worlds_of w) cs) (records_of (answers (capacity w) (worlds_of w) cs)) out

-- what the model says of the list in the words cs
unfoldable pub frame_outcome : List ℕ → List ℕ → List ℕ → FrameOutcome
frame_outcome w cs out = frame_of w (calls_of cs) out

-- what is left of the pool: all as it was after a refusal, else a sound pool with the worlds ws
abbrev pub FrameLeaves : List ℕ → List ℕ → List PlainWorld → Answer → Type 0
FrameLeaves w w' ws (refused n) = w' ≡ w
FrameLeaves w w' ws (gave r) = Pooled w w' ws

-- the frame cs on the words w with the slice out answered a and left w' and out'
pub record Framed (w cs out : List ℕ) (a : Answer) (w' out' : List ℕ) : Type 0 where
  pub answered : a ≡ (frame_outcome w cs out).answer
  pub left : FrameLeaves w w' (frame_outcome w cs out).worlds a
  pub wrote : out' ≡ (frame_outcome w cs out).slice
