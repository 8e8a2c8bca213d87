-- THE CONTRACTS of the exported functions: the number that each returns is its answer's, 0 where the call was done, and the record that it is lent
-- has the answer's words, or stays as it was after a refusal. Assumes nothing: these are definitions.
use Rattle.std.specs.Prelude.{ℕ, ◌≡◌, List}
use Rattle.model.specs.declared.Limits.{Limits}
use Rattle.model.specs.declared.Rect.{Rect}
use Rattle.model.specs.Call.{Call, Measure, Answer, refused, gave}
use Rattle.model.specs.Handled.{Handled}
use Rattle.interval_bit_set.specs.Met.{Site, Met, Made, Measured}
use Rattle.interval_bit_set.specs.Parts.{on_written, on_mended}
use Rattle.flat.specs.Records.{code_of, recorded}
use Rattle.frame.specs.Frame.{Framed}

-- four numbers, as a rectangle
abbrev pub rect_of : ℕ → ℕ → ℕ → ℕ → Rect
rect_of t l b r = record { top = t; left = l; bottom = b; right = r }

-- making the words w a pool with the limits ls returned n and left the words w'
pub record Makes (w : List ℕ) (ls : List Limits) (n : ℕ) (w' : List ℕ) : Type 0 where
  pub answer : Answer
  pub made : Made w ls answer w'
  pub number : n ≡ code_of answer

-- the call c on world i of the words w, which gives nothing, returned n and left w'
pub record Completes (w : List ℕ) (i : ℕ) (c : Call Site) (n : ℕ) (w' : List ℕ) : Type 0 where
  pub answer : Answer
  pub met : Met w i c answer w'
  pub number : n ≡ code_of answer

-- the call c on world i of the words w with the record out returned n and left the record out' and the words w'
pub record Returns (w : List ℕ) (i : ℕ) (c : Call Site) (out : List ℕ) (n : ℕ) (out' w' : List ℕ) : Type 0 where
  pub answer : Answer
  pub met : Met w i c answer w'
  pub number : n ≡ code_of answer
  pub record_ : out' ≡ recorded answer out

-- a slice that was lent to be written: as it was after a refusal, else the answer's
abbrev pub slice_after : Answer → List ℕ → List ℕ
slice_after (refused n) s = s
slice_after (gave r) s = on_written s (λ n bs. bs) r

-- the same of a call that writes bytes or words into the slice s, and leaves the slice s'
pub record Writes (w : List ℕ) (i : ℕ) (c : List ℕ → Call Site) (s out : List ℕ) (n : ℕ) (out' s' : List ℕ) : Type 0 where
  pub answer : Answer
  pub met : Met w i (c s) answer w
  pub number : n ≡ code_of answer
  pub record_ : out' ≡ recorded answer out
  pub slice : s' ≡ slice_after answer s

-- and of a call that measures the words w, and leaves every one of them
pub record Measures (w : List ℕ) (q : Measure) (s out : List ℕ) (n : ℕ) (out' s' : List ℕ) : Type 0 where
  pub answer : Answer
  pub measured : Measured w q s answer w
  pub number : n ≡ code_of answer
  pub record_ : out' ≡ recorded answer out
  pub slice : s' ≡ slice_after answer s

-- and of mending, which writes into two slices, s and t
abbrev pub slices_after : Answer → List ℕ → List ℕ → List ℕ × List ℕ
slices_after (refused n) s t = (s, t)
slices_after (gave r) s t = on_mended (s, t) (λ n bs m cs. (bs, cs)) r

pub record MendsFlat (w : List ℕ) (i : ℕ) (bs s t out : List ℕ) (n : ℕ) (out' s' t' w' : List ℕ) : Type 0 where
  pub answer : Answer
  pub met : Met w i (Call.mend bs s t) answer w'
  pub number : n ≡ code_of answer
  pub record_ : out' ≡ recorded answer out
  pub slices : (s', t') ≡ slices_after answer s t

-- and of a call on a lent slice alone, which the model says to be handled as h: it leaves the whole slice s'
pub record Handed (h : Handled) (out : List ℕ) (n : ℕ) (out' s' : List ℕ) : Type 0 where
  pub number : n ≡ code_of h.answer
  pub record_ : out' ≡ recorded h.answer out
  pub slice : s' ≡ h.slice

-- a frame, the list cs on the words w with the slice s, returned n and left the slice s' and the words w'
pub record Frames (w cs s : List ℕ) (n : ℕ) (s' w' : List ℕ) : Type 0 where
  pub answer : Answer
  pub framed : Framed w cs s answer w' s'
  pub number : n ≡ code_of answer
