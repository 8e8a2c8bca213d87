-- Answers as words: the record of eight that a frame and C have of each, and the number that C is returned. Assumes nothing: these are definitions.
use Rattle.std.specs.Prelude.{ℕ, List, [], ◌∷◌, ◌++◌}
use Rattle.model.specs.Call.{Answer, refused, gave}
use Rattle.flat.specs.declared.Reply.{Reply}
use Rattle.flat.specs.Flat.{result_reply, reply_of}

-- the words of a reply; the eighth is 0
abbrev pub words_of : Reply → List ℕ
words_of r = r.refusal ∷ r.found ∷ r.number ∷ r.«end» ∷ r.first ∷ r.last ∷ r.value ∷ 0 ∷ []

-- the records of a list of answers, one after another
unfoldable pub records_of : List Answer → List ℕ
records_of [] = []
records_of (a ∷ rs) = words_of (reply_of a) ++ records_of rs

-- an answer's number: its refusal, or 0
abbrev pub code_of : Answer → ℕ
code_of (refused n) = n
code_of (gave r) = 0

-- a lent record: as it was after a refusal, else the words of the answer
abbrev pub recorded : Answer → List ℕ → List ℕ
recorded (refused n) out = out
recorded (gave r) out = words_of (result_reply r)
