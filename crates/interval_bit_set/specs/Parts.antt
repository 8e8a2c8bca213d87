-- What calls that write into a lent slice hand back. Assumes nothing: these are definitions.
use Rattle.std.specs.Prelude.{ℕ, ◌≡◌, List, [], length, take, Ok, Err, IfOk, IfErr}
use Rattle.std.specs.Borrow.{MutBor}
use Rattle.model.specs.Answers.{OrRefusal}
use Rattle.model.specs.Call.{Result, done, number, tallied, value, around, position, listing, drawn, written, mended, Answer, refused, gave}

-- what f makes of the bytes that a result wrote: how many they are, and the whole slice. Any other result gives d
abbrev pub on_written : {T : Type 0} → T → (ℕ → List ℕ → T) → Result → T
on_written d f done = d
on_written d f (number n) = d
on_written d f (tallied n r) = d
on_written d f (value b) = d
on_written d f (around r) = d
on_written d f (position o) = d
on_written d f (listing l) = d
on_written d f (drawn o l) = d
on_written d f (written n bs) = f n bs
on_written d f (mended n bs m cs) = d

-- the same of two slices
abbrev pub on_mended : {T : Type 0} → T → (ℕ → List ℕ → ℕ → List ℕ → T) → Result → T
on_mended d f done = d
on_mended d f (number n) = d
on_mended d f (tallied n r) = d
on_mended d f (value b) = d
on_mended d f (around r) = d
on_mended d f (position o) = d
on_mended d f (listing l) = d
on_mended d f (drawn o l) = d
on_mended d f (written n bs) = d
on_mended d f (mended n bs m cs) = f n bs m cs

-- an answer as a number, 0 where it is no refusal, and as the bytes written
abbrev pub code_of : Answer → ℕ
code_of (refused n) = n
code_of (gave r) = 0

abbrev pub front_of : Answer → List ℕ
front_of (refused n) = []
front_of (gave r) = on_written [] take r

-- how many bytes a call tells that it wrote, 0 where it was refused
abbrev pub count_of : OrRefusal ℕ → ℕ
count_of (Ok n) = n
count_of (Err r) = 0

-- the part of a slice that a call hands back, or its refusal
abbrev pub Part : Type 0
Part = OrRefusal (MutBor (List ℕ))

-- t is what the count r hands back of the slice out, which lies at p
abbrev pub Handed : OrRefusal ℕ → List ℕ → ℕ × ℕ → Part → Type 0
Handed r out p t = IfErr t (λ e. r ≡ Err e) × IfOk t (λ part. (r ≡ Ok (length part.now)) × (part.now ≡ take (length part.now) out) × (part.ref_ptr ≡ p))
