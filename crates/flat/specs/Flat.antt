-- Every answer laid flat, as numbers, and what the numbers mean that come in. Every number means something. Assumes nothing.
use Rattle.std.specs.Prelude.{Option, None, Some}
use Rattle.std.specs.Prelude.{ℕ, ◌/◌, ◌%◌, Bool, true, false, not, eqb}
use Rattle.model.specs.declared.Listing.{Listing}
use Rattle.model.specs.declared.Run.{Run}
use Rattle.model.specs.Numbers.{size}
use Rattle.model.specs.Call.{Result, done, number, tallied, value, around, position, listing, drawn, written, mended, Answer, refused, gave}
use Rattle.flat.specs.declared.Reply.{Reply}

-- ---- what comes in
-- a truth value: anything but 0
abbrev pub truth : ℕ → Bool
truth n = not (eqb n 0)

-- ---- what goes out
-- 1 for true, 0 for false
abbrev pub bit_of : Bool → ℕ
bit_of true = 1
bit_of false = 0

-- numbers alone, of which the refusal's is one
abbrev pub numbers_only : ℕ → ℕ → ℕ → ℕ → Reply
numbers_only r f n e = record { refusal = r; found = f; number = n; «end» = e; first = 0; last = 0; value = 0 }

-- a listing, after a run that was found, or zeros
abbrev pub with_listing : ℕ → ℕ → ℕ → Listing → Reply
with_listing f a b l = record { refusal = 0; found = f; number = a; «end» = b; first = l.first; last = l.last; value = bit_of l.value }

-- a draw's run, if there is one, and the listing after it
abbrev pub drawn_reply : Option Run → Listing → Reply
drawn_reply None l = with_listing 0 0 0 l
drawn_reply (Some r) l = with_listing 1 r.start r.«end» l

abbrev pub position_reply : Option ℕ → Reply
position_reply None = numbers_only 0 0 0 0
position_reply (Some x) = numbers_only 0 1 x 0

-- a result; of a tally the positions' carry and low word, and the runs; of bytes written, how many, and of a second slice's, too
abbrev pub result_reply : Result → Reply
result_reply done = numbers_only 0 0 0 0
result_reply (number n) = numbers_only 0 (n / size) (n % size) 0
result_reply (tallied n r) = numbers_only 0 (n / size) (n % size) r
result_reply (value b) = numbers_only 0 0 (bit_of b) 0
result_reply (around r) = numbers_only 0 0 r.start r.«end»
result_reply (position o) = position_reply o
result_reply (listing l) = with_listing 0 0 0 l
result_reply (drawn o l) = drawn_reply o l
result_reply (written n bs) = numbers_only 0 0 n 0
result_reply (mended n bs m cs) = numbers_only 0 0 n m

-- AN ANSWER, FLAT: a refusal's number alone, or what the call gives
abbrev pub reply_of : Answer → Reply
reply_of (refused n) = numbers_only n 0 0 0
reply_of (gave r) = result_reply r
