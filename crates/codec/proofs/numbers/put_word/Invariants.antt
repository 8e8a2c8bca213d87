-- `put_word` meets its contract. The loop's invariant: the first j bytes are put. Assumes nothing.
use Rattle.std.proofs.Common.{◌≡◌, take}
use Rattle.codec.specs.Placed.{strewn}
use Rattle.codec.proofs.numbers.put_word.Given as goal

abbrev pub invariant-loop-j : goal.invariant-loop-j
invariant-loop-j l = l.out ≡ strewn l.at l.step (take l.j l.bytes) l.initial.out
