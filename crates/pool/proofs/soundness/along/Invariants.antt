-- `along` meets its contract. The loop's invariant: the links left lead where all of them do. Assumes nothing.
use Rattle.pool.proofs.Base.{◌≡◌, ◌-◌, along_of}
use Rattle.pool.proofs.soundness.along.Given as goal

abbrev pub invariant-loop : goal.invariant-loop
invariant-loop l = along_of (l.n - l.counter) l.words l.k ≡ along_of l.n l.words l.link
