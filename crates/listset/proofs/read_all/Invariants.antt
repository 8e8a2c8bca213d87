-- The bytes up to n are those that the input has given.
use Rattle.std.proofs.Common.{◌≡◌, ◌-◌, ◌≤◌, length, take}
use Rattle.std.specs.Io.KnownBytes.{Consumes}
use Rattle.listset.proofs.read_all.Given as goal

abbrev pub invariant-loop-n : goal.invariant-loop-n
invariant-loop-n g l = record {
  within : l.n ≤ 15206;
  long : length l.room ≡ 15206;
  bytes : Consumes (g.R.Read.remaining l.initial.input) (g.R.Read.remaining l.input) (take l.n l.room);
}

abbrev pub decreases-loop-n : goal.decreases-loop-n
decreases-loop-n g l = 15206 - l.n
