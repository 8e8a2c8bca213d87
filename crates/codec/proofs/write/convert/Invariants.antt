-- `convert` meets its contract. The loop's invariant: behind the head the first i runs are put. Assumes nothing.
use Rattle.std.proofs.Common.{drop}
use Rattle.model.specs.Bytes.{runs_told}
use Rattle.codec.proofs.Strewing.{Put}
use Rattle.codec.proofs.write.convert.Given as goal

abbrev pub invariant-loop-i : goal.invariant-loop-i
invariant-loop-i l = Put l.to l.told.count (runs_told l.told.edition l.told.count (drop 5 l.told.bytes.now)) l.initial.out l.out l.i
