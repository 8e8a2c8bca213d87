-- `write_set` meets its contract. The loop's invariant: behind the head the runs that came are put, and the others are still to come. Assumes nothing.
use Rattle.std.specs.Prelude.{drop}
use Rattle.std.specs.Iterator.{AlwaysYields}
use Rattle.std.specs.Iterator.Adapters.{enumerate_source, enumerate_count}
use Rattle.model.specs.Positions.{held_runs}
use Rattle.pool.specs.Layout.{held_in}
use Rattle.streams.specs.Reading.{Draws, Reads}
use Rattle.codec.proofs.Strewing.{Put}
use Rattle.streams.proofs.write.write_set.Given as goal

abbrev pub invariant-loop-i : goal.invariant-loop-i
invariant-loop-i l =
    let rs = held_runs (held_in l.fn.words l.fn.h) in
    Put l.edition l.n rs l.initial.out l.out (enumerate_count l.i-iterator)
    × AlwaysYields (Draws Reads) (λ u. u) (enumerate_source l.i-iterator) (drop (enumerate_count l.i-iterator) rs)
