-- `paint_bytes` meets its contract. The loop's invariant: the bits before i are painted. Assumes nothing.
use Rattle.maps.specs.Painted.{Paints}
use Rattle.maps.proofs.paint.paint_bytes.Given as goal

abbrev pub invariant-loop-i : goal.invariant-loop-i
invariant-loop-i l = Paints l.initial.map l.map l.a l.i
