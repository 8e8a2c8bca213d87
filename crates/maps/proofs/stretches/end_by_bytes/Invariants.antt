-- `end_by_bytes` meets its contract. The loop's invariant: all bits from i to e have the value of bit i, and e is one of the n. The measure is
-- what is left of the n. Assumes nothing.
use Rattle.std.proofs.Common.{◌-◌}
use Rattle.maps.proofs.Bits.{Going}
use Rattle.maps.proofs.stretches.end_by_bytes.Given as goal

abbrev pub invariant-loop-e : goal.invariant-loop-e
invariant-loop-e l = Going l.map.bytes.now l.i l.map.window.n l.e

abbrev pub decreases-loop-e : goal.decreases-loop-e
decreases-loop-e l = l.map.window.n - l.e
