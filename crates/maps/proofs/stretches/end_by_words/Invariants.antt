-- `end_by_words` meets its contract. The loop's invariant: all bits from i to e have the value of bit i, and e is one of the map's bits, spare ones
-- too. The measure is what is left of these. Assumes nothing.
use Rattle.std.proofs.Common.{◌-◌, ◌*◌, length}
use Rattle.maps.proofs.Bits.{Going}
use Rattle.maps.proofs.stretches.end_by_words.Given as goal

abbrev pub invariant-loop-e : goal.invariant-loop-e
invariant-loop-e l = Going l.map.bytes.now l.i (8 * length l.map.bytes.now) l.e

abbrev pub decreases-loop-e : goal.decreases-loop-e
decreases-loop-e l = 8 * length l.map.bytes.now - l.e
