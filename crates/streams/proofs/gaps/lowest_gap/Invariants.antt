-- `lowest_gap` meets its contract. The loop's invariant: the reader stands at x, at least n positions of the range are left, and the lowest gap
-- of what is left is the range's. The measure is what is left to read. Assumes nothing.
use Rattle.pool.specs.Layout.{held_in}
use Rattle.streams.specs.Reading.{positions_from}
use Rattle.streams.proofs.Gapped.{Sought}
use Rattle.streams.proofs.gaps.lowest_gap.Given as goal

abbrev pub invariant-loop-r : goal.invariant-loop-r
invariant-loop-r l = Sought l.runs l.range.first.0 l.range.last.0 l.n l.x (held_in l.words l.fn.h)

abbrev pub decreases-loop-r : goal.decreases-loop-r
decreases-loop-r l = positions_from l.runs.from
