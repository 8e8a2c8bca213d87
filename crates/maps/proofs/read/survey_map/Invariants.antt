-- `survey_map` meets its contract. The loop's invariant: the runs and the changes of the window are counted up to the bit from which on stretches
-- are still to come. Assumes nothing.
use Rattle.std.proofs.Common.{◌≡◌}
use Rattle.pool.specs.Layout.{held}
use Rattle.maps.proofs.Surveying.{Surveying}
use Rattle.maps.proofs.read.survey_map.Given as goal

abbrev pub invariant-loop-s : goal.invariant-loop-s
invariant-loop-s g l = (l.s-iterator.map.now ≡ l.map) × Surveying (held l.set) l.map.window.base l.map.window.n l.map.bytes.now l.s-iterator.from l.runs l.changed
