-- `write_map_by_bytes` meets its contract. The loop's invariant: j bytes of the map are in front of the slice, and the cursor stands at the first
-- position of the next one. The measure is how many positions are left. Assumes nothing.
use Rattle.std.proofs.Common.{◌-◌, ◌*◌}
use Rattle.pool.specs.Layout.{held_in}
use Rattle.maps.proofs.Octeting.{Writing}
use Rattle.maps.proofs.write.write_map_by_bytes.Given as goal

abbrev pub invariant-loop-j : goal.invariant-loop-j
invariant-loop-j l = Writing l.held l.fn.window.base l.fn.window.n l.j l.initial.out l.out (held_in l.fn.words l.fn.h)

abbrev pub decreases-loop-j : goal.decreases-loop-j
decreases-loop-j l = l.fn.window.n - 8 * l.j
