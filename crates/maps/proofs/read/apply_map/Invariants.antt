-- `apply_map` meets its contract. The loop's invariant: the window was cleared, and the bits before that from which on stretches are still to
-- come are read into it. Assumes nothing.
use Rattle.std.proofs.Common.{◌≡◌}
use Rattle.maps.proofs.Applying.{Applying}
use Rattle.maps.proofs.read.apply_map.Given as goal

abbrev pub invariant-loop-s : goal.invariant-loop-s
invariant-loop-s g l = (l.s-iterator.map.now ≡ l.map) × Applying l.initial.words l.words l.initial.at l.at l.map.window.base l.map.window.n l.map.bytes.now l.s-iterator.from
