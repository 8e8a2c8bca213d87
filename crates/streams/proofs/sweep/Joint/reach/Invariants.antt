-- `reach` meets its contract. At each turn both cursors stand at the same position, and the join has had the other value so far, whatever positions
-- they read. The measure is what is left of the positions. Assumes nothing.
use Prim.Native.Nat.{◌-◌}
use mathlib.Core.Path.{◌≡◌}
use Rattle.model.specs.Numbers.{size}
use Rattle.model.specs.Positions.{Positions}
use Rattle.streams.specs.Sweeping.{Both}
use Rattle.streams.proofs.Sweeps.{Swept}
use Rattle.streams.proofs.sweep.Joint.reach.Given as goal

abbrev pub invariant-loop-self : goal.invariant-loop-self
invariant-loop-self l =
    (l.self.from ≡ l.initial.self.from) × ((J : Positions) → Both l.initial.self l.initial.at.0 J → Swept l.self l.initial.at.0 l.at.0 l.value J)

abbrev pub decreases-loop-self : goal.decreases-loop-self
decreases-loop-self l = size - l.at.0
