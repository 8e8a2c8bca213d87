-- `least_runs` meets its contract. The loop's invariant: a and b are the numbers for the heights i and i + 1. Assumes nothing.
use Rattle.std.proofs.Common.{◌+◌, ◌≤◌, ◌≡◌}
use Rattle.model.specs.Deepest.{least}
use Rattle.deepest.proofs.list.least_runs.Given as goal

abbrev pub invariant-loop : goal.invariant-loop
invariant-loop l = (l.counter ≤ l.h) × (l.a ≡ least l.counter) × (l.b ≡ least (l.counter + 1))
