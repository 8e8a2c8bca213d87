-- `overwrite` meets its contract. The loop's invariant: the runs that came are laid. Assumes nothing.
use Rattle.changes.proofs.Overwriting.{Laying}
use Rattle.changes.proofs.overwrite.overwrite.Given as goal

abbrev pub invariant-loop-r : goal.invariant-loop-r
invariant-loop-r g l = Laying l.initial.into l.into l.k.free l.node l.n l.yielded
