-- The first runs are put, and the others are left.
use Rattle.std.proofs.Common.{length}
use Rattle.model.specs.Positions.{remaining}
use Rattle.pool.specs.Layout.{held_by}
use Rattle.listset.proofs.Lines.{Progress}
use Rattle.listset.proofs.put_runs.Given as goal

abbrev pub invariant-loop-run : goal.invariant-loop-run
invariant-loop-run l = Progress (held_by l.pool.words.now 0) l.initial.text l.initial.left l.text l.left

abbrev pub decreases-loop-run : goal.decreases-loop-run
decreases-loop-run l = length (remaining (held_by l.pool.words.now 0) l.left)
