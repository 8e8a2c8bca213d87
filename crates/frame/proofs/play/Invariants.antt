-- `play` meets its contract. The loop's invariant: i records were served as the model serves their calls. Assumes nothing.
use Rattle.std.specs.Prelude.{◌≡◌, ◌-◌, ◌/◌, length}
use Rattle.frame.proofs.Playing.{Playing}
use Rattle.frame.proofs.play.Given as goal

abbrev pub invariant-loop-i : goal.invariant-loop-i
invariant-loop-i l = record {
  playing : Playing l.initial.pool.words.now l.calls l.initial.answers (length l.calls / 8) l.i l.pool.words.now l.answers;
  same_loan : l.pool.words.ghost_name ≡ l.initial.pool.words.ghost_name;
}

abbrev pub decreases-loop-i : goal.decreases-loop-i
decreases-loop-i l = length l.records - l.i
