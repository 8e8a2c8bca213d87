-- The lines of a world's set are put: the counts, then the runs.
use Rattle.std.proofs.Common.{◌≤◌, ◌^◌, true}
use mathlib.Core.Path.{sym, subst, ap}
use Rattle.model.specs.Numbers.{size}
use Rattle.model.specs.Positions.{held_runs}
use Rattle.model.proofs.Counting.{count_most}
use Rattle.pool.specs.Layout.{held_by}
use Rattle.listset.specs.Text.{run_lines}
use Rattle.listset.proofs.Putting.{and_then, cut_short, same_text}
use Rattle.listset.proofs.Drawing.{set-told}
use Rattle.listset.proofs.put_set.Goals as goal

pub put_counts-requires : goal.put_counts-requires
put_counts-requires c = subst (λ k. k ≤ 2 ^ 64) (sym c.held_tally-tally.ensures.count-is) (count_most (held_by c.args.pool.words.now 0) true 0 size)

pub returns-in_err-put_counts : goal.returns-in_err-put_counts
returns-in_err-put_counts c =
    same_text (set-told c.held_tally-tally.ensures)
    (cut_short (run_lines (held_runs (held_by c.args.pool.words.now 0))) c.in_err-put_counts.ensures c.from_residual.ensures.0)

pub returns : goal.returns
returns c =
    same_text (set-told c.held_tally-tally.ensures) (and_then c.in_ok-put_counts.ensures (same_text (ap run_lines c.all_runs.ensures) c.put_runs.ensures))
