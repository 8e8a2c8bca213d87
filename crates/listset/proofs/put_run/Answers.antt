-- A line is put, part by part.
use Rattle.std.proofs.Common.{append_assoc}
use mathlib.Core.List.{◌++◌}
use Rattle.listset.specs.Text.{decimal, line_feed, run_line}
use Rattle.listset.proofs.Putting.{and_then, cut_short, same_text}
use Rattle.listset.proofs.put_run.Goals as goal

pub returns-in_err-put_number : goal.returns-in_err-put_number
unfolding run_line
returns-in_err-put_number c =
    same_text (rw c.from.ensures (simp append_assoc)) (cut_short (decimal c.args.run.«end» ++ line_feed) c.in_err-put_number.ensures c.from_residual.ensures.0)

pub returns : goal.returns
unfolding run_line
returns c = same_text (rw (c.from.ensures, c.from-2.ensures) (simp append_assoc)) (and_then c.in_ok-put_number.ensures c.put_number-2.ensures)
