-- Two lines are put, part by part.
use Rattle.std.proofs.Common.{append_assoc}
use mathlib.Core.List.{◌++◌}
use Rattle.model.specs.Numbers.{worth}
use Rattle.listset.specs.Text.{decimal, line_feed, ones_word, count_lines}
use Rattle.listset.proofs.Putting.{and_then, cut_short, same_text}
use Rattle.listset.proofs.put_counts.Goals as goal

pub returns-in_err-put : goal.returns-in_err-put
unfolding count_lines
returns-in_err-put c =
    same_text (simp append_assoc)
    (cut_short (decimal c.args.runs ++ line_feed ++ ones_word ++ decimal (worth c.args.ones) ++ line_feed) c.in_err-put.ensures c.from_residual.ensures.0)

pub returns-in_err-put_number : goal.returns-in_err-put_number
unfolding count_lines
returns-in_err-put_number c =
    same_text (rw c.from.ensures (simp append_assoc))
    (and_then c.in_ok-put.ensures
    (cut_short (decimal (worth c.args.ones) ++ line_feed) c.in_err-put_number.ensures c.from_residual-in_err-put_number.ensures.0))

pub returns : goal.returns
unfolding count_lines
returns c =
    same_text (rw (c.from.ensures, c.from-2.ensures) (simp append_assoc))
    (and_then c.in_ok-put.ensures (and_then c.in_ok-put_number.ensures c.put_number-2.ensures))
