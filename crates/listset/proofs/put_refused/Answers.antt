-- A line is put, part by part.
use Rattle.std.proofs.Common.{append_assoc}
use mathlib.Core.List.{◌++◌}
use Rattle.model.specs.Numbers.{refusal_number}
use Rattle.listset.specs.Text.{decimal, line_feed, refused_line}
use Rattle.listset.proofs.Putting.{and_then, cut_short, same_text}
use Rattle.listset.proofs.put_refused.Goals as goal

pub returns-in_err-put : goal.returns-in_err-put
unfolding refused_line
returns-in_err-put c =
    same_text (simp append_assoc) (cut_short (decimal (refusal_number c.args.refusal) ++ line_feed) c.in_err-put.ensures c.from_residual.ensures.0)

pub returns : goal.returns
unfolding refused_line
returns c = same_text (rw (c.from-2.ensures, c.from.ensures) (simp append_assoc)) (and_then c.in_ok-put.ensures c.put_number.ensures)
