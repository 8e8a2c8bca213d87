-- `put` meets its contract: the eight words that it copies are put. Assumes nothing.
use Rattle.std.specs.Prelude.{◌*◌}
use mathlib.Core.Path.{◌∙◌}
use Rattle.frame.proofs.Replies.{reply-placed}
use Rattle.frame.proofs.put.Goals as goal

pub returns : goal.returns
returns c = reply-placed c.args.answers.now (8 * c.args.i) c.args.r (c.copy_from_slice.ensures.after ∙ c.from.ensures)
