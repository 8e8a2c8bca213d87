-- `resize_run` meets its contract: the tree has the nodes that it had, and gains the difference of the two runs' widths. Assumes nothing.
use Rattle.std.proofs.Common.{arith}
use Rattle.pool.proofs.Altering.{old-ordered, alter-resizes, change-becomes}
use Rattle.pool.proofs.free.resize_run.Goals as goal

pub overflow_sub-more-2 : goal.overflow_sub-more-2
overflow_sub-more-2 c = old-ordered c.requires.3

pub resize-requires : goal.resize-requires
resize-requires c =
    (_, _, _, alter-resizes c.requires.3 _ (omega arith))

pub returns : goal.returns
returns c =
    change-becomes _ (omega arith) c.resize.ensures
