-- `loss` meets its contract: a tally tells the runs of a stretch, which are few, and each neighbour is one more. Assumes nothing.
use Rattle.std.proofs.Common.{arith}
use Rattle.pool.specs.Layout.{held}
use Rattle.pool.proofs.Truths.{byte-small}
use Rattle.grid.proofs.Small.{runs-few}
use Rattle.grid.proofs.rows.Change.loss.Goals as goal

pub overflow_add-result : goal.overflow_add-result
overflow_add-result c =
    let s = c.args.row in
    omega (
      arith,
      c.tally-inside.ensures.runs-are,
      runs-few (held c.args.set.now) s.range.first.0 s.range.last.0 s.range.ordered s.on_plane,
      c.from.ensures,
      byte-small c.if-self.before,
    )

pub overflow_add-result-2 : goal.overflow_add-result-2
overflow_add-result-2 c =
    let s = c.args.row in
    omega (
      arith,
      c.tally-inside.ensures.runs-are,
      runs-few (held c.args.set.now) s.range.first.0 s.range.last.0 s.range.ordered s.on_plane,
      c.from.ensures,
      byte-small c.if-self.before,
      c.from-2.ensures,
      byte-small c.if-self-2.after,
    )
