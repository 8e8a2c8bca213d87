-- `held_cells` meets its contract: a tally tells the held cells of a stretch, and the plane has too few for a carry. Assumes nothing.
use Rattle.std.proofs.Common.{true, arith}
use Rattle.model.proofs.Counting.{count_most}
use Rattle.model.specs.Range.{many}
use Rattle.pool.specs.Layout.{held}
use Rattle.grid.proofs.rows.held_cells.Goals as goal

pub returns : goal.returns
returns c =
    let s = c.args.s in
    omega (arith, c.tally.ensures.count-is, count_most (held c.args.set.now) true s.range.first.0 (many s.range), s.on_plane)
