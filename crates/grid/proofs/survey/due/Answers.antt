-- `due` meets its contract: a survey has few words, so they can be counted. Assumes nothing.
use Rattle.std.proofs.Common.{arith, ap, length}
use Rattle.pool.specs.Layout.{held}
use Rattle.grid.proofs.Halving.{survey-few, tile_pieces}
use Rattle.grid.proofs.survey.due.Goals as goal

pub put_by_column-requires-clause-few : goal.put_by_column-requires-clause-few
put_by_column-requires-clause-few c =
    let s = c.args.square in
    omega (
      arith,
      survey-few (held c.args.set.now) s.k s.corner.row s.corner.column s.small,
      ap length (tile_pieces (held c.args.set.now) c.tile.result c.tile.ensures),
    )
