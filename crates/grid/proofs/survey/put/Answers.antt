-- `put` meets its contract: a survey has few words, and what is put from the start on is the front. Assumes nothing.
use Rattle.std.proofs.Common.{◌∙◌, subst, arith}
use Rattle.codec.proofs.Placing.{placed-front}
use Rattle.pool.specs.Layout.{held}
use Rattle.grid.specs.Surveys.{Listed}
use Rattle.grid.proofs.Halving.{tile_pieces}
use Rattle.grid.proofs.survey.put.Goals as goal

pub returns : goal.returns
returns c =
    let l =
    subst (λ ps. Listed ps 0 c.put_by_column.result c.args.out.now c.put_by_column.new.out)
    (tile_pieces (held c.args.set.now) c.tile.result c.tile.ensures) c.put_by_column.ensures in
    record { words = omega (arith, l.next); slice = l.slice (omega (arith, l.next, c.requires)) ∙ placed-front _ _ }
