-- `put_by_column` and `put_by_row` meet their contracts: a tile that has one value is listed, and any other one's parts are, one after the other.
-- Assumes nothing.
use Rattle.std.proofs.Common.{◌≤◌, ℕ, sym, ◌∙◌, subst, arith}
use Rattle.std.proofs.lemmas.Grind.{common_steps}
use Rattle.grid.specs.Surveys.{Listed}
use Rattle.grid.proofs.Halving.{more_cells, square_parted, square_long, half_parted, half_long}
use Rattle.grid.proofs.Pieces.{both_listed}
use Rattle.grid.proofs.survey.+pieces.Goals as goal
use Rattle.grid.proofs.survey.+pieces.Goals.{put_by_column-Else-one_valued}

-- ---- a square
-- one of two values is no single cell
some : {t : ℕ} (c : put_by_column-Else-one_valued t) → 1 ≤ c.args.b.j
some c = more_cells _ _ _ _ _ c.args.b.halved.on c.requires.square (sym c.one_valued.ensures ∙ c.if-one_valued.false)

pub put_by_column-invariant_of-left : goal.put_by_column-invariant_of-left
put_by_column-invariant_of-left t c = grind (arith, common_steps, some (goal.at.put_by_column-invariant_of-left t c).Else-one_valued)

pub put_by_column-invariant_of-right : goal.put_by_column-invariant_of-right
put_by_column-invariant_of-right t c = grind (arith, common_steps, some (goal.at.put_by_column-invariant_of-right t c).Else-one_valued)

pub put_by_column-put_by_row-next-requires : goal.put_by_column-put_by_row-next-requires
put_by_column-put_by_row-next-requires t c =
    let l = some (goal.at.put_by_column-put_by_row-next-requires t c).Else-one_valued in
    grind (arith, l, c.requires, square_long _ _ _ _ _ c.requires.square l c.columns.ensures (sym c.one_valued.ensures ∙ c.if-one_valued.false))

pub put_by_column-put_by_row-requires : goal.put_by_column-put_by_row-requires
put_by_column-put_by_row-requires t c =
    let l = some (goal.at.put_by_column-put_by_row-requires t c).Else-one_valued in
    grind (arith, l, c.requires, square_long _ _ _ _ _ c.requires.square l c.columns.ensures (sym c.one_valued.ensures ∙ c.if-one_valued.false))

pub put_by_column-returns : goal.put_by_column-returns
put_by_column-returns t c =
    subst (λ ps. Listed ps c.args.at c.put_by_row.result c.args.out.now c.put_by_row.new.out)
    (sym (square_parted _ _ _ _ _ c.requires.square (some (goal.at.put_by_column-returns t c).Else-one_valued) c.columns.ensures
    (sym c.one_valued.ensures ∙ c.if-one_valued.false)))
    (both_listed _ _ c.put_by_row-next.ensures c.put_by_row.ensures)

-- ---- the half of one
pub put_by_row-put_by_column-next-requires : goal.put_by_row-put_by_column-next-requires
put_by_row-put_by_column-next-requires t c =
    grind (arith, c.requires, half_long _ _ _ _ _ c.requires.half c.rows.ensures (sym c.one_valued.ensures ∙ c.if-one_valued.false))

pub put_by_row-put_by_column-requires : goal.put_by_row-put_by_column-requires
put_by_row-put_by_column-requires t c =
    grind (arith, c.requires, half_long _ _ _ _ _ c.requires.half c.rows.ensures (sym c.one_valued.ensures ∙ c.if-one_valued.false))

pub put_by_row-returns : goal.put_by_row-returns
put_by_row-returns t c =
    subst (λ ps. Listed ps c.args.at c.put_by_column.result c.args.out.now c.put_by_column.new.out)
    (sym (half_parted _ _ _ _ _ c.requires.half c.rows.ensures (sym c.one_valued.ensures ∙ c.if-one_valued.false)))
    (both_listed _ _ c.put_by_column-next.ensures c.put_by_column.ensures)
