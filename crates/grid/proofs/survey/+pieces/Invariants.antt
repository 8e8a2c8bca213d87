-- `put_by_column` and `put_by_row` meet their contracts. The measure is the sum of the tile's exponents. Assumes nothing.
use Rattle.std.proofs.Common.{◌+◌}
use Rattle.grid.proofs.survey.+pieces.Given as goal

abbrev pub decreases-put_by_column : goal.decreases-put_by_column
decreases-put_by_column l = l.b.i + l.b.j

abbrev pub decreases-put_by_row : goal.decreases-put_by_row
decreases-put_by_row l = l.b.i + l.b.j
