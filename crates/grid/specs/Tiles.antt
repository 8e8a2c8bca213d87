-- The pieces of a tile, which is a square or the half of one. Assumes nothing: these are definitions.
use Rattle.std.specs.Prelude.{ℕ, ◌^◌, List}
use Rattle.model.specs.Positions.{Positions}
use Rattle.model.specs.Grid.{cell, piece, survey}
use Rattle.grid.specs.declared.tile.Tile.{Tile}
use Rattle.grid.specs.Surveys.{half}

-- a tile as one piece, with the value of its first cell
abbrev pub whole_piece : Positions → Tile → List ℕ
whole_piece P b = piece b.corner.row b.corner.column (2 ^ b.i) (2 ^ b.j) (P (cell b.corner.row b.corner.column))

-- the pieces of a square, halved by column first
abbrev pub square_pieces : Positions → Tile → List ℕ
square_pieces P b = survey P b.j b.corner.row b.corner.column

-- the pieces of the half of one, halved by row first
abbrev pub half_pieces : Positions → Tile → List ℕ
half_pieces P b = half P b.j b.corner.row b.corner.column
