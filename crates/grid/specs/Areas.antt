-- When rectangles and squares are those of the plane. Assumes nothing: these are definitions.
use Rattle.std.specs.Prelude.{◌≡◌, ℕ, true, false, Option, None, Some}
use Rattle.model.specs.declared.Rect.{Rect}
use Rattle.model.specs.Refusals.{bad_rect, bad_square}
use Rattle.grid.specs.declared.rows.Area.{Area}
use Rattle.grid.specs.declared.tile.Square.{Square}

-- the rectangle q, if it is one of the plane
abbrev pub AreaOf : Rect → Option Area → Type 0
AreaOf q None = bad_rect q ≡ true
AreaOf q (Some a) = (bad_rect q ≡ false) × (a.q ≡ q)

-- the square of side 2^k from a row and a column on, if it is one of the plane
abbrev pub SquareOf : ℕ → ℕ → ℕ → Option Square → Type 0
SquareOf r c k None = bad_square r c k ≡ true
SquareOf r c k (Some s) = (bad_square r c k ≡ false) × (s.corner.row ≡ r) × (s.corner.column ≡ c) × (s.k ≡ k)
