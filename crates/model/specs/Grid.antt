-- THE PLAIN MODEL: cells of a grid, 65,536 rows of 65,536 columns; the cell at a row and a column is a position (document 02, Ticket 12).
-- Assumes nothing: these are definitions.
use Rattle.std.specs.Prelude.{ℕ, zero, suc, ◌+◌, ◌-◌, ◌*◌, ◌/◌, ◌%◌, ◌^◌, Bool, true, cond, ◌&&◌, ◌||◌, List, [], ◌∷◌, ◌++◌, eqb}
use Rattle.model.specs.Numbers.{size}
use Rattle.model.specs.Positions.{Positions, inside, one_if, count}
use Rattle.model.specs.declared.Rect.{Rect}

-- the cell at row r and column c
abbrev pub cell : ℕ → ℕ → ℕ
cell r c = r * 65536 + c

-- a rectangle is given by its two corners, which belong to it: the position x is a cell of it
unfoldable pub within : Rect → ℕ → Bool
within q x = inside q.top q.bottom (x / 65536) && inside q.left q.right (x % 65536)

-- set_rect: its cells get the value v
unfoldable pub set_rect : Rect → Bool → Positions → Positions
set_rect q v P x = cond (within q x) v (P x)

-- count_rect: how many of them are held
unfoldable pub count_rect : Rect → Positions → ℕ
count_rect q P = count (λ x. within q x && P x) true 0 size

-- ---- survey
-- m rows of n columns from row r and column c on
abbrev pub block : ℕ → ℕ → ℕ → ℕ → Rect
block r c m n = record { top = r; left = c; bottom = r + m - 1; right = c + n - 1 }

-- its cells have one value: none of them is held, or all are
unfoldable pub one_valued : Positions → ℕ → ℕ → ℕ → ℕ → Bool
one_valued P r c m n = eqb (count_rect (block r c m n) P) 0 || eqb (count_rect (block r c m n) P) (m * n)

-- a listed piece: its first row, first column, rows, columns and value
abbrev pub piece : ℕ → ℕ → ℕ → ℕ → Bool → List ℕ
piece r c m n v = r ∷ c ∷ m ∷ n ∷ one_if v ∷ []

-- a piece that has one value is listed; any other is halved
abbrev pub or_halves : Positions → ℕ → ℕ → ℕ → ℕ → List ℕ → List ℕ
or_halves P r c m n halves = cond (one_valued P r c m n) (piece r c m n (P (cell r c))) halves

-- halved by row: the upper half, and then the lower one, which are squares of side 2^k
abbrev pub by_row : Positions → ℕ → (ℕ → ℕ → List ℕ) → ℕ → ℕ → List ℕ
by_row P k squares r c = or_halves P r c (2 ^ suc k) (2 ^ k) (squares r c ++ squares (r + 2 ^ k) c)

-- halved by column: the left half, and then the right one
abbrev pub by_column : Positions → ℕ → (ℕ → ℕ → List ℕ) → ℕ → ℕ → List ℕ
by_column P k squares r c = or_halves P r c (2 ^ suc k) (2 ^ suc k) (by_row P k squares r c ++ by_row P k squares r (c + 2 ^ k))

-- survey: the pieces of a square of side 2^k, halved by column, then by row, in turn
unfoldable pub survey : Positions → ℕ → ℕ → ℕ → List ℕ
survey P zero r c = piece r c 1 1 (P (cell r c))
survey P (suc k) r c = by_column P k (survey P k) r c
