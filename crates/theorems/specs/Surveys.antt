-- What the pieces of a survey are, over cells and positions alone. Assumes nothing: these are definitions.
use Rattle.std.specs.Prelude.{ℕ, suc, ◌+◌, ◌^◌, ◌≤◌, ◌<◌, ◌≡◌, Bool, List, [], ◌∷◌}
use Rattle.std.specs.List.{AllByRecursion}
use Rattle.model.specs.Positions.{Positions, one_if}
use Rattle.model.specs.Grid.{cell}

-- ---- pieces
-- how many rows there are from row top on, and how many columns from column left on
pub record Piece : Type 0 where
  pub top : ℕ
  pub left : ℕ
  pub rows : ℕ
  pub columns : ℕ

-- the piece of these four
abbrev pub piece : ℕ → ℕ → ℕ → ℕ → Piece
piece top left rows columns = record { top = top; left = left; rows = rows; columns = columns }

-- the cell at a row and a column is one of the piece
pub record HasCell (p : Piece) (row column : ℕ) : Type 0 where
  pub from_row : p.top ≤ row
  pub to_row : row < p.top + p.rows
  pub from_column : p.left ≤ column
  pub to_column : column < p.left + p.columns

-- every cell of the piece has the value
abbrev pub HasValue : Positions → Piece → Bool → Type 0
HasValue P p value = (row column : ℕ) → HasCell p row column → P (cell row column) ≡ value

-- all cells of the piece have one value
abbrev pub IsOneValued : Positions → Piece → Type 0
IsOneValued P p = (value : Bool) × HasValue P p value

-- the pieces that halving a square by column, then by row, in turn, can come to
pub data Comes (square : Piece) : Piece → Type 0 where
  whole : Comes square square
  left :
      (r c m : ℕ)
      → Comes square (piece r c (2 ^ suc m) (2 ^ suc m))
      → Comes square (piece r c (2 ^ suc m) (2 ^ m))
  right :
      (r c m : ℕ)
      → Comes square (piece r c (2 ^ suc m) (2 ^ suc m))
      → Comes square (piece r (c + 2 ^ m) (2 ^ suc m) (2 ^ m))
  upper : (r c m : ℕ) → Comes square (piece r c (2 ^ suc m) (2 ^ m)) → Comes square (piece r c (2 ^ m) (2 ^ m))
  lower : (r c m : ℕ) → Comes square (piece r c (2 ^ suc m) (2 ^ m)) → Comes square (piece (r + 2 ^ m) c (2 ^ m) (2 ^ m))

-- a piece lies within another one
abbrev pub LiesIn : Piece → Piece → Type 0
LiesIn p q = (row column : ℕ) → HasCell p row column → HasCell q row column

-- ---- listed pieces
-- a piece, and the value that its cells are to have
pub record Listed : Type 0 where
  pub piece : Piece
  pub value : Bool

-- five words of each: first row, first column, rows, columns and value
abbrev pub words_of : List Listed → List ℕ
words_of [] = []
words_of (l ∷ ls) = l.piece.top ∷ l.piece.left ∷ l.piece.rows ∷ l.piece.columns ∷ one_if l.value ∷ words_of ls

-- a cell is in just one of the listed pieces
pub data IsInOne (row column : ℕ) : List Listed → Type 0 where
  here :
      {l : Listed} {ls : List Listed}
      → HasCell l.piece row column
      → AllByRecursion (λ k. HasCell k.piece row column → ⊥) ls
      → IsInOne row column (l ∷ ls)
  there :
      {l : Listed} {ls : List Listed}
      → (HasCell l.piece row column → ⊥)
      → IsInOne row column ls
      → IsInOne row column (l ∷ ls)

-- of two pieces that lie in the two halves of one that was halved, the one in the left or the upper half comes before: q does not come before p
pub record ComesFirst (square p q : Piece) : Type 0 where
  pub columns :
      (r c m : ℕ)
      → Comes square (piece r c (2 ^ suc m) (2 ^ suc m))
      → LiesIn p (piece r (c + 2 ^ m) (2 ^ suc m) (2 ^ m))
      → LiesIn q (piece r c (2 ^ suc m) (2 ^ m))
      → ⊥
  pub rows :
      (r c m : ℕ)
      → Comes square (piece r c (2 ^ suc m) (2 ^ m))
      → LiesIn p (piece (r + 2 ^ m) c (2 ^ m) (2 ^ m))
      → LiesIn q (piece r c (2 ^ m) (2 ^ m))
      → ⊥

-- each listed piece comes before those that are listed after it
abbrev pub AreInOrder : Piece → List Listed → Type 0
AreInOrder square [] = Unit {0}
AreInOrder square (l ∷ ls) = AllByRecursion (λ k. ComesFirst square l.piece k.piece) ls × AreInOrder square ls

-- ---- a survey
-- a listed piece of the square: halving comes to it; all its cells have its value; and no greater piece of one value was halved on the way to it
pub record IsRightlyListed (P : Positions) (square : Piece) (l : Listed) : Type 0 where
  pub comes : Comes square l.piece
  pub valued : HasValue P l.piece l.value
  pub largest : (q : Piece) → Comes square q → LiesIn l.piece q → IsOneValued P q → LiesIn q l.piece

-- the listed pieces part the square: every cell of it is in just one of them; each is rightly listed; and left comes before right, upper before lower
pub record Parts (P : Positions) (square : Piece) (ls : List Listed) : Type 0 where
  pub once : (row column : ℕ) → HasCell square row column → IsInOne row column ls
  pub each : AllByRecursion (IsRightlyListed P square) ls
  pub in_order : AreInOrder square ls
