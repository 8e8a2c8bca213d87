-- What calls on rectangles and squares of a grid ask and promise. Assumes nothing: these are definitions.
use Rattle.std.specs.Prelude.{ℕ, ◌+◌, ◌^◌, ◌≤◌, ◌≡◌, List, length}
use Rattle.model.specs.Positions.{Positions}
use Rattle.model.specs.Bytes.{into_front}
use Rattle.codec.specs.Placed.{placed}
use Rattle.model.specs.declared.Rect.{Rect}
use Rattle.model.specs.Grid.{survey, by_row}

-- a rectangle of the plane
pub record OnPlane (q : Rect) : Type 0 where
  pub rows : q.top ≤ q.bottom
  pub columns : q.left ≤ q.right
  pub low : q.bottom ≤ 65535
  pub within : q.right ≤ 65535

-- m rows of n columns of the plane, from row r and column c on
pub record OnGrid (r c m n : ℕ) : Type 0 where
  pub some : 1 ≤ m
  pub wide : 1 ≤ n
  pub low : r + m ≤ 65536
  pub within : c + n ≤ 65536

-- what halving leaves of a square of side 2^8 at most: 2^i rows of 2^j columns, as many, or twice as many
pub record Halved (r c i j : ℕ) : Type 0 where
  pub low : j ≤ i
  pub high : i ≤ j + 1
  pub few : i ≤ 8
  pub on : OnGrid r c (2 ^ i) (2 ^ j)

-- the words ps went to a slice from p on, if it has room for them, and the next ones go to q
pub record Listed (ps : List ℕ) (p q : ℕ) (out out' : List ℕ) : Type 0 where
  pub next : q ≡ p + length ps
  pub long : length out' ≡ length out
  pub slice : q ≤ length out → out' ≡ placed p ps out

-- the pieces of a half of a square: 2^(k + 1) rows of 2^k columns
unfoldable pub half : Positions → ℕ → ℕ → ℕ → List ℕ
half P k r c = by_row P k (survey P k) r c

-- the words ps went to the front of a slice: how many they are, and the slice
pub record Surveyed (ps : List ℕ) (n : ℕ) (out out' : List ℕ) : Type 0 where
  pub words : n ≡ length ps
  pub slice : out' ≡ into_front ps out
