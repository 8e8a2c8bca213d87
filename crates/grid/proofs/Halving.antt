-- The pieces of a tile, which is a square or the half of one: the tile itself, if it has one value, else those of its two parts, which are tiles
-- too; and how many words there are at most. Assumes nothing.
use Prim.Native.Nat.{ℕ, zero, suc, ◌+◌, ◌-◌, ◌*◌, ◌^◌, ◌≤◌}
use mathlib.Core.Path.{◌≡◌, refl, sym, ap, ap₂, ◌∙◌, subst, subst₂}
use mathlib.Core.Bool.{Bool, true, false, cond, true≢false}
use mathlib.Core.List.{List, ◌++◌}
use native.Mathlib.Omega.{arith}
use native.Mathlib.Nat.{one-le-pow, pow-suc, pow-le-pow_right}
use lib.ListN.{length, length-append}
use Rattle.model.specs.Positions.{Positions}
use Rattle.model.specs.Grid.{cell, one_valued, piece, by_row, by_column, survey}
use Rattle.grid.specs.declared.tile.Tile.{Tile}
use Rattle.grid.specs.declared.tile.Corner.{Corner}
use Rattle.grid.specs.Surveys.{OnGrid, half}
use Rattle.grid.specs.Tiles.{square_pieces}
use Rattle.grid.proofs.Alike.{single-one}

-- ---- pieces
module _ (P : Positions) (r c : ℕ) where
  -- a half that has one value
  half_is : (k : ℕ) → one_valued P r c (2 ^ suc k) (2 ^ k) ≡ true → half P k r c ≡ piece r c (2 ^ suc k) (2 ^ k) (P (cell r c))
  unfolding half
  half_is k e =
      ap (λ b. cond b (piece r c (2 ^ suc k) (2 ^ k) (P (cell r c))) (survey P k r c ++ survey P k (r + 2 ^ k) c)) e

  -- one that has two
  half-two : (k : ℕ) → one_valued P r c (2 ^ suc k) (2 ^ k) ≡ false → half P k r c ≡ survey P k r c ++ survey P k (r + 2 ^ k) c
  unfolding half
  half-two k e =
      ap (λ b. cond b (piece r c (2 ^ suc k) (2 ^ k) (P (cell r c))) (survey P k r c ++ survey P k (r + 2 ^ k) c)) e

  -- a square that has one value
  square-is : (k : ℕ) → one_valued P r c (2 ^ k) (2 ^ k) ≡ true → survey P k r c ≡ piece r c (2 ^ k) (2 ^ k) (P (cell r c))
  unfolding survey
  square-is zero e = refl
  square-is (suc k) e =
      ap
      (λ b. cond b (piece r c (2 ^ suc k) (2 ^ suc k) (P (cell r c))) (by_row P k (survey P k) r c ++ by_row P k (survey P k) r (c + 2 ^ k)))
      e

  -- one that has two
  square-two : (k : ℕ) → one_valued P r c (2 ^ suc k) (2 ^ suc k) ≡ false → survey P (suc k) r c ≡ half P k r c ++ half P k r (c + 2 ^ k)
  unfolding survey half
  square-two k e =
      ap
      (λ b. cond b (piece r c (2 ^ suc k) (2 ^ suc k) (P (cell r c))) (by_row P k (survey P k) r c ++ by_row P k (survey P k) r (c + 2 ^ k)))
      e

-- ---- a tile
module _ (P : Positions) (r c i j : ℕ) where
  -- a square of one value is one piece
  pub square_whole : i ≡ j → one_valued P r c (2 ^ i) (2 ^ j) ≡ true → survey P j r c ≡ piece r c (2 ^ i) (2 ^ j) (P (cell r c))
  square_whole e o =
      subst (λ k. one_valued P r c (2 ^ k) (2 ^ j) ≡ true → survey P j r c ≡ piece r c (2 ^ k) (2 ^ j) (P (cell r c))) (sym e) (square-is P r c j) o

  -- so is the half of one
  pub half_whole : i ≡ j + 1 → one_valued P r c (2 ^ i) (2 ^ j) ≡ true → half P j r c ≡ piece r c (2 ^ i) (2 ^ j) (P (cell r c))
  half_whole e o =
      let f : suc j ≡ i = omega arith in
      subst (λ k. one_valued P r c (2 ^ k) (2 ^ j) ≡ true → half P j r c ≡ piece r c (2 ^ k) (2 ^ j) (P (cell r c))) f (half_is P r c j) o

  -- a square of two values is no single cell
  pub more_cells : OnGrid r c (2 ^ i) (2 ^ j) → i ≡ j → one_valued P r c (2 ^ i) (2 ^ j) ≡ false → 1 ≤ j
  more_cells on e two = go j refl
    where
      go : (y : ℕ) → y ≡ j → 1 ≤ j
      go (suc y) f = omega arith
      go zero f =
          let g : 0 ≡ i = omega arith in
          absurd
          (true≢false
          (sym (single-one P r c (subst₂ (λ x y. OnGrid r c (2 ^ x) (2 ^ y)) (sym g) (sym f) on))
          ∙ ap₂ (λ x y. one_valued P r c (2 ^ x) (2 ^ y)) g f ∙ two))

  -- its pieces are those of its left half and of its right one
  pub square_parted : {m : ℕ} → i ≡ j → 1 ≤ j → m ≡ 2 ^ (j - 1) → one_valued P r c (2 ^ i) (2 ^ j) ≡ false
      → survey P j r c ≡ half P (j - 1) r c ++ half P (j - 1) r (c + m)
  square_parted {m} e some em two =
      let f : j ≡ suc (j - 1) = omega arith in
      ap (λ x. survey P x r c) f ∙ square-two P r c (j - 1) (ap₂ (λ x y. one_valued P r c (2 ^ x) (2 ^ y)) (sym (e ∙ f)) (sym f) ∙ two)
      ∙ ap (λ x. half P (j - 1) r c ++ half P (j - 1) r (c + x)) (sym em)

  -- and so many
  pub square_long : {m : ℕ} → i ≡ j → 1 ≤ j → m ≡ 2 ^ (j - 1) → one_valued P r c (2 ^ i) (2 ^ j) ≡ false
      → length (survey P j r c) ≡ length (half P (j - 1) r c) + length (half P (j - 1) r (c + m))
  square_long e some em two = ap length (square_parted e some em two) ∙ length-append (half P (j - 1) r c) _

  -- those of the half of one are those of its upper square and of its lower one
  pub half_parted : {m : ℕ} → i ≡ j + 1 → m ≡ 2 ^ (i - 1) → one_valued P r c (2 ^ i) (2 ^ j) ≡ false
      → half P j r c ≡ survey P j r c ++ survey P j (r + m) c
  half_parted {m} e em two =
      let f : i - 1 ≡ j = omega arith in
      let g : suc j ≡ i = omega arith in
      half-two P r c j (ap (λ x. one_valued P r c (2 ^ x) (2 ^ j)) g ∙ two)
      ∙ ap (λ x. survey P j r c ++ survey P j (r + x) c) (sym (em ∙ ap (λ x. 2 ^ x) f))

  -- and so many
  pub half_long : {m : ℕ} → i ≡ j + 1 → m ≡ 2 ^ (i - 1) → one_valued P r c (2 ^ i) (2 ^ j) ≡ false
      → length (half P j r c) ≡ length (survey P j r c) + length (survey P j (r + m) c)
  half_long e em two = ap length (half_parted e em two) ∙ length-append (survey P j r c) _

-- a square as a tile has the same pieces
pub tile_pieces : (P : Positions) (b : Tile) {c : Corner} {k : ℕ} → (b.corner ≡ c) × (b.i ≡ k) × (b.j ≡ k)
    → square_pieces P b ≡ survey P k c.row c.column
tile_pieces P b (e, f, g) = ap₂ (λ (k : ℕ) (c : Corner). survey P k c.row c.column) g e

-- ---- how many words there are
-- the piece, or its halves
either-most : (b : Bool) (xs ys : List ℕ) (n : ℕ) → length xs ≤ n → length ys ≤ n → length (cond b xs ys) ≤ n
either-most true xs ys n h l = h
either-most false xs ys n h l = l

module _ (P : Positions) (k n : ℕ) (squares : ℕ → ℕ → List ℕ) (some : 5 ≤ n) (most : (r c : ℕ) → length (squares r c) ≤ n) where
  -- in a half
  row-most : (r c : ℕ) → length (by_row P k squares r c) ≤ n + n
  row-most r c =
      either-most (one_valued P r c (2 ^ suc k) (2 ^ k)) (piece r c (2 ^ suc k) (2 ^ k) (P (cell r c))) (squares r c ++ squares (r + 2 ^ k) c) (n + n)
      (omega arith)
      (omega (arith, length-append (squares r c) (squares (r + 2 ^ k) c), most r c, most (r + 2 ^ k) c))

  -- in a square
  column-most : (r c : ℕ) → length (by_column P k squares r c) ≤ n * 4
  column-most r c =
      either-most (one_valued P r c (2 ^ suc k) (2 ^ suc k)) (piece r c (2 ^ suc k) (2 ^ suc k) (P (cell r c)))
      (by_row P k squares r c ++ by_row P k squares r (c + 2 ^ k)) (n * 4)
      (omega arith)
      (omega (arith, length-append (by_row P k squares r c) (by_row P k squares r (c + 2 ^ k)), row-most r c, row-most r (c + 2 ^ k)))

-- five for each cell at most
survey-most : (P : Positions) (k r c : ℕ) → length (survey P k r c) ≤ 5 * 4 ^ k
unfolding survey
survey-most P zero r c = omega arith
survey-most P (suc k) r c =
    omega (
      arith,
      column-most P k (5 * 4 ^ k) (survey P k) (omega (arith, one-le-pow k 4 (omega arith))) (survey-most P k) r c,
      pow-suc 4 k,
    )

-- so those of a square of side 2^8 at most can be counted
pub survey-few : (P : Positions) (k r c : ℕ) → k ≤ 8 → length (survey P k r c) ≤ 327680
survey-few P k r c h = omega (arith, survey-most P k r c, pow-le-pow_right {n = 4} (omega arith) {i = k} {j = 8} h)
