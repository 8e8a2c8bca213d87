-- What halving comes to, over the cells of pieces alone: whatever comes from a piece is the piece itself, or comes from one of its two halves,
-- which have no cell in common. A half lies in what was halved, so all that comes lies there too. Assumes nothing.
use Prim.Native.Nat.{ℕ, suc, ◌+◌, ◌^◌, ◌≤◌, ◌<◌}
use mathlib.Core.Path.{◌≡◌, refl, sym, ap, subst}
use mathlib.Core.Logic.{◌⊎◌, inl, inr}
use native.Mathlib.Nat.{two-pow-succ}
use native.Mathlib.Omega.{arith}
use Rattle.std.proofs.Math.Pow.{pow-lt}
use Rattle.std.proofs.lemmas.Nat.{pow_pos}
use Rattle.model.proofs.Numbers.{split}
use Rattle.theorems.specs.Surveys.{Piece, piece, HasCell, Comes, whole, left, right, upper, lower, LiesIn}

-- a piece has a cell in its first row and its first column
abbrev HasFirst : Piece → Type 0
HasFirst p = HasCell p p.top p.left

-- ---- what comes
-- it lies in what it comes from
pub comes-in : {b p : Piece} → Comes b p → LiesIn p b
comes-in whole row column i = i
comes-in (left r c m h) row column i =
    comes-in h row column
    (record { from_row = i.from_row; to_row = i.to_row; from_column = i.from_column; to_column = omega (arith, two-pow-succ m, i.to_column) })
comes-in (right r c m h) row column i =
    comes-in h row column
    (record {
      from_row = i.from_row;
      to_row = i.to_row;
      from_column = omega (arith, i.from_column);
      to_column = omega (arith, two-pow-succ m, i.to_column);
    })
comes-in (upper r c m h) row column i =
    comes-in h row column
    (record { from_row = i.from_row; to_row = omega (arith, two-pow-succ m, i.to_row); from_column = i.from_column; to_column = i.to_column })
comes-in (lower r c m h) row column i =
    comes-in h row column
    (record {
      from_row = omega (arith, i.from_row);
      to_row = omega (arith, two-pow-succ m, i.to_row);
      from_column = i.from_column;
      to_column = i.to_column;
    })

-- what comes from a piece that comes, comes
pub comes-on : {b p q : Piece} → Comes b p → Comes p q → Comes b q
comes-on h whole = h
comes-on h (left r c m g) = left r c m (comes-on h g)
comes-on h (right r c m g) = right r c m (comes-on h g)
comes-on h (upper r c m g) = upper r c m (comes-on h g)
comes-on h (lower r c m g) = lower r c m (comes-on h g)

-- a piece of some rows and some columns has its first cell
first-cell : (r c m n : ℕ) → 0 < m → 0 < n → HasFirst (piece r c m n)
first-cell r c m n h g = record { from_row = omega arith; to_row = omega arith; from_column = omega arith; to_column = omega arith }

-- as those have that are made by halving
sized : (r c i j : ℕ) → HasFirst (piece r c (2 ^ i) (2 ^ j))
sized r c i j = first-cell r c (2 ^ i) (2 ^ j) (pow_pos i) (pow_pos j)

-- so what comes from one that has it has one too
comes-first : {b p : Piece} → HasFirst b → Comes b p → HasFirst p
comes-first f whole = f
comes-first f (left r c m h) = sized r c (suc m) m
comes-first f (right r c m h) = sized r (c + 2 ^ m) (suc m) m
comes-first f (upper r c m h) = sized r c m m
comes-first f (lower r c m h) = sized (r + 2 ^ m) c m m

-- ---- halves
-- f and s are the two halves of b: they come from it, share no cell, and have all of its cells; and they are the halves, however b is written
pub record Halves (b f s : Piece) : Type 0 where
  pub first : Comes b f
  pub second : Comes b s
  pub some : HasFirst f
  pub more : HasFirst s
  pub apart : (row column : ℕ) → HasCell f row column → HasCell s row column → ⊥
  pub cover : (row column : ℕ) → HasCell b row column → HasCell f row column ⊎ HasCell s row column
  pub by_column :
      (r c m : ℕ)
      → b ≡ piece r c (2 ^ suc m) (2 ^ suc m)
      → (f ≡ piece r c (2 ^ suc m) (2 ^ m)) × (s ≡ piece r (c + 2 ^ m) (2 ^ suc m) (2 ^ m))
  pub by_row :
      (r c m : ℕ)
      → b ≡ piece r c (2 ^ suc m) (2 ^ m)
      → (f ≡ piece r c (2 ^ m) (2 ^ m)) × (s ≡ piece (r + 2 ^ m) c (2 ^ m) (2 ^ m))

-- two powers of 2 that are the same
pow-alike : (i j : ℕ) → 2 ^ i ≡ 2 ^ j → i ≡ j
pow-alike i j e = go (split i j) (split j i)
  where
    go : (i < j) ⊎ (j ≤ i) → (j < i) ⊎ (i ≤ j) → i ≡ j
    go (inl h) g = absurd (omega (arith, e, pow-lt h))
    go (inr h) (inl g) = absurd (omega (arith, e, pow-lt g))
    go (inr h) (inr g) = omega arith

-- a square is no half of one
not-half : (k m : ℕ) → 2 ^ k ≡ 2 ^ suc m → 2 ^ k ≡ 2 ^ m → ⊥
not-half k m e f = omega (arith, e, f, two-pow-succ m, pow_pos m)

-- a square has a left half and a right one
pub square-halves : (r c k : ℕ) → Halves (piece r c (2 ^ suc k) (2 ^ suc k)) (piece r c (2 ^ suc k) (2 ^ k)) (piece r (c + 2 ^ k) (2 ^ suc k) (2 ^ k))
square-halves r c k = record {
  first = left r c k whole;
  second = right r c k whole;
  some = sized r c (suc k) k;
  more = sized r (c + 2 ^ k) (suc k) k;
  apart = λ row column i j. omega (arith, i.to_column, j.from_column);
  cover = λ row column i. by row column i (split column (c + 2 ^ k));
  by_column = λ r' c' m e. same r' c' m e (pow-alike (suc k) (suc m) (ap (λ p. p.rows) e));
  by_row = λ r' c' m e. absurd (not-half (suc k) m (ap (λ p. p.rows) e) (ap (λ p. p.columns) e));
}
  where
    by : (row column : ℕ) → HasCell (piece r c (2 ^ suc k) (2 ^ suc k)) row column → (column < c + 2 ^ k) ⊎ (c + 2 ^ k ≤ column)
        → HasCell (piece r c (2 ^ suc k) (2 ^ k)) row column ⊎ HasCell (piece r (c + 2 ^ k) (2 ^ suc k) (2 ^ k)) row column
    by row column i (inl h) = inl (record { from_row = i.from_row; to_row = i.to_row; from_column = i.from_column; to_column = h })
    by row column i (inr h) =
        let l : column < (c + 2 ^ k) + 2 ^ k = omega (arith, two-pow-succ k, i.to_column) in
        inr (record { from_row = i.from_row; to_row = i.to_row; from_column = h; to_column = l })

    same : (r' c' m : ℕ) → piece r c (2 ^ suc k) (2 ^ suc k) ≡ piece r' c' (2 ^ suc m) (2 ^ suc m) → suc k ≡ suc m
        → (piece r c (2 ^ suc k) (2 ^ k) ≡ piece r' c' (2 ^ suc m) (2 ^ m))
        × (piece r (c + 2 ^ k) (2 ^ suc k) (2 ^ k) ≡ piece r' (c' + 2 ^ m) (2 ^ suc m) (2 ^ m))
    same r' c' m e f =
        let x : r ≡ r' = ap (λ p. p.top) e in
        let y : c ≡ c' = ap (λ p. p.left) e in
        let z : k ≡ m = omega arith in
        (rw (x, y, z) refl, rw (x, y, z) refl)

-- and a half of one an upper square and a lower one
pub half-halves : (r c k : ℕ) → Halves (piece r c (2 ^ suc k) (2 ^ k)) (piece r c (2 ^ k) (2 ^ k)) (piece (r + 2 ^ k) c (2 ^ k) (2 ^ k))
half-halves r c k = record {
  first = upper r c k whole;
  second = lower r c k whole;
  some = sized r c k k;
  more = sized (r + 2 ^ k) c k k;
  apart = λ row column i j. omega (arith, i.to_row, j.from_row);
  cover = λ row column i. by row column i (split row (r + 2 ^ k));
  by_column = λ r' c' m e. absurd (not-half (suc m) k (sym (ap (λ p. p.rows) e)) (sym (ap (λ p. p.columns) e)));
  by_row = λ r' c' m e. same r' c' m e (pow-alike k m (ap (λ p. p.columns) e));
}
  where
    by : (row column : ℕ) → HasCell (piece r c (2 ^ suc k) (2 ^ k)) row column → (row < r + 2 ^ k) ⊎ (r + 2 ^ k ≤ row)
        → HasCell (piece r c (2 ^ k) (2 ^ k)) row column ⊎ HasCell (piece (r + 2 ^ k) c (2 ^ k) (2 ^ k)) row column
    by row column i (inl h) = inl (record { from_row = i.from_row; to_row = h; from_column = i.from_column; to_column = i.to_column })
    by row column i (inr h) =
        let l : row < (r + 2 ^ k) + 2 ^ k = omega (arith, two-pow-succ k, i.to_row) in
        inr (record { from_row = h; to_row = l; from_column = i.from_column; to_column = i.to_column })

    same : (r' c' m : ℕ) → piece r c (2 ^ suc k) (2 ^ k) ≡ piece r' c' (2 ^ suc m) (2 ^ m) → k ≡ m
        → (piece r c (2 ^ k) (2 ^ k) ≡ piece r' c' (2 ^ m) (2 ^ m))
        × (piece (r + 2 ^ k) c (2 ^ k) (2 ^ k) ≡ piece (r' + 2 ^ m) c' (2 ^ m) (2 ^ m))
    same r' c' m e z =
        let x : r ≡ r' = ap (λ p. p.top) e in
        let y : c ≡ c' = ap (λ p. p.left) e in
        (rw (x, y, z) refl, rw (x, y, z) refl)

-- ---- the first step
-- where what comes from b comes from: it is b itself, or comes from one half of it
pub data Way (b f s p : Piece) : Type 0 where
  itself : b ≡ p → Way b f s p
  in_first : Comes f p → Way b f s p
  in_second : Comes s p → Way b f s p

module _ {b f s : Piece} (H : Halves b f s) where
  -- there is no other way
  pub way : {p : Piece} → Comes b p → Way b f s p
  way whole = itself refl
  way (left r c m h) = elim (way h) [
    | itself e ↦ in_first (subst (Comes f) (H.by_column r c m e).0 whole)
    | in_first g ↦ in_first (left r c m g)
    | in_second g ↦ in_second (left r c m g)
  ]
  way (right r c m h) = elim (way h) [
    | itself e ↦ in_second (subst (Comes s) (H.by_column r c m e).1 whole)
    | in_first g ↦ in_first (right r c m g)
    | in_second g ↦ in_second (right r c m g)
  ]
  way (upper r c m h) = elim (way h) [
    | itself e ↦ in_first (subst (Comes f) (H.by_row r c m e).0 whole)
    | in_first g ↦ in_first (upper r c m g)
    | in_second g ↦ in_second (upper r c m g)
  ]
  way (lower r c m h) = elim (way h) [
    | itself e ↦ in_second (subst (Comes s) (H.by_row r c m e).1 whole)
    | in_first g ↦ in_first (lower r c m g)
    | in_second g ↦ in_second (lower r c m g)
  ]

  -- what comes from one half does not lie in the other
  pub not-second : {p : Piece} → Comes f p → LiesIn p s → ⊥
  not-second {p} h i = let x = comes-first H.some h in H.apart p.top p.left (comes-in h p.top p.left x) (i p.top p.left x)

  -- the other way round
  pub not-first : {p : Piece} → Comes s p → LiesIn p f → ⊥
  not-first {p} h i = let x = comes-first H.more h in H.apart p.top p.left (i p.top p.left x) (comes-in h p.top p.left x)
