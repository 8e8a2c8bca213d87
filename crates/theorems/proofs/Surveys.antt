-- Surveys, over what the public calls promise: what one lists parts its square. A block of one value is the one part of itself, since its count is 0 or
-- all exactly where its cells have the value of the first one; any other has the parts of its halves, down to a single cell. Assumes nothing.
use Rattle.std.specs.Prelude.{None}
use Prim.Native.Nat.{ℕ, zero, suc, ◌+◌, ◌*◌, ◌-◌, ◌^◌}
use mathlib.Core.Path.{◌≡◌, refl, sym, ap, ap₂, ◌∙◌}
use mathlib.Core.Bool.{Bool, true, false, cond, not, true≢false}
use mathlib.Core.List.{List, [], ◌∷◌, ◌++◌}
use native.Mathlib.Nat.{two-pow-succ}
use native.Mathlib.Omega.{arith}
use Rattle.std.proofs.lemmas.Nat.{pow_pos}
use lib.ListN.{take}
use Rattle.model.specs.Positions.{Positions, one_if}
use Rattle.model.specs.Grid
use Rattle.model.specs.Grid.{cell, one_valued, or_halves, by_row, survey}
use Rattle.model.specs.Refusals.{off_plane, output_short, ◌when◌, refusal, bad_square, no_room}
use Rattle.model.specs.Call.{Call, written, gave}
use Rattle.pool.specs.Layout.{held_by}
use Rattle.grid.specs.Surveys.{OnGrid}
use Rattle.grid.proofs.Alike.{alike-one, other-two, single-one}
use Rattle.interval_bit_set.proofs.Planes.{square-on}
use Rattle.interval_bit_set.specs.Met.{Met}
use Rattle.interval_bit_set.proofs.Giving.{some-not, given-quiet, given-is}
use Rattle.theorems.proofs.Writing.{front-is}
use Rattle.theorems.specs.Surveys.{Piece, piece, HasValue, IsOneValued, Listed, words_of, Parts}
use Rattle.theorems.proofs.SurveysHalving.{Halves, square-halves, half-halves}
use Rattle.theorems.proofs.SurveysParting.{one-part, both-parts}

-- ---- words
-- those of one list and then of the other
words-both : (xs ys : List Listed) → words_of (xs ++ ys) ≡ words_of xs ++ words_of ys
words-both [] ys = refl
words-both (x ∷ xs) ys =
    ap (λ ws. x.piece.top ∷ x.piece.left ∷ x.piece.rows ∷ x.piece.columns ∷ one_if x.value ∷ ws) (words-both xs ys)

-- words that list the parts of a piece
pub record Parted (P : Positions) (b : Piece) (ws : List ℕ) : Type 0 where
  pub parts : List Listed
  pub words : ws ≡ words_of parts
  pub part : Parts P b parts

-- ---- blocks
-- of two values the one that is not the other's opposite is the other
no-opposite : (v u : Bool) → (v ≡ not u → ⊥) → v ≡ u
no-opposite true true f = refl
no-opposite true false f = absurd (f refl)
no-opposite false true f = absurd (f refl)
no-opposite false false f = refl

module _ (P : Positions) (r c m n : ℕ) (on : OnGrid r c m n) where
  -- a block of one value has that of its first cell
  valued : one_valued P r c m n ≡ true → HasValue P (piece r c m n) (P (cell r c))
  valued e row column i =
      no-opposite (P (cell row column)) (P (cell r c))
      (λ f.
      true≢false
      (sym e ∙ other-two P r c m n on row (cell row column) i.from_row i.to_row (omega (arith, i.from_column)) (omega (arith, i.to_column)) f))

  -- any other has none
  two-valued : one_valued P r c m n ≡ false → IsOneValued P (piece r c m n) → ⊥
  two-valued e (v, h) =
      true≢false
      (sym
      (alike-one P r c m n on v
      (λ i x a b k l.
      let column : ℕ = x - i * 65536 in
      let f : x ≡ cell i column = omega arith in
      ap P f ∙ h i column (record { from_row = a; to_row = b; from_column = omega arith; to_column = omega arith })))
      ∙ e)

  -- so its words list its parts, if those of its halves list theirs
  or-parted : {f s : Piece} {xs ys : List ℕ} → Halves (piece r c m n) f s → Parted P f xs → Parted P s ys
      → Parted P (piece r c m n) (or_halves P r c m n (xs ++ ys))
  or-parted {f} {s} {xs} {ys} H p q = go (one_valued P r c m n) refl
    where
      go : (t : Bool) → one_valued P r c m n ≡ t → Parted P (piece r c m n) (cond t (Grid.piece r c m n (P (cell r c))) (xs ++ ys))
      go true e = record { parts = _; words = refl; part = one-part P (piece r c m n) (P (cell r c)) (valued e) }
      go false e = record {
        parts = p.parts ++ q.parts;
        words = ap₂ ◌++◌ p.words q.words ∙ sym (words-both p.parts q.parts);
        part = both-parts P H (two-valued e) p.part q.part;
      }

-- ---- squares
module _ (P : Positions) where
  -- the half of one, by squares
  half-parted : (k : ℕ) → ((r c : ℕ) → OnGrid r c (2 ^ k) (2 ^ k) → Parted P (piece r c (2 ^ k) (2 ^ k)) (survey P k r c)) → (r c : ℕ)
      → OnGrid r c (2 ^ suc k) (2 ^ k) → Parted P (piece r c (2 ^ suc k) (2 ^ k)) (by_row P k (survey P k) r c)
  half-parted k squares r c on =
      let p = pow_pos k in
      or-parted P r c (2 ^ suc k) (2 ^ k) on (half-halves r c k)
      (squares r c (record { some = p; wide = p; low = omega (arith, on.low, two-pow-succ k); within = on.within }))
      (squares (r + 2 ^ k) c (record { some = p; wide = p; low = omega (arith, on.low, two-pow-succ k); within = on.within }))

  -- a square, by halves of it
  square-parted : (k r c : ℕ) → OnGrid r c (2 ^ k) (2 ^ k) → Parted P (piece r c (2 ^ k) (2 ^ k)) (survey P k r c)
  unfolding survey
  square-parted zero r c on =
      record { parts = _; words = refl; part = one-part P (piece r c 1 1) (P (cell r c)) (valued P r c 1 1 on (single-one P r c on)) }
  square-parted (suc k) r c on =
      let p = pow_pos k in
      let q = pow_pos (suc k) in
      or-parted P r c (2 ^ suc k) (2 ^ suc k) on (square-halves r c k)
      (half-parted k (square-parted k) r c (record { some = q; wide = p; low = on.low; within = omega (arith, on.within, two-pow-succ k) }))
      (half-parted k (square-parted k) r (c + 2 ^ k) (record { some = q; wide = p; low = on.low; within = omega (arith, on.within, two-pow-succ k) }))

-- ---- a survey that is not refused
-- no square is surveyed that is not on the plane
square-good : (t b : Bool) → refusal (output_short when t ∷ off_plane when b ∷ []) ≡ None → b ≡ false
square-good t false e = refl
square-good t true e = absurd (some-not e)

module _ {w : List ℕ} {i row column k : ℕ} {out out' : List ℕ} {n : ℕ} {w' : List ℕ}
    (m : Met w i (Call.survey row column k out) (gave (written n out')) w') where
  abbrev due : List ℕ
  due = survey (held_by w i) k row column

  -- the words in front are those due of the positions held
  listed-is : take n out' ≡ due
  listed-is = front-is due out (given-is m)

  -- of a square that is on the plane: they list its parts
  pub survey-parted : (ls : List Listed) × (take n out' ≡ words_of ls) × Parts (held_by w i) (piece row column (2 ^ k) (2 ^ k)) ls
  survey-parted =
      let good = square-good (no_room out due) (bad_square row column k) (given-quiet m) in
      let p = square-parted (held_by w i) k row column (square-on row column k good) in
      (p.parts, listed-is ∙ p.words, p.part)
