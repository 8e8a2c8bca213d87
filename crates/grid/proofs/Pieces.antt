-- Words of pieces put into a slice, where it has room for them: a piece, and lists one after the other. Assumes nothing.
use Prim.Native.Nat.{ℕ, ◌+◌, ◌-◌, ◌≤◌, ◌^◌}
use mathlib.Core.Path.{◌≡◌, refl, ap₂, ◌∙◌}
use mathlib.Core.Bool.{Bool, true, false}
use mathlib.Core.List.{List, [], ◌∷◌, ◌++◌}
use native.Mathlib.Omega.{arith}
use lib.ListN.{length, length-append}
use lib.Seq.{drop-drop}
use borrow.Rule.Slice.PartMut.{put_mid}
use mir.Val.{bool_byte}
use Rattle.model.specs.Positions.{one_if}
use Rattle.model.specs.Grid.{piece}
use Rattle.codec.specs.Placed.{placed}
use Rattle.codec.proofs.Placing.{placed-placed, placed-length}
use Rattle.grid.specs.Surveys.{Listed}

-- five words, put in place
five-placed : (out ps : List ℕ) (p : ℕ) → length ps ≡ 5 → put_mid p (p + 5 - p) out ps ≡ placed p ps out
unfolding placed
five-placed out ps p l =
    let e : p + 5 - p ≡ 5 = omega arith in
    rw (e, l, drop-drop 5 p out) refl

-- a piece
pub piece_listed : (r c i j p : ℕ) (v : Bool) (out : List ℕ) {m n b : ℕ} {ws : List ℕ} → p + 5 ≤ length out → m ≡ 2 ^ i → n ≡ 2 ^ j → b ≡ bool_byte v
    → ws ≡ r ∷ c ∷ m ∷ n ∷ b ∷ [] → Listed (piece r c (2 ^ i) (2 ^ j) v) p (p + 5) out (put_mid p (p + 5 - p) out ws)
piece_listed r c i j p v out {m} {n} {b} {ws} room em en eb ew = rw (ew ∙ is) (record {
  next = refl;
  long = rw (five-placed out (piece r c (2 ^ i) (2 ^ j) v) p refl) (placed-length p (piece r c (2 ^ i) (2 ^ j) v) out room);
  slice = λ _. five-placed out (piece r c (2 ^ i) (2 ^ j) v) p refl;
})
  where
    word : (w : Bool) → bool_byte w ≡ one_if w
    word true = refl
    word false = refl

    is : r ∷ c ∷ m ∷ n ∷ b ∷ [] ≡ piece r c (2 ^ i) (2 ^ j) v
    is = rw (em, en, eb, word v) refl

-- one list, and the next after it
pub both_listed : (xs ys : List ℕ) {p q z : ℕ} {out mid out' : List ℕ} → Listed xs p q out mid → Listed ys q z mid out'
    → Listed (xs ++ ys) p z out out'
both_listed xs ys {p} {q} {z} {out} s t = record {
  next = omega (arith, length-append xs ys, s.next, t.next);
  long = t.long ∙ s.long;
  slice = λ h.
      t.slice (omega (arith, s.long)) ∙ ap₂ (λ (j : ℕ) (l : List ℕ). placed j ys l) s.next (s.slice (omega (arith, t.next)))
      ∙ placed-placed p xs ys out (omega (arith, s.next, t.next));
}
