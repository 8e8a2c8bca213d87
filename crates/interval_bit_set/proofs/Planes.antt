-- When a rectangle, or a square, is one of the plane, test by test. Assumes nothing.
use Rattle.std.specs.Prelude.{None, Some}
use Rattle.std.specs.Prelude.{◌≡◌, ℕ, ◌+◌, ◌-◌, ◌^◌, ◌<◌, ◌≤◌, Bool, true, false, ◌||◌, ltb, ◌⊎◌, [], ◌∷◌}
use mathlib.Core.Path.{refl, sym, ap, ◌∙◌}
use mathlib.Core.Logic.{inl, inr}
use native.Mathlib.Omega.{arith}
use native.Mathlib.Nat.{pow-le-pow_right}
use lib.Pow.{pow_pos}
use borrow.Author.Tests.{ltb-false, lt-ltb, le-ltb}
use Rattle.model.specs.declared.Rect.{Rect}
use Rattle.model.specs.Refusals.{off_plane, before_capacity, ◌when◌, first_given, refusal, bad_rect, bad_square}
use Rattle.model.proofs.Numbers.{split, neither-first, neither-second}
use Rattle.grid.specs.Surveys.{OnPlane, OnGrid}

-- one test that holds is enough
or_later : (a : Bool) {b : Bool} → b ≡ true → (a || b) ≡ true
or_later true e = refl
or_later false e = e

or-first : {a : Bool} (b : Bool) → a ≡ true → (a || b) ≡ true
or-first b e = ap (λ t. t || b) e

module _ (q : Rect) where
  -- a corner below the plane
  pub bad-low : 65535 < q.bottom → bad_rect q ≡ true
  unfolding bad_rect
  bad-low h = or_later (ltb 65535 q.top) (or_later (ltb 65535 q.left) (or-first _ (lt-ltb 65535 q.bottom h)))

  -- or right of it
  pub bad-wide : 65535 < q.right → bad_rect q ≡ true
  unfolding bad_rect
  bad-wide h = or_later (ltb 65535 q.top) (or_later (ltb 65535 q.left) (or_later (ltb 65535 q.bottom) (or-first _ (lt-ltb 65535 q.right h))))

  -- a first corner beyond the second in row
  pub bad-rows : q.bottom < q.top → bad_rect q ≡ true
  unfolding bad_rect
  bad-rows h =
      or_later (ltb 65535 q.top)
      (or_later (ltb 65535 q.left) (or_later (ltb 65535 q.bottom) (or_later (ltb 65535 q.right) (or-first _ (lt-ltb q.bottom q.top h)))))

  -- the others go by the columns
  pub bad-columns : q.bottom ≤ 65535 → q.right ≤ 65535 → q.top ≤ q.bottom → bad_rect q ≡ ltb q.right q.left
  unfolding bad_rect
  bad-columns a b c = go (split q.right q.left)
    where
      go : (q.right < q.left) ⊎ (q.left ≤ q.right) → bad_rect q ≡ ltb q.right q.left
      go (inl l) =
          or_later (ltb 65535 q.top)
          (or_later (ltb 65535 q.left) (or_later (ltb 65535 q.bottom) (or_later (ltb 65535 q.right) (or_later (ltb q.bottom q.top) (lt-ltb q.right q.left l)))))
          ∙ sym (lt-ltb q.right q.left l)
      go (inr l) =
          rw (
            le-ltb 65535 q.top (omega arith),
            le-ltb 65535 q.left (omega arith),
            le-ltb 65535 q.bottom a,
            le-ltb 65535 q.right b,
            le-ltb q.bottom q.top c,
          )

  -- a rectangle that is not refused is one of the plane
  pub on-plane : bad_rect q ≡ false → OnPlane q
  unfolding bad_rect
  on-plane e =
      let a = neither-second (ltb 65535 q.top) _ e in
      let b = neither-second (ltb 65535 q.left) _ a in
      let c = neither-second (ltb 65535 q.bottom) _ b in
      let d = neither-second (ltb 65535 q.right) _ c in record {
        rows = ltb-false _ _ (neither-first (ltb q.bottom q.top) _ d);
        columns = ltb-false _ _ (neither-second (ltb q.bottom q.top) _ d);
        low = ltb-false _ _ (neither-first (ltb 65535 q.bottom) _ b);
        within = ltb-false _ _ (neither-first (ltb 65535 q.right) _ c);
      }

  -- 15 refuses it if it is none, before a change and in a report
  pub plane-refused : bad_rect q ≡ true → refusal (off_plane when bad_rect q ∷ []) ≡ Some 15
  plane-refused e = rw e

  pub plane-first : bad_rect q ≡ true → first_given before_capacity (off_plane when bad_rect q ∷ []) ≡ Some 15
  plane-first e = rw e

  -- and else does not
  pub plane-passes : bad_rect q ≡ false → refusal (off_plane when bad_rect q ∷ []) ≡ None
  plane-passes e = rw e

-- ---- a square of side 2^k, from row r and column c on
-- k is at most 8, and so it has at most 256 rows
pub side-most : (k : ℕ) → k ≤ 8 → 2 ^ k ≤ 256
side-most k h = pow-le-pow_right {n = 2} (omega arith) {i = k} {j = 8} h

module _ (r c k : ℕ) where
  pub bad-large : 8 < k → bad_square r c k ≡ true
  unfolding bad_square
  bad-large h = or-first _ (lt-ltb 8 k h)

  bad-row : 65536 < r + 2 ^ k → bad_square r c k ≡ true
  unfolding bad_square
  bad-row h = or_later (ltb 8 k) (or-first _ (lt-ltb 65536 (r + 2 ^ k) h))

  -- the others go by the column
  bad-column : k ≤ 8 → r + 2 ^ k ≤ 65536 → bad_square r c k ≡ ltb 65536 (c + 2 ^ k)
  unfolding bad_square
  bad-column a b = rw (le-ltb 8 k a, le-ltb 65536 (r + 2 ^ k) b)

  -- the tests, as they are made: n is its side
  module _ (n : ℕ) (e : n ≡ 2 ^ k) (few : k ≤ 8) where
    most : n ≤ 256
    most = omega (arith, side-most k few)

    -- it starts too low
    pub row-beyond : 65536 - n < r → bad_square r c k ≡ true
    row-beyond h = let m = most in bad-row (omega arith)

    -- or too far to the right
    pub column-beyond : r ≤ 65536 - n → 65536 - n < c → bad_square r c k ≡ true
    column-beyond h l = let m = most in bad-column few (omega arith) ∙ lt-ltb 65536 (c + 2 ^ k) (omega arith)

    -- or neither
    pub square-there : r ≤ 65536 - n → c ≤ 65536 - n → bad_square r c k ≡ false
    square-there h l = let m = most in bad-column few (omega arith) ∙ le-ltb 65536 (c + 2 ^ k) (omega arith)

  -- where it is not refused, it is on the plane
  pub square-on : bad_square r c k ≡ false → OnGrid r c (2 ^ k) (2 ^ k)
  unfolding bad_square
  square-on e =
      let a = neither-second (ltb 8 k) _ e in record {
        some = pow_pos k;
        wide = pow_pos k;
        low = ltb-false _ _ (neither-first (ltb 65536 (r + 2 ^ k)) _ a);
        within = ltb-false _ _ (neither-second (ltb 65536 (r + 2 ^ k)) _ a);
      }
