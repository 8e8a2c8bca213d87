-- The rows of a rectangle: which positions are its cells, that it is set and counted row by row, and that one of full width is one range.
-- Assumes nothing.
use Prim.Native.Nat.{ℕ, zero, suc, ◌+◌, ◌-◌, ◌/◌, ◌%◌, ◌≤◌, ◌<◌}
use mathlib.Core.Path.{◌≡◌, refl, sym, ap, ap₂, ◌∙◌, fun_ext}
use mathlib.Core.Logic.{◌⊎◌, inl, inr}
use mathlib.Core.Bool.{Bool, true, false, cond, ◌&&◌, and-false, true≢false}
use native.Mathlib.Omega.{arith}
use lib.Dec.{ltb}
use borrow.Author.Tests.{lt-ltb, le-ltb}
use Rattle.model.specs.Numbers.{size}
use Rattle.model.proofs.Numbers.{split}
use Rattle.model.specs.Positions.{Positions, inside, count, set_range}
use Rattle.model.proofs.Counting.{inside-yes, inside-below, inside-above, count-cong, count_cut, count_none}
use Rattle.model.proofs.After.{set-inside, set_below, set-above}
use Rattle.model.specs.declared.Rect.{Rect}
use Rattle.model.specs.Grid.{cell, within, set_rect, count_rect}
use Rattle.grid.specs.Surveys.{OnPlane}
use Rattle.grid.specs.Rows.{Narrow, set_row, set_before, row_sum, row_count}

-- ---- which positions are cells
module _ (q : Rect) (x : ℕ) where
  -- a position of the rectangle's rows and columns is a cell of it
  pub cell_in : q.top ≤ x / 65536 → x / 65536 ≤ q.bottom → q.left ≤ x % 65536 → x % 65536 ≤ q.right → within q x ≡ true
  unfolding within
  cell_in a b c d = ap₂ ◌&&◌ (inside-yes q.top q.bottom (x / 65536) a b) (inside-yes q.left q.right (x % 65536) c d)

  -- where the rows do not have it, it is none
  row_out : inside q.top q.bottom (x / 65536) ≡ false → within q x ≡ false
  unfolding within
  row_out e = ap (λ b. b && inside q.left q.right (x % 65536)) e

  -- nor where the columns do not
  column-out : inside q.left q.right (x % 65536) ≡ false → within q x ≡ false
  unfolding within
  column-out e = ap (λ b. inside q.top q.bottom (x / 65536) && b) e ∙ and-false (inside q.top q.bottom (x / 65536))

  -- above the rows
  pub cell-above : x < cell q.top 0 → within q x ≡ false
  cell-above l = row_out (inside-below q.top q.bottom (x / 65536) (omega arith))

  -- below them
  pub cell_below : cell (suc q.bottom) 0 ≤ x → within q x ≡ false
  cell_below l = row_out (inside-above q.top q.bottom (x / 65536) (omega arith))

  module _ (r : ℕ) where
    -- a cell of row r
    pub cell_row : q.top ≤ r → r ≤ q.bottom → q.right < 65536 → cell r q.left ≤ x → x ≤ cell r q.right → within q x ≡ true
    cell_row a b c d e = cell_in (omega arith) (omega arith) (omega arith) (omega arith)

    -- left of the columns
    pub cell-left : cell r 0 ≤ x → x < cell r q.left → q.left < 65536 → within q x ≡ false
    cell-left a b c = column-out (inside-below q.left q.right (x % 65536) (omega arith))

    -- right of them
    pub cell-right : cell r q.right < x → x < cell (suc r) 0 → within q x ≡ false
    cell-right a b = column-out (inside-above q.left q.right (x % 65536) (omega arith))

-- ---- set
module _ (q : Rect) (v : Bool) (P : Positions) where
  -- the cells get the value
  pub rect-in : (x : ℕ) → within q x ≡ true → set_rect q v P x ≡ v
  unfolding set_rect
  rect-in x e = ap (λ b. cond b v (P x)) e

  -- others keep theirs
  pub rect-out : (x : ℕ) → within q x ≡ false → set_rect q v P x ≡ P x
  unfolding set_rect
  rect-out x e = ap (λ b. cond b v (P x)) e

  module _ (r : ℕ) where
    -- before row r: those that are both get the value
    before-is : (x : ℕ) {b : Bool} → (within q x && ltb x (cell r 0)) ≡ b → set_before q r v P x ≡ cond b v (P x)
    unfolding set_before
    before-is x e = ap (λ b. cond b v (P x)) e

    -- what is no cell keeps its value
    pub before-out : (x : ℕ) → within q x ≡ false → set_before q r v P x ≡ P x
    before-out x e = before-is x (ap (λ b. b && ltb x (cell r 0)) e)

    -- and so does what is not before row r
    pub before-after : (x : ℕ) → cell r 0 ≤ x → set_before q r v P x ≡ P x
    before-after x l = before-is x (ap (λ b. within q x && b) (le-ltb x (cell r 0) l) ∙ and-false (within q x))

    -- before row r all is as in the whole rectangle
    pub before-rect : (x : ℕ) → x < cell r 0 → set_before q r v P x ≡ set_rect q v P x
    unfolding set_rect
    before-rect x l = before-is x (ap (λ b. within q x && b) (lt-ltb x (cell r 0) l) ∙ both (within q x))
      where
        both : (b : Bool) → (b && true) ≡ b
        both true = refl
        both false = refl

  -- before the first row nothing is set
  pub before-none : (x : ℕ) → set_before q q.top v P x ≡ P x
  before-none x = go (split x (cell q.top 0))
    where
      go : (x < cell q.top 0) ⊎ (cell q.top 0 ≤ x) → set_before q q.top v P x ≡ P x
      go (inl l) = before-out q.top x (cell-above q x l)
      go (inr l) = before-after q.top x l

  -- after the last one the rectangle is
  pub before-all : (x : ℕ) → set_before q (suc q.bottom) v P x ≡ set_rect q v P x
  before-all x = go (split x (cell (suc q.bottom) 0))
    where
      go : (x < cell (suc q.bottom) 0) ⊎ (cell (suc q.bottom) 0 ≤ x) → set_before q (suc q.bottom) v P x ≡ set_rect q v P x
      go (inl l) = before-rect (suc q.bottom) x l
      go (inr l) = before-after (suc q.bottom) x l ∙ sym (rect-out x (cell_below q x l))

-- ---- one row
module _ (q : Rect) (r : ℕ) (v : Bool) (P : Positions) (x : ℕ) where
  -- its cells get the value
  pub row_in : cell r q.left ≤ x → x ≤ cell r q.right → set_row q r v P x ≡ v
  row_in a b = set-inside (cell r q.left) (suc (cell r q.right) - cell r q.left) v P x a (omega arith)

  -- what is before them keeps its own
  pub row_under : x < cell r q.left → set_row q r v P x ≡ P x
  row_under a = set_below (cell r q.left) (suc (cell r q.right) - cell r q.left) v P x a

  -- and so does what is after them
  pub row-over : q.left ≤ q.right → cell r q.right < x → set_row q r v P x ≡ P x
  row-over o a = set-above (cell r q.left) (suc (cell r q.right) - cell r q.left) v P x (omega arith)

-- where x stands to the cells of row r
pub data InRow (q : Rect) (r x : ℕ) : Type 0 where
  under : x < cell r q.left → InRow q r x
  here : cell r q.left ≤ x → x ≤ cell r q.right → InRow q r x
  over : cell r q.right < x → InRow q r x

pub in_row : (q : Rect) (r x : ℕ) → InRow q r x
in_row q r x = go (split x (cell r q.left)) (split (cell r q.right) x)
  where
    go : (x < cell r q.left) ⊎ (cell r q.left ≤ x) → (cell r q.right < x) ⊎ (x ≤ cell r q.right) → InRow q r x
    go (inl l) k = under l
    go (inr l) (inl k) = over k
    go (inr l) (inr k) = here l k

module _ (q : Rect) (v : Bool) (P : Positions) (on : OnPlane q) where
  module _ (r : ℕ) (some : q.top ≤ r) (more : r ≤ q.bottom) where
    -- the rows before row r + 1: row r after those before it
    pub before-next : (x : ℕ) → set_before q (suc r) v P x ≡ set_row q r v (set_before q r v P) x
    before-next x = go (in_row q r x) (split x (cell r 0)) (split x (cell (suc r) 0))
      where
        Q : Positions
        Q = set_before q r v P

        go : InRow q r x → (x < cell r 0) ⊎ (cell r 0 ≤ x) → (x < cell (suc r) 0) ⊎ (cell (suc r) 0 ≤ x) → set_before q (suc r) v P x ≡ set_row q r v Q x
        go (under l) (inl a) b = before-rect q v P (suc r) x (omega arith) ∙ sym (row_under q r v Q x l ∙ before-rect q v P r x a)
        go (under l) (inr a) b =
            let out = cell-left q x r a l (omega (arith, on.columns, on.within)) in
            before-out q v P (suc r) x out ∙ sym (row_under q r v Q x l ∙ before-out q v P r x out)
        go (here l k) a b =
            before-rect q v P (suc r) x (omega (arith, on.within)) ∙ rect-in q v P x (cell_row q x r some more (omega (arith, on.within)) l k)
            ∙ sym (row_in q r v Q x l k)
        go (over l) a (inl b) =
            let out = cell-right q x r l b in
            before-out q v P (suc r) x out ∙ sym (row-over q r v Q x on.columns l ∙ before-out q v P r x out)
        go (over l) a (inr b) =
            before-after q v P (suc r) x b ∙ sym (row-over q r v Q x on.columns l ∙ before-after q v P r x (omega arith))

    -- with row r set the whole rectangle leaves the same
    pub rect-row : (x : ℕ) → set_rect q v (set_row q r v P) x ≡ set_rect q v P x
    rect-row x = go (in_row q r x) (within q x) refl
      where
        R : Positions
        R = set_row q r v P

        go : InRow q r x → (b : Bool) → within q x ≡ b → set_rect q v R x ≡ set_rect q v P x
        go i true e = rect-in q v R x e ∙ sym (rect-in q v P x e)
        go (under l) false e = rect-out q v R x e ∙ row_under q r v P x l ∙ sym (rect-out q v P x e)
        go (over l) false e = rect-out q v R x e ∙ row-over q r v P x on.columns l ∙ sym (rect-out q v P x e)
        go (here l k) false e = absurd (true≢false (sym (cell_row q x r some more (omega (arith, on.within)) l k) ∙ e))

  -- the rows before row r are away from it, if the rectangle is narrower than the plane
  pub before-near : Narrow q → (r x : ℕ) → cell r q.left ≤ suc x → set_before q r v P x ≡ P x
  before-near n r x l = go (split x (cell r 0))
    where
      go : (x < cell r 0) ⊎ (cell r 0 ≤ x) → set_before q r v P x ≡ P x
      go (inr k) = before-after q v P r x k
      go (inl k) = before-out q v P r x (cell-right q x (r - 1) (omega arith) (omega arith))

-- ---- full width
-- how many positions there are from its first cell to its last one
abbrev pub wide : Rect → ℕ
wide q = suc (cell q.bottom q.right) - cell q.top q.left

module _ (q : Rect) (on : OnPlane q) (l : q.left ≡ 0) (u : q.right ≡ 65535) where
  -- its cells
  wide-in : (x : ℕ) → cell q.top q.left ≤ x → x < cell q.top q.left + wide q → within q x ≡ true
  wide-in x a b = cell_in q x (omega arith) (omega arith) (omega arith) (omega arith)

  -- it is set as one range
  rect-wide : (v : Bool) (P : Positions) (x : ℕ) → set_rect q v P x ≡ set_range (cell q.top q.left) (wide q) v P x
  rect-wide v P x = go (split x (cell q.top q.left)) (split x (cell q.top q.left + wide q))
    where
      go : (x < cell q.top q.left) ⊎ (cell q.top q.left ≤ x)
          → (x < cell q.top q.left + wide q) ⊎ (cell q.top q.left + wide q ≤ x) → set_rect q v P x ≡ set_range (cell q.top q.left) (wide q) v P x
      go (inl a) b = rect-out q v P x (cell-above q x (omega arith)) ∙ sym (set_below (cell q.top q.left) (wide q) v P x a)
      go (inr a) (inl b) = rect-in q v P x (wide-in x a b) ∙ sym (set-inside (cell q.top q.left) (wide q) v P x a b)
      go (inr a) (inr b) =
          rect-out q v P x (cell_below q x (omega (arith, on.rows))) ∙ sym (set-above (cell q.top q.left) (wide q) v P x b)

  -- as sets of positions
  pub rect-range : (v : Bool) (P : Positions) → set_range (cell q.top q.left) (wide q) v P ≡ set_rect q v P
  rect-range v P = fun_ext (λ x. sym (rect-wide v P x))

-- ---- counts
-- the sum up to the next row
pub sum-next : (f : ℕ → ℕ) (t r : ℕ) → t ≤ r → row_sum f t (r + 1 - t) ≡ row_sum f t (r - t) + f r
unfolding row_sum
sum-next f t r l =
    let e : r + 1 - t ≡ suc (r - t) = omega arith in
    let k : t + (r - t) ≡ r = omega arith in
    ap (row_sum f t) e ∙ ap (λ i. row_sum f t (r - t) + f i) k

-- over no row there is nothing
pub sum-none : (f : ℕ → ℕ) (t : ℕ) → row_sum f t (t - t) ≡ 0
unfolding row_sum
sum-none f t = let e : t - t ≡ 0 = omega arith in ap (row_sum f t) e

module _ (q : Rect) (P : Positions) where
  -- the held cells of the rectangle
  abbrev cells : Positions
  cells x = within q x && P x

  rect-count : count_rect q P ≡ count cells true 0 size
  unfolding count_rect
  rect-count = refl

  -- none is elsewhere
  cells_out : (x : ℕ) → within q x ≡ false → cells x ≡ false
  cells_out x e = ap (λ b. b && P x) e

  -- inside they are as held
  cells_in : (x : ℕ) → within q x ≡ true → cells x ≡ P x
  cells_in x e = ap (λ b. b && P x) e

  module _ (on : OnPlane q) where
    -- above the first row
    above-none : count cells true 0 (cell q.top 0) ≡ 0
    above-none = count_none cells true 0 (cell q.top 0) (λ x _ l. cells_out x (cell-above q x (omega arith)))

    -- below the last one
    below_none : (a n : ℕ) → cell (suc q.bottom) 0 ≤ a → count cells true a n ≡ 0
    below_none a n h = count_none cells true a n (λ x l _. cells_out x (cell_below q x (omega arith)))

    -- the cells in row r
    row-cells : (r : ℕ) → q.top ≤ r → r ≤ q.bottom → count cells true (cell r 0) 65536 ≡ row_count q P r
    row-cells r a b =
        let c : ℕ = q.left in
        let d : ℕ = suc (cell r q.right) - cell r q.left in
        let e : ℕ = 65536 - suc q.right in
        let o = on.columns in
        let w = on.within in
        let one : count cells true (cell r 0) 65536 ≡ count cells true (cell r 0) c + count cells true (cell r c) (d + e) =
        count_cut cells true (cell r 0) 65536 c (cell r c) (d + e) (omega arith) (omega arith) in
        let two : count cells true (cell r c) (d + e) ≡ count cells true (cell r c) d + count cells true (suc (cell r q.right)) e =
        count_cut cells true (cell r c) (d + e) d (suc (cell r q.right)) e refl (omega arith) in
        let left : count cells true (cell r 0) c ≡ 0 =
        count_none cells true (cell r 0) c (λ x k l. cells_out x (cell-left q x r k (omega arith) (omega arith))) in
        let right : count cells true (suc (cell r q.right)) e ≡ 0 =
        count_none cells true (suc (cell r q.right)) e (λ x k l. cells_out x (cell-right q x r (omega arith) (omega arith))) in
        let mid : count cells true (cell r c) d ≡ row_count q P r =
        count-cong cells P true (cell r c) d (λ x k l. cells_in x (cell_row q x r a b (omega arith) k (omega arith))) in
        omega (arith, one, two, left, right, mid)

    -- those of the first m rows
    rows-cells : (m : ℕ) → q.top + m ≤ suc q.bottom → count cells true 0 (cell (q.top + m) 0) ≡ row_sum (row_count q P) q.top m
    unfolding row_sum
    rows-cells zero h = let e : cell (q.top + 0) 0 ≡ cell q.top 0 = omega arith in ap (count cells true 0) e ∙ above-none
    rows-cells (suc m) h =
        omega (
          arith,
          count_cut cells true 0 (cell (q.top + suc m) 0) (cell (q.top + m) 0) (cell (q.top + m) 0) 65536 (omega arith) (omega arith),
          rows-cells m (omega arith),
          row-cells (q.top + m) (omega arith) (omega arith),
        )

    -- the cells of a rectangle are those of its rows
    pub rect-rows : count_rect q P ≡ row_sum (row_count q P) q.top (suc q.bottom - q.top)
    rect-rows =
        let z : ℕ = cell (suc q.bottom) 0 in
        let e : q.top + (suc q.bottom - q.top) ≡ suc q.bottom = omega (arith, on.rows) in
        let cut : count cells true 0 size ≡ count cells true 0 z + count cells true z (size - z) =
        count_cut cells true 0 size z z (size - z) (omega (arith, on.low)) (omega arith) in
        omega (
          arith,
          rect-count,
          cut,
          below_none z (size - z) (omega arith),
          ap (λ r. count cells true 0 (cell r 0)) e,
          rows-cells (suc q.bottom - q.top) (omega arith),
        )

    -- those of one of full width are one range
    pub wide-count : (l : q.left ≡ 0) (u : q.right ≡ 65535) → count_rect q P ≡ count P true (cell q.top q.left) (wide q)
    wide-count l u =
        let a : ℕ = cell q.top q.left in
        let n : ℕ = wide q in
        let z : ℕ = a + n in
        let o = on.rows in
        let k = on.low in
        let one : count cells true 0 size ≡ count cells true 0 a + count cells true a (n + (size - z)) =
        count_cut cells true 0 size a a (n + (size - z)) (omega arith) (omega arith) in
        let two : count cells true a (n + (size - z)) ≡ count cells true a n + count cells true z (size - z) =
        count_cut cells true a (n + (size - z)) n z (size - z) refl refl in
        let e : a ≡ cell q.top 0 = omega arith in
        let mid : count cells true a n ≡ count P true a n = count-cong cells P true a n (λ x i j. cells_in x (wide-in q on l u x i j)) in
        omega (arith, rect-count, one, two, mid, ap (count cells true 0) e, above-none, below_none z (size - z) (omega arith))
