-- Cells of a grid on run lists: a rectangle is set row by row, its held cells are those that the list shares with it,
-- and a survey counts them so. By the laws of a range that is set, since a row's cells are a range. Assumes nothing.
use mathlib.Core.Path.{◌≡◌, refl, sym, ap, ap₂, ◌∙◌, fun_ext}
use mathlib.Core.Logic.{◌⊎◌, inl, inr}
use mathlib.Core.Bool.{Bool, true, false, cond, ◌&&◌, ◌||◌}
use mathlib.Core.List.{List, [], ◌++◌}
use Prim.Native.Nat.{ℕ, zero, suc, ◌+◌, ◌-◌, ◌*◌, ◌/◌, ◌%◌, ◌^◌, ◌≤◌, ◌<◌, min}
use native.Mathlib.Omega.{arith}
use lib.Dec.{ltb, eqb}
use borrow.Author.Tests.{lt-ltb, eq-eqb, ne_eqb}
use Rattle.model.specs.declared.Run.{Run}
use Rattle.model.specs.declared.Rect.{Rect}
use Rattle.model.specs.declared.Operation.TheVariants.{And}
use Rattle.model.specs.Numbers.{size}
use Rattle.model.specs.Positions.{Positions, inside, among, count, combined, mem, bounded}
use Rattle.model.specs.Grid
use Rattle.model.specs.Grid.{cell, within, block, one_valued, piece, or_halves, by_row, by_column}
use Rattle.model.specs.RunList.{Canon}
use Rattle.model.proofs.Numbers.{split}
use Rattle.model.proofs.RunList.{widths}
use Rattle.model.proofs.Counting.{Place, below, within as between, above, place, inside-yes, inside-below, inside-above}
use Rattle.model.proofs.Counting.{among-yes, among_below, among-above}
use Rattle.model.proofs.Edit.{set_runs, set_runs-canon, set_runs-mem}
use Rattle.model.proofs.Ops.{combine_runs, combine-canon, combine-mem, bounded-mem}
use Rattle.model.proofs.Finds.{count_runs}
use Rattle.model.proofs.Runs.{held_runs-is}

-- ---- ranges of positions
-- a range by its first and last position
pub among-run : (a b x : ℕ) → among a (suc b - a) x ≡ inside a b x
among-run a b x = go (place a b x)
  where
    go : Place a b x → among a (suc b - a) x ≡ inside a b x
    go (below h e) = among_below a (suc b - a) x h ∙ sym e
    go (between h k e) = among-yes a (suc b - a) x h (omega arith) ∙ sym e
    go (above h e) = far (split x a) ∙ sym e
      where
        far : (x < a) ⊎ (a ≤ x) → among a (suc b - a) x ≡ false
        far (inl l) = among_below a (suc b - a) x l
        far (inr l) = among-above a (suc b - a) x (omega arith)

-- what is cut twice is cut
pub cut-cond : (t i v p : Bool) → (t && cond i v (t && p)) ≡ (t && cond i v p)
cut-cond true i v p = refl
cut-cond false i v p = refl

-- the first of a range, or one of the others
among-first : (a n x : ℕ) → among a (suc n) x ≡ (eqb x a || among (suc a) n x)
among-first a n x = go (split x a) (split a x)
  where
    go : (x < a) ⊎ (a ≤ x) → (a < x) ⊎ (x ≤ a) → among a (suc n) x ≡ (eqb x a || among (suc a) n x)
    go (inl h) k = rw (among_below a (suc n) x h, ne_eqb x a (λ e. omega arith), among_below (suc a) n x (omega arith))
    go (inr h) (inr k) = rw (among-yes a (suc n) x h (omega arith), eq-eqb x a (omega arith))
    go (inr h) (inl k) = ne_past (split x (suc a + n))
      where
        ne_past : (x < suc a + n) ⊎ (suc a + n ≤ x) → among a (suc n) x ≡ (eqb x a || among (suc a) n x)
        ne_past (inl l) =
            rw (
              among-yes a (suc n) x h (omega arith),
              ne_eqb x a (λ e. omega arith),
              among-yes (suc a) n x
                  (omega arith) l,
            )
        ne_past (inr l) =
            rw (among-above a (suc n) x (omega arith), ne_eqb x a (λ e. omega arith), among-above (suc a) n x l)

-- ---- a rectangle, row by row
-- of m rows from row r on, the n cells from column c get the value v
unfoldable pub set_rows : ℕ → ℕ → Bool → ℕ → ℕ → List Run → List Run
set_rows c n v zero r rs = rs
set_rows c n v (suc m) r rs = set_runs size (cell r c) n v (set_rows c n v m (suc r) rs)

set_rows-canon : (c n : ℕ) (v : Bool) (m r : ℕ) (rs : List Run) → Canon size 0 rs
    → Canon size 0 (set_rows c n v m r rs)
unfolding set_rows
set_rows-canon c n v zero r rs k = k
set_rows-canon c n v (suc m) r rs k = set_runs-canon size (cell r c) n v (set_rows c n v m (suc r) rs)
    (set_rows-canon c n v m (suc r) rs k)

-- the cells of one row, if it does not reach into the next one
row-cells : (c n r x : ℕ) → c + n ≤ 65536 → among (cell r c) n x
    ≡ (eqb (x / 65536) r && among c n (x % 65536))
row-cells c n r x fits = go (split (x / 65536) r) (split r (x / 65536))
  where
    go : (x / 65536 < r) ⊎ (r ≤ x / 65536) → (r < x / 65536) ⊎ (x / 65536 ≤ r)
        → among (cell r c) n x ≡ (eqb (x / 65536) r && among c n (x % 65536))
    go (inl h) k = rw (ne_eqb (x / 65536) r (λ e. omega arith)) (among_below (cell r c) n x (omega arith))
    go (inr h) (inl k) = rw (ne_eqb (x / 65536) r (λ e. omega arith)) (among-above (cell r c) n x (omega arith))
    go (inr h) (inr k) = rw (eq-eqb (x / 65536) r (omega arith))
        (same (split (x % 65536) c) (split (x % 65536) (c + n)))
      where
        same : (x % 65536 < c) ⊎ (c ≤ x % 65536) → (x % 65536 < c + n) ⊎ (c + n ≤ x % 65536)
            → among (cell r c) n x ≡ among c n (x % 65536)
        same (inl a) b = among_below (cell r c) n x (omega arith) ∙ sym (among_below c n (x % 65536) a)
        same (inr a) (inl b) = among-yes (cell r c) n x (omega arith) (omega arith)
            ∙ sym (among-yes c n (x % 65536) a b)
        same (inr a) (inr b) = among-above (cell r c) n x (omega arith) ∙ sym (among-above c n (x % 65536) b)

-- one row and the others
rows-join : (e w a v p : Bool) → cond (e && w) v (cond (a && w) v p) ≡ cond ((e || a) && w) v p
rows-join true true a v p = refl
rows-join true false true v p = refl
rows-join true false false v p = refl
rows-join false w a v p = refl

set_rows-mem : (c n : ℕ) (v : Bool) (m r : ℕ) (rs : List Run) (x : ℕ) → c + n ≤ 65536 → Canon size 0 rs
    → mem (set_rows c n v m r rs) x
    ≡ (ltb x size && cond (among r m (x / 65536) && among c n (x % 65536)) v (mem rs x))
unfolding set_rows bounded Rattle.model.specs.Positions.set_range
set_rows-mem c n v zero r rs x fits k =
    ap (λ (P : Positions). P x) (sym (bounded-mem rs k)) ∙ ap (λ b. ltb x size && b) (sym none)
  where
    none : cond (among r 0 (x / 65536) && among c n (x % 65536)) v (mem rs x) ≡ mem rs x
    none = go (split (x / 65536) r)
      where
        go : (x / 65536 < r) ⊎ (r ≤ x / 65536)
            → cond (among r 0 (x / 65536) && among c n (x % 65536)) v (mem rs x) ≡ mem rs x
        go (inl h) = rw (among_below r 0 (x / 65536) h)
        go (inr h) = rw (among-above r 0 (x / 65536) (omega arith))
set_rows-mem c n v (suc m) r rs x fits k =
    set_runs-mem size (cell r c) n v (set_rows c n v m (suc r) rs) (set_rows-canon c n v m (suc r) rs k) x
    ∙ ap₂ (λ i p. ltb x size && cond i v p) (row-cells c n r x fits) (set_rows-mem c n v m (suc r) rs x fits k)
    ∙ cut-cond (ltb x size) (eqb (x / 65536) r && among c n (x % 65536)) v
    (cond (among (suc r) m (x / 65536) && among c n (x % 65536)) v (mem rs x))
    ∙ ap (λ b. ltb x size && b)
    (rows-join (eqb (x / 65536) r) (among c n (x % 65536)) (among (suc r) m (x / 65536)) v (mem rs x)
    ∙ ap (λ a. cond (a && among c n (x % 65536)) v (mem rs x)) (sym (among-first r m (x / 65536))))

-- a rectangle of the plane, and of any other what lies on it
unfoldable pub rect_runs : Rect → Bool → List Run → List Run
rect_runs q v rs =
    set_rows (min q.left 65536) (suc (min q.right 65535) - min q.left 65536) v (suc q.bottom - q.top) q.top rs

pub rect-canon : (q : Rect) (v : Bool) (rs : List Run) → Canon size 0 rs → Canon size 0 (rect_runs q v rs)
unfolding rect_runs
rect-canon q v rs k = set_rows-canon (min q.left 65536) (suc (min q.right 65535) - min q.left 65536) v
    (suc q.bottom - q.top) q.top rs k

-- the columns of the plane
on-plane : (l r z : ℕ) → z < 65536 → inside (min l 65536) (min r 65535) z ≡ inside l r z
on-plane l r z h = go (place l r z)
  where
    go : Place l r z → inside (min l 65536) (min r 65535) z ≡ inside l r z
    go (below a e) = inside-below (min l 65536) (min r 65535) z (omega arith) ∙ sym e
    go (between a b e) = inside-yes (min l 65536) (min r 65535) z (omega arith) (omega arith) ∙ sym e
    go (above a e) = inside-above (min l 65536) (min r 65535) z (omega arith) ∙ sym e

rect-mem : (q : Rect) (v : Bool) (rs : List Run) (x : ℕ) → Canon size 0 rs
    → mem (rect_runs q v rs) x ≡ (ltb x size && Grid.set_rect q v (mem rs) x)
unfolding rect_runs Grid.set_rect within
rect-mem q v rs x k =
    set_rows-mem (min q.left 65536) (suc (min q.right 65535) - min q.left 65536) v (suc q.bottom - q.top) q.top rs x
    (omega arith) k
    ∙ ap₂ (λ a b. ltb x size && cond (a && b) v (mem rs x)) (among-run q.top q.bottom (x / 65536))
    (among-run (min q.left 65536) (min q.right 65535) (x % 65536) ∙ on-plane q.left q.right (x % 65536) (omega arith))

pub rect-positions : (q : Rect) (v : Bool) (rs : List Run) → Canon size 0 rs
    → mem (rect_runs q v rs) ≡ bounded (Grid.set_rect q v (mem rs))
unfolding bounded
rect-positions q v rs k = fun_ext (λ x. rect-mem q v rs x k)

-- ---- the held cells of a rectangle
unfoldable pub count_rect_runs : Rect → List Run → ℕ
count_rect_runs q rs = widths (combine_runs And (rect_runs q true []) rs)

pub rect-count : (q : Rect) (rs : List Run) → Canon size 0 rs → Grid.count_rect q (mem rs) ≡ count_rect_runs q rs
unfolding Grid.count_rect count_rect_runs combined Grid.set_rect mem Rattle.model.specs.Positions.held_runs
rect-count q rs k =
    count_runs (λ x. within q x && mem rs x) true 0 size
    ∙ ap widths
    (held_runs-is (λ x. within q x && mem rs x) (combine_runs And (rect_runs q true []) rs)
    (combine-canon size And (rect_runs q true []) rs (rect-canon q true [] tt) k)
    (λ x h. combine-mem size And (rect_runs q true []) rs (rect-canon q true [] tt) k x
    ∙ ap (λ b. b && mem rs x) (rect-mem q true [] x tt
    ∙ ap (λ t. t && cond (within q x) true false) (lt-ltb x size h) ∙ held (within q x))))
  where
    held : (b : Bool) → cond b true false ≡ b
    held true = refl
    held false = refl

-- ---- survey
-- whether k of m cells are none or all
abbrev pub one_of : ℕ → ℕ → Bool
one_of k m = eqb k 0 || eqb k m

-- a piece that has one value is listed, and no half of it is looked at
unfoldable pub row_halves : List Run → ℕ → (ℕ → ℕ → List ℕ) → ℕ → ℕ → List ℕ
row_halves rs k squares r c =
    elim (one_of (count_rect_runs (block r c (2 ^ suc k) (2 ^ k)) rs) (2 ^ suc k * 2 ^ k)) [
      | true ↦ piece r c (2 ^ suc k) (2 ^ k) (mem rs (cell r c))
      | false ↦ squares r c ++ squares (r + 2 ^ k) c
    ]

unfoldable pub column_halves : List Run → ℕ → (ℕ → ℕ → List ℕ) → ℕ → ℕ → List ℕ
column_halves rs k squares r c =
    elim (one_of (count_rect_runs (block r c (2 ^ suc k) (2 ^ suc k)) rs) (2 ^ suc k * 2 ^ suc k)) [
      | true ↦ piece r c (2 ^ suc k) (2 ^ suc k) (mem rs (cell r c))
      | false ↦ row_halves rs k squares r c ++ row_halves rs k squares r (c + 2 ^ k)
    ]

unfoldable pub survey_runs : List Run → ℕ → ℕ → ℕ → List ℕ
survey_runs rs zero r c = piece r c 1 1 (mem rs (cell r c))
survey_runs rs (suc k) r c = column_halves rs k (survey_runs rs k) r c

module _ (rs : List Run) (canon : Canon size 0 rs) where
  valued : (r c m n : ℕ) → one_valued (mem rs) r c m n ≡ one_of (count_rect_runs (block r c m n) rs) (m * n)
  unfolding one_valued
  valued r c m n = ap (λ k. one_of k (m * n)) (rect-count (block r c m n) rs canon)

  row-halves : (k : ℕ) (f g : ℕ → ℕ → List ℕ) → ((r c : ℕ) → f r c ≡ g r c) → (r c : ℕ)
      → by_row (mem rs) k f r c ≡ row_halves rs k g r c
  unfolding row_halves
  row-halves k f g e r c =
      ap (λ b. cond b (piece r c (2 ^ suc k) (2 ^ k) (mem rs (cell r c))) (f r c ++ f (r + 2 ^ k) c))
      (valued r c (2 ^ suc k) (2 ^ k))
      ∙ go (one_of (count_rect_runs (block r c (2 ^ suc k) (2 ^ k)) rs) (2 ^ suc k * 2 ^ k))
    where
      go : (b : Bool) → cond b (piece r c (2 ^ suc k) (2 ^ k) (mem rs (cell r c))) (f r c ++ f (r + 2 ^ k) c)
          ≡ elim b [ true ↦ piece r c (2 ^ suc k) (2 ^ k) (mem rs (cell r c)) | false ↦ g r c ++ g (r + 2 ^ k) c ]
      go true = refl
      go false = ap₂ (λ xs ys. xs ++ ys) (e r c) (e (r + 2 ^ k) c)

  column-halves : (k : ℕ) (f g : ℕ → ℕ → List ℕ) → ((r c : ℕ) → f r c ≡ g r c) → (r c : ℕ)
      → by_column (mem rs) k f r c ≡ column_halves rs k g r c
  unfolding column_halves
  column-halves k f g e r c =
      ap (λ b. cond b whole (by_row (mem rs) k f r c ++ by_row (mem rs) k f r (c + 2 ^ k)))
      (valued r c (2 ^ suc k) (2 ^ suc k))
      ∙ go (one_of (count_rect_runs (block r c (2 ^ suc k) (2 ^ suc k)) rs) (2 ^ suc k * 2 ^ suc k))
    where
      whole : List ℕ
      whole = piece r c (2 ^ suc k) (2 ^ suc k) (mem rs (cell r c))

      go : (b : Bool) → cond b whole (by_row (mem rs) k f r c ++ by_row (mem rs) k f r (c + 2 ^ k))
          ≡ elim b [ true ↦ whole | false ↦ row_halves rs k g r c ++ row_halves rs k g r (c + 2 ^ k) ]
      go true = refl
      go false = ap₂ (λ xs ys. xs ++ ys) (row-halves k f g e r c) (row-halves k f g e r (c + 2 ^ k))

  pub surveyed : (k r c : ℕ) → Grid.survey (mem rs) k r c ≡ survey_runs rs k r c
  unfolding Grid.survey survey_runs
  surveyed zero r c = refl
  surveyed (suc k) r c = column-halves k (Grid.survey (mem rs) k) (survey_runs rs k) (surveyed k) r c
