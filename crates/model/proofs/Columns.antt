-- A table of bytes by its columns: how long it is so arranged, where each byte goes, and that arranging it by its rows again undoes it, for any
-- number of rows and of columns; and the same of the editions of a written set. By the place of each byte. Assumes nothing.
use mathlib.Core.Path.{◌≡◌, refl, ap, ◌∙◌}
use mathlib.Core.List.{List}
use Prim.Native.Nat.{ℕ, zero, suc, ◌+◌, ◌*◌, ◌/◌, ◌%◌, ◌<◌}
use native.Mathlib.Nat.{div-add-mod, mod-lt, div-lt_iff_lt-mul}
use native.Mathlib.Omega.{arith}
use lib.ListN.{length, drop, get_or, length-append, get_or-append}
use borrow.Author.Tests.{eq-eqb, ne_eqb}
use lib.Seq.{get_or-drop, get_or-append-add, ext_get_or}
use Rattle.model.specs.declared.Edition.{Edition}
use Rattle.model.specs.declared.Edition.TheVariants.{Rows, Columns}
use Rattle.model.specs.Bytes.{column, columns_from, columns, arranged, edition_by, in_rows}

-- ---- one column
-- a byte of each row
pub column-length : (R C j : ℕ) (bs : List ℕ) → length (column R C j bs) ≡ R
unfolding column
column-length zero C j bs = refl
column-length (suc R) C j bs = ap suc (column-length R C j (drop C bs))

-- that of row i is byte j of the row
pub column-at : (R C j : ℕ) (bs : List ℕ) (i : ℕ) → i < R → get_or (column R C j bs) i 0 ≡ get_or bs (C * i + j) 0
unfolding column
column-at zero C j bs i h = absurd (omega arith)
column-at (suc R) C j bs zero h = ap (λ (k : ℕ). get_or bs k 0) (omega arith)
column-at (suc R) C j bs (suc i) h =
    column-at R C j (drop C bs) i (omega arith) ∙ get_or-drop C bs (C * i + j) 0 ∙ ap (λ (k : ℕ). get_or bs k 0) (omega arith)

-- ---- all columns
-- k columns of R bytes
columns_from-length : (k R C j : ℕ) (bs : List ℕ) → length (columns_from k R C j bs) ≡ R * k
unfolding columns_from
columns_from-length zero R C j bs = omega arith
columns_from-length (suc k) R C j bs = simp (length-append, column-length, columns_from-length k R C (suc j) bs) (omega arith)

-- byte i of column m of those from j on is byte j + m of row i
columns_from-at : (k R C j : ℕ) (bs : List ℕ) (i m : ℕ) → i < R → m < k → get_or (columns_from k R C j bs) (R * m + i) 0 ≡ get_or bs (C * i + (j + m)) 0
unfolding columns_from
columns_from-at zero R C j bs i m h g = absurd (omega arith)
columns_from-at (suc k) R C j bs i zero h g =
    let l : i < length (column R C j bs) = rw column-length h in
    let e : R * 0 + i ≡ i = omega arith in
    rw e
    (get_or-append (column R C j bs) (columns_from k R C (suc j) bs) 0 i l ∙ column-at R C j bs i h ∙ ap (λ (n : ℕ). get_or bs n 0) (omega arith))
columns_from-at (suc k) R C j bs i (suc m) h g =
    let e : R * suc m + i ≡ length (column R C j bs) + (R * m + i) = rw column-length (omega arith) in
    rw e
    (get_or-append-add (column R C j bs) (columns_from k R C (suc j) bs) (R * m + i) 0 ∙ columns_from-at k R C (suc j) bs i m h (omega arith)
    ∙ ap (λ (n : ℕ). get_or bs n 0) (omega arith))

-- R rows of C bytes
pub columns-length : (R C : ℕ) (bs : List ℕ) → length (columns R C bs) ≡ R * C
unfolding columns
columns-length R C bs = columns_from-length C R C 0 bs

-- byte i of column j is byte j of row i
pub columns-at : (R C : ℕ) (bs : List ℕ) (i j : ℕ) → i < R → j < C → get_or (columns R C bs) (R * j + i) 0 ≡ get_or bs (C * i + j) 0
unfolding columns
columns-at R C bs i j h g = columns_from-at C R C 0 bs i j h g ∙ ap (λ (n : ℕ). get_or bs n 0) (omega arith)

-- the columns of the columns are the rows
pub columns-back : (R C : ℕ) (bs : List ℕ) → length bs ≡ R * C → columns C R (columns R C bs) ≡ bs
columns-back R C bs e = ext_get_or 0 (columns C R (columns R C bs)) bs long (λ p h. go C p (rw columns-length at h))
  where
    long : length (columns C R (columns R C bs)) ≡ length bs
    long = columns-length C R (columns R C bs) ∙ omega arith

    go : (C p : ℕ) → p < C * R → get_or (columns C R (columns R C bs)) p 0 ≡ get_or bs p 0
    go zero p h = absurd (omega arith)
    go (suc C) p h =
        let j : p % suc C < suc C = mod-lt p (omega arith) in
        let g : p < R * suc C = omega arith in
        let i : p / suc C < R = (div-lt_iff_lt-mul {k = suc C} (omega arith)).1 g in
        let q : suc C * (p / suc C) + p % suc C ≡ p = div-add-mod p (suc C) in
        rw q at (columns-at (suc C) R (columns R (suc C) bs) (p % suc C) (p / suc C) j i ∙ columns-at R (suc C) bs (p / suc C) (p % suc C) i j)

-- ---- the editions
-- 2 is edition 2
pub columns-is : (n : ℕ) → n ≡ 2 → Columns ≡ edition_by n
columns-is n h = rw (eq-eqb n 2 h)

-- any other number is edition 1
pub rows_is : (n : ℕ) → (n ≡ 2 → ⊥) → Rows ≡ edition_by n
rows_is n h = rw (ne_eqb n 2 h)

-- 16 bytes to a run, in either
pub arranged-length : (e : Edition) (R : ℕ) (bs : List ℕ) → length bs ≡ 16 * R → length (arranged e R bs) ≡ 16 * R
arranged-length Rows R bs h = h
arranged-length Columns R bs h = columns-length R 16 bs ∙ omega arith

-- and read from either
pub in_rows-length : (e : Edition) (R : ℕ) (bs : List ℕ) → length bs ≡ 16 * R → length (in_rows e R bs) ≡ 16 * R
in_rows-length Rows R bs h = h
in_rows-length Columns R bs h = columns-length 16 R bs

-- what an edition arranges is read again
pub in_rows-arranged : (e : Edition) (R : ℕ) (bs : List ℕ) → length bs ≡ 16 * R → in_rows e R (arranged e R bs) ≡ bs
in_rows-arranged Rows R bs h = refl
in_rows-arranged Columns R bs h = columns-back R 16 bs (omega arith)

-- and what is read is arranged again
pub arranged-in_rows : (e : Edition) (R : ℕ) (bs : List ℕ) → length bs ≡ 16 * R → arranged e R (in_rows e R bs) ≡ bs
arranged-in_rows Rows R bs h = refl
arranged-in_rows Columns R bs h = columns-back 16 R bs h
