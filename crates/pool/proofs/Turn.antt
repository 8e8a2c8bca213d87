-- Logical positions are physical ones turned by an offset: a logical range is one physical range, or, where it passes physical M,
-- two, the second of them from 0 on. Each is read where it lies (module Moved), and what is reported of the logical range is put
-- together of their reports. Assumes nothing.
use Rattle.pool.proofs.Base.{◌≡◌, ℕ, suc, ◌+◌, ◌-◌, ◌<◌, ◌≤◌, Bool, true, false, ◌&&◌, List, length, sym, refl, ap, ◌∙◌, ap₂, arith, le-ltb, lt-ltb, size, Positions, one_if, held_runs, stretches}
use Rattle.pool.proofs.Base.{mem, physical_of, logical_of, world_at, nodes, physical_runs, turned, held_from, held_by}
use Rattle.std.specs.Prelude.{option_map}
use Rattle.std.proofs.Common.{add_comm}
use mathlib.Core.Bool.{beq}
use Rattle.model.specs.Positions.{count, select, runs_in, run_count}
use Rattle.model.proofs.Counting.{beq-true, count_cut}
use Rattle.model.proofs.Runs.{runs_in-length-join, held_runs-cong}
use Rattle.model.proofs.Moved.{Alike, move, count-moved, run_count-moved, select-moved}
use Rattle.pool.proofs.Conversions.{physical-logical}

-- ---- single positions
-- a logical position is held where its physical one is
pub turned-at : (o : ℕ) (Q : Positions) (x : ℕ) → x < size → turned o Q x ≡ Q (physical_of x o)
unfolding turned
turned-at o Q x h = ap (λ t. t && Q (physical_of x o)) (lt-ltb x size h)

-- the same from the physical side
pub turned-logical : (o : ℕ) (Q : Positions) (x : ℕ) → x < size → o < size → turned o Q (logical_of x o) ≡ Q x
turned-logical o Q x h k = turned-at o Q (logical_of x o) (omega arith) ∙ ap Q (physical-logical x o h k)

-- with offset 0 both are the same
pub turned_zero : (Q : Positions) (x : ℕ) → x < size → turned 0 Q x ≡ Q x
turned_zero Q x h = turned-at 0 Q x h ∙ ap Q (omega arith)

-- no world holds a position above 2^64 − 1
pub held-past : (w : List ℕ) (p o x : ℕ) → size ≤ x → held_from w p o x ≡ false
unfolding held_from turned
held-past w p o x h = ap (λ t. t && mem (physical_runs w p) (physical_of x o)) (le-ltb x size h)

-- nor does one of a pool
pub pool-past : (w : List ℕ) (k x : ℕ) → size ≤ x → held_by w k x ≡ false
unfolding held_by
pool-past w k x h = held-past (nodes w) (world_at w k).root (world_at w k).offset x h

-- ---- ranges
-- with offset o, the first of the n logical positions from a is kept at s and the last at e
pub record Lies (o a n s e : ℕ) : Type 0 where
  pub some : 0 < n
  pub fits : a + n ≤ size
  pub small : o < size
  pub first-at : s ≡ physical_of a o
  pub last-at : e ≡ physical_of (a + n - 1) o

-- a range from a to b, as the code has it
pub lies-from-to : {o a b s e : ℕ} → a ≤ b → b < size → o < size → s ≡ physical_of a o → e ≡ physical_of b o → Lies o a (suc b - a) s e
lies-from-to {o} {a} {b} h k l p q =
    let m : a + (suc b - a) - 1 ≡ b = omega arith in
    record { some = omega arith; fits = omega arith; small = l; first-at = p; last-at = q ∙ ap (λ x. physical_of x o) (sym m) }

-- logical o + i is kept at i
physical-past : (o i : ℕ) → o + i < size → physical_of (o + i) o ≡ 0 + i
physical-past o i h = omega arith

-- physical x is logical x + o where that is a position
logical-sum : (o x : ℕ) → o + x < size → x - 0 + o ≡ logical_of x o
logical-sum o x h = omega arith

module _ {o a n s e : ℕ} (lies : Lies o a n s e) where
  -- the range is whole, that is, it does not pass physical M, exactly if s ≤ e
  pub whole-fits : s ≤ e → s + n ≤ size
  whole-fits h = omega arith

  -- where a whole range ends
  pub whole-last : s ≤ e → e ≡ s + n - 1
  whole-last h = omega arith

  -- how many positions a whole range has
  pub whole_length : s ≤ e → n ≡ suc e - s
  whole_length h = omega arith

  -- the lengths of its parts
  pub parted-length : e < s → n ≡ (size - s) + (e + 1)
  parted-length h = omega arith

  -- the second part is from logical o on
  pub parted-middle : e < s → a + (size - s) ≡ o
  parted-middle h = omega arith

  -- physical positions are below 2^64
  pub first_below : s < size
  first_below = omega arith

  -- a physical position moved to the logical range is the logical position that the code computes: in a whole range
  pub whole-move : s ≤ e → (x : ℕ) → s ≤ x → x ≤ e → move s a x ≡ logical_of x o
  whole-move h x l u = omega arith

  -- in the first part of a parted one
  pub parted-move-first : e < s → (x : ℕ) → s ≤ x → x < size → move s a x ≡ logical_of x o
  parted-move-first h x l u = omega arith

  -- in its second part
  pub parted-move-second : e < s → (x : ℕ) → x ≤ e → move 0 (a + (size - s)) x ≡ logical_of x o
  parted-move-second h x u = ap (λ k. move 0 k x) (parted-middle h) ∙ logical-sum o x (omega (arith, parted-middle h, parted-length h))

  module _ (Q : Positions) where
    -- the one physical range
    pub whole-alike : s ≤ e → Alike (turned o Q) Q a s n
    whole-alike h i l = turned-at o Q (a + i) (omega arith) ∙ ap Q (omega arith)

    -- the first of two physical ranges
    pub parted-first : e < s → Alike (turned o Q) Q a s (size - s)
    parted-first h i l = turned-at o Q (a + i) (omega arith) ∙ ap Q (omega arith)

    -- the second one
    pub parted-second : e < s → Alike (turned o Q) Q (a + (size - s)) 0 (e + 1)
    parted-second h i l =
        let k : o + i < size = omega (arith, parted-middle h, parted-length h) in
        ap (λ m. turned o Q (m + i)) (parted-middle h) ∙ turned-at o Q (o + i) k ∙ ap Q (physical-past o i k)

    module _ (v : Bool) where
      -- count, in a whole range
      pub count-whole : s ≤ e → count (turned o Q) v a n ≡ count Q v s n
      count-whole h = count-moved (turned o Q) Q v a s n (whole-alike h)

      -- count, in a parted range
      pub count-parted : e < s → count (turned o Q) v a n ≡ count Q v s (size - s) + count Q v 0 (e + 1)
      count-parted h =
          count_cut (turned o Q) v a n (size - s) (a + (size - s)) (e + 1) (parted-length h) refl
          ∙ ap₂ ◌+◌ (count-moved (turned o Q) Q v a s (size - s) (parted-first h)) (count-moved (turned o Q) Q v (a + (size - s)) 0 (e + 1) (parted-second h))

      -- the number of runs, in a whole range
      pub run_count-whole : s ≤ e → run_count (turned o Q) v a n ≡ run_count Q v s n
      run_count-whole h = run_count-moved (turned o Q) Q v a s n (whole-alike h)

      -- the number of runs, in a parted range: the run across physical M and 0 is counted once
      pub run_count-parted : e < s
          → run_count (turned o Q) v a n + one_if (beq (Q (size - 1)) v && beq (Q 0) v) ≡ run_count Q v s (size - s) + run_count Q v 0 (e + 1)
      unfolding run_count
      run_count-parted h =
          go (size - s - 1) (omega arith)
          (ap (turned o Q) (omega arith) ∙ parted-first h (size - s - 1) (omega arith) ∙ ap Q (omega arith))
          (ap (turned o Q) (omega arith) ∙ parted-second h 0 (omega arith))
        where
          P : Positions
          P = turned o Q

          one : run_count P v a (size - s) ≡ run_count Q v s (size - s)
          one = run_count-moved P Q v a s (size - s) (parted-first h)

          two : run_count P v (a + (size - s)) (e + 1) ≡ run_count Q v 0 (e + 1)
          two = run_count-moved P Q v (a + (size - s)) 0 (e + 1) (parted-second h)

          go : (m : ℕ) → size - s ≡ suc m → P (a + m) ≡ Q (size - 1) → P (suc (a + m)) ≡ Q 0
              → length (runs_in P v a n) + one_if (beq (Q (size - 1)) v && beq (Q 0) v) ≡ length (runs_in Q v s (size - s)) + length (runs_in Q v 0 (e + 1))
          go m q p r =
              let j : n ≡ suc m + suc e = omega (arith, parted-length h) in
              let x : a + (size - s) ≡ suc (a + m) = omega arith in
              let y : e + 1 ≡ suc e = omega arith in
              ap₂ (λ k b. length (runs_in P v a k) + one_if b) j (sym (ap₂ (λ b c. beq b v && beq c v) p r))
              ∙ runs_in-length-join P v a m e
              ∙ ap₂ ◌+◌ (ap (λ k. length (runs_in P v a k)) (sym q) ∙ one) (ap₂ (λ b k. length (runs_in P v b k)) (sym x) (sym y) ∙ two)

      -- select
      pub select-whole : s ≤ e → (k : ℕ) → select (turned o Q) v a n k ≡ option_map (move s a) (select Q v s n k)
      select-whole h = select-moved (turned o Q) Q v a s n (whole-alike h)

-- ---- all positions
-- with offset 0 there are as many stretches
pub stretches-zero : (Q : Positions) → stretches (turned 0 Q) ≡ stretches Q
unfolding stretches
stretches-zero Q = ap length (held_runs-cong (turned 0 Q) Q (turned_zero Q))

-- where all of the positions lie
lies-all : (o z : ℕ) → o < size → 1 ≤ o → z ≡ physical_of 0 o → Lies o 0 size z (z - 1)
lies-all o z h k q = record { some = omega arith; fits = omega arith; small = h; first-at = q; last-at = omega arith }

-- the runs up to z and those from z on
runs-at : (Q : Positions) (total z : ℕ) → 1 ≤ z → z < total
    → length (runs_in Q true 0 total) + one_if (Q (z - 1) && Q z) ≡ length (runs_in Q true 0 z) + length (runs_in Q true z (total - z))
runs-at Q total z h k = go (z - 1) (total - z - 1) (omega arith) (omega arith) (omega arith)
  where
    go : (m j : ℕ) → z ≡ suc m → total ≡ suc m + suc j → total - z ≡ suc j
        → length (runs_in Q true 0 total) + one_if (Q m && Q z) ≡ length (runs_in Q true 0 z) + length (runs_in Q true z (total - z))
    go m j x y w =
        let p : 0 + m ≡ m = omega arith in
        ap₂ (λ n b. length (runs_in Q true 0 n) + one_if b) y (sym (ap₂ ◌&&◌ (beq-true (Q (0 + m)) ∙ ap Q p) (beq-true (Q (suc (0 + m))) ∙ ap Q (ap suc p ∙ sym x))))
        ∙ runs_in-length-join Q true 0 m j
        ∙ ap₂ (λ n s. length (runs_in Q true 0 n) + length (runs_in Q true s (suc j))) (sym x) (ap suc p ∙ sym x)
        ∙ ap (λ n. length (runs_in Q true 0 z) + length (runs_in Q true z n)) (sym w)

-- the stretch across physical M and 0 is one, and that across the place z of logical 0 is two
pub stretches-turned : (o z : ℕ) (Q : Positions) → o < size → 1 ≤ o → z ≡ physical_of 0 o
    → stretches (turned o Q) + one_if (Q (size - 1) && Q 0) ≡ stretches Q + one_if (Q (z - 1) && Q z)
unfolding stretches held_runs run_count
stretches-turned o z Q h k q =
    ap (λ b. length (runs_in (turned o Q) true 0 size) + one_if b) (sym (ap₂ ◌&&◌ (beq-true (Q (size - 1))) (beq-true (Q 0))))
    ∙ run_count-parted (lies-all o z h k q) Q true (omega arith)
    ∙ ap (λ n. length (runs_in Q true z (size - z)) + length (runs_in Q true 0 n)) (omega arith)
    ∙ add_comm (length (runs_in Q true z (size - z))) (length (runs_in Q true 0 z))
    ∙ sym (runs-at Q size z (omega arith) (omega arith))
