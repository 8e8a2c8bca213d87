-- What a logical range has and its k-th position, from the physical ranges that it lies at: one, or one up to M and one from 0 on
-- (Turn, Parted). Runs of a range are at least two apart, so their sums fit a word. Assumes nothing.
use Rattle.std.specs.Prelude.{option_map}
use Rattle.std.specs.Prelude.{Option, None, Some, Result, Ok, Err}
use Rattle.std.specs.Result.{result_ok}
use Rattle.std.proofs.Common.{◌≡◌, ℕ, suc, ◌+◌, ◌-◌, ◌*◌, ◌<◌, ◌≤◌, Bool, ◌&&◌, sym, refl, ap, ◌∙◌, subst, ap₂, arith, w64, Fits}
use mathlib.Core.Bool.{beq}
use mir.Val.{bool_byte}
use Rattle.model.specs.declared.Count.{Count}
use Rattle.model.specs.declared.Tally.{Tally}
use Rattle.model.specs.Numbers.{size, worth}
use Rattle.model.specs.Positions.{Positions, one_if, count, select, runs_in, run_count}
use Rattle.model.proofs.Counting.{count_cut, count_most}
use Rattle.model.proofs.Runs.{runs_in-canon}
use Rattle.model.proofs.Finds.{Selected, select-only, select-none}
use Rattle.pool.specs.Places.{physical_of, logical_of}
use Rattle.pool.specs.Layout.{turned}
use Rattle.pool.specs.declared.places.Physical.{Physical}
use Rattle.reports.specs.Reports.{Measured, Place}
use Rattle.pool.proofs.Truths.{byte-one}
use Rattle.reports.proofs.Ranks.{canon-most}
use Rattle.model.proofs.Moved.{move}
use Rattle.pool.proofs.Turn.{Lies, turned-at, whole_length, whole-move, parted-move-first, parted-move-second, first_below}
use Rattle.pool.proofs.Turn.{count-whole, count-parted, run_count-whole, run_count-parted, select-whole}
use Rattle.reports.proofs.Joins.{select-first}
use Rattle.reports.proofs.Parted.{select-in-first, select-in-second}

-- ---- how much a range has
-- canonical runs are at least two apart, so a range has at most half as many runs as positions, and one
pub ranges-most : (P : Positions) (v : Bool) (a n : ℕ) → 2 * run_count P v a n ≤ n + 1
unfolding run_count
ranges-most P v a n = omega (arith, canon-most (a + n) a (runs_in P v a n) (runs_in-canon P v (a + n) a n (omega arith)))

-- a longer range has as many positions of a value, or more
pub count-more : (P : Positions) (v : Bool) (a n m : ℕ) → n ≤ m → count P v a n ≤ count P v a m
count-more P v a n m h = omega (arith, count_cut P v a m n (a + n) (m - n) (omega arith) refl)

-- a position selected in a range is selected in its front, if that has enough
pub select-front : (P : Positions) (v : Bool) (a n m k x : ℕ) → n ≤ m → k < count P v a n → select P v a m k ≡ Some x → select P v a n k ≡ Some x
select-front P v a n m k x h l q =
    let e : m ≡ n + (m - n) = omega arith in
    sym (select-first P v a n (m - n) k l) ∙ ap (λ j. select P v a j k) (sym e) ∙ q

-- a place that is handed on was found
pub place-ok : {r : Result Physical ℕ} {o : Option Physical} {x : Physical} → o ≡ result_ok r → o ≡ Some x → r ≡ Ok x
place-ok {r = Ok y} e f = cc
place-ok {r = Err j} e f = absurd (cc)

-- where none is, none was
pub place-none : {r : Result Physical ℕ} {o : Option Physical} → o ≡ result_ok r → o ≡ None → (j : ℕ) × (r ≡ Err j)
place-none {r = Ok y} e f = absurd (cc)
place-none {r = Err j} e f = (j, refl)

-- a position is held where its place is
pub held_at : (Q : Positions) (o : ℕ) {x s : ℕ} {r : Bool} → x < size → s ≡ physical_of x o → r ≡ Q s → r ≡ turned o Q x
held_at Q o {x} l es t = t ∙ ap Q es ∙ sym (turned-at o Q x l)

-- ---- of the positions Q, turned by o
module _ (Q : Positions) {o : ℕ} where
  module _ {a n s e : ℕ} (lies : Lies o a n s e) (v : Bool) where
    -- ---- whole ranges
    -- what a whole range has
    pub tally-whole : {r : Tally} → s ≤ e → Measured Q v s (suc e - s) r → Measured (turned o Q) v a n r
    tally-whole {r} i t =
        record {
          count-is = t.count-is ∙ sym (count-whole lies Q v i ∙ ap (count Q v s) (whole_length lies i));
          runs-are = t.runs-are ∙ sym (run_count-whole lies Q v i ∙ ap (run_count Q v s) (whole_length lies i));
        }

    -- its k-th position
    pub selected-whole : {k y : ℕ} {x : Physical} → s ≤ e → Place Q v s (suc e - s) k (Ok x) → y ≡ logical_of x.0 o
        → Some y ≡ select (turned o Q) v a n k
    selected-whole {k} {y} {x} i t q =
        let f : select Q v s n k ≡ Some x.0 =
        ap (λ m. select Q v s m k) (whole_length lies i) ∙ t.1 in
        let d : Selected Q v s n k x.0 = select-only Q v s n k x.0 f in
        ap Some (q ∙ sym (whole-move lies i x.0 d.from (omega (arith, d.past, whole_length lies i))))
        ∙ sym (select-whole lies Q v i k ∙ ap (option_map (move s a)) f)

    -- it has none
    pub unselected-whole : (k j : ℕ) → s ≤ e → Place Q v s (suc e - s) k (Err j) → None ≡ select (turned o Q) v a n k
    unselected-whole k j i t =
        let c : count (turned o Q) v a n ≡ count Q v s (suc e - s) =
        count-whole lies Q v i ∙ ap (count Q v s) (whole_length lies i) in
        sym (select-none (turned o Q) v a n k (omega (arith, c, t)))

    -- ---- parted ranges
    -- what the first part has
    first_part : {one : Tally} → Measured Q v s (suc (size - 1) - s) one → Measured Q v s (size - s) one
    first_part {one} t = subst (λ m. Measured Q v s m one) (omega arith) t

    -- what the second part has
    second-part : {two : Tally} → Measured Q v 0 (suc e - 0) two → Measured Q v 0 (e + 1) two
    second-part {two} u = subst (λ m. Measured Q v 0 m two) (omega arith) u

    module _ {one two : Tally} (parted : e < s) (t : Measured Q v s (suc (size - 1) - s) one) (u : Measured Q v 0 (suc e - 0) two) where
      -- both together
      count-both-parts : worth one.count + worth two.count ≡ count (turned o Q) v a n
      count-both-parts =
          ap₂ ◌+◌ (first_part t).count-is (second-part u).count-is
          ∙ sym (count-parted lies Q v parted)

      -- that is at most 2^64
      pub count_fits : worth one.count + worth two.count ≤ size
      count_fits = omega (arith, count-both-parts, count_most (turned o Q) v a n, lies.fits)

      -- the runs of both together fit a word
      pub runs_fit : Fits w64 (one.runs + two.runs)
      runs_fit = record {
        fits =
            omega (
              arith,
              (first_part t).runs-are,
              (second-part u).runs-are,
              ranges-most Q v s (size - s),
              ranges-most Q v 0 (e + 1),
            );
      }

      -- the run across physical M and 0 is counted twice
      runs-both-parts : {high low : Bool} → high ≡ Q (size - 1) → low ≡ Q 0
          → one.runs + two.runs ≡ run_count (turned o Q) v a n + one_if (beq high v && beq low v)
      runs-both-parts {high} {low} x y =
          ap₂ ◌+◌ (first_part t).runs-are (second-part u).runs-are ∙ sym (run_count-parted lies Q v parted)
          ∙ ap (λ b. run_count (turned o Q) v a n + one_if b)
          (ap₂ (λ p q. beq p v && beq q v) (sym x) (sym y))

      -- what a parted range has
      pub tally-parted : {high low b : Bool} {k : Count} → high ≡ Q (size - 1) → low ≡ Q 0
          → b ≡ (beq high v && beq low v) → worth k ≡ worth one.count + worth two.count
          → Measured (turned o Q) v a n (record { count = k; runs = one.runs + two.runs - bool_byte b })
      tally-parted {b = b} x y q r =
          record { count-is = r ∙ count-both-parts; runs-are = omega (arith, runs-both-parts x y, byte-one b, ap one_if q) }

      -- there are as many runs as are counted twice
      pub joined-some : {high low b : Bool} → high ≡ Q (size - 1) → low ≡ Q 0
          → b ≡ (beq high v && beq low v) → bool_byte b ≤ one.runs + two.runs
      joined-some {b = b} x y q = omega (arith, runs-both-parts x y, byte-one b, ap one_if q)

    module _ (k : ℕ) (parted : e < s) where
      -- the first part's k-th position is the range's
      pub selected-first : {y : ℕ} {x : Physical} → Place Q v s (suc (size - 1) - s) k (Ok x) → y ≡ logical_of x.0 o
          → Some y ≡ select (turned o Q) v a n k
      selected-first {y} {x} t q =
          let z : suc (size - 1) - s ≡ size - s = omega arith in
          let f : select Q v s (size - s) k ≡ Some x.0 = ap (λ m. select Q v s m k) (sym z) ∙ t.1 in
          let d : Selected Q v s (size - s) k x.0 = select-only Q v s (size - s) k x.0 f in
          ap Some (q ∙ sym (parted-move-first lies parted x.0 d.from (omega (arith, d.past, first_below lies))))
          ∙ sym (select-in-first lies parted Q v k (omega (arith, t.0, ap (count Q v s) z)) ∙ ap (option_map (move s a)) f)

      -- the second part's positions follow, fewer by those of the first part
      module _ (j : ℕ) (t : Place Q v s (suc (size - 1) - s) k (Err j)) where
        first-count : count Q v s (size - s) + j ≡ k
        first-count =
            let z : suc (size - 1) - s ≡ size - s = omega arith in
            omega (arith, t, ap (count Q v s) z)

        -- its j-th position is the range's k-th
        pub selected-second : {y : ℕ} {x : Physical} → Place Q v 0 (suc e - 0) j (Ok x) → y ≡ logical_of x.0 o
            → Some y ≡ select (turned o Q) v a n k
        selected-second {y} {x} u q =
            let z : suc e - 0 ≡ e + 1 = omega arith in
            let f : select Q v 0 (e + 1) j ≡ Some x.0 =
            ap (λ m. select Q v 0 m j) (sym z) ∙ u.1 in
            let d : Selected Q v 0 (e + 1) j x.0 = select-only Q v 0 (e + 1) j x.0 f in
            let i : k - count Q v s (size - s) ≡ j = omega (arith, first-count) in
            ap Some (q ∙ sym (parted-move-second lies parted x.0 (omega (arith, d.past))))
            ∙ sym (select-in-second lies parted Q v k (omega (arith, first-count))
            ∙ ap (λ m. option_map (move 0 (a + (size - s))) (select Q v 0 (e + 1) m)) i ∙ ap (option_map (move 0 (a + (size - s)))) f)

        -- the range has no k-th position
        pub unselected-second : (i : ℕ) → Place Q v 0 (suc e - 0) j (Err i) → None ≡ select (turned o Q) v a n k
        unselected-second i u =
            let z : suc e - 0 ≡ e + 1 = omega arith in
            let c : count (turned o Q) v a n ≡ count Q v s (size - s) + count Q v 0 (e + 1) =
            count-parted lies Q v parted in
            sym (select-none (turned o Q) v a n k
            (omega (arith, c, first-count, u, ap (count Q v 0) z)))
