-- A map surveyed stretch by stretch: where the last stretch ended the value changes, so no run goes on over that place and the stretch adds
-- its own run, or none; it changes the positions that have the other value. Assumes nothing.
use Rattle.std.proofs.Common.{◌≡◌, ℕ, suc, ◌+◌, ◌-◌, ◌<◌, ◌≤◌, Bool, true, false, not, ◌⊎◌, List, length, sym, refl, ap, ◌∙◌, ap₂, inl, inr, arith, length-append}
use borrow.Author.Tests.{not-true}
use Rattle.std.specs.Int.{from_bool}
use Rattle.model.specs.declared.Operation.TheVariants.{Xor}
use Rattle.model.specs.Positions.{Positions, one_if, count, runs_in, run_count, combined}
use Rattle.model.proofs.Counting.{count_cut, count-both, count_most}
use Rattle.model.proofs.Runs.{runs_in-join, runs_in-none}
use Rattle.model.specs.Bytes.{map_bit, mapped}
use Rattle.model.specs.declared.Tally.{Tally}
use Rattle.model.specs.declared.between.Interval.{Interval}
use Rattle.model.specs.Range.{many}
use Rattle.reports.specs.Reports.{Measured}
use Rattle.maps.specs.declared.stretches.Stretch.{Stretch}
use Rattle.maps.specs.Stretches.{NextStretch}
use Rattle.maps.specs.Window.{MapOfWindow, Part, Surveyed}
use Rattle.maps.proofs.Windows.{mapped-below, mapped-above, mapped_at, changes-stretch, changes-in, one_value}

-- bit i has not the value of the bit before it, if both are among the n
abbrev pub Border : List ℕ → ℕ → ℕ → Type 0
Border bs n i = (z : ℕ) → suc z ≡ i → i < n → map_bit bs i ≡ not (map_bit bs z)

-- there is no bit before the first
pub border-first : (bs : List ℕ) (n : ℕ) → Border bs n 0
border-first bs n z e l = absurd (omega arith)

-- after a stretch is a border
pub border-next : (bs : List ℕ) (n : ℕ) {i j : ℕ} {x : Stretch} → NextStretch bs n i x j → Border bs n j
border-next bs n {i} {j} {x} g z q l =
    let p : j ≡ suc x.last = omega (arith, g.next-is) in
    let r : x.last ≡ z = omega arith in
    ap (map_bit bs) p ∙ g.ends.stop (omega arith) ∙ ap not (sym (g.ends.same x.last g.ends.from (omega arith)) ∙ ap (map_bit bs) r)

-- the window's runs and changes up to its bit i
pub record Surveying (P : Positions) (base n : ℕ) (bs : List ℕ) (i runs changed : ℕ) : Type 0 where
  pub upto : i ≤ n
  pub border : Border bs n i
  pub runs-are : runs ≡ run_count (mapped base n bs P) true base i
  pub few : runs ≤ i
  pub changed-are : changed ≡ count (combined Xor P (mapped base n bs P)) true base i
  pub less : changed ≤ i

-- of no bit
pub surveying-none : (P : Positions) (base n : ℕ) (bs : List ℕ) → Surveying P base n bs 0 0 0
unfolding run_count
surveying-none P base n bs = record {
  upto = omega arith;
  border = border-first bs n;
  runs-are = sym (ap length (runs_in-none (mapped base n bs P) true base 0 (λ x h l. absurd (omega arith))));
  few = omega arith;
  changed-are = omega (arith, count-both (combined Xor P (mapped base n bs P)) base 0);
  less = omega arith;
}

-- a run more, where the stretch is one: a truth value as the number that the code adds
pub counted : (v : Bool) (runs : ℕ) {k : ℕ} → k ≡ from_bool v → runs + k ≡ runs + one_if v
counted true runs e = omega (arith, e)
counted false runs e = omega (arith, e)

module _ {P : Positions} {base n : ℕ} {bs : List ℕ} {i j runs changed : ℕ} {x : Stretch} (s : Surveying P base n bs i runs changed) (g : NextStretch bs n i x j) where
  -- the stretch's positions
  stretch-at : (z : ℕ) → base + i ≤ z → z < base + i + (suc x.last - i) → mapped base n bs P z ≡ x.value
  stretch-at z h l =
      mapped_at base n bs P z (omega arith) (omega (arith, g.within, g.ends.from, g.ends.upto)) ∙ g.ends.same (z - base) (omega arith) (omega (arith, g.ends.from))

  -- no run goes on into it, if it is one
  seam : (b : Bool) → x.value ≡ b → (mapped base n bs P (base + i) ≡ false) ⊎ ((y : ℕ) → suc y ≡ base + i → base ≤ y → mapped base n bs P y ≡ false)
  seam false q = inl (stretch-at (base + i) (omega arith) (omega (arith, g.ends.from)) ∙ q)
  seam true q = inr (λ y p l.
      mapped_at base n bs P y l (omega (arith, g.within))
      ∙ not-true (map_bit bs (y - base)) (sym (s.border (y - base) (omega arith) g.within) ∙ g.ends.same i (omega arith) g.ends.from ∙ q))

  -- its runs
  stretch-runs : run_count (mapped base n bs P) true base (i + (suc x.last - i)) ≡ run_count (mapped base n bs P) true base i + one_if x.value
  unfolding run_count
  stretch-runs =
      ap length (runs_in-join (mapped base n bs P) true base i (suc x.last - i) (seam x.value refl))
      ∙ length-append (runs_in (mapped base n bs P) true base i) (runs_in (mapped base n bs P) true (base + i) (suc x.last - i))
      ∙ ap (λ k. length (runs_in (mapped base n bs P) true base i) + k) (one_value (mapped base n bs P) (base + i) (suc x.last - i) x.value (omega (arith, g.ends.from)) stretch-at)

  module _ {t : Tally} {u : Interval} (few : n ≤ 524288) (p : Part base x.first x.last u) (c : Measured P (not x.value) u.first.0 (many u) t) where
    -- what the tally counts
    low-is : t.count.low ≡ count P (not x.value) (base + i) (suc x.last - i)
    low-is =
        let a : u.first.0 ≡ base + i = omega (arith, p.first-is, g.first-is) in
        let q : many u ≡ suc x.last - i = omega (arith, p.last-is) in
        omega (arith, c.count-is, ap₂ (count P (not x.value)) a q, count_most P (not x.value) (base + i) (suc x.last - i), g.within, g.ends.upto)

    -- it stays below the window's length
    pub low_fits : changed + t.count.low ≤ j
    low_fits = omega (arith, low-is, count_most P (not x.value) (base + i) (suc x.last - i), g.ends.from, g.next-is, s.less)

    -- one stretch more
    pub surveying-next : {r : ℕ} → r ≡ runs + one_if x.value → Surveying P base n bs j r (changed + t.count.low)
    surveying-next {r} q =
        let k : j ≡ i + (suc x.last - i) = omega (arith, g.next-is, g.ends.from) in
        let D : Positions = combined Xor P (mapped base n bs P) in
        record {
          upto = omega (arith, g.within, g.next-is, g.ends.upto);
          border = border-next bs n g;
          runs-are = omega (arith, s.runs-are, stretch-runs, ap (run_count (mapped base n bs P) true base) k);
          few = bound x.value q;
          changed-are =
              omega (
                arith,
                s.changed-are,
                low-is,
                count_cut D true base j i (base + i) (suc x.last - i) k refl,
                changes-stretch P (mapped base n bs P) (base + i) (suc x.last - i) x.value stretch-at,
              );
          less = low_fits;
        }
      where
        bound : (b : Bool) → r ≡ runs + one_if b → r ≤ j
        bound true z = omega (arith, s.few, g.next-is, g.ends.from)
        bound false z = omega (arith, s.few, g.next-is, g.ends.from)

-- all bits
pub surveying-done : {P : Positions} {base n : ℕ} {bs : List ℕ} {i runs changed : ℕ} → MapOfWindow base n bs → Surveying P base n bs i runs changed → n ≤ i
    → Surveyed P base n bs (record { runs = runs; changed = changed })
surveying-done {P} {base} {n} {bs} {i} w s l =
    let q : i ≡ n = omega (arith, s.upto) in
    record {
      runs-are = s.runs-are ∙ ap (run_count (mapped base n bs P) true base) q;
      changed-are =
          s.changed-are ∙ ap (count (combined Xor P (mapped base n bs P)) true base) q
          ∙ sym (changes-in P (mapped base n bs P) base n w.within (mapped-below base n bs P) (mapped-above base n bs P));
    }
