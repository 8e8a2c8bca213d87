-- The first part of a reading: its next run is that of the part; one that reaches physical M goes on with the run at physical 0, if there
-- is one; and where the part is over the reading goes on with the last part. Assumes nothing.
use Rattle.std.specs.Prelude.{None, Some}
use Prim.Native.Nat.{ℕ, suc, ◌+◌, ◌-◌, ◌≤◌, ◌<◌, max}
use mathlib.Core.Path.{◌≡◌, sym, ap, ◌∙◌, subst}
use mathlib.Core.Logic.{◌⊎◌, inl, inr}
use mathlib.Core.Bool.{Bool, true, false, false≢true, true≢false}
use mathlib.Core.List.{List, [], ◌∷◌}
use native.Mathlib.Omega.{arith}
use borrow.Author.Tests.{eqb-true, eqb-false}
use Rattle.model.specs.declared.Run.{Run}
use Rattle.model.specs.Numbers.{size}
use Rattle.model.proofs.Numbers.{split}
use Rattle.model.specs.Positions.{Positions, mem}
use Rattle.model.specs.RunList.{Canon}
use Rattle.model.proofs.RunList.{mem-in, mem-before}
use Rattle.pool.specs.Places.{physical_of, logical_of}
use Rattle.pool.specs.Layout.{physical_runs}
use Rattle.pool.proofs.Ends.{empty-mem}
use Rattle.streams.specs.declared.source.View.{View}
use Rattle.streams.specs.declared.source.Path.{Path}
use Rattle.streams.specs.Reading.{Clear, RunFrom, EndsFrom, OnPath, InLast, InFirst, starts_at_zero, Pops}
use Rattle.streams.proofs.Parts.{FoundNext, found-run, part_none, pop-reach, pop-ordered, pop-found, pop-then}
use Rattle.streams.proofs.Lasts.{wrapped}

-- whether 0 is held, by the first run
pub zero_held : (rs : List Run) → starts_at_zero rs ≡ true → mem rs 0 ≡ true
zero_held [] e = absurd (false≢true e)
zero_held (r ∷ rs) e = let s = eqb-true r.start 0 e in mem-in r rs 0 (omega arith) (omega arith)

pub zero-free : (rs : List Run) → Canon size 0 rs → starts_at_zero rs ≡ false → mem rs 0 ≡ false
zero-free [] c e = empty-mem 0
zero-free (r ∷ rs) c e = let s = eqb-false r.start 0 e in mem-before size 0 r rs 0 c (omega arith)

-- every run ends at 0 or later
pub ends-zero : (n : ℕ) (rs : List Run) → n ≡ 0 → EndsFrom n rs
ends-zero n [] e = tt
ends-zero n (r ∷ rs) e = omega arith

-- a run from n on is one from y on where nothing is held in between
module _ {y n : ℕ} {Q : Positions} (le : y ≤ n) (free : (z : ℕ) → y ≤ z → z < n → Q z ≡ false) where
  clear-to : (m : ℕ) → ((z : ℕ) → n ≤ z → z < m → Q z ≡ false) → (z : ℕ) → y ≤ z → z < m → (z < n) ⊎ (n ≤ z) → Q z ≡ false
  clear-to m f z h k (inl l) = free z h l
  clear-to m f z h k (inr l) = f z l k

  pub earlier-clear : Clear n Q → Clear y Q
  earlier-clear c z h k = clear-to size c z h k (split z n)

  pub earlier-run : {a b : ℕ} → RunFrom n a b Q → RunFrom y a b Q
  earlier-run {a} r = record {
    onward = omega (arith, r.onward);
    ordered = r.ordered;
    small = r.small;
    clear = λ z h k. clear-to a r.clear z h k (split z n);
    held = r.held;
    stops = r.stops;
  }

module _ {w : List ℕ} {v : View} {p : Path} {y : ℕ} {Q : Positions} (h : InFirst w v p y Q) where
  -- with the root's nodes on the path the last part is to come, from its start on
  pub first-last : {p' : Path} → OnPath w p' (physical_runs w v.root) → InLast w v p' v.offset Q
  first-last on = record {
    runs = physical_runs w v.root;
    on = on;
    reach = ends-zero _ (physical_runs w v.root) (omega arith);
    past = omega arith;
    tells = λ z g k. let e : z - v.offset ≡ z + 0 - v.offset = omega arith in h.then z g k ∙ ap (mem (physical_runs w v.root)) e;
  }

  -- the first part is over
  module _ {p' : Path} (ps : Pops w p None p') where
    pub first-over-run : {a b : ℕ} → RunFrom v.offset a b Q → RunFrom y a b Q
    first-over-run r = earlier-run (omega (arith, h.before)) (part_none h.part ps) r

    pub first-over-clear : Clear v.offset Q → Clear y Q
    first-over-clear c = earlier-clear (omega (arith, h.before)) (part_none h.part ps) c

  -- whether o is held
  seam : {t : Bool} → mem (physical_runs w v.root) 0 ≡ t → Q v.offset ≡ t
  seam e = let z : v.offset - v.offset ≡ 0 = omega arith in h.then v.offset (omega arith) h.small ∙ ap (mem (physical_runs w v.root)) z ∙ e

  module _ {p' : Path} {x : Run} (ps : Pops w p (Some x) p') {q m a : ℕ} (eq : q ≡ physical_of y v.offset)
      (em : m ≡ max x.start q) (ea : a ≡ logical_of m v.offset) where
    -- where the run starts
    start_is : a + size ≡ max x.start (y + size - v.offset) + v.offset
    start_is =
        let o = pop-ordered h.part ps in
        let b = h.before in
        let s = h.small in
        let e : y + size - v.offset ≡ q = omega arith in
        rw (e, ← em) (wrapped m v.offset a (omega arith) (omega (arith, o.0, o.1)) s ea)

    start-in : a < v.offset
    start-in =
        let o = pop-ordered h.part ps in
        let k = start_is in
        let b = h.before in
        omega (arith, o.0, o.1)

    -- it ends below physical M
    module _ {b : ℕ} (l : x.«end» < size - 1) (eb : b ≡ logical_of x.«end» v.offset) where
      end_is : b + size ≡ x.«end» + v.offset
      end_is =
          let r = pop-reach h.part ps in
          let lo = h.before in
          wrapped x.«end» v.offset b (omega arith) (omega arith) h.small eb

      pub first-whole : RunFrom y a b Q
      first-whole =
          let s = h.small in
          found-run (pop-found h.part ps h.before a b start_is start-in (omega (arith, end_is)) (omega (arith, end_is)) (λ k. end_is)) (omega arith)
          (λ q k. absurd (omega (arith, end_is)))

      pub first-then : InFirst w v p' (suc b) Q
      first-then = record {
        part = pop-then h.part ps h.before a b start_is start-in (omega (arith, end_is)) (omega (arith, end_is)) (λ k. end_is);
        before = omega (arith, end_is);
        small = h.small;
        then = h.then;
      }

    -- it reaches physical M, and so o
    module _ (l : size - 1 ≤ x.«end») where
      to-seam : FoundNext a (v.offset - 1) y v.offset Q
      to-seam =
          let lo = h.before in
          let o = (pop-ordered h.part ps).1 in
          pop-found h.part ps lo a (v.offset - 1) start_is start-in (omega arith) (omega arith) (λ k. absurd (omega arith))

      -- it goes on at o
      module _ (z : starts_at_zero (physical_runs w v.root) ≡ true) where
        on : Q v.offset ≡ true
        on = seam (zero_held (physical_runs w v.root) z)

        pub first-some : {A : Type 0} {s : ℕ} → s ≡ v.offset → Clear s Q → A
        first-some e c = absurd (true≢false (sym on ∙ c v.offset (omega arith) h.small))

        pub first-join : {s c b : ℕ} → s ≡ v.offset → RunFrom s c b Q → RunFrom y a b Q
        first-join {s} {c} {b} e r = record {
          onward = f.late;
          ordered = omega (arith, f.below, f.ordered, r.onward, r.ordered);
          small = r.small;
          clear = f.clear;
          held = λ z i j. held z i j (split z v.offset);
          stops = r.stops;
        }
          where
            f : FoundNext a (v.offset - 1) y v.offset Q
            f = to-seam

            starts : (v.offset < c) ⊎ (c ≤ v.offset) → c ≤ v.offset
            starts (inl g) = absurd (true≢false (sym on ∙ r.clear v.offset (omega arith) g))
            starts (inr g) = g

            held : (z : ℕ) → a ≤ z → z ≤ b → (z < v.offset) ⊎ (v.offset ≤ z) → Q z ≡ true
            held z i j (inl g) = f.held z i (omega arith)
            held z i j (inr g) = r.held z (omega (arith, starts (split v.offset c))) j

      -- it ends there
      module _ {p'' : Path} (all : OnPath w p'' (physical_runs w v.root)) where
        before-o : suc (v.offset - 1) ≡ v.offset
        before-o = let b = h.before in omega arith

        -- at the position that is kept at M
        module _ {b : ℕ} (eb : b ≡ logical_of (size - 1) v.offset) where
          is-before : v.offset - 1 ≡ b
          is-before = omega (arith, h.before, h.small)

          pub first-stop : starts_at_zero (physical_runs w v.root) ≡ false → RunFrom y a b Q
          first-stop z =
              let s = h.small in
              subst (λ n. RunFrom y a n Q) is-before
              (found-run to-seam (omega arith) (λ e k. ap Q before-o ∙ seam (zero-free (physical_runs w v.root) all.ordered z)))

          pub first-after : InLast w v p'' (suc b) Q
          first-after = subst (λ n. InLast w v p'' n Q) (sym before-o ∙ ap suc is-before) (first-last all)
