-- The list for the deepest tree: what the call answers, by its four tests in their order. Assumes nothing.
use Rattle.std.specs.Prelude.{Ok, Err}
use Rattle.std.proofs.Common.{◌≡◌, ℕ, ◌*◌, ◌<◌, ◌≤◌, Bool, true, false, eqb, ltb, List, [], ◌∷◌, length, sym, refl, ap, ◌∙◌, ap₂, arith, le-ltb, lt-ltb, eq-eqb, ne_eqb}
use Rattle.model.specs.declared.Refusal.TheVariants.{StoreLength, TreeHeight, Capacity, OutputShort}
use Rattle.model.specs.Bytes.{into_front}
use Rattle.model.specs.Deepest.{least, deepest_words}
use Rattle.model.specs.Refusals
use Rattle.model.specs.Refusals.{store_length, tree_height, output_short, Condition, ◌when◌, refusal, bad_height, no_room}
use Rattle.model.specs.Call.{deepest, Result, written, gave}
use Rattle.model.specs.Pools.{settle_measured, measure_by}
use Rattle.model.proofs.Deepest.{deepest-words}
use Rattle.pool.specs.Layout.{capacity, worlds_of}
use Rattle.interval_bit_set.specs.Met.{measured_of}
use Rattle.interval_bit_set.specs.Out.{WritesMeasured}

-- a height from 1 to 22 is none that is refused
pub good-height : (h : ℕ) → 1 ≤ h → h ≤ 22 → bad_height h ≡ false
good-height h some few = rw (ne_eqb h 0 (λ z. omega arith), le-ltb 22 h few)

-- 0 is refused
pub no-height : (h : ℕ) → h ≡ 0 → bad_height h ≡ true
no-height h e = rw (eq-eqb h 0 e)

-- so is more than 22
pub over-height : (h : ℕ) → 22 < h → bad_height h ≡ true
over-height h more = rw (ne_eqb h 0 (λ z. omega arith), lt-ltb 22 h more)

-- a slice with room for the runs has room for their words
pub list-fits : (h : ℕ) (out : List ℕ) → 2 * least h ≤ length out → length (deepest_words h) ≤ length out
list-fits h out le = rw (deepest-words h) le

module _ (w : List ℕ) (h : ℕ) (out : List ℕ) where
  -- the conditions, by the four tests
  abbrev tests : Bool → Bool → Bool → Bool → List Condition
  tests s b c r = store_length when s ∷ output_short when r ∷ tree_height when b ∷ Refusals.capacity when c ∷ []

  -- what is due
  abbrev due : Result
  due = written (length (deepest_words h)) (into_front (deepest_words h) out)

  -- what the model says, by them
  by_tests : {s b c r : Bool} → eqb (capacity w) 0 ≡ s → bad_height h ≡ b → ltb (capacity w) (least h) ≡ c → ltb (length out) (length (deepest_words h)) ≡ r
      → measured_of w (deepest h) out ≡ settle_measured (refusal (tests s b c r)) (worlds_of w) due
  unfolding measured_of measure_by no_room
  by_tests s b c r = λ i. settle_measured (refusal (tests (s i) (b i) (c i) (r i))) (worlds_of w) due

  -- 1: words of no pool's length
  pub deepest-no-pool : capacity w ≡ 0 → WritesMeasured w (deepest h) out (Err StoreLength) out
  deepest-no-pool e = record {
    measured = record { answered = sym (ap (λ o. o.answer) (by_tests (eq-eqb (capacity w) 0 e) refl refl refl)); left = refl };
    unwritten = refl;
  }

  module _ (sized : 1 ≤ capacity w) where
    -- they are a pool's
    pool : eqb (capacity w) 0 ≡ false
    pool = ne_eqb (capacity w) 0 (λ z. omega arith)

    -- 13: no such height
    pub deepest-no-height : bad_height h ≡ true → WritesMeasured w (deepest h) out (Err TreeHeight) out
    deepest-no-height e = record {
      measured = record { answered = sym (ap (λ o. o.answer) (by_tests pool e refl refl)); left = refl };
      unwritten = refl;
    }

    module _ (good : bad_height h ≡ false) where
      -- 8: the list has more runs than the pool may have
      pub deepest-over : capacity w < least h → WritesMeasured w (deepest h) out (Err Capacity) out
      deepest-over l = record {
        measured = record { answered = sym (ap (λ o. o.answer) (by_tests pool good (lt-ltb (capacity w) (least h) l) refl)); left = refl };
        unwritten = refl;
      }

      module _ (fits : least h ≤ capacity w) where
        -- 2: the slice is too short
        pub deepest-short : length out < 2 * least h → WritesMeasured w (deepest h) out (Err OutputShort) out
        deepest-short l =
            let short : length out < length (deepest_words h) = rw (deepest-words h) l in record {
              measured = record {
                answered = sym (ap (λ o. o.answer) (by_tests pool good (le-ltb (capacity w) (least h) fits) (lt-ltb (length out) (length (deepest_words h)) short)));
                left = refl;
              };
              unwritten = refl;
            }

        -- and else the list is in front
        pub deepest-done : {out' : List ℕ} (n : ℕ) → n ≡ least h → 2 * least h ≤ length out → out' ≡ into_front (deepest_words h) out → WritesMeasured w (deepest h) out (Ok (2 * n)) out'
        deepest-done n is l e =
            let room : length (deepest_words h) ≤ length out = list-fits h out l in record {
              measured = record {
                answered =
                    ap₂ (λ k s. gave (written k s)) (ap (λ k. 2 * k) is ∙ sym (deepest-words h)) e
                    ∙ sym (ap (λ o. o.answer) (by_tests pool good (le-ltb (capacity w) (least h) fits) (le-ltb (length out) (length (deepest_words h)) room)));
                left = refl;
              };
              unwritten = tt;
            }
