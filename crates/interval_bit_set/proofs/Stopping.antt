-- Why a list of ranges is refused: what the call answers, by its three tests in their order. Assumes nothing.
use Rattle.std.specs.Prelude.{Option, None, Some, Ok, Err}
use Rattle.std.proofs.Common.{◌≡◌, ℕ, ◌<◌, ◌≤◌, Bool, false, eqb, ltb, List, [], ◌∷◌, length, sym, refl, ap, ◌∙◌, ap₂, arith, le-ltb, lt-ltb, eq-eqb, ne_eqb}
use Rattle.model.specs.declared.Refusal.TheVariants.{StoreLength, NotRefused, OutputShort}
use Rattle.model.specs.Bytes.{into_front}
use Rattle.model.specs.Spawning.{none_refused, places_told}
use Rattle.model.specs.Refusals.{store_length, not_refused, output_short, Condition, ◌when◌, refusal, no_room}
use Rattle.model.specs.Call.{why_full, Result, written, gave}
use Rattle.model.specs.Pools.{settle_measured, stopped, measure_by}
use Rattle.pool.specs.Layout.{capacity, worlds_of}
use Rattle.interval_bit_set.specs.Met.{measured_of}
use Rattle.interval_bit_set.specs.Out.{WritesMeasured}

module _ (w rs out : List ℕ) where
  -- the conditions, by the three tests
  abbrev tests : Bool → Bool → Bool → List Condition
  tests s r b = store_length when s ∷ output_short when r ∷ not_refused when b ∷ []

  -- what is due, where o says why the list is refused
  abbrev due : Option (List ℕ) → Result
  due o = written (length (places_told o)) (into_front (places_told o) out)

  -- what the model says, by them
  by_tests : {s r : Bool} (o : Option (List ℕ)) → stopped (capacity w) rs ≡ o → eqb (capacity w) 0 ≡ s → ltb (length out) (length (places_told o)) ≡ r
      → measured_of w (why_full rs) out ≡ settle_measured (refusal (tests s r (none_refused o))) (worlds_of w) (due o)
  unfolding measured_of measure_by no_room
  by_tests {s} {r} o e f g =
      ap (λ p. settle_measured (refusal (tests (eqb (capacity w) 0) (ltb (length out) (length (places_told p))) (none_refused p))) (worlds_of w) (due p)) e
      ∙ ap₂ (λ a b. settle_measured (refusal (tests a b (none_refused o))) (worlds_of w) (due o)) f g

  -- 1: words of no pool's length
  pub why-no-pool : capacity w ≡ 0 → WritesMeasured w (why_full rs) out (Err StoreLength) out
  why-no-pool e = record {
    measured = record { answered = sym (ap (λ o. o.answer) (by_tests _ refl (eq-eqb (capacity w) 0 e) refl)); left = refl };
    unwritten = refl;
  }

  module _ (sized : 1 ≤ capacity w) where
    -- they are a pool's
    pool : eqb (capacity w) 0 ≡ false
    pool = ne_eqb (capacity w) 0 (λ z. omega arith)

    -- 16: no call of the list is refused
    pub why-unrefused : stopped (capacity w) rs ≡ None → WritesMeasured w (why_full rs) out (Err NotRefused) out
    why-unrefused e = record {
      measured = record { answered = sym (ap (λ o. o.answer) (by_tests None e pool refl)); left = refl };
      unwritten = refl;
    }

    module _ (ps : List ℕ) (e : stopped (capacity w) rs ≡ Some ps) where
      -- 2: the slice is too short
      pub why-short : length out < length ps → WritesMeasured w (why_full rs) out (Err OutputShort) out
      why-short l = record {
        measured = record { answered = sym (ap (λ o. o.answer) (by_tests (Some ps) e pool (lt-ltb (length out) (length ps) l))); left = refl };
        unwritten = refl;
      }

      -- and else the places are in front
      pub why-done : {out' : List ℕ} (n : ℕ) → n ≡ length ps → length ps ≤ length out → out' ≡ into_front ps out → WritesMeasured w (why_full rs) out (Ok n) out'
      why-done n is l f = record {
        measured = record {
          answered = ap₂ (λ a b. gave (written a b)) is f ∙ sym (ap (λ o. o.answer) (by_tests (Some ps) e pool (le-ltb (length out) (length ps) l)));
          left = refl;
        };
        unwritten = tt;
      }
