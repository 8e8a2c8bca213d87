-- Why a list stopped, over what its call promises (document 02, Ticket 13): where it is not refused, the front of the slice has the places, and with 16
-- no call of the list is refused. In words of a pool's length the first refused call of the model settles the answer. Assumes nothing.
use Rattle.std.specs.Prelude.{Option, None, Some}
use Prim.Native.Nat.{ℕ, suc, ◌+◌, ◌≤◌, ◌<◌}
use mathlib.Core.Path.{◌≡◌, refl, sym, ap, ap₂, ◌∙◌, subst}
use mathlib.Core.Bool.{Bool, true, false, cond, true≢false}
use mathlib.Core.List.{List, [], ◌∷◌}
use native.Mathlib.Omega.{arith}
use lib.Dec.{eqb}
use lib.ListN.{length, take}
use borrow.Author.Tests.{lt-ltb, le-ltb, ne_eqb}
use Rattle.model.specs.declared.Run.{Run}
use Rattle.model.specs.Numbers.{size}
use Rattle.model.specs.Bytes.{into_front}
use Rattle.model.specs.Spawning
use Rattle.model.specs.declared.between.Range.{Range}
use Rattle.model.specs.Spawning.{ranges_of, entries_of, first_refused, why_full_up_to, none_refused, places, places_told, pick, AllGiven, StopsAt}
use Rattle.model.specs.Refusals.{store_length, not_refused, output_short, ◌when◌, refusal, no_room}
use Rattle.model.specs.Call.{why_full, written, Answer, refused, gave}
use Rattle.model.specs.Pools.{settle_measured, stopped, measure_by}
use Rattle.pool.specs.Layout.{capacity, worlds_of}
use Rattle.union.specs.Entries.{In}
use Rattle.why_full.specs.Placing.{Climbing}
use Rattle.why_full.proofs.Ranges.{entries-length, listed-length, listed-words}
use Rattle.why_full.proofs.Refusing.{refused-only}
use Rattle.why_full.proofs.Calls.{list-stops, list-given, why-length, why-rising, why-within, why-stops, why-least}
use Rattle.interval_bit_set.specs.Met.{measured_of, Measured}
use Rattle.interval_bit_set.proofs.Putting.{take-front}
use Rattle.theorems.specs.Theorems.{Words, spawned}
use Rattle.theorems.specs.Why.{ArePlaces}
use Rattle.theorems.proofs.Firsts.{given-not, stops-once, are_places}

module _ (w ranges out : List ℕ) where
  -- what the model answers where the words have no pool's length, the slice no room and the list no refused call, and ps are due
  abbrev settled : Bool → Bool → Bool → List ℕ → Answer
  settled s r n ps =
      (settle_measured (refusal (store_length when s ∷ output_short when r ∷ not_refused when n ∷ [])) (worlds_of w)
      (written (length ps) (into_front ps out))).answer

  -- by why the list is refused
  abbrev says : Bool → Option (List ℕ) → Answer
  says s o = settled s (no_room out (places_told o)) (none_refused o) (places_told o)

  -- a list of places that was told is why
  told : (s : Bool) (o : Option (List ℕ)) (n : ℕ) (out' : List ℕ) → gave (written n out') ≡ says s o
      → (ps : List ℕ) × (o ≡ Some ps) × (n ≡ length ps) × (out' ≡ into_front ps out)
  told true o n out' e = let z : ◌≡◌ {A = ℕ} 0 1 = cc e in absurd (omega arith)
  told false None n out' e = go (no_room out []) e
    where
      go : (r : Bool) → gave (written n out') ≡ settled false r true []
          → (ps : List ℕ) × (None ≡ Some ps) × (n ≡ length ps) × (out' ≡ into_front ps out)
      go true e = let z : ◌≡◌ {A = ℕ} 0 1 = cc e in absurd (omega arith)
      go false e = let z : ◌≡◌ {A = ℕ} 0 1 = cc e in absurd (omega arith)
  told false (Some ps) n out' e = go (no_room out ps) e
    where
      go : (r : Bool) → gave (written n out') ≡ settled false r false ps
          → (qs : List ℕ) × (Some ps ≡ Some qs) × (n ≡ length qs) × (out' ≡ into_front qs out)
      go true e = let z : ◌≡◌ {A = ℕ} 0 1 = cc e in absurd (omega arith)
      go false e = (ps, refl, cc e, cc e)

  -- where 16 is given, nothing is
  none_told : (s : Bool) (o : Option (List ℕ)) → refused 16 ≡ says s o → o ≡ None
  none_told s None e = refl
  none_told true (Some ps) e = let z : ◌≡◌ {A = ℕ} 16 1 = cc e in absurd (omega arith)
  none_told false (Some ps) e = go (no_room out ps) e
    where
      go : (r : Bool) → refused 16 ≡ settled false r false ps → Some ps ≡ None
      go true e = let z : ◌≡◌ {A = ℕ} 16 2 = cc e in absurd (omega arith)
      go false e = let z : ◌≡◌ {A = ℕ} 0 1 = cc e in absurd (omega arith)

  -- what a call that measures so was answered
  said : {a : Answer} {w' : List ℕ} → Measured w (why_full ranges) out a w' → a ≡ says (eqb (capacity w) 0) (stopped (capacity w) ranges)
  unfolding measured_of measure_by
  said m = m.answered

  module _ {out' : List ℕ} {n : ℕ} {w' : List ℕ} (W : Words ranges) (m : Measured w (why_full ranges) out (gave (written n out')) w') where
    -- the places
    record Told : Type 0 where
      ps : List ℕ
      why : stopped (capacity w) ranges ≡ Some ps
      many : n ≡ length ps
      front : take n out' ≡ ps

    are : Told
    are =
        let t = told (eqb (capacity w) 0) (stopped (capacity w) ranges) n out' (said m) in record {
          ps = t.0;
          why = t.1;
          many = t.2;
          front = ap₂ take t.2 t.3 ∙ take-front t.0 out;
        }

    few : length (ranges_of ranges) < size
    few = omega (arith, listed-length ranges, entries-length (ranges_of ranges), W.1)

    pub many-are : n ≡ capacity w + 1
    many-are = are.many ∙ why-length (capacity w) (ranges_of ranges) (listed-words ranges W.0) few are.ps are.why

    pub rising-are : Climbing 0 (take n out')
    rising-are = subst (Climbing 0) (sym are.front) (why-rising (capacity w) (ranges_of ranges) (listed-words ranges W.0) few are.ps are.why)

    pub listed-are : (p : ℕ) → In p (take n out') → p < length (ranges_of ranges)
    listed-are p i = why-within (capacity w) (ranges_of ranges) (listed-words ranges W.0) few are.ps are.why p (subst (In p) are.front i)

    pub refused-are : (d : Range) → StopsAt (capacity w) (spawned (capacity w) (pick d (ranges_of ranges) (take n out')))
    refused-are d =
        subst (λ ps. StopsAt (capacity w) (spawned (capacity w) (pick d (ranges_of ranges) ps))) (sym are.front)
        (why-stops (capacity w) (ranges_of ranges) (listed-words ranges W.0) few d are.ps are.why)

    pub fewer-given : (d : Range) (qs : List ℕ) → length qs < n → AllGiven (spawned (capacity w) (pick d (ranges_of ranges) qs))
    fewer-given d qs l =
        why-least (capacity w) (ranges_of ranges) (listed-words ranges W.0) few d are.ps qs are.why (subst (λ k. length qs < k) are.many l)

  -- no place is told: no call is refused
  pub none-given : {w' : List ℕ} → Measured w (why_full ranges) out (refused 16) w' → AllGiven (spawned (capacity w) (ranges_of ranges))
  unfolding Spawning.why_full
  none-given m = list-given (capacity w) (ranges_of ranges) (go (first_refused (capacity w) (entries_of (ranges_of ranges))) (none_told (eqb (capacity w) 0) (stopped (capacity w) ranges) (said m)))
    where
      go : (o : Option ℕ) → why_full_up_to (entries_of (ranges_of ranges)) o ≡ None → o ≡ None
      go None e = refl
      go (Some f) e = let z : ◌≡◌ {A = ℕ} 0 1 = cc e in absurd (omega arith)

  -- ---- in words of a pool's length
  -- what is said where no call is refused
  none-says : says false None ≡ refused 16
  unfolding no_room
  none-says = go (no_room out []) (le-ltb (length out) 0 (omega arith))
    where
      go : (r : Bool) → r ≡ false → settled false r true [] ≡ refused 16
      go true e = absurd (true≢false e)
      go false e = refl

  -- and where one is, by whether there is room
  some-says : (ps : List ℕ) (r : Bool) → no_room out ps ≡ r
      → says false (Some ps) ≡ cond r (refused 2) (gave (written (length ps) (into_front ps out)))
  some-says ps r e = ap (λ b. settled false b false ps) e ∙ go r
    where
      go : (b : Bool) → settled false b false ps ≡ cond b (refused 2) (gave (written (length ps) (into_front ps out)))
      go true = refl
      go false = refl

  module _ {a : Answer} {w' : List ℕ} (h : 1 ≤ capacity w) (W : Words ranges) (m : Measured w (why_full ranges) out a w') where
    abbrev C : ℕ
    C = capacity w

    abbrev listed : List Range
    listed = ranges_of ranges

    abbrev entries : List Run
    entries = entries_of listed

    -- the answer, by the first refused call
    answer-is : (o : Option ℕ) → first_refused C entries ≡ o → a ≡ says false (why_full_up_to entries o)
    unfolding Spawning.why_full
    answer-is o e = said m ∙ ap₂ says (ne_eqb C 0 (λ z. omega arith)) (ap (why_full_up_to entries) e)

    -- it is 16 where there is none
    pub given-none : AllGiven (spawned C listed) → a ≡ refused 16
    given-none g = go (first_refused C entries) refl
      where
        go : (o : Option ℕ) → first_refused C entries ≡ o → a ≡ refused 16
        go None e = answer-is None e ∙ none-says
        go (Some f) e = absurd (given-not f (spawned C listed) g (list-stops C listed f e))

    module _ (f : ℕ) (s : StopsAt f (spawned C listed)) where
      -- where the call at place f is the first refused one of the model, it is that of the list
      stops-first : first_refused C entries ≡ Some f
      stops-first = go (first_refused C entries) refl
        where
          go : (o : Option ℕ) → first_refused C entries ≡ o → first_refused C entries ≡ Some f
          go None e = absurd (given-not f (spawned C listed) (list-given C listed e) s)
          go (Some g) e = e ∙ ap Some (stops-once g f (spawned C listed) (list-stops C listed g e) s)

      -- the places that are due
      abbrev due : List ℕ
      due = places (take (suc f) entries)

      due-are : (d : Range) → ArePlaces C listed d f due
      due-are d =
          are_places C listed d (listed-words ranges W.0) (omega (arith, listed-length ranges, entries-length listed, W.1)) f
          (refused-only C entries f stops-first)

      -- they are told where there is room
      pub due-told : (d : Range) → C + 1 ≤ length out → (ps : List ℕ) × ArePlaces C listed d f ps × (a ≡ gave (written (C + 1) (into_front ps out)))
      unfolding no_room
      due-told d room =
          let A = due-are d in (
            due,
            A,
            answer-is (Some f) stops-first ∙ some-says due false (le-ltb (length out) (length due) (omega (arith, A.many)))
                ∙ ap (λ n. gave (written n (into_front due out))) A.many,
          )

      -- and else 2 is
      pub due-short : Range → length out < C + 1 → a ≡ refused 2
      unfolding no_room
      due-short d short =
          answer-is (Some f) stops-first ∙ some-says due true (lt-ltb (length out) (length due) (omega (arith, (due-are d).many)))
