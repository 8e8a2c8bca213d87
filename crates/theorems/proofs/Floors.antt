-- A world may always reach its floor (document 02, Ticket 3): a call is refused with 8 only where the runs of what it would leave are too many,
-- and in a sound pool as many runs as the floor never are. Assumes nothing.
use Rattle.std.specs.Prelude.{Option, None, Some}
use Prim.Native.Nat.{ℕ, ◌+◌, ◌≤◌, ◌<◌, max}
use mathlib.Core.Path.{◌≡◌, refl, sym, ap, ◌∙◌, subst}
use mathlib.Core.Bool.{Bool, true, false, cond, ◌||◌, true≢false}
use mathlib.Core.List.{List, [], ◌∷◌, ◌++◌}
use native.Mathlib.Omega.{arith}
use borrow.Author.Tests.{le-ltb}
use Rattle.model.specs.Positions.{Positions, bounded, stretches}
use Rattle.model.proofs.Runs.{stretches-cong}
use Rattle.model.specs.Refusals.{Cause, number_of, order, earns_length, earns_unsound, earns_unopened, Condition, given, first_given, refusal, too_many}
use Rattle.model.specs.Refusals
use Rattle.model.specs.Call.{Fed, Call, Result, Answer, refused, gave}
use Rattle.model.specs.Model.{Effect, Plan, plan, positions_of, any_earns, look, or_else, first_refusal, room, left_by, settle, serve}
use Rattle.model.specs.Mending.{mended_positions}
use Rattle.model.specs.Pools.{full, exceeds, other_claims}
use Rattle.model.proofs.Pools.{claims-split}
use Rattle.pool.specs.Layout.{capacity, opened_at, floor_at, plain_at, worlds_of}
use Rattle.pool.specs.Soundness.{Sound}
use Rattle.pool.proofs.WorldLists.{opened-world}
use Rattle.interval_bit_set.specs.Met.{Site, fed_at, fed_of, full_at, outcome_of, Met}
use Rattle.interval_bit_set.proofs.Changing.{bounded-is}
use Rattle.interval_bit_set.proofs.Giving.{unrefused}

-- ---- the number 8
-- a number that is given is that of a cause that is given
given-number : (ks : List Cause) (cs : List Condition) {n : ℕ} → first_given ks cs ≡ Some n → (k : Cause) × (number_of k ≡ n) × (given k cs ≡ true)
given-number [] cs e = let z : ◌≡◌ {A = ℕ} 0 1 = cc in absurd (omega arith)
given-number (k ∷ ks) cs {n} e = go (given k cs) refl (given-number ks cs) e
  where
    go : (b : Bool) → given k cs ≡ b → (first_given ks cs ≡ Some n → (k : Cause) × (number_of k ≡ n) × (given k cs ≡ true)) → cond b (Some (number_of k)) (first_given ks cs) ≡ Some n
        → (k : Cause) × (number_of k ≡ n) × (given k cs ≡ true)
    go true f ih p = (k, (let q : number_of k ≡ n = cc in q), f)
    go false f ih p = ih p

-- 8 is the number of one cause
eight_is : (k : Cause) → number_of k ≡ 8 → k ≡ Refusals.capacity
eight_is Refusals.capacity e = refl
eight_is k e = absurd (omega arith)

-- so it is given where that cause is
eight-given : (ks : List Cause) (cs : List Condition) → first_given ks cs ≡ Some 8 → given Refusals.capacity cs ≡ true
eight-given ks cs e = let g = given-number ks cs e in subst (λ k. given k cs ≡ true) (eight_is g.0 g.1) g.2

-- what worlds earn is not 8
late : (ss : List Fed) (o : Option ℕ) → or_else (look ss) o ≡ Some 8 → o ≡ Some 8
late ss o e = go (any_earns earns_length ss) (any_earns earns_unsound ss) (any_earns earns_unopened ss) e
  where
    go : (x y z : Bool) → or_else (cond {A = Option ℕ} x (Some 1) (cond {A = Option ℕ} y (Some 7) (cond {A = Option ℕ} z (Some 12) None))) o ≡ Some 8 → o ≡ Some 8
    go true y z e = let q : ◌≡◌ {A = ℕ} 1 8 = cc in absurd (omega arith)
    go false true z e = let q : ◌≡◌ {A = ℕ} 7 8 = cc in absurd (omega arith)
    go false false true e = let q : ◌≡◌ {A = ℕ} 12 8 = cc in absurd (omega arith)
    go false false false e = e

-- nor is it a condition of any call beside too many runs
no-eight : (c : Call Site) (P : Positions) → given Refusals.capacity ((plan fed_at c).earns P) ≡ false
no-eight (Call.get x) P = refl
no-eight c P = refl

-- an answer that is a refusal
settled-refused : (o : Option ℕ) (P : Positions) (a : Result) (Q : Positions) {n : ℕ} → (settle o P a Q).answer ≡ refused n → o ≡ Some n
settled-refused None P a Q e = let z : ◌≡◌ {A = ℕ} 0 1 = cc in absurd (omega arith)
settled-refused (Some n) P a Q e = cc

-- ---- 8 is given where the runs of what the call would leave are too many, if nothing else gives 8
module _ (full : ℕ → Bool) (s : Fed) (p : Plan) where
  abbrev P : Positions
  P = positions_of s

  too-full : given Refusals.capacity (p.earns P) ≡ false → (serve full s p).answer ≡ refused 8 → full (stretches (left_by p.effect P)) ≡ true
  unfolding serve too_many
  too-full bare e =
      go p.effect
      (eight-given order (room full p.effect P ++ p.earns P)
      (late (s ∷ p.further) (refusal (room full p.effect P ++ p.earns P))
      (settled-refused (first_refusal (s ∷ p.further) (room full p.effect P ++ p.earns P)) P (p.gives P) (left_by p.effect P) e)))
    where
      runs : (Q : Positions) (t : Bool) → full (stretches Q) ≡ t → (t || given Refusals.capacity (p.earns P)) ≡ true → full (stretches (bounded Q)) ≡ true
      runs Q true f g = ap full (stretches-cong (bounded Q) Q (λ x h. sym (bounded-is Q x h))) ∙ f
      runs Q false f g = absurd (true≢false (sym g ∙ bare))

      go : (e : Effect) → given Refusals.capacity (room full e P ++ p.earns P) ≡ true → full (stretches (left_by e P)) ≡ true
      go Effect.stays g = absurd (true≢false (sym g ∙ bare))
      go (Effect.becomes Q) g = runs (Q P) _ refl g
      go (Effect.overwritten Q) g = runs Q _ refl g

  -- and that is what it leaves where it is done
  done-leaves : {r : Result} → (serve full s p).answer ≡ gave r → (serve full s p).positions ≡ left_by p.effect P
  unfolding serve
  done-leaves e = ap (λ o. (settle o P (p.gives P) (left_by p.effect P)).positions) (unrefused _ _ _ _ e)

-- ---- a sound pool
module _ {w : List ℕ} (S : Sound w) (i : ℕ) (l : i < opened_at w) where
  -- as many runs as the floor are not too many
  floor-fits : (r : ℕ) → r ≤ floor_at w i → full_at w i r ≡ false
  unfolding full_at full
  floor-fits r h =
      let x = plain_at w i in
      let o = other_claims (worlds_of w) i in
      ap (λ p. exceeds (capacity w) o p r) (opened-world w i l)
      ∙ rw (
        le-ltb x.ceiling r (omega (arith, h, (S.limited i l).limits)),
        le-ltb (capacity w) (max r x.floor + o) (omega (arith, h, claims-split (worlds_of w) i x (opened-world w i l), S.fits)),
      )

  -- so no call that would leave at most so many is refused with 8
  reaches : {c : Call Site} {a : Answer} {w' : List ℕ} → Met w i c a w' → stretches (left_by (plan fed_at c).effect (positions_of (fed_of w i))) ≤ floor_at w i → a ≡ refused 8 → ⊥
  unfolding outcome_of
  reaches {c} m h e =
      true≢false
      (sym (too-full (full_at w i) (fed_of w i) (plan fed_at c) (no-eight c (positions_of (fed_of w i))) (sym m.answered ∙ e)) ∙ floor-fits _ h)

  -- nor one that would be done then
  pub reaches-floor : {c : Call Site} {a : Answer} {w' : List ℕ} {r : Result} → Met w i c a w' → (serve (λ r. false) (fed_of w i) (plan fed_at c)).answer ≡ gave r
      → stretches (serve (λ r. false) (fed_of w i) (plan fed_at c)).positions ≤ floor_at w i → a ≡ refused 8 → ⊥
  reaches-floor {c} m d h = reaches m (subst (λ Q. stretches Q ≤ floor_at w i) (done-leaves (λ r. false) (fed_of w i) (plan fed_at c) d) h)

  -- nor a mend whose outcome has at most so many, whatever slices are lent
  pub mend-reaches-floor : {bs out report : List ℕ} {a : Answer} {w' : List ℕ} → Met w i (Call.mend bs out report) a w' → stretches (mended_positions bs) ≤ floor_at w i
      → a ≡ refused 8 → ⊥
  mend-reaches-floor {bs} m h =
      reaches m (omega (arith, h, stretches-cong (bounded (mended_positions bs)) (mended_positions bs) (λ x l. sym (bounded-is (mended_positions bs) x l))))
