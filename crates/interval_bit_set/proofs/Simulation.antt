-- A sound pool that holds the model's worlds answers each call as the model does, and holds the model's worlds after it: by what the call
-- promises (`Met`, `Made` of making, `Measured` of measuring) alone. Assumes nothing.
use Rattle.std.specs.Prelude.{Option, None, Some}
use Prim.Native.Nat.{ℕ, ◌+◌, ◌<◌, ◌≤◌}
use mathlib.Core.Path.{◌≡◌, refl, sym, ap, ap₂, ◌∙◌, subst, fun_ext}
use mathlib.Core.Logic.{◌⊎◌, inl, inr}
use mathlib.Core.Bool.{Bool, false, ◌&&◌}
use mathlib.Core.List.{List, [], ◌∷◌, ◌++◌}
use native.Mathlib.Omega.{arith}
use lib.Dec.{eqb}
use lib.ListN.{length}
use borrow.Author.Tests.{ne_eqb, le-ltb}
use Rattle.model.specs.declared.Limits.{Limits}
use Rattle.model.specs.Numbers.{size, most_worlds}
use Rattle.model.proofs.Numbers.{split}
use Rattle.model.specs.Positions.{Positions, empty, bounded}
use Rattle.model.proofs.Ops.{bounded-below}
use Rattle.model.specs.Refusals.{world_limits, Condition, ◌when◌, refusal, bad_limits}
use Rattle.model.specs.Bytes.{into_front}
use Rattle.model.specs.Call.{Fed, Call, Measure, make, measure, at, Result, written, Answer}
use Rattle.model.specs.Model.{Effect, Plan, positions_of, plan, Outcome, settle, or_else, first_refusal, room, left_by, serve}
use Rattle.model.specs.Pools.{PlainWorld, world_of, fed_by, full, with_positions, holding_at, serve_at, empty_worlds, PoolOutcome, settle_make, make_by, step}
use Rattle.model.specs.Pools.{settle_measured, words_due, measure_conditions, measure_by}
use Rattle.model.proofs.Pools.{holding-fed}
use Rattle.pool.specs.Layout.{capacity_of, capacity, opened_at, floor_at, ceiling_at, held_by, plain_at, worlds_from, worlds_of}
use Rattle.pool.specs.Soundness.{Sound}
use Rattle.pool.specs.Settle.{Settled}
use Rattle.pool.proofs.Turn.{pool-past}
use Rattle.pool.proofs.WorldLists.{worlds-but, opened-world, unopened-world}
use Rattle.interval_bit_set.specs.Met.{Site, fed_at, full_at, outcome_of, Leaves, Met, made_of, MakeLeaves, Made, measured_of, Measured}
use Rattle.interval_bit_set.proofs.Looking.{shut-refused}
use Rattle.interval_bit_set.proofs.Meeting.{fed-sound}

-- the words w are a sound pool of capacity C with the worlds ws
pub record Holds (C : ℕ) (ws : List PlainWorld) (w : List ℕ) : Type 0 where
  pub sound : Sound w
  pub sized : capacity w ≡ C
  pub held : worlds_of w ≡ ws

-- only 0 .. 2^64 − 1 are held
abbrev pub Ends : Positions → Type 0
Ends P = (x : ℕ) → size ≤ x → P x ≡ false

-- what is bounded ends
pub bounded-ends : (Q : Positions) → Ends (bounded Q)
unfolding bounded
bounded-ends Q x h = ap (λ t. t && Q x) (le-ltb x size h)

-- and so does what a call leaves of positions that do
pub left-ends : (e : Effect) (P : Positions) → Ends P → Ends (left_by e P)
left-ends Effect.stays P h = h
left-ends (Effect.becomes Q) P h = bounded-ends (Q P)
left-ends (Effect.overwritten Q) P h = bounded-ends Q

-- two sets that end and agree below 2^64 are the same
pub same-positions : (P Q : Positions) → Ends P → Ends Q → ((x : ℕ) → x < size → P x ≡ Q x) → P ≡ Q
same-positions P Q p q h = fun_ext (λ x. go x (split x size))
  where
    go : (x : ℕ) → (x < size) ⊎ (size ≤ x) → P x ≡ Q x
    go x (inl l) = h x l
    go x (inr l) = p x l ∙ sym (q x l)

-- a bound does not change a set that ends
pub bounded-same : (Q : Positions) → Ends Q → bounded Q ≡ Q
bounded-same Q q = same-positions (bounded Q) Q (bounded-ends Q) q (bounded-below Q)

-- the empty set ends
pub empty-ends : Ends empty
unfolding empty
empty-ends x h = refl

-- ---- the worlds after a call
-- where world i settles with P, they are those before, with P in world i
pub worlds-after : {w w' : List ℕ} {i : ℕ} {P : Positions} → i < opened_at w → Settled w w' i P → Ends P → worlds_of w' ≡ holding_at i P (worlds_of w)
unfolding worlds_of
worlds-after {w} {w'} {i} {P} l S ends =
    ap (worlds_from w' 0) S.opened ∙ worlds-but w' w 0 (opened_at w) i P l (here (0 + i) (omega arith))
    (λ j a b ne. with-limits j (held_by w j) (omega arith) (S.others j (omega arith) (λ e. ne (omega arith))))
  where
    held : held_by w' i ≡ P
    held = same-positions (held_by w' i) P (pool-past w' i) ends S.holds

    -- a world whose positions are known, with the limits that it had
    with-limits : (j : ℕ) (Q : Positions) → j < opened_at w → held_by w' j ≡ Q → plain_at w' j ≡ with_positions (plain_at w j) Q
    with-limits j Q b e =
        let small : j < most_worlds = omega (arith, S.opened, S.sound.few) in
        ap₂ (λ R f. record { positions = R; floor = f; ceiling = ceiling_at w' j }) e (S.floors j small)
        ∙ ap (λ c. record { positions = Q; floor = floor_at w j; ceiling = c }) (S.ceilings j small)

    here : (j : ℕ) → j ≡ i → plain_at w' j ≡ with_positions (plain_at w j) P
    here j e = with-limits j P (omega arith) (ap (held_by w') e ∙ held)

-- what settles is a pool of the same capacity
pub settled-holds : {C : ℕ} {w w' : List ℕ} {i : ℕ} {P : Positions} → capacity w ≡ C → i < opened_at w → Settled w w' i P → Ends P → Holds C (holding_at i P (worlds_of w)) w'
settled-holds e l S ends = record { sound = S.sound; sized = ap capacity_of S.long ∙ e; held = worlds-after l S ends }

module _ {C : ℕ} {ws : List PlainWorld} {w : List ℕ} (H : Holds C ws w) where
  -- the outcome of a call is the model's
  pub outcome-is : (i : ℕ) (c : Call Site) → outcome_of w i c ≡ serve_at C ws i (plan fed_at c)
  unfolding outcome_of full_at serve_at
  outcome-is i c =
      ap (λ s. serve (full (capacity w) (worlds_of w) i) s (plan fed_at c)) (fed-sound w i H.sound)
      ∙ ap₂ (λ k vs. serve (full k vs i) (fed_by (world_of vs i)) (plan fed_at c)) H.sized H.held

  -- the positions of a world that is fed end
  fed-ends : (i : ℕ) → Ends (positions_of (fed_by (world_of ws i)))
  fed-ends i = subst (λ vs. Ends (positions_of (fed_by (world_of vs i)))) H.held (go (split i (opened_at w)))
    where
      go : (i < opened_at w) ⊎ (opened_at w ≤ i) → Ends (positions_of (fed_by (world_of (worlds_of w) i)))
      go (inl l) = subst (λ o. Ends (positions_of (fed_by o))) (sym (opened-world w i l)) (pool-past w i)
      go (inr l) = subst (λ o. Ends (positions_of (fed_by o))) (sym (unopened-world w i l)) empty-ends

  -- a world that a call does not refuse was opened
  named : (i : ℕ) (fs : List Fed) (cs : List Condition) → first_refusal (fed_by (world_of ws i) ∷ fs) cs ≡ None → i < opened_at w
  named i fs cs e = go (split i (opened_at w))
    where
      go : (i < opened_at w) ⊎ (opened_at w ≤ i) → i < opened_at w
      go (inl l) = l
      go (inr l) =
          let f : world_of ws i ≡ None = ap (λ vs. world_of vs i) (sym H.held) ∙ unopened-world w i l in
          let r = shut-refused fs in
          let g : Some r.0 ≡ None = sym (ap (λ o. or_else o (refusal cs)) r.1) ∙ ap (λ o. first_refusal (fed_by o ∷ fs) cs) (sym f) ∙ e in
          let z : ◌≡◌ {A = ℕ} 0 1 = cc in
          absurd (omega arith)

  -- ---- a call on a world
  module _ {i : ℕ} {c : Call Site} {a : Answer} {w' : List ℕ} (m : Met w i c a w') where
    -- its answer is the model's
    pub answer-is : a ≡ (step C ws (at i (plan fed_at c))).answer
    unfolding step
    answer-is = m.answered ∙ ap (λ o. o.answer) (outcome-is i c)

    -- and so are the worlds after it
    pub step-holds : Holds C (step C ws (at i (plan fed_at c))).worlds w'
    unfolding step serve_at serve
    step-holds = go (first_refusal (s ∷ p.further) cs) refl
      where
        p : Plan
        p = plan fed_at c

        s : Fed
        s = fed_by (world_of ws i)

        P : Positions
        P = positions_of s

        Q : Positions
        Q = left_by p.effect P

        cs : List Condition
        cs = room (full C ws i) p.effect P ++ p.earns P

        o : Outcome
        o = serve_at C ws i p

        left : Leaves w w' i o.positions o.answer
        left = subst (λ b. Leaves w w' i o.positions b) answer-is (subst (λ p. Leaves w w' i p.positions a) (outcome-is i c) m.left)

        go : (y : Option ℕ) → first_refusal (s ∷ p.further) cs ≡ y → Holds C (holding_at i o.positions ws) w'
        go None e =
            let f : o ≡ settle None P (p.gives P) Q = ap (λ y. settle y P (p.gives P) Q) e in
            let t : Settled w w' i Q = subst (λ p. Leaves w w' i p.positions p.answer) f left in
            subst (λ vs. Holds C vs w') (ap₂ (λ P vs. holding_at i P vs) (sym (ap (λ p. p.positions) f)) H.held)
            (settled-holds H.sized (named i p.further cs e) t (left-ends p.effect P (fed-ends i)))
        go (Some n) e =
            let f : o ≡ settle (Some n) P (p.gives P) Q = ap (λ y. settle y P (p.gives P) Q) e in
            let t : w' ≡ w = subst (λ p. Leaves w w' i p.positions p.answer) f left in
            subst (λ v. Holds C (holding_at i o.positions ws) v) (sym t)
            (subst (λ vs. Holds C vs w) (sym (ap (λ p. holding_at i p.positions ws) f ∙ holding-fed ws i)) H)

  -- ---- a call on the pool
  -- what the model says of it is told by the capacity and the worlds
  pool-is : (f : Bool → ℕ → List PlainWorld → PoolOutcome) → f (eqb (capacity w) 0) (capacity w) (worlds_of w) ≡ f false C ws
  pool-is f = ap (λ z. f z (capacity w) (worlds_of w)) (ne_eqb (capacity w) 0 (λ z. omega (arith, H.sound.sized))) ∙ ap₂ (f false) H.sized H.held

  -- ---- making
  module _ {ls : List Limits} {a : Answer} {w' : List ℕ} (m : Made w ls a w') where
    -- what the model says of it
    made-is : made_of w ls ≡ make_by false C ws ls
    unfolding made_of
    made-is = pool-is (λ z k vs. make_by z k vs ls)

    -- its answer is the model's
    pub made-answer : a ≡ (step C ws (make ls)).answer
    unfolding step
    made-answer = m.answered ∙ ap (λ o. o.answer) made-is

    -- and so are the worlds after it
    pub made_holds : Holds C (step C ws (make ls)).worlds w'
    unfolding step make_by
    made_holds = go (refusal (world_limits when bad_limits C ls ∷ [])) made-answer-by
      where
        made-answer-by : a ≡ (settle_make (refusal (world_limits when bad_limits C ls ∷ [])) ws (empty_worlds ls)).answer
        made-answer-by = m.answered ∙ ap (λ o. o.answer) made-is

        go : (y : Option ℕ) → a ≡ (settle_make y ws (empty_worlds ls)).answer → Holds C (settle_make y ws (empty_worlds ls)).worlds w'
        go None e =
            let E = subst (MakeLeaves w w' ls) e m.left in
            record { sound = E.sound; sized = ap capacity_of E.long ∙ H.sized; held = E.worlds }
        go (Some n) e = subst (λ v. Holds C ws v) (sym (subst (MakeLeaves w w' ls) e m.left)) H

  -- ---- measuring
  module _ {q : Measure} {out : List ℕ} {a : Answer} {w' : List ℕ} (m : Measured w q out a w') where
    -- its answer is the model's
    pub measured-answer : a ≡ (step C ws (measure q out)).answer
    unfolding step measured_of
    measured-answer = m.answered ∙ ap (λ o. o.answer) (pool-is (λ z k vs. measure_by z k vs q out))

    -- and so are the worlds after it, which stay
    pub measured-holds : Holds C (step C ws (measure q out)).worlds w'
    unfolding step measure_by
    measured-holds =
        subst (λ v. Holds C (step C ws (measure q out)).worlds v) (sym m.left)
        (go (refusal (measure_conditions false C q out)) (written (length (words_due q C)) (into_front (words_due q C) out)))
      where
        go : (y : Option ℕ) (r : Result) → Holds C (settle_measured y ws r).worlds w
        go None r = H
        go (Some n) r = H
