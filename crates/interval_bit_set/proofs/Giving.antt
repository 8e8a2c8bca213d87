-- A call that was not refused: the worlds that it reads can be read, it gave what its plan gives, and it left what its plan leaves. And a call is not
-- refused where its worlds can be read, nothing else is earned and the runs fit. Assumes nothing.
use Rattle.std.specs.Prelude.{Option, None, Some}
use Prim.Native.Nat.{ℕ, ◌≤◌, ◌<◌}
use mathlib.Core.Path.{◌≡◌, refl, sym, ap, ◌∙◌, subst}
use mathlib.Core.Logic.{◌⊎◌, inl, inr}
use mathlib.Core.Bool.{Bool, true, false, cond, true≢false}
use mathlib.Core.List.{List, [], ◌∷◌, ◌++◌}
use native.Mathlib.Omega.{arith}
use borrow.Author.Tests.{ltb-false, not-false}
use Rattle.model.specs.Positions.{Positions, stretches}
use Rattle.model.proofs.Numbers.{split}
use Rattle.model.specs.Refusals.{before_capacity, earns_length, earns_unsound, earns_unopened, Condition, ◌when◌, first_given, refusal, too_many}
use Rattle.model.specs.Refusals
use Rattle.model.specs.Call.{Fed, wrong_length, unsound, unopened, holding, Call, Result, Answer, gave}
use Rattle.model.specs.Model.{Plan, plan, positions_of, settle, any_earns, look, or_else, first_refusal, room, left_by, serve}
use Rattle.model.specs.Pools.{holding_at}
use Rattle.pool.specs.Layout.{capacity, opened_at, allowance, held_by, worlds_of}
use Rattle.pool.specs.Settle.{Settled, Openable}
use Rattle.pool.specs.Decision.{sound_b}
use Rattle.pool.proofs.Turn.{pool-past}
use Rattle.interval_bit_set.specs.Met.{Site, short, fed_of, fed_at, full_at, outcome_of, Met, Readable}
use Rattle.interval_bit_set.specs.Look.{Checked}
use Rattle.interval_bit_set.proofs.Meeting.{fed-unopened, refused-not}
use Rattle.interval_bit_set.proofs.Refusing.{refused-before, refused_full}
use Rattle.interval_bit_set.proofs.Changing.{full-above, fits-few}
use Rattle.interval_bit_set.proofs.Looking.{checked-sound, found, short-yes, earns-length, earns-unsound, shut-refused}
use Rattle.interval_bit_set.proofs.Simulation.{Ends, left-ends, same-positions, worlds-after}

-- ---- refusals that are none
-- no number is none
pub some-not : {n : ℕ} → Some n ≡ None → ⊥
some-not e = let z : ◌≡◌ {A = ℕ} 0 1 = cc in omega arith

-- what gave something was not refused
pub unrefused : (o : Option ℕ) (P : Positions) (a : Result) (Q : Positions) {r : Result} → (settle o P a Q).answer ≡ gave r → o ≡ None
unrefused None P a Q e = refl
unrefused (Some n) P a Q e = absurd (refused-not e)

-- where the first of two is none, both are
quiet : (o o' : Option ℕ) → or_else o o' ≡ None → (o ≡ None) × (o' ≡ None)
quiet None o' e = (refl, e)
quiet (Some n) o' e = absurd (some-not e)

-- too many runs are not among conditions that refuse nothing
runs_fit : (cs : List Condition) (t : Bool) → refusal (Refusals.capacity when t ∷ cs) ≡ None → t ≡ false
runs_fit cs false e = refl
runs_fit cs true e = absurd (go (first_given before_capacity cs) refl)
  where
    go : (o : Option ℕ) → first_given before_capacity cs ≡ o → ⊥
    go None f = some-not (sym (refused_full cs f) ∙ e)
    go (Some n) f = some-not (sym (refused-before cs true f) ∙ e)

module _ {w : List ℕ} {i : ℕ} (o : Openable w i) (Q : Positions) (cs : List Condition) where
  -- so the runs fit
  pub quiet-fits : refusal (Refusals.capacity when too_many (full_at w i) Q ∷ cs) ≡ None → stretches Q ≤ allowance w i
  unfolding too_many
  quiet-fits e =
      ltb-false (allowance w i) (stretches Q) (ap (λ f. f (stretches Q)) (sym (full-above o)) ∙ runs_fit cs (too_many (full_at w i) Q) e)

  -- and where they do, they refuse nothing
  pub fits-quiet : stretches Q ≤ allowance w i → refusal cs ≡ None → refusal (Refusals.capacity when too_many (full_at w i) Q ∷ cs) ≡ None
  fits-quiet h e = ap (λ t. refusal (Refusals.capacity when t ∷ cs)) (fits-few o Q h) ∙ e

-- ---- worlds that earn nothing
-- the first of them is fed as its positions
fed-held : (s : Fed) (ss : List Fed) → look (s ∷ ss) ≡ None → (s ≡ holding (positions_of s)) × (look ss ≡ None)
fed-held (holding P) ss e = (refl, e)
fed-held wrong_length ss e = absurd (some-not e)
fed-held unopened ss e = absurd (some-not (sym (shut-refused ss).1 ∙ e))
fed-held unsound ss e = absurd (go (any_earns earns_length ss) e)
  where
    go : (x : Bool) → cond {A = Option ℕ} x (Some 1) (Some 7) ≡ None → ⊥
    go true f = some-not f
    go false f = some-not f

-- what is fed so can be read
pub fed-readable : (w : List ℕ) (i : ℕ) {P : Positions} → fed_of w i ≡ holding P → Readable w i
fed-readable w i e = go (split (capacity w) 1)
  where
    long : short w ≡ false
    long = sym (earns-length w i) ∙ ap earns_length e

    sound : sound_b w ≡ true
    sound = not-false (sound_b w) (sym (earns-unsound w i long) ∙ ap earns_unsound e)

    named : Checked w → (i < opened_at w) ⊎ (opened_at w ≤ i) → Readable w i
    named k (inl l) = found k l
    named k (inr l) = absurd (true≢false (ap earns_unopened (sym (fed-unopened w i (checked-sound k) l) ∙ e)))

    go : (capacity w < 1) ⊎ (1 ≤ capacity w) → Readable w i
    go (inl h) = absurd (true≢false (sym (short-yes w (omega arith)) ∙ long))
    go (inr h) = named (record { sized = h; passed = sound }) (split i (opened_at w))

pub first-readable : (w : List ℕ) (i : ℕ) (ss : List Fed) → look (fed_of w i ∷ ss) ≡ None → Readable w i × (look ss ≡ None)
first-readable w i ss e = let r = fed-held (fed_of w i) ss e in (fed-readable w i r.0, r.1)

-- ---- calls
-- the conditions of a call on a world that holds P, beside what worlds earn
abbrev pub asked : List ℕ → ℕ → Call Site → Positions → List Condition
asked w i c P = room (full_at w i) (plan fed_at c).effect P ++ (plan fed_at c).earns P

-- where its worlds can be read, these tell what it does
pub outcome-by : {w : List ℕ} {i : ℕ} (c : Call Site) → Readable w i → look (plan fed_at c).further ≡ None
    → outcome_of w i c ≡ settle (refusal (asked w i c (held_by w i))) (held_by w i) ((plan fed_at c).gives (held_by w i)) (left_by (plan fed_at c).effect (held_by w i))
unfolding outcome_of serve
outcome-by {w} {i} c R q =
    let p : Plan = plan fed_at c in
    let P : Positions = held_by w i in
    ap (λ s. serve (full_at w i) s p) R.fed ∙ ap (λ l. settle (or_else l (refusal (asked w i c P))) P (p.gives P) (left_by p.effect P)) q

-- so it is not refused where they refuse nothing
pub given-where : {w w' : List ℕ} {i : ℕ} {c : Call Site} {a : Answer} → Readable w i → look (plan fed_at c).further ≡ None → refusal (asked w i c (held_by w i)) ≡ None
    → Met w i c a w' → a ≡ gave ((plan fed_at c).gives (held_by w i))
given-where {w} {i = i} {c = c} R q e m =
    let p : Plan = plan fed_at c in
    let P : Positions = held_by w i in
    m.answered ∙ ap (λ o. o.answer) (outcome-by c R q ∙ ap (λ o. settle o P (p.gives P) (left_by p.effect P)) e)

module _ {w w' : List ℕ} {i : ℕ} {c : Call Site} {r : Result} (m : Met w i c (gave r) w') where
  abbrev p : Plan
  p = plan fed_at c

  abbrev s : Fed
  s = fed_of w i

  read : look (s ∷ p.further) ≡ None
  unfolding outcome_of serve
  read =
      (quiet (look (s ∷ p.further)) (refusal (asked w i c (positions_of s)))
      (unrefused (first_refusal (s ∷ p.further) (asked w i c (positions_of s))) _ _ _ (sym m.answered))).0

  -- ONE THAT WAS NOT: its world can be read
  pub given-readable : Readable w i
  given-readable = (first-readable w i p.further read).0

  -- and the further ones
  pub given-further : look p.further ≡ None
  given-further = (first-readable w i p.further read).1

  -- its conditions refuse nothing
  pub given-quiet : refusal (asked w i c (held_by w i)) ≡ None
  given-quiet = unrefused (refusal (asked w i c (held_by w i))) _ _ _ (sym (m.answered ∙ ap (λ o. o.answer) (outcome-by c given-readable given-further)))

  pub given-outcome : outcome_of w i c ≡ record { answer = gave (p.gives (held_by w i)); positions = left_by p.effect (held_by w i) }
  given-outcome =
      outcome-by c given-readable given-further ∙ ap (λ o. settle o (held_by w i) (p.gives (held_by w i)) (left_by p.effect (held_by w i))) given-quiet

  -- it gave what its plan gives
  pub given-is : r ≡ p.gives (held_by w i)
  given-is = let e : gave r ≡ gave (p.gives (held_by w i)) = m.answered ∙ ap (λ o. o.answer) given-outcome in cc

  -- and left what that leaves
  pub given-settled : Settled w w' i (left_by p.effect (held_by w i))
  given-settled = subst (λ o. Settled w w' i o.positions) given-outcome m.left

  ends : Ends (left_by p.effect (held_by w i))
  ends = left-ends p.effect (held_by w i) (pool-past w i)

  -- so its world holds that, and all worlds are those before, with that in its world
  pub given-held : held_by w' i ≡ left_by p.effect (held_by w i)
  given-held = same-positions (held_by w' i) (left_by p.effect (held_by w i)) (pool-past w' i) ends given-settled.holds

  pub given-worlds : worlds_of w' ≡ holding_at i (left_by p.effect (held_by w i)) (worlds_of w)
  given-worlds = worlds-after given-readable.openable.named given-settled ends
