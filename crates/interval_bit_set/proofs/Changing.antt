-- Calls that change a world, or overwrite it, meet their contract: refused by what looking tells, then by their conditions, then by too
-- many runs, and else the world holds the model's set. Each is the model's `change`, at the world's allowance. The work is done in the nodes,
-- which are lent as a part of the words. Assumes nothing.
use Rattle.changes.specs.Edits.{changed_to}
use Rattle.std.specs.Prelude.{Option, None, Some}
use Rattle.changes.specs.declared.edit.Edit.{Edit}
use Prim.Native.Nat.{ℕ, ◌≤◌, ◌<◌}
use mathlib.Core.Path.{◌≡◌, refl, sym, ap, ap₂, ◌∙◌, subst, fun_ext}
use mathlib.Core.Logic.{◌⊎◌, inl, inr}
use mathlib.Core.Bool.{Bool, true, false, not, ◌&&◌}
use mathlib.Core.List.{List, [], ◌∷◌}
use native.Mathlib.Omega.{arith}
use lib.Dec.{ltb}
use borrow.Author.Tests.{lt-ltb, le-ltb}
use Rattle.model.specs.Ends.{Bound}
use Rattle.model.specs.declared.Count.{Count}
use Rattle.model.specs.Numbers.{size, worth}
use Rattle.model.proofs.Numbers.{split}
use Rattle.model.specs.declared.between.Interval.{Interval}
use Rattle.model.specs.Range.{first_allowed, extent, many}
use Rattle.model.specs.Positions.{Positions, bounded, stretches, changes, set_range, flip_range, shift_by}
use Rattle.model.proofs.After.{set_below, set-above, flip-below, flip-above, changes-set}
use Rattle.model.proofs.Runs.{stretches-cong}
use Rattle.model.proofs.Pools.{full-allowance}
use Rattle.model.specs.Refusals.{before_capacity, Condition, ◌when◌, first_given, refusal, too_many}
use Rattle.model.specs.Refusals
use Rattle.model.specs.Call.{Fed, holding, Call, Result, done, number, refused, gave}
use Rattle.model.specs.Model.{Effect, plan, settle, look, or_else, serve}
use Rattle.pool.specs.declared.World.{World}
use Rattle.pool.specs.Layout.{capacity, allowance, held_in, held_by, plain_at, worlds_of}
use Rattle.pool.specs.Soundness.{footprint_of}
use Rattle.pool.specs.Settle.{Settled, Became, Openable, Opened, Closing, Closes}
use Rattle.pool.proofs.Parts.{lent, back, back-same}
use Rattle.pool.proofs.WorldLists.{opened-world}
use Rattle.pool.proofs.Worlds.{held-allowed}
use Rattle.changes.specs.Edits.{Makes, Edited, Fitted, Moves}
use Rattle.changes.proofs.Shifted.{shift-few}
use Rattle.interval_bit_set.specs.Met.{Site, fed_at, full_at, outcome_of, Met, Readable}
use Rattle.interval_bit_set.proofs.Doors.{lent-held, lent-limited, lent-closing, lent-settled}
use Rattle.interval_bit_set.proofs.Meeting.{met_by, settled_same, settled-as}
use Rattle.interval_bit_set.proofs.Refusing.{refused-before, none_before, refused_full}
use Rattle.interval_bit_set.proofs.Spans.{Allowed, of_range, count-nothing}

-- what becomes of the positions: Q of them
pub data Alters : Effect → (Positions → Positions) → Type 0 where
  becoming : (Q : Positions → Positions) → Alters (Effect.becomes Q) Q
  overwriting : (Q : Positions → Positions) (Q' : Positions) → ((P : Positions) → Q P ≡ Q') → Alters (Effect.overwritten Q') Q

-- the call c reads nothing that refuses, has the conditions cs, changes the positions held to Q of them, and gives A of them
pub record Changes (w : List ℕ) (i : ℕ) (c : Call Site) (cs : List Condition) (Q : Positions → Positions) (A : Positions → Result) : Type 0 where
  pub further : List Fed
  pub read : look further ≡ None
  pub effect : Effect
  pub alters : Alters effect Q
  pub said : plan fed_at c ≡ record { further = further; earns = λ P. cs; effect = effect; gives = A }

-- one that reads no further world
pub alters : {w : List ℕ} {i : ℕ} {c : Call Site} {cs : List Condition} {Q : Positions → Positions} {A : Positions → Result}
    → plan fed_at c ≡ record { further = []; earns = λ P. cs; effect = Effect.becomes Q; gives = A } → Changes w i c cs Q A
alters e = record { further = []; read = refl; effect = _; alters = becoming _; said = e }

-- ---- too many runs
module _ {w : List ℕ} {i : ℕ} (o : Openable w i) where
  -- they are those above the allowance
  pub full-above : full_at w i ≡ ltb (allowance w i)
  unfolding full_at allowance
  full-above = full-allowance (capacity w) (worlds_of w) i (plain_at w i) (opened-world w i o.named) o.sound.fits

  -- at most what it may have
  pub fits-few : (Q : Positions) → stretches Q ≤ allowance w i → too_many (full_at w i) Q ≡ false
  unfolding too_many
  fits-few Q h = ap (λ f. f (stretches Q)) full-above ∙ le-ltb (allowance w i) (stretches Q) h

  -- more than it
  pub fits_not : (Q : Positions) → allowance w i < stretches Q → too_many (full_at w i) Q ≡ true
  unfolding too_many
  fits_not Q h = ap (λ f. f (stretches Q)) full-above ∙ lt-ltb (allowance w i) (stretches Q) h

-- below 2^64 a set is what is kept of it
pub bounded-is : (Q : Positions) (x : ℕ) → x < size → Q x ≡ bounded Q x
unfolding bounded
bounded-is Q x h = sym (ap (λ t. t && Q x) (lt-ltb x size h))

module _ {w : List ℕ} {i : ℕ} {c : Call Site} {cs : List Condition} {Q : Positions → Positions} {A : Positions → Result} (says : Changes w i c cs Q A) where
  module _ (R : Readable w i) where
    -- what the model says of it at a world that can be read, by whether that has too many runs
    changes-outcome : (t : Bool) (o : Option ℕ) → too_many (full_at w i) (Q (held_by w i)) ≡ t → refusal (Refusals.capacity when t ∷ cs) ≡ o
        → outcome_of w i c ≡ settle o (held_by w i) (A (held_by w i)) (bounded (Q (held_by w i)))
    unfolding outcome_of serve
    changes-outcome t o e f =
        ap₂ (serve (full_at w i)) R.fed says.said ∙ by says.effect says.alters
        ∙ ap (λ m. settle (refusal (Refusals.capacity when m ∷ cs)) (held_by w i) (A (held_by w i)) (bounded (Q (held_by w i)))) e
        ∙ ap (λ y. settle y (held_by w i) (A (held_by w i)) (bounded (Q (held_by w i)))) f
      where
        by : (d : Effect) → Alters d Q → serve (full_at w i) (holding (held_by w i)) (record { further = says.further; earns = λ P. cs; effect = d; gives = A })
            ≡ settle (refusal (Refusals.capacity when too_many (full_at w i) (Q (held_by w i)) ∷ cs)) (held_by w i) (A (held_by w i)) (bounded (Q (held_by w i)))
        by d (becoming q) = ap (λ l. settle (or_else l (refusal (Refusals.capacity when too_many (full_at w i) (q (held_by w i)) ∷ cs))) (held_by w i) (A (held_by w i)) (bounded (q (held_by w i)))) says.read
        by d (overwriting q q' e) =
            ap (λ l. settle (or_else l (refusal (Refusals.capacity when too_many (full_at w i) q' ∷ cs))) (held_by w i) (A (held_by w i)) (bounded q')) says.read
            ∙ ap (λ P. settle (refusal (Refusals.capacity when too_many (full_at w i) P ∷ cs)) (held_by w i) (A (held_by w i)) (bounded P)) (sym (e (held_by w i)))

    -- a refusal that is due is given
    given-at : (t : Bool) {n : ℕ} {w' : List ℕ} → too_many (full_at w i) (Q (held_by w i)) ≡ t → refusal (Refusals.capacity when t ∷ cs) ≡ Some n → w' ≡ w → Met w i c (refused n) w'
    given-at t {n} e f q = met_by _ (changes-outcome t (Some n) e f) q

    -- the conditions come first
    pub refused-first : {n : ℕ} → first_given before_capacity cs ≡ Some n → Met w i c (refused n) w
    refused-first e = given-at _ refl (refused-before cs (too_many (full_at w i) (Q (held_by w i))) e) refl

    -- then more runs than it may have
    pub full-before : first_given before_capacity cs ≡ None → {w' : List ℕ} → (allowance w i < stretches (Q (held_by w i))) × (w' ≡ w) → Met w i c (refused 8) w'
    full-before early h = given-at true (fits_not R.openable (Q (held_by w i)) h.0) (refused_full cs early) h.1

    -- then the conditions that come after these
    pub refused-after : {n : ℕ} → stretches (Q (held_by w i)) ≤ allowance w i → refusal cs ≡ Some n → Met w i c (refused n) w
    refused-after fits e = given-at false (fits-few R.openable (Q (held_by w i)) fits) e refl

    module _ (quiet : refusal cs ≡ None) (Q' : Positions) (alike : (x : ℕ) → x < size → Q' x ≡ Q (held_by w i) x) where
      -- the changed set has as many runs
      runs-alike : stretches Q' ≡ stretches (Q (held_by w i))
      runs-alike = stretches-cong Q' (Q (held_by w i)) alike

      -- more than it may have
      pub full : {w' : List ℕ} → (allowance w i < stretches Q') × (w' ≡ w) → Met w i c (refused 8) w'
      full h = full-before (none_before cs quiet) (subst (λ n. allowance w i < n) runs-alike h.0, h.1)

      -- and else the world is changed
      pub changes-to : {w' : List ℕ} {a : Result} → stretches Q' ≤ allowance w i → Settled w w' i Q' → a ≡ A (held_by w i) → Met w i c (gave a) w'
      changes-to {w'} fits S g =
          let few : stretches (Q (held_by w i)) ≤ allowance w i = subst (λ n. n ≤ allowance w i) runs-alike fits in
          subst (λ b. Met w i c (gave b) w') (sym g)
          (met_by (record { answer = gave (A (held_by w i)); positions = bounded (Q (held_by w i)) })
          (changes-outcome false None (fits-few R.openable (Q (held_by w i)) few) quiet)
          (settled-as S (λ x h. alike x h ∙ bounded-is (Q (held_by w i)) x h)))

    -- a world that is its own change to the same set is left
    pub left_so : {a : Result} → refusal cs ≡ None → held_by w i ≡ Q (held_by w i) → a ≡ A (held_by w i) → Met w i c (gave a) w
    left_so quiet f g =
        changes-to quiet (held_by w i) (λ x h. ap (λ T. T x) f) (held-allowed w i R.openable) (settled_same R.openable.sound) g

-- ---- of the positions of an interval, of an open world
module _ {w : List ℕ} {i : ℕ} {h : World} {l u : Bound} {r : Interval} (W : Allowed l u r) (op : Opened w i h) where
  -- a set of them is one of the range
  pub set-within : (v : Bool) → set_range r.first.0 (many r) v (held_in (lent w) h) ≡ set_range (first_allowed l) (extent l u) v (held_by w i)
  set-within v = ap (set_range r.first.0 (many r) v) (lent-held op) ∙ of_range W (λ x n. set_range x n v (held_by w i)) refl

  -- so is a flip
  pub flip-within : flip_range r.first.0 (many r) (held_in (lent w) h) ≡ flip_range (first_allowed l) (extent l u) (held_by w i)
  flip-within = ap (flip_range r.first.0 (many r)) (lent-held op) ∙ of_range W (λ x n. flip_range x n (held_by w i)) refl

-- ---- of no position
module _ (P : Positions) (a n : ℕ) (e : n ≡ 0) where
  -- a set of it changes nothing
  pub set-none : (v : Bool) → P ≡ set_range a n v P
  set-none v = fun_ext (λ x. go x (split x a))
    where
      go : (x : ℕ) → (x < a) ⊎ (a ≤ x) → P x ≡ set_range a n v P x
      go x (inl h) = sym (set_below a n v P x h)
      go x (inr h) = sym (set-above a n v P x (omega arith))

  -- nor does a flip
  pub flip-none : P ≡ flip_range a n P
  flip-none = fun_ext (λ x. go x (split x a))
    where
      go : (x : ℕ) → (x < a) ⊎ (a ≤ x) → P x ≡ flip_range a n P x
      go x (inl h) = sym (flip-below a n P x h)
      go x (inr h) = sym (flip-above a n P x (omega arith))

-- so no position changed
pub changes-none : (P : Positions) (a n : ℕ) (v : Bool) → n ≡ 0 → 0 ≡ changes P (set_range a n v P)
changes-none P a n v e =
    count-nothing P (not v) 0 0 refl ∙ sym (changes-set P 0 0 v (omega arith)) ∙ ap (changes P) (sym (set-none P 0 0 refl v) ∙ set-none P a n e v)

-- ---- changes of an open world, in the part that is lent; it comes back as ys
-- at most as many runs as the limit, which is the allowance
up_to : {limit a : ℕ} (Q : Positions) → limit ≡ a → stretches Q ≤ limit → stretches Q ≤ a
up_to Q e l = subst (λ n. stretches Q ≤ n) e l

module _ {w : List ℕ} {i : ℕ} {h : World} (R : Readable w i) (op : Opened w i h) where
  -- a shift adds no run
  pub move-became : {ys : List ℕ} {k : World} {Q : Positions} → Moves (lent w) ys h k Q → Became (lent w) ys (footprint_of w i) k Q
  move-became mv = mv (footprint_of w i) (allowance w i) (lent-limited op)

  pub move-few : (d : ℕ) (left : Bool) → d < size → stretches (shift_by d left (held_in (lent w) h)) ≤ allowance w i
  move-few d left l = omega (arith, shift-few d left (held_in (lent w) h) l, (lent-limited op).fits)

  pub move-closing : (ys : List ℕ) {k : World} (d : ℕ) (left : Bool) → d < size → Moves (lent w) ys h k (shift_by d left (held_in (lent w) h))
      → Closing w (back w ys) k (shift_by d left (held_in (lent w) h))
  move-closing ys d left l mv = lent-closing R.openable (move-became mv) (move-few d left l)

  -- the positions became Q, if these have no more runs than the limit
  module _ {limit : ℕ} (el : limit ≡ allowance w i) {Q : Positions} where
    made : {ys : List ℕ} {k : World} → stretches Q ≤ limit → Makes (lent w) ys h k Q → Became (lent w) ys (footprint_of w i) k Q
    made l mk = mk (footprint_of w i) (allowance w i) (lent-limited op) (up_to Q el l)

    -- by a change that counts
    module _ (ys : List ℕ) (e : Option Edit) (ed : Edited (lent w) ys h limit Q e) {k : World} {n : Count} (q : e ≡ changed_to k n) where
      pub edit-told : Edited (lent w) ys h limit Q (changed_to k n)
      edit-told = subst (Edited (lent w) ys h limit Q) q ed

      pub edit-closing : Closing w (back w ys) k Q
      edit-closing = lent-closing R.openable (made edit-told.0 edit-told.1) (up_to Q el edit-told.0)

    -- by one that does not
    module _ (ys : List ℕ) (e : Option World) (ft : Fitted (lent w) ys h limit Q e) {k : World} (q : e ≡ Some k) where
      pub fit-told : Fitted (lent w) ys h limit Q (Some k)
      fit-told = subst (Fitted (lent w) ys h limit Q) q ft

      pub fit-closing : Closing w (back w ys) k Q
      fit-closing = lent-closing R.openable (made fit-told.0 fit-told.1) (up_to Q el fit-told.0)

-- a call that so changes the world is met
module _ {w : List ℕ} {i : ℕ} {c : Call Site} {cs : List Condition} {F : Positions → Positions} {A : Positions → Result} (says : Changes w i c cs F A) (quiet : refusal cs ≡ None)
    {h : World} (R : Readable w i) (op : Opened w i h) {Q : Positions} (same : Q ≡ F (held_by w i)) where
  alike : (x : ℕ) → x < size → Q x ≡ F (held_by w i) x
  alike x l = ap (λ T. T x) same

  -- by a shift
  pub move-done : (ys : List ℕ) {w' : List ℕ} {k : World} (d : ℕ) (left : Bool) → d < size → Q ≡ shift_by d left (held_in (lent w) h) → Moves (lent w) ys h k Q → Closes (back w ys) w' k
      → done ≡ A (held_by w i) → Met w i c (gave done) w'
  move-done ys d left l e mv cl g =
      let few = subst (λ P. stretches P ≤ allowance w i) (sym e) (move-few R op d left l) in
      changes-to says R quiet Q alike few (lent-settled R.openable (move-became R op mv) few cl) g

  module _ {limit : ℕ} (el : limit ≡ allowance w i) where
    -- too many runs
    over : (ys : List ℕ) → (limit < stretches Q) × (ys ≡ lent w) → Met w i c (refused 8) (back w ys)
    over ys f = full says R quiet Q alike (subst (λ n. n < stretches Q) el f.0, ap (back w) f.1 ∙ back-same w)

    pub edit-full : (ys : List ℕ) (e : Option Edit) → Edited (lent w) ys h limit Q e → e ≡ None → Met w i c (refused 8) (back w ys)
    edit-full ys e ed q = over ys (subst (Edited (lent w) ys h limit Q) q ed)

    pub fit-full : (ys : List ℕ) (e : Option World) → Fitted (lent w) ys h limit Q e → e ≡ None → Met w i c (refused 8) (back w ys)
    fit-full ys e ft q = over ys (subst (Fitted (lent w) ys h limit Q) q ft)

    pub edit-done : (ys : List ℕ) {w' : List ℕ} (e : Option Edit) → Edited (lent w) ys h limit Q e → {k : World} {n : Count} → e ≡ changed_to k n → Closes (back w ys) w' k
        → A (held_by w i) ≡ number (changes (held_by w i) (F (held_by w i))) → Met w i c (gave (number (worth n))) w'
    edit-done ys e ed q cl g =
        let t = edit-told R op el ys e ed q in
        changes-to says R quiet Q alike (up_to Q el t.0) (lent-settled R.openable (made R op el t.0 t.1) (up_to Q el t.0) cl)
        (ap number (t.2 ∙ ap₂ changes (lent-held op) same) ∙ sym g)

    pub fit-done : (ys : List ℕ) {w' : List ℕ} (e : Option World) → Fitted (lent w) ys h limit Q e → {k : World} → e ≡ Some k → Closes (back w ys) w' k → done ≡ A (held_by w i) → Met w i c (gave done) w'
    fit-done ys e ft q cl g =
        let t = fit-told R op el ys e ft q in
        changes-to says R quiet Q alike (up_to Q el t.0) (lent-settled R.openable (made R op el t.0 t.1) (up_to Q el t.0) cl) g
