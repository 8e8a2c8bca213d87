-- Looking at pools and worlds: what the check and the number of a world tell, and that the refusal which a look gives is the one that is due.
-- Assumes nothing.
use Rattle.std.specs.Prelude.{Option, None, Some, Ok, Err, if◌then◌else◌}
use Rattle.std.specs.Result.{IsErrAnd}
use Rattle.std.specs.Option.{ok_or}
use Prim.Native.Nat.{ℕ, ◌≤◌, ◌<◌}
use mathlib.Core.Path.{◌≡◌, refl, sym, ap, ap₂, ◌∙◌, subst}
use mathlib.Core.Logic.{◌⊎◌, inl, inr}
use mathlib.Core.Bool.{Bool, true, false, cond, not, ◌||◌}
use mathlib.Core.List.{List, [], ◌∷◌, ◌++◌, map}
use native.Mathlib.Omega.{arith}
use borrow.Author.Tests.{eq-eqb, ne_eqb}
use Rattle.model.specs.declared.Refusal.{Refusal}
use Rattle.model.specs.declared.Refusal.TheVariants.{Unsound, WorldUnopened}
use Rattle.model.specs.Answers.{OrRefusal, answer_by}
use Rattle.model.specs.Numbers.{refusal_number}
use Rattle.model.proofs.Numbers.{split, neither-first, neither-second}
use Rattle.model.specs.Positions.{Positions}
use Rattle.model.specs.Refusals.{refusal, earns_length, earns_unsound, earns_unopened}
use Rattle.model.specs.Call.{Fed, wrong_length, unsound, unopened, Call, Result, Answer, refused, gave}
use Rattle.model.specs.Model.{Plan, positions_of, plan, any_earns, look, settle, or_else, room, left_by, serve}
use Rattle.model.specs.Pools.{PlainWorld, world_of, fed_by}
use Rattle.pool.specs.Layout.{capacity, opened_at, worlds_of}
use Rattle.pool.specs.Soundness.{Sound}
use Rattle.pool.specs.Settle.{Openable}
use Rattle.pool.specs.Decision.{sound_b, worn, checked}
use Rattle.pool.proofs.Whole.{sound_b-yes, sound_b-no}
use Rattle.interval_bit_set.specs.Met.{Site, site, short, any_is, faults, fed_of, fed_at, full_at, outcome_of, Met, Readable}
use Rattle.interval_bit_set.specs.Look.{Checked, AllChecked, Checks, Sounds}
use Rattle.interval_bit_set.proofs.Passing.{handed-on, met-on}
use Rattle.interval_bit_set.proofs.Meeting.{fed-unopened, readable, met_by, refused-not}

-- ---- a pool that was checked
pub checked-sound : {w : List ℕ} → Checked w → Sound w
checked-sound {w} c = sound_b-yes w c.sized c.passed

pub sound-checked : {w : List ℕ} → Sound w → Checked w
sound-checked {w} S = record { sized = S.sized; passed = sound_b-no w S }

-- what the test of soundness tells of words
pub tells-sound : (w : List ℕ) {o : Option ℕ} (r : OrRefusal ℕ) → o ≡ checked w → r ≡ ok_or o Unsound → Sounds w r
unfolding checked
tells-sound w r e f = go (sound_b w) refl (f ∙ ap (λ p. ok_or p Unsound) e)
  where
    go : (b : Bool) → sound_b w ≡ b → r ≡ ok_or (if b then Some (worn w) else None) Unsound → Sounds w r
    go true q g = subst (Sounds w) (sym g) (q, refl)
    go false q g = subst (Sounds w) (sym g) (q, refl)

-- a world of it that was opened can be opened, and read
pub openable : {w : List ℕ} {i : ℕ} → Checked w → i < opened_at w → Openable w i
openable c l = record { sound = checked-sound c; named = l }

pub found : {w : List ℕ} {i : ℕ} → Checked w → i < opened_at w → Readable w i
found c l = readable (openable c l)

-- ---- the check of some pools
pub short-yes : (w : List ℕ) → capacity w ≡ 0 → short w ≡ true
short-yes w e = eq-eqb (capacity w) 0 e

pub short-no : (w : List ℕ) → 1 ≤ capacity w → short w ≡ false
short-no w h = ne_eqb (capacity w) 0 (λ e. omega arith)

-- a refusal that `?` hands on is the one that is due
pub checks-out : (w : List ℕ) (ws : List (List ℕ)) {r : Refusal} {P : Refusal → Type 0} (a : OrRefusal ℕ) → IsErrAnd a P → ((e : Refusal) → P e → e ≡ r)
    → faults (w ∷ ws) ≡ Some (refusal_number r) → Checks w ws a
checks-out w ws a h k e = subst (Checks w ws) (sym (handed-on a h k)) e

-- of one pool the test of soundness tells the rest
pub sound-checks : (w : List ℕ) (r : OrRefusal ℕ) → 1 ≤ capacity w → Sounds w r → Checks w [] r
sound-checks w (Ok n) h s = ((record { sized = h; passed = s.0 }, tt), s.1)
sound-checks w (Err r) h s = rw (short-no w h, s.0, s.1) refl

-- ---- what a world earns
pub earns-length : (w : List ℕ) (i : ℕ) → earns_length (fed_of w i) ≡ short w
unfolding fed_of
earns-length w i = go (short w) (sound_b w) (world_of (worlds_of w) i)
  where
    go : (z t : Bool) (o : Option PlainWorld) → earns_length (cond z wrong_length (cond t (fed_by o) unsound)) ≡ z
    go true t o = refl
    go false false o = refl
    go false true None = refl
    go false true (Some x) = refl

pub earns-unsound : (w : List ℕ) (i : ℕ) → short w ≡ false → earns_unsound (fed_of w i) ≡ not (sound_b w)
unfolding fed_of
earns-unsound w i e = ap (λ z. earns_unsound (cond z wrong_length (cond (sound_b w) (fed_by (world_of (worlds_of w) i)) unsound))) e ∙ go (sound_b w) (world_of (worlds_of w) i)
  where
    go : (t : Bool) (o : Option PlainWorld) → earns_unsound (cond t (fed_by o) unsound) ≡ not t
    go false o = refl
    go true None = refl
    go true (Some x) = refl

-- ---- what the worlds of a call earn
abbrev words-of : List Site → List (List ℕ)
words-of ss = map (λ (s : Site). s.words) ss

any-length : (ss : List Site) → any_earns earns_length (map fed_at ss) ≡ any_is short (words-of ss)
any-length [] = refl
any-length (s ∷ ss) = ap₂ (λ a b. a || b) (earns-length s.words s.world) (any-length ss)

any-unsound : (ss : List Site) → any_is short (words-of ss) ≡ false → any_earns earns_unsound (map fed_at ss) ≡ any_is (λ w. not (sound_b w)) (words-of ss)
any-unsound [] e = refl
any-unsound (s ∷ ss) e =
    ap₂ (λ a b. a || b) (earns-unsound s.words s.world (neither-first (short s.words) (any_is short (words-of ss)) e))
    (any-unsound ss (neither-second (short s.words) (any_is short (words-of ss)) e))

-- a fault of the pools is what a look finds
pub fault-found : (ss : List Site) {n : ℕ} → faults (words-of ss) ≡ Some n → look (map fed_at ss) ≡ Some n
fault-found ss {n} e = go (any_is short (words-of ss)) (any_is (λ w. not (sound_b w)) (words-of ss)) (any-length ss) (any-unsound ss) e
  where
    go : (z t : Bool) → any_earns earns_length (map fed_at ss) ≡ z → (z ≡ false → any_earns earns_unsound (map fed_at ss) ≡ t)
        → cond z (Some 1) (cond t (Some 7) None) ≡ Some n → look (map fed_at ss) ≡ Some n
    go true t p q f = rw p f
    go false true p q f = rw (p, q refl) f
    go false false p q f = let z : ◌≡◌ {A = ℕ} 0 1 = cc in absurd (omega arith)

-- checked pools have none
pub checked-quiet : (ss : List Site) → AllChecked (words-of ss) → (any_earns earns_length (map fed_at ss) ≡ false) × (any_earns earns_unsound (map fed_at ss) ≡ false)
checked-quiet [] c = (refl, refl)
checked-quiet (s ∷ ss) c =
    let z : short s.words ≡ false = ne_eqb (capacity s.words) 0 (λ e. omega (arith, c.0.sized)) in
    let r = checked-quiet ss c.1 in
    (rw (earns-length s.words s.world, z) r.0, rw (earns-unsound s.words s.world z, c.0.passed) r.1)

-- a world that was not opened is refused, whatever other worlds earn
pub shut-refused : (ss : List Fed) → (n : ℕ) × (look (unopened ∷ ss) ≡ Some n)
shut-refused ss = go (any_earns earns_length ss) (any_earns earns_unsound ss)
  where
    go : (x y : Bool) → (n : ℕ) × (cond x (Some 1) (cond y (Some 7) (Some 12)) ≡ Some n)
    go true y = (1, refl)
    go false true = (7, refl)
    go false false = (12, refl)

-- ---- a call is refused by what a look finds, whatever else it earns
module _ {w : List ℕ} {i : ℕ} {c : Call Site} where
  pub look-refused : {n : ℕ} → look (fed_of w i ∷ (plan fed_at c).further) ≡ Some n → Met w i c (refused n) w
  unfolding outcome_of serve
  look-refused {n} e =
      let p : Plan = plan fed_at c in
      let P : Positions = positions_of (fed_of w i) in
      met_by (record { answer = refused n; positions = P })
      (ap (λ l. settle (or_else l (refusal (room (full_at w i) p.effect P ++ p.earns P))) P (p.gives P) (left_by p.effect P)) e) refl

  -- by a fault of the pools that it names: its own, and those of the sites ss
  pub faulty : (ss : List Site) → map fed_at ss ≡ (plan fed_at c).further → {n : ℕ} → faults (w ∷ words-of ss) ≡ Some n → Met w i c (refused n) w
  faulty ss f e = look-refused (ap (λ fs. look (fed_of w i ∷ fs)) (sym f) ∙ fault-found (site w i ∷ ss) e)

  -- and, where all are sound, by a world of them that was not opened
  pub shut : (ss : List Site) → map fed_at ss ≡ (plan fed_at c).further → AllChecked (w ∷ words-of ss) → any_earns earns_unopened (fed_of w i ∷ map fed_at ss) ≡ true
      → Met w i c (refused 12) w
  shut ss f k e =
      let q = checked-quiet (site w i ∷ ss) k in
      look-refused (ap (λ fs. look (fed_of w i ∷ fs)) (sym f) ∙ rw (q.0, q.1, e))

  -- its own
  pub shut-here : (ss : List Site) → map fed_at ss ≡ (plan fed_at c).further → AllChecked (w ∷ words-of ss) → opened_at w ≤ i → Met w i c (refused 12) w
  shut-here ss f k l = shut ss f k (rw (fed-unopened w i (checked-sound k.0) l))

  -- of a call on one world alone
  pub shut-alone : [] ≡ (plan fed_at c).further → Checked w → opened_at w ≤ i → Met w i c (refused 12) w
  shut-alone f k l = shut-here [] f (k, tt) l

  pub faulty-alone : [] ≡ (plan fed_at c).further → {n : ℕ} → faults (w ∷ []) ≡ Some n → Met w i c (refused n) w
  faulty-alone f e = faulty [] f e

-- ---- methods
-- a call leaves a pool that would pass the check again
pub kept : {w w' : List ℕ} {i : ℕ} {c : Call Site} (a : Answer) → Checked w → Met w i c a w' → Checked w'
kept (refused n) k m = subst Checked (sym m.left) k
kept (gave r) k m = sound-checked m.left.sound

-- and one that gave something was on a world that was opened
pub gave-opened : {w w' : List ℕ} {i : ℕ} {c : Call Site} {r : Result} → Checked w → Met w i c (gave r) w' → i < opened_at w
gave-opened {w} {i = i} {c} k m = go (split i (opened_at w))
  where
    go : (i < opened_at w) ⊎ (opened_at w ≤ i) → i < opened_at w
    go (inl l) = l
    go (inr l) =
        let n = shut-refused (plan fed_at c).further in
        absurd (refused-not ((look-refused (ap (λ f. look (f ∷ (plan fed_at c).further)) (fed-unopened w i (checked-sound k) l) ∙ n.1)).answered ∙ sym m.answered))

-- ---- what `?` hands on, where f tells what a T is: the refusal of a world that was not opened
module _ {T : Type 0} (f : T → Answer) {w : List ℕ} {i : ℕ} {c : Call Site} {r : Refusal} {P : Refusal → Type 0} (a : OrRefusal T) (h : IsErrAnd a P) (k : (e : Refusal) → P e → e ≡ r) where
  pub shut-out : [] ≡ (plan fed_at c).further → Checked w → (opened_at w ≤ i) × (r ≡ WorldUnopened) → Met w i c (answer_by f a) w
  shut-out e q l = met-on f (subst (λ n. Met w i c (refused (refusal_number n)) w) (sym l.1) (shut-alone e q l.0)) a h k

  -- and of a pool that fails the check
  pub fault-out : [] ≡ (plan fed_at c).further → faults (w ∷ []) ≡ Some (refusal_number r) → Met w i c (answer_by f a) w
  fault-out e q = met-on f (faulty-alone e q) a h k

-- the same of a call that reads the further worlds ss: its own world was not opened
module _ {T : Type 0} (f : T → Answer) {w : List ℕ} {i : ℕ} {c : Call Site} {r : Refusal} {P : Refusal → Type 0} where
  pub shut-one : (ss : List Site) (a : OrRefusal T) → IsErrAnd a P → ((e : Refusal) → P e → e ≡ r) → map fed_at ss ≡ (plan fed_at c).further → AllChecked (w ∷ words-of ss)
      → (opened_at w ≤ i) × (r ≡ WorldUnopened) → Met w i c (answer_by f a) w
  shut-one ss a h k e q l = met-on f (subst (λ n. Met w i c (refused (refusal_number n)) w) (sym l.1) (shut-here ss e q l.0)) a h k

  -- its own was, and the first of the others was not
  pub shut-first : (s : Site) (ss : List Site) (a : OrRefusal T) → IsErrAnd a P → ((e : Refusal) → P e → e ≡ r) → map fed_at (s ∷ ss) ≡ (plan fed_at c).further
      → AllChecked (w ∷ words-of (s ∷ ss)) → i < opened_at w → (opened_at s.words ≤ s.world) × (r ≡ WorldUnopened) → Met w i c (answer_by f a) w
  shut-first s ss a h k e q o l =
      met-on f (subst (λ n. Met w i c (refused (refusal_number n)) w) (sym l.1)
      (shut (s ∷ ss) e q (rw ((found q.0 o).fed, fed-unopened s.words s.world (checked-sound q.1.0) l.0)))) a h k

  -- both were, and the second of the others was not
  pub shut-second : (s t : Site) (a : OrRefusal T) → IsErrAnd a P → ((e : Refusal) → P e → e ≡ r) → map fed_at (s ∷ t ∷ []) ≡ (plan fed_at c).further
      → AllChecked (w ∷ words-of (s ∷ t ∷ [])) → i < opened_at w → s.world < opened_at s.words → (opened_at t.words ≤ t.world) × (r ≡ WorldUnopened) → Met w i c (answer_by f a) w
  shut-second s t a h k e q o o' l =
      met-on f (subst (λ n. Met w i c (refused (refusal_number n)) w) (sym l.1)
      (shut (s ∷ t ∷ []) e q (rw ((found q.0 o).fed, (found q.1.0 o').fed, fed-unopened t.words t.world (checked-sound q.1.1.0) l.0)))) a h k

  -- a pool of them fails the check
  pub fault-of : (ss : List Site) (a : OrRefusal T) → IsErrAnd a P → ((e : Refusal) → P e → e ≡ r) → map fed_at ss ≡ (plan fed_at c).further
      → faults (w ∷ words-of ss) ≡ Some (refusal_number r) → Met w i c (answer_by f a) w
  fault-of ss a h k e q = met-on f (faulty ss e q) a h k
