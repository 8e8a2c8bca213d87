-- What loads can be written: the pool that loaded it, with every other world emptied, is what loading leaves in the same pool with all worlds
-- empty, and that is a new pool with these limits. Assumes nothing.
use Prim.Native.Nat.{ℕ, zero, suc, ◌+◌, ◌≤◌, ◌<◌}
use mathlib.Core.Path.{◌≡◌, refl, sym, ap, ap₂, ◌∙◌}
use mathlib.Core.Bool.{Bool, false, ◌||◌}
use mathlib.Core.List.{List, [], ◌∷◌}
use native.Mathlib.Omega.{arith}
use native.Mathlib.Decide.{ℕ_discrete}
use lib.ListN.{length}
use borrow.Author.Tests.{le-ltb, ne_eqb}
use Rattle.model.specs.declared.Limits.{Limits}
use Rattle.model.specs.Numbers.{size, most_worlds}
use Rattle.model.specs.Positions.{Positions, empty, mem, bounded, stretches}
use Rattle.model.specs.Bytes.{edition_of, decode}
use Rattle.model.specs.RunList.{AllBytes}
use Rattle.model.specs.Refusals.{floors, crossed, bad_limits, too_many}
use Rattle.model.specs.Call.{Call, done, gave}
use Rattle.model.specs.Pools.{PlainWorld, claims, other_claims, exceeds, full, empty_worlds}
use Rattle.model.proofs.Pools.{holding-here}
use Rattle.model.proofs.Runs.{stretches-cong}
use Rattle.model.proofs.RoundTrips.{Accepted, accepted-bytes}
use Rattle.pool.specs.Layout.{capacity_of, capacity, opened_at, floor_at, ceiling_at, held_by, worlds_from, worlds_of}
use Rattle.pool.specs.Soundness.{Sound}
use Rattle.pool.specs.Settle.{Settled, Openable}
use Rattle.pool.proofs.Worlds.{held-allowed}
use Rattle.pool.proofs.Turn.{pool-past}
use Rattle.pool.proofs.WorldLists.{opened-world}
use Rattle.interval_bit_set.specs.Met.{full_at, Met}
use Rattle.interval_bit_set.proofs.Changing.{fits-few, bounded-is}
use Rattle.interval_bit_set.proofs.Allowing.{others-holding}
use Rattle.interval_bit_set.proofs.Giving.{given-readable, given-settled}
use Rattle.interval_bit_set.proofs.Making.{make-done}
use Rattle.interval_bit_set.proofs.Simulation.{bounded-ends, same-positions, worlds-after}
use Rattle.theorems.specs.Plays.{New}
use Rattle.theorems.specs.Determinism.{Loads}
use Rattle.theorems.proofs.Writing.{bytes_of}
use Rattle.theorems.proofs.Loading.{load-met, loaded-accepted}
use Rattle.theorems.proofs.Lone.{Lone, lone, cleaned, settled-empty}

-- ---- a sound pool of empty worlds is a new one
-- the limits of n worlds from world k on
abbrev limits_in : List ℕ → ℕ → ℕ → List Limits
limits_in w k zero = []
limits_in w k (suc n) = record { floor = floor_at w k; ceiling = ceiling_at w k } ∷ limits_in w (suc k) n

-- they are n
limits-many : (w : List ℕ) (k n : ℕ) → length (limits_in w k n) ≡ n
limits-many w k zero = refl
limits-many w k (suc n) = ap suc (limits-many w (suc k) n)

-- no floor is above its ceiling
limits-straight : (w : List ℕ) (k n : ℕ) → ((j : ℕ) → j < k + n → floor_at w j ≤ ceiling_at w j) → crossed (limits_in w k n) ≡ false
limits-straight w k zero h = refl
limits-straight w k (suc n) h =
    ap₂ (λ x y. x || y) (le-ltb (ceiling_at w k) (floor_at w k) (h k (omega arith))) (limits-straight w (suc k) n (λ j l. h j (omega arith)))

-- the floors are claimed
floors-claimed : (w : List ℕ) (k n : ℕ) → floors (limits_in w k n) ≤ claims (worlds_from w k n)
unfolding worlds_from claims
floors-claimed w k zero = omega arith
floors-claimed w k (suc n) = omega (arith, floors-claimed w (suc k) n)

-- empty worlds with these limits
worlds-empty : (w : List ℕ) (k n : ℕ) → ((j : ℕ) → j < k + n → held_by w j ≡ empty) → worlds_from w k n ≡ empty_worlds (limits_in w k n)
unfolding worlds_from empty_worlds
worlds-empty w k zero h = refl
worlds-empty w k (suc n) h =
    ap₂ {C = List PlainWorld} (λ P l. record { positions = P; floor = floor_at w k; ceiling = ceiling_at w k } ∷ l) (h k (omega arith)) (worlds-empty w (suc k) n (λ j l. h j (omega arith)))

module _ {w : List ℕ} (S : Sound w) (none : (j : ℕ) → j < opened_at w → held_by w j ≡ empty) where
  abbrev limits : List Limits
  limits = limits_in w 0 (opened_at w)

  -- the limits are good
  limits-good : bad_limits (capacity w) limits ≡ false
  unfolding bad_limits worlds_of
  limits-good =
      let n = limits-many w 0 (opened_at w) in
      ap₂ (λ x y. x || y) (ne_eqb (length limits) 0 (λ e. omega (arith, n, S.some)))
      (ap₂ (λ x y. x || y) (le-ltb most_worlds (length limits) (omega (arith, n, S.few)))
      (ap₂ (λ x y. x || y) (limits-straight w 0 (opened_at w) (λ j l. (S.limited j (omega arith)).limits)) (le-ltb (capacity w) (floors limits) (omega (arith, floors-claimed w 0 (opened_at w), S.fits)))))

  -- so making may leave it
  pub new-pool : {C : ℕ} (v : List ℕ) → length w ≡ length v → capacity w ≡ C → New C limits w
  unfolding worlds_of
  new-pool v e c =
      let same : capacity v ≡ capacity w = ap capacity_of (sym e) in
      record {
        before = v;
        sized = same ∙ c;
        made = make-done v w limits (omega (arith, same, S.sized)) (ap (λ C. bad_limits C limits) same ∙ limits-good)
            (record { sound = S; worlds = worlds-empty w 0 (opened_at w) (λ j l. none j (omega arith)); long = e });
      }

-- ---- what loads
-- settled the other way round: the pool before is what the pool after becomes
settled_back : {w w' : List ℕ} {i : ℕ} {P Q : Positions} → Sound w → Settled w w' i P → ((x : ℕ) → x < size → held_by w i x ≡ Q x) → Settled w' w i Q
settled_back {w} {w'} S t h = record {
  sound = S;
  holds = h;
  opened = sym t.opened;
  others = λ j l ne. sym (t.others j (omega (arith, l, t.opened)) ne);
  floors = λ j l. sym (t.floors j l);
  ceilings = λ j l. sym (t.ceilings j l);
  long = sym t.long;
}

-- all worlds are empty where the others were, and then this one is
all-empty : {u v w : List ℕ} {i : ℕ} → Lone u v i → Settled v w i empty → (j : ℕ) → j < opened_at w → held_by w j ≡ empty
all-empty {w = w} {i} A E j l = go (ℕ_discrete j i)
  where
    go : Dec (j ≡ i) → held_by w j ≡ empty
    go (yes e) = ap (held_by w) e ∙ settled-empty E
    go (no ne) = E.others j (omega (arith, l, E.opened)) ne ∙ A.others j (omega (arith, l, E.opened, A.opened)) ne

-- ---- the same runs are too many before and after a world gets them
full-same : {w v : List ℕ} {i : ℕ} (P : Positions) → Sound w → i < opened_at w → Settled w v i (bounded P) → full_at v i ≡ full_at w i
unfolding full_at full
full-same {w} {v} {i} P S l t =
    let e = worlds-after l t (bounded-ends P) in
    let x = opened-world w i l in
    ap (λ C. full C (worlds_of v) i) (ap capacity_of t.long)
    ∙ ap (λ ws. full (capacity w) ws i) e
    ∙ ap₂ (λ n o. exceeds (capacity w) n o) (others-holding i (bounded P) (worlds_of w)) (holding-here (worlds_of w) i (bounded P) x)
    ∙ ap (exceeds (capacity w) (other_claims (worlds_of w) i)) (sym x)

-- so bytes that a world holds are accepted before
accept-there : {w v bs : List ℕ} {i : ℕ} {full : ℕ → Bool} → Openable w i → Openable v i → Settled w v i (bounded (mem (decode bs))) → Accepted full bs → Accepted (full_at w i) bs
unfolding too_many
accept-there {w} {v} {bs} {i} o p t A = record {
  intact = A.intact;
  fits =
      ap (λ f. f (stretches (mem (decode bs)))) (sym (full-same (mem (decode bs)) o.sound o.named t))
      ∙ ap (full_at v i) (stretches-cong (mem (decode bs)) (held_by v i) (λ x h. bounded-is (mem (decode bs)) x h ∙ sym (t.holds x h)))
      ∙ fits-few p (held_by v i) (held-allowed v i p);
}

-- words as long as others, and these as a pool of capacity C
same-capacity : {C : ℕ} (u x v w : List ℕ)
    → length w ≡ length v → length v ≡ length x → length x ≡ length u → capacity u ≡ C → capacity w ≡ C
same-capacity u x v w e f g h = ap capacity_of (e ∙ f ∙ g) ∙ h

-- bytes loaded into world i of a new pool, which then holds what they are the set of
pub record Reloaded (C : ℕ) (bs : List ℕ) : Type 0 where
  pub limits : List Limits
  pub first : List ℕ
  pub new : New C limits first
  pub world : ℕ
  pub pool : List ℕ
  pub met : Met first world (Call.load bs) (gave done) pool
  pub openable : Openable pool world
  pub written : bytes_of (edition_of bs) (held_by pool world) ≡ bs

pub reloaded : {C : ℕ} {bs : List ℕ} → AllBytes bs → Loads C bs → Reloaded C bs
reloaded {C} {bs} b L =
    let i = L.world in
    let P : Positions = bounded (mem (decode bs)) in
    let o = (given-readable L.met).openable in
    let t = given-settled L.met in
    let named : i < opened_at L.after = omega (arith, o.named, t.opened) in
    let alone = lone L.after i t.sound named in
    let v : List ℕ = alone.0 in
    let A : Lone L.after v i = alone.1 in
    let named' : i < opened_at v = omega (arith, named, A.opened) in
    let clean = cleaned v i A.sound named' in
    let w : List ℕ = clean.0 in
    let E : Settled v w i empty = clean.1 in
    let held : (x : ℕ) → x < size → held_by v i x ≡ P x = λ x l. ap (λ Q. Q x) A.here ∙ t.holds x l in
    let back : Settled w v i P = settled_back A.sound E held in
    let none : (j : ℕ) → j < opened_at w → held_by w j ≡ empty = λ j l. all-empty A E j l in
    let cap : capacity w ≡ C = same-capacity L.pool L.after v w E.long A.long t.long L.sized in
    let openable : Openable w i = record { sound = E.sound; named = omega (arith, named', E.opened) } in
    let accepted : Accepted (full_at w i) bs = accept-there openable (record { sound = A.sound; named = named' }) back (loaded-accepted L) in
    let here : held_by v i ≡ P = same-positions (held_by v i) P (pool-past v i) (bounded-ends (mem (decode bs))) held in
    record {
      limits = limits E.sound none;
      first = w;
      new = new-pool E.sound none v E.long cap;
      world = i;
      pool = v;
      met = load-met openable accepted back;
      openable = record { sound = A.sound; named = named' };
      written = ap (bytes_of (edition_of bs)) here ∙ (accepted-bytes (full_at w i) bs b accepted).1;
    }

-- so that pool writes them, into as many bytes
pub reloaded-long : {C : ℕ} {bs : List ℕ} (R : Reloaded C bs)
    → length (bytes_of (edition_of bs) (held_by R.pool R.world)) ≤ length bs
reloaded-long R = omega (arith, ap length R.written)
