-- World 0 grows by one set at a time as the model does: what it may have stays the same, since the other worlds do. And so many searches find
-- a gap all or none. Assumes nothing.
use Rattle.std.proofs.Common.{◌≡◌, ℕ, suc, ◌+◌, ◌-◌, ◌<◌, ◌≤◌, Bool, true, false, cond, List, [], ◌∷◌}
use Rattle.std.proofs.Common.{sym, refl, ap, ap₂, ◌∙◌, subst, arith, leb, le-leb}
use borrow.Author.Tests.{lt-leb}
use Rattle.model.specs.Numbers.{size, most_worlds}
use Rattle.model.specs.Positions.{Positions, one_if, set_range, stretches, among}
use Rattle.model.specs.declared.between.Interval.{Interval}
use Rattle.model.specs.Range.{many}
use Rattle.model.specs.Pools
use Rattle.model.specs.Pools.{PlainWorld, with_positions, holding_at, allowance_of, world_of, other_claims}
use Rattle.model.proofs.Runs.{stretches-cong}
use Rattle.pool.specs.Layout.{capacity_of, capacity, allowance, opened_at, floor_at, ceiling_at, held_by, plain_at, worlds_from, worlds_of}
use Rattle.pool.specs.Soundness.{Sound}
use Rattle.pool.specs.Settle.{Settled}
use Rattle.pool.proofs.WorldLists.{worlds-but}
use Rattle.bench_store.specs.Growing.{is_pool, next_number, more_after, Growth, next_first, next_many, with_next}
use Rattle.bench_store.specs.Growing.{grown_by, grown, growth_of, Tried, has_gap, found_in}

-- ---- what world 0 may have
module _ {w w' : List ℕ} {P : Positions} (S : Settled w w' 0 P) where
  -- a world with what it holds now, and the limits that it had
  with-limits : (j : ℕ) (Q : Positions) → j < opened_at w → held_by w' j ≡ Q → plain_at w' j ≡ with_positions (plain_at w j) Q
  with-limits j Q b e =
      let small : j < most_worlds = omega (arith, S.opened, S.sound.few) in
      ap₂ (λ R f. record { positions = R; floor = f; ceiling = ceiling_at w' j }) e (S.floors j small)
      ∙ ap (λ c. record { positions = Q; floor = floor_at w j; ceiling = c }) (S.ceilings j small)

  -- the others are as they were
  worlds-now : worlds_of w' ≡ holding_at 0 (held_by w' 0) (worlds_of w)
  unfolding worlds_of
  worlds-now =
      let first : 0 < opened_at w = omega (arith, S.opened, S.sound.some) in
      ap (worlds_from w' 0) S.opened
      ∙ worlds-but w' w 0 (opened_at w) 0 (held_by w' 0) first (with-limits 0 (held_by w' 0) first refl)
      (λ j a b ne. with-limits j (held_by w j) (omega arith) (S.others j (omega arith) ne))

  room-for : (C : ℕ) (Q : Positions) (ws : List PlainWorld) → Pools.allowance C (holding_at 0 Q ws) 0 ≡ Pools.allowance C ws 0
  unfolding Pools.allowance holding_at other_claims
  room-for C Q [] = refl
  room-for C Q (x ∷ ws) = refl

  -- so it may have as many runs as before
  pub room-kept : allowance w' 0 ≡ allowance w 0
  unfolding allowance
  room-kept = ap₂ (λ n ws. Pools.allowance (capacity_of n) ws 0) S.long worlds-now ∙ room-for (capacity w) (held_by w' 0) (worlds_of w)

-- what has not changed is settled
pub settled-same : {w : List ℕ} → Sound w → Settled w w 0 (held_by w 0)
settled-same so = record {
  sound = so;
  holds = λ x l. refl;
  opened = refl;
  others = λ j l ne. refl;
  floors = λ j l. refl;
  ceilings = λ j l. refl;
  long = refl;
}

-- one change after another
settled-then : {v w w' : List ℕ} {P Q R : Positions} → Settled v w 0 P → Settled w w' 0 Q → ((x : ℕ) → x < size → Q x ≡ R x)
    → Settled v w' 0 R
settled-then S T f = record {
  sound = T.sound;
  holds = λ x l. T.holds x l ∙ f x l;
  opened = T.opened ∙ S.opened;
  others = λ j l ne. T.others j (omega (arith, S.opened, l)) ne ∙ S.others j l ne;
  floors = λ j l. T.floors j l ∙ S.floors j l;
  ceilings = λ j l. T.ceilings j l ∙ S.ceilings j l;
  long = T.long ∙ S.long;
}

-- a set of sets that agree
set_range-cong : (a n : ℕ) (v : Bool) (P Q : Positions) → ((x : ℕ) → x < size → P x ≡ Q x) → (x : ℕ) → x < size
    → set_range a n v P x ≡ set_range a n v Q x
unfolding set_range
set_range-cong a n v P Q h x l = ap (cond (among a n x) v) (h x l)

-- ---- the loop of sets
-- after n sets from the row after z₀ on, the pool v is w: z is the last number, and r sets were admitted
pub record Growing (v w : List ℕ) (z₀ n z r : ℕ) : Type 0 where
  pub number : z ≡ (growth_of v z₀ n).number
  pub admitted : r ≡ (growth_of v z₀ n).admitted
  pub settled : Settled v w 0 (growth_of v z₀ n).positions
  pub most : r ≤ n

-- before the first
pub growing-none : {v : List ℕ} {z₀ : ℕ} → Sound v → Growing v v z₀ 0 z₀ 0
unfolding grown
growing-none so = record { number = refl; admitted = refl; settled = settled-same so; most = omega arith }

module _ {v w : List ℕ} {z₀ n z r : ℕ} (G : Growing v w z₀ n z r) where
  abbrev g : Growth
  g = growth_of v z₀ n

  -- the next state, by whether the set fits
  next-is : (b : Bool) → leb (stretches (with_next g)) (allowance v 0) ≡ b → grown_by (allowance v 0) g b ≡ growth_of v z₀ (suc n)
  unfolding grown
  next-is b e = ap (grown_by (allowance v 0) g) (sym e)

  grown-by : {w' : List ℕ} {z' r' : ℕ} (b : Bool) → leb (stretches (with_next g)) (allowance v 0) ≡ b
      → z' ≡ next_number (next_first g) → r' ≡ r + one_if b → one_if b ≤ 1
      → Settled v w' 0 (grown_by (allowance v 0) g b).positions → Growing v w' z₀ (n + 1) z' r'
  grown-by {w'} {z'} {r'} b e ez er few S =
      subst (λ m. Growing v w' z₀ m z' r') {x = suc n} {y = n + 1} (omega arith) (record {
        number = ez ∙ ap (λ (s : Growth). s.number) (next-is b e);
        admitted = omega (arith, er, G.admitted) ∙ ap (λ (s : Growth). s.admitted) (next-is b e);
        settled = subst (λ (s : Growth). Settled v w' 0 s.positions) (next-is b e) S;
        most = omega (arith, er, G.most, few);
      })

  module _ {f z' : ℕ} (i : Interval) (ef : f ≡ next_number z) (ez : z' ≡ next_number f)
      (ea : i.first.0 ≡ f) (eb : i.last.0 ≡ f + more_after f z') where
    -- the numbers are the model's, and so is the set
    first-now : f ≡ next_first g
    first-now = ef ∙ ap next_number G.number

    number-now : z' ≡ next_number (next_first g)
    number-now = ez ∙ ap next_number first-now

    set-same : (P : Positions) → set_range i.first.0 (many i) true P ≡ set_range (next_first g) (next_many g) true P
    set-same P =
        let long : many i ≡ suc (more_after f z') = omega (arith, ea, eb) in
        ap₂ (λ x m. set_range x m true P) (ea ∙ first-now) (long ∙ ap₂ (λ x y. suc (more_after x y)) first-now number-now)

    now-next : (x : ℕ) → x < size → set_range i.first.0 (many i) true (held_by w 0) x ≡ with_next g x
    now-next x l =
        set_range-cong i.first.0 (many i) true (held_by w 0) g.positions G.settled.holds x l
        ∙ ap (λ (Q : Positions). Q x) (set-same g.positions)

    runs-same : stretches (set_range i.first.0 (many i) true (held_by w 0)) ≡ stretches (with_next g)
    runs-same = stretches-cong (set_range i.first.0 (many i) true (held_by w 0)) (with_next g) now-next

    pub growing-more : {w' : List ℕ} {r' : ℕ} (b : Bool) → Tried w w' (set_range i.first.0 (many i) true (held_by w 0)) b
        → r' ≡ r + one_if b → Growing v w' z₀ (n + 1) z' r'
    growing-more true t er =
        grown-by true (le-leb (stretches (with_next g)) (allowance v 0) (omega (arith, t.0, runs-same, room-kept G.settled)))
        number-now er (omega arith)
        (settled-then G.settled t.1 now-next)
    growing-more false t er =
        grown-by false (lt-leb (stretches (with_next g)) (allowance v 0) (omega (arith, t.0, runs-same, room-kept G.settled)))
        number-now er (omega arith)
        (subst (λ u. Settled v u 0 g.positions) (sym t.1) G.settled)

-- ---- the loop of searches
-- before the first
pub none-found : (b : Bool) → ◌≡◌ {A = ℕ} 0 (cond b 0 0)
none-found true = refl
none-found false = refl

-- one search more
pub more-found : (b : Bool) (f k : ℕ) → f ≡ cond b k 0 → f + one_if b ≡ cond b (k + 1) 0
more-found true f k e = ap (λ n. n + 1) e
more-found false f k e = omega (arith, e)

-- no more found one than were made
pub found-few : (b : Bool) (f k : ℕ) → f ≡ cond b k 0 → f ≤ k
found-few true f k e = omega (arith, e)
found-few false f k e = omega (arith, e)

-- of a sound pool, a range with positions and a gap that has some
pub found-all : (w : List ℕ) (first last n searches : ℕ) {f : ℕ} → is_pool w ≡ true → first ≤ last → 1 ≤ n
    → f ≡ cond (has_gap w first (suc last - first) n) searches 0 → f ≡ found_in w first last n searches
found-all w first last n searches p o s e = rw (p, le-leb first last o, le-leb 1 n s) e
