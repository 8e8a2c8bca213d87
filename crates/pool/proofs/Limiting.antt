-- The limits of worlds as words lend them, from world k on: how many there are, what it says of each of them that refusal 11 is not earned,
-- and that 11 is decided world by world, where each floor is taken off what is left of the capacity. Assumes nothing.
use Rattle.pool.proofs.Base.{◌≡◌, ℕ, zero, suc, ◌+◌, ◌-◌, ◌/◌, ◌<◌, ◌≤◌, Bool, true, false, cond, not, ◌||◌, ltb, ◌⊎◌, List, ◌∷◌, length, sym, refl, ap, ◌∙◌, subst, inl, inr, arith}
use Rattle.pool.proofs.Base.{le-ltb, lt-ltb, nat_tests, Limits, most_worlds, floors, limits_at, limits_from, limits_of, split, limits_or_none}
use Rattle.model.specs.Refusals.{crossed, bad_limits}

-- ---- one world
-- a world that the words lend has its limits there
pub limits-some : (ls : List ℕ) (n k : ℕ) → k < n → limits_at ls k ≡ limits_or_none ls n k
limits-some ls n k l = sym (ap (λ t. cond t (limits_at ls k) (record { floor = 0; ceiling = 0 })) (lt-ltb k n l))

-- any other has none
pub limits-none : (ls : List ℕ) (n k : ℕ) → n ≤ k → record { floor = 0; ceiling = 0 } ≡ limits_or_none ls n k
limits-none ls n k l = sym (ap (λ t. cond t (limits_at ls k) (record { floor = 0; ceiling = 0 })) (le-ltb k n l))

-- ---- n worlds from world k on
-- they are n
pub limits-length : (ls : List ℕ) (k n : ℕ) → length (limits_from ls k n) ≡ n
unfolding limits_from
limits-length ls k zero = refl
limits-length ls k (suc n) = ap suc (limits-length ls (suc k) n)

-- all of them are n, where the words lend n
pub limits-all : (ls : List ℕ) (n : ℕ) → n ≡ length ls / 2 → limits_of ls ≡ limits_from ls 0 n
unfolding limits_of
limits-all ls n e = ap (limits_from ls 0) (sym e)

-- ---- limits that 11 does not refuse
-- where none has a floor above its ceiling, each floor is at most its ceiling
pub floors-under : (ls : List ℕ) (k n j : ℕ) → crossed (limits_from ls k n) ≡ false → k ≤ j → j < k + n → (limits_at ls j).floor ≤ (limits_at ls j).ceiling
unfolding limits_from
floors-under ls k zero j e a b = absurd (omega arith)
floors-under ls k (suc n) j e a b = go (split k j) (floors-under ls (suc k) n j)
  where
    go : (k < j) ⊎ (j ≤ k) → (crossed (limits_from ls (suc k) n) ≡ false → suc k ≤ j → j < suc k + n → (limits_at ls j).floor ≤ (limits_at ls j).ceiling)
        → (limits_at ls j).floor ≤ (limits_at ls j).ceiling
    go (inl l) ih = ih (grind (arith, nat_tests)) (omega arith) (omega arith)
    go (inr g) ih =
        let is : k ≡ j = omega arith in
        let here : (limits_at ls k).floor ≤ (limits_at ls k).ceiling = grind (arith, nat_tests) in
        subst (λ (i : ℕ). (limits_at ls i).floor ≤ (limits_at ls i).ceiling) is here

-- what 11 tests, test by test
pub record Allowed (C : ℕ) (ls : List Limits) : Type 0 where
  pub some : 1 ≤ length ls
  pub few : length ls ≤ most_worlds
  pub uncrossed : crossed ls ≡ false
  pub fits : floors ls ≤ C

-- each of them holds where 11 is not earned
pub allowed : (C : ℕ) (ls : List Limits) → bad_limits C ls ≡ false → Allowed C ls
unfolding bad_limits
allowed C ls e =
    let h : (1 ≤ length ls) × (length ls ≤ most_worlds) × (crossed ls ≡ false) × (floors ls ≤ C) = grind (arith, nat_tests) in
    record { some = h.0; few = h.1; uncrossed = h.2; fits = h.3 }

-- ---- 11 decided world by world
-- whether 11 is earned by the worlds that are left, where so much of the capacity is left
abbrev pub still_bad : ℕ → List Limits → Bool
still_bad left xs = crossed xs || ltb left (floors xs)

-- the worlds from k on decide whether the n worlds of ls are refused
pub record Deciding (ls : List ℕ) (c n k left : ℕ) : Type 0 where
  pub rest : ℕ
  pub all : k + rest ≡ n
  pub decides : bad_limits c (limits_of ls) ≡ still_bad left (limits_from ls k rest)

-- ..., of which world k is the first
record First (ls : List ℕ) (c n k left : ℕ) (l : Limits) : Type 0 where
  rest : ℕ
  all : k + 1 + rest ≡ n
  decides : bad_limits c (limits_of ls) ≡ still_bad left (l ∷ limits_from ls (k + 1) rest)

-- it is, where k is one of the n worlds
first : (ls : List ℕ) (c n k left : ℕ) (l : Limits) → Deciding ls c n k left → k < n → l ≡ limits_or_none ls n k → First ls c n k left l
unfolding limits_from
first ls c n k left l d h is = go d.rest d.all d.decides
  where
    go : (m : ℕ) → k + m ≡ n → bad_limits c (limits_of ls) ≡ still_bad left (limits_from ls k m) → First ls c n k left l
    go zero e b = absurd (omega arith)
    go (suc m) e b =
        let j : suc k ≡ k + 1 = omega arith in
        let same : limits_at ls k ≡ l = limits-some ls n k h ∙ sym is in
        record {
          rest = m;
          all = omega arith;
          decides = b ∙ ap (λ v. still_bad left (v ∷ limits_from ls (suc k) m)) same ∙ ap (λ i. still_bad left (l ∷ limits_from ls i m)) j;
        }

module _ (ls : List ℕ) (c n : ℕ) where
  -- no world at all
  pub fit_none : n ≡ length ls / 2 → n ≡ 0 → false ≡ not (bad_limits c (limits_of ls))
  unfolding bad_limits
  fit_none e z =
      let many : length (limits_from ls 0 n) ≡ 0 = limits-length ls 0 n ∙ z in
      rw (limits-all ls n e) (grind (arith, nat_tests))

  -- too many
  pub fit-many : n ≡ length ls / 2 → most_worlds < n → false ≡ not (bad_limits c (limits_of ls))
  unfolding bad_limits
  fit-many e h =
      let many : length (limits_from ls 0 n) ≡ n = limits-length ls 0 n in
      rw (limits-all ls n e) (grind (arith, nat_tests))

  -- else all of them decide
  pub fit-start : n ≡ length ls / 2 → (n ≡ 0 → ⊥) → n ≤ most_worlds → Deciding ls c n 0 c
  unfolding bad_limits
  fit-start e ne h =
      let many : length (limits_from ls 0 n) ≡ n = limits-length ls 0 n in
      let decides : bad_limits c (limits_from ls 0 n) ≡ still_bad c (limits_from ls 0 n) = grind (arith, nat_tests) in
      record { rest = n; all = omega arith; decides = ap (bad_limits c) (limits-all ls n e) ∙ decides }

  module _ (k left : ℕ) (d : Deciding ls c n k left) where
    -- in the end none is left
    pub fit-end : n ≤ k → true ≡ not (bad_limits c (limits_of ls))
    unfolding limits_from
    fit-end h =
        let none : d.rest ≡ 0 = omega (arith, d.all) in
        sym (ap not (d.decides ∙ ap (λ m. still_bad left (limits_from ls k m)) none ∙ le-ltb left 0 (omega arith)))

    module _ (l : Limits) (h : k < n) (is : l ≡ limits_or_none ls n k) where
      -- the one at hand is refused, for its ceiling
      pub fit-crossed : l.ceiling < l.floor → false ≡ not (bad_limits c (limits_of ls))
      fit-crossed p = let f = (first ls c n k left l d h is).decides in grind (arith, nat_tests)

      -- or for what is left
      pub fit-over : left < l.floor → false ≡ not (bad_limits c (limits_of ls))
      fit-over p = let f = (first ls c n k left l d h is).decides in grind (arith, nat_tests)

      -- or is not: then those after it decide
      pub fit-step : l.floor ≤ l.ceiling → l.floor ≤ left → Deciding ls c n (k + 1) (left - l.floor)
      fit-step p q =
          let f = first ls c n k left l d h is in
          let g = f.decides in
          record { rest = f.rest; all = f.all; decides = grind (arith, nat_tests) }

pub ruleset fitting = (fit_none, fit-many, fit-start, fit-crossed, fit-over, fit-step, fit-end)
