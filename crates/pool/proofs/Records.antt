-- The tests of a pool's header and records as facts, and back: the header's words are those of 1 to 16 worlds, and the records of worlds that
-- were not opened are zeros. What the code's own tests come to follows. Assumes nothing.
use Rattle.pool.proofs.Base.{◌≡◌, ℕ, zero, suc, ◌+◌, ◌-◌, ◌<◌, ◌≤◌, true, ◌&&◌, List, [], ◌∷◌, get_or, refl, ap, subst, arith, ℕ_discrete, nat_tests, most_worlds, and-holds, Record, opened_at}
use Rattle.pool.proofs.Base.{record_at, padding, header_b, nothing_b, unopened_b}
use Rattle.std.proofs.Common.{slice_index}
use Rattle.pool.specs.Layout.{no_record, padded_b, IsPadded}
use Rattle.pool.proofs.Truths.{both-in}

-- ---- the header
-- it is one of 1 to 16 worlds
pub record Heads (w : List ℕ) : Type 0 where
  pub some : 1 ≤ opened_at w
  pub few : opened_at w ≤ most_worlds
  pub is : IsPadded w

-- what its test says
pub header-out : (w : List ℕ) → header_b w ≡ true → Heads w
unfolding header_b padded_b padding
header-out w e =
    let h : (1 ≤ opened_at w) × (opened_at w ≤ most_worlds) × (slice_index w 2 ≡ 0) × (slice_index w 3 ≡ 0) × (slice_index w 4 ≡ 0) × (slice_index w 5 ≡ 0)
    × (slice_index w 6 ≡ 0) × (slice_index w 7 ≡ 0) =
    grind (arith, nat_tests) in
    record { some = h.0; few = h.1; is = λ i. h.2 i ∷ h.3 i ∷ h.4 i ∷ h.5 i ∷ h.6 i ∷ h.7 i ∷ [] }

-- and back
pub header-in : (w : List ℕ) → Heads w → header_b w ≡ true
unfolding header_b padded_b padding
header-in w h =
    let word = λ (j : ℕ). ap (λ l. get_or l j 0) h.is in
    rw (word 0, word 1, word 2, word 3, word 4, word 5) (grind (arith, nat_tests))

-- ---- a record of zeros
-- what its test says
pub nothing-out : (v : Record) → nothing_b v ≡ true → v ≡ no_record
unfolding nothing_b
nothing-out v e =
    let h : (v.root ≡ 0) × (v.offset ≡ 0) × (v.ones ≡ 0) × (v.runs ≡ 0) × (v.first ≡ 0) × (v.last ≡ 0) × (v.floor ≡ 0) × (v.ceiling ≡ 0) =
    grind (arith, nat_tests) in
    λ i. record {
      root = h.0 i;
      offset = h.1 i;
      ones = h.2 i;
      runs = h.3 i;
      first = h.4 i;
      last = h.5 i;
      floor = h.6 i;
      ceiling = h.7 i;
    }

-- and back
pub nothing-in : (v : Record) → v ≡ no_record → nothing_b v ≡ true
unfolding nothing_b
nothing-in v e = rw e

-- ---- the records from world k on, n of them
-- what their tests say
pub unopened-out : (w : List ℕ) (k n : ℕ) → unopened_b w k n ≡ true → (j : ℕ) → k ≤ j → j < k + n → record_at w j ≡ no_record
unfolding unopened_b
unopened-out w k zero e j p q = absurd (omega arith)
unopened-out w k (suc n) e j p q =
    let r = and-holds _ _ e in
    go (ℕ_discrete k j) (nothing-out (record_at w k) r.0) (unopened-out w (suc k) n r.1 j)
  where
    go : Dec (k ≡ j) → record_at w k ≡ no_record → (suc k ≤ j → j < suc k + n → record_at w j ≡ no_record) → record_at w j ≡ no_record
    go (yes i) z ih = subst (λ (m : ℕ). record_at w m ≡ no_record) i z
    go (no ne) z ih = ih (omega arith) (omega arith)

-- and back
pub unopened-in : (w : List ℕ) (k n : ℕ) → ((j : ℕ) → k ≤ j → j < k + n → record_at w j ≡ no_record) → unopened_b w k n ≡ true
unfolding unopened_b
unopened-in w k zero h = refl
unopened-in w k (suc n) h =
    both-in _ _ (nothing-in (record_at w k) (h k (omega arith) (omega arith)))
    (unopened-in w (suc k) n (λ j p q. h j (omega arith) (omega arith)))

-- none is left
pub unopened-none : (w : List ℕ) (k n : ℕ) → n ≡ 0 → true ≡ unopened_b w k n
unfolding unopened_b
unopened-none w k n e = rw e

-- the record of world k decides first
pub unopened-first : (w : List ℕ) (k : ℕ) → k < most_worlds → unopened_b w k (most_worlds - k) ≡ (nothing_b (record_at w k) && unopened_b w (k + 1) (most_worlds - (k + 1)))
unfolding unopened_b
unopened-first w k lt =
    let e : most_worlds - k ≡ suc (most_worlds - (k + 1)) = omega arith in
    let s : suc k ≡ k + 1 = omega arith in
    rw (e, s) refl

pub ruleset unopened_rules = (unopened-none, unopened-first)
