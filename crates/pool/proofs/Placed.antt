-- The tests of a pool's worlds as facts, and back: a world passes exactly if its tree and its record fit and it keeps its limits. What
-- `place_at` and `runs_counted` return follows, test by test: each that fails is a part of the definition that fails. Assumes nothing.
use Rattle.pool.proofs.Base.{◌≡◌, ℕ, zero, suc, ◌+◌, ◌-◌, ◌*◌, ◌^◌, ◌<◌, ◌≤◌, Bool, true, Some, None, List, length, sym, refl, ap, ◌∙◌, subst, arith, le-leb, ℕ_discrete, most_worlds, stretches}
use Rattle.pool.proofs.Base.{claims, nat_tests, and-holds, runs, Indexed, runs_from, World, Set, world_at, floor_at, ceiling_at, nodes, capacity, held, held_by, worlds_from, sum_to, runs_at, Planted, KeepsLimits, world_b, place_b}
use Rattle.pool.proofs.Base.{worlds_b, told_runs, place_of, runs_of}
use Rattle.pool.specs.declared.soundness.Place.{Place}
use Rattle.pool.proofs.Parts.{lent, lent-nodes}
use Rattle.pool.proofs.Sums.{sum_more, sum-nothing, sum-cong, sum-front}
use Rattle.pool.proofs.WorldLists.{claims-first}
use Rattle.pool.proofs.Truths.{both-in}
use Rattle.pool.proofs.Hanging.{low-runs}
use Rattle.pool.proofs.Worlds.{claim_at, planted-indexed, planted-counted, runs-told}
use Rattle.pool.proofs.Decided.{world_b-yes, world_b-no}
use Rattle.pool.proofs.Sharing.{tree-planted}

-- ---- one world
-- its tree and its record fit, and it keeps its limits
pub record Placed (w : List ℕ) (k : ℕ) : Type 0 where
  pub fitting : Planted (nodes w) (world_at w k)
  pub limited : KeepsLimits w k

-- what its tests say
place_out : (w : List ℕ) (k : ℕ) → place_b w k ≡ true → Placed w k
unfolding place_b
place_out w k e =
    let a : (world_b (nodes w) (world_at w k) ≡ true) × (floor_at w k ≤ ceiling_at w k) × (stretches (held_by w k) ≤ ceiling_at w k) = grind (arith, nat_tests) in
    record { fitting = world_b-yes (nodes w) (world_at w k) a.0; limited = record { limits = a.1; ceiling = a.2 } }

-- and back
place_in : (w : List ℕ) (k : ℕ) → Placed w k → place_b w k ≡ true
unfolding place_b
place_in w k P = rw (world_b-no (nodes w) (world_at w k) P.fitting, le-leb _ _ P.limited.limits, le-leb _ _ P.limited.ceiling) refl

-- a world that was read, and the test of its tree and its record
module _ (w : List ℕ) (k : ℕ) {h : World} (eh : h ≡ world_at w k) {b : Bool} (eb : b ≡ world_b (lent w) h) where
  -- the test is the definition's
  pub world-told : b ≡ world_b (nodes w) (world_at w k)
  world-told = eb ∙ ap (λ l. world_b l h) (lent-nodes w) ∙ ap (world_b (nodes w)) eh

  module _ (t : b ≡ true) where
    world-fitting : Planted (nodes w) (world_at w k)
    world-fitting = world_b-yes (nodes w) (world_at w k) (sym world-told ∙ t)

    -- where it passes the record counts the runs of the tree
    pub world-counted : h.runs ≡ length (runs_from (lent w) h.root)
    world-counted = planted-counted w k world-fitting h eh

    -- which can be searched
    pub world-seen : Indexed (lent w) h.root
    world-seen = planted-indexed w k world-fitting h eh

    -- and tells how many logical runs there are
    pub many-are : {z : Set} {n : ℕ} → z ≡ record { runs = runs_from (lent w) h.root; offset = h.offset } → n ≡ stretches (held z) → n ≡ stretches (held_by w k)
    many-are {z} {n} of tn = runs-told w k world-fitting h n eh (tn ∙ ap (λ (s : Set). stretches (held s)) of)

-- what is told of a world, which fits then
told : (w : List ℕ) (k : ℕ) (p : Place) → Some p ≡ place_of w k → (place_b w k ≡ true) × (p.claim ≡ claim_at w k) × (p.runs ≡ (world_at w k).runs)
unfolding place_of
told w k p e = grind (arith, nat_tests)

-- ---- the first n worlds
-- what their tests say
pub worlds-out : (w : List ℕ) (n : ℕ) → worlds_b w n ≡ true → (k : ℕ) → k < n → Placed w k
unfolding worlds_b
worlds-out w zero e k l = absurd (omega arith)
worlds-out w (suc n) e k l =
    let p = and-holds (worlds_b w n) (place_b w n) e in
    go (ℕ_discrete n k) (place_out w n p.1) (worlds-out w n p.0 k)
  where
    go : Dec (n ≡ k) → Placed w n → (k < n → Placed w k) → Placed w k
    go (yes i) P ih = subst (Placed w) i P
    go (no ne) P ih = ih (omega arith)

-- and back
pub worlds-in : (w : List ℕ) (n : ℕ) → ((k : ℕ) → k < n → Placed w k) → worlds_b w n ≡ true
unfolding worlds_b
worlds-in w zero h = refl
worlds-in w (suc n) h = both-in (worlds_b w n) (place_b w n) (worlds-in w n (λ k l. h k (omega arith))) (place_in w n (h n (omega arith)))

-- the runs that their records tell are those of their trees
pub told-runs : (w : List ℕ) (n : ℕ) → ((k : ℕ) → k < n → Planted (nodes w) (world_at w k)) → told_runs w n ≡ sum_to n (runs_at w)
told-runs w n h = sum-cong n (λ k. (world_at w k).runs) (runs_at w) (λ k l. (h k l).runs-are ∙ sym (ap runs (tree-planted w k (h k l))))

-- they are few
told-few : (w : List ℕ) (n : ℕ) → ((k : ℕ) → k < n → Placed w k) → told_runs w n ≤ n * 2 ^ 22
told-few w zero h = omega (arith, sum-nothing (λ k. (world_at w k).runs))
told-few w (suc n) h =
    let F = (h n (omega arith)).fitting in
    omega (arith, sum_more n (λ k. (world_at w k).runs), told-few w n (λ k l. h k (omega arith)), F.runs-are, low-runs F.tree 22 F.low)

-- the first k worlds fit and have so many runs, and so much is left of the capacity
pub record Checking (w : List ℕ) (left runs k : ℕ) : Type 0 where
  pub fit : worlds_b w k ≡ true
  pub told : runs ≡ told_runs w k
  pub unclaimed : left + sum_to k (claim_at w) ≡ capacity w

-- no world is tested
pub checking-none : (w : List ℕ) (left : ℕ) → left ≡ capacity w → Checking w left 0 0
checking-none w left e = record {
  fit = worlds-in w 0 (λ k l. absurd (omega arith));
  told = sym (sum-nothing (λ k. (world_at w k).runs));
  unclaimed = omega (arith, sum-nothing (claim_at w));
}

module _ (w : List ℕ) (left runs k : ℕ) (C : Checking w left runs k) where
  -- all are tested
  pub checked : Some runs ≡ runs_of w k
  unfolding runs_of
  checked = rw (C.fit, C.told, le-leb (claims (worlds_from w 0 k)) (capacity w) (omega (arith, claims-first w k, C.unclaimed)))

  module _ (n : ℕ) (lt : k < n) where
    -- world k does not fit
    pub place-fails : None ≡ place_of w k → None ≡ runs_of w n
    unfolding runs_of place_of
    place-fails e = let f : worlds_b w n ≡ true → place_b w k ≡ true = λ t. place_in w k (worlds-out w n t k lt) in grind (arith, nat_tests)

    module _ (p : Place) (ep : Some p ≡ place_of w k) where
      -- it claims more than is left
      pub claim-fails : left < p.claim → None ≡ runs_of w n
      unfolding runs_of
      claim-fails over =
          let more : capacity w < claims (worlds_from w 0 n) =
          omega (arith, claims-first w n, (told w k p ep).1, sum-front n (suc k) (claim_at w) (omega arith), sum_more k (claim_at w), C.unclaimed) in
          grind (arith, nat_tests)

      -- one world more fits
      fit_more : worlds_b w (suc k) ≡ true
      unfolding worlds_b
      fit_more = rw (C.fit, (told w k p ep).0)

      -- one term more
      told_more : runs + p.runs ≡ told_runs w (suc k)
      told_more = omega (arith, C.told, sum_more k (λ j. (world_at w j).runs), (told w k p ep).2)

      -- the runs are still few
      pub runs-few : n ≤ most_worlds → runs + p.runs < 2 ^ 64
      runs-few le = omega (arith, told_more, told-few w (suc k) (worlds-out w (suc k) fit_more))

      -- the next world
      pub checking-more : (rest : ℕ) → (p.claim ≤ left) × (rest ≡ left - p.claim) → Checking w rest (runs + p.runs) (k + 1)
      checking-more rest h =
          let s : suc k ≡ k + 1 = omega arith in
          subst (Checking w rest (runs + p.runs)) s (record {
            fit = fit_more;
            told = told_more;
            unclaimed = omega (arith, h.0, h.1, (told w k p ep).1, sum_more k (claim_at w), C.unclaimed);
          })

pub ruleset placing = (world-told, world-counted, world-seen, many-are)
