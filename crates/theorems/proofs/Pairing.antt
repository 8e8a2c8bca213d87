-- Two worlds that are each shifted once, in place or into copies: both hold then what they held, shifted, also where they are worlds of one pool, or one
-- world. So a shift passes through AND, OR and XOR, and what was not refused is not refused of the shifted sets. Assumes nothing.
use Prim.Native.Nat.{ℕ, ◌≤◌}
use mathlib.Core.Path.{◌≡◌, sym, ap, ap₂, ◌∙◌, subst, subst₂}
use mathlib.Core.Logic.{◌⊎◌, inl, inr}
use mathlib.Core.Bool.{Bool}
use mathlib.Core.List.{List}
use native.Mathlib.Nat.{le_trans}
use Rattle.model.specs.declared.Operation.{Operation}
use Rattle.model.specs.Positions.{stretches, combined}
use Rattle.model.specs.Call.{holding, Call, done, Answer, gave}
use Rattle.pool.specs.Layout.{allowance, held_by}
use Rattle.interval_bit_set.specs.Met.{Site, site, fed_at, Readable, Met}
use Rattle.interval_bit_set.proofs.Giving.{fed-readable, given-readable, given-settled}
use Rattle.theorems.specs.Pairs.{Did, holds, SameLeft, BothShift, two_pools, one_pool, one_pool_turned, one_world, BothShifted, into_pools, into_pool, into_pool_turned, into_world}
use Rattle.theorems.specs.Pairs.{Shifts}
use Rattle.theorems.proofs.Moving.{moved, moved-few}
use Rattle.theorems.proofs.Joining.{moved-through}
use Rattle.theorems.proofs.Lightening.{Lightened, shifts-lighten, allowance-rises}
use Rattle.theorems.proofs.Doing.{gets-again, gets-same, readable-now, readable-before, held-other, allowance-now, given-gets}
use Rattle.theorems.proofs.Calls.{shift-done, shifted-gets, combine-done, combine-first, combine-second, combine-gets, combine-fits}

-- the worlds s and t hold what s₀ and t₀ held, shifted
pub record Moved (d : ℕ) (left : Bool) (s₀ t₀ s t : Site) : Type 0 where
  pub first_holds : holds s ≡ moved d left (holds s₀)
  pub second_holds : holds t ≡ moved d left (holds t₀)

-- and they can be read
pub record Readables (s t : Site) : Type 0 where
  pub first_read : Readable s.words s.world
  pub second-read : Readable t.words t.world

-- ---- in place
module _ (d : ℕ) (left : Bool) where
  -- another world of the pool, shifted after the first
  second-held : {u u' u'' : List ℕ} {j k : ℕ} → (j ≡ k → ⊥) → Did u j (Call.shift d left) u' → Did u' k (Call.shift d left) u'' → held_by u'' k ≡ moved d left (held_by u k)
  second-held {u} {u'} {u''} {j} {k} ne m n =
      let R = given-readable m in
      let S = given-settled m in
      let Q = readable-before R S k (given-readable n) in
      (given-gets n).held ∙ ap (moved d left) (held-other R S k Q (λ e. ne (sym e)))

  -- which leaves the first as it is
  first-held : {u u' u'' : List ℕ} {j k : ℕ} → (j ≡ k → ⊥) → Did u j (Call.shift d left) u' → Did u' k (Call.shift d left) u'' → held_by u'' j ≡ moved d left (held_by u j)
  first-held {u} {u'} {u''} {j} {k} ne m n =
      let R = given-readable m in
      let Q = readable-now R (given-settled m) j R in
      held-other (given-readable n) (given-settled n) j Q ne ∙ (given-gets m).held

  pub both-moved : {s t s' t' : Site} → BothShift d left (gave done) (gave done) s t s' t' → Moved d left s t s' t'
  both-moved (two_pools m n) = record { first_holds = (given-gets m).held; second_holds = (given-gets n).held }
  both-moved (one_pool ne m n) = record { first_holds = first-held ne m n; second_holds = second-held ne m n }
  both-moved (one_pool_turned ne m n) =
      record { first_holds = second-held (λ e. ne (sym e)) m n; second_holds = first-held (λ e. ne (sym e)) m n }
  both-moved (one_world m) = record { first_holds = (given-gets m).held; second_holds = (given-gets m).held }

  -- nothing of it is refused, where the worlds can be read
  pub both-done : {a b : Answer} {s t s' t' : Site} → BothShift d left a b s t s' t' → Readables s t → (a ≡ gave done) × (b ≡ gave done)
  both-done (two_pools m n) R = (shift-done d left R.first_read m, shift-done d left R.second-read n)
  both-done (one_pool {u = u} {u' = u'} {j = j} {k = k} ne m n) R =
      let e = shift-done d left R.first_read m in
      let m' : Did u j (Call.shift d left) u' = subst (λ c. Met u j (Call.shift d left) c u') e m in
      (e, shift-done d left (readable-now R.first_read (given-settled m') k R.second-read) n)
  both-done (one_pool_turned {u = u} {u' = u'} {j = j} {k = k} ne m n) R =
      let e = shift-done d left R.second-read m in
      let m' : Did u k (Call.shift d left) u' = subst (λ c. Met u k (Call.shift d left) c u') e m in
      (shift-done d left (readable-now R.second-read (given-settled m') j R.first_read) n, e)
  both-done (one_world m) R = let e = shift-done d left R.first_read m in (e, e)

  -- and they can be read afterwards
  still_read : {u u' : List ℕ} {j : ℕ} (k : ℕ) → Did u j (Call.shift d left) u' → Readable u k → Readable u' k
  still_read k m R = readable-now (given-readable m) (given-settled m) k R

  pub both-readable : {s t s' t' : Site} → BothShift d left (gave done) (gave done) s t s' t' → Readables s' t'
  both-readable (two_pools {j = j} {k = k} m n) =
      record { first_read = still_read j m (given-readable m); second-read = still_read k n (given-readable n) }
  both-readable (one_pool {j = j} {k = k} ne m n) = record {
    first_read = still_read j n (still_read j m (given-readable m));
    second-read = still_read k n (given-readable n);
  }
  both-readable (one_pool_turned {j = j} {k = k} ne m n) = record {
    first_read = still_read j n (given-readable n);
    second-read = still_read k n (still_read k m (given-readable m));
  }
  both-readable (one_world {j = j} m) = let R = still_read j m (given-readable m) in record { first_read = R; second-read = R }

  -- ---- copies
  -- a world that got a copy keeps it while another world of its pool gets one
  copy-kept : {s t : Site} {u u' u'' : List ℕ} {j k : ℕ} → (j ≡ k → ⊥) → Did u j (Call.shifted d left s) u' → Did u' k (Call.shifted d left t) u'' → held_by u'' j ≡ moved d left (holds s)
  copy-kept {s} {t} {j = j} ne m n =
      let R = given-readable m in
      let Q = readable-now R (given-settled m) j R in
      held-other (given-readable n) (given-settled n) j Q ne ∙ (shifted-gets d left s m).held

  pub both-copied : {s t s' t' : Site} → BothShifted d left s t s' t' → Moved d left s t s' t'
  both-copied (into_pools {s = s} {t = t} m n) = record { first_holds = (shifted-gets d left s m).held; second_holds = (shifted-gets d left t n).held }
  both-copied (into_pool {s = s} {t = t} ne m n) = record { first_holds = copy-kept ne m n; second_holds = (shifted-gets d left t n).held }
  both-copied (into_pool_turned {s = s} {t = t} ne m n) =
      record { first_holds = (shifted-gets d left s n).held; second_holds = copy-kept (λ e. ne (sym e)) m n }
  both-copied (into_world {s = s} m) = let e = (shifted-gets d left s m).held in record { first_holds = e; second_holds = e }

-- ---- a set elsewhere
-- where it is fed as one that can be read is, it can be read, and holds the same
record Alike (s s₁ : Site) : Type 0 where
  can_read : Readable s₁.words s₁.world
  holds_it : holds s₁ ≡ holds s

fed-alike : {s s₁ : Site} → Readable s.words s.world → fed_at s₁ ≡ fed_at s → Alike s s₁
fed-alike {s} {s₁} R f =
    let e : fed_at s₁ ≡ holding (holds s) = f ∙ R.fed in
    let S : Readable s₁.words s₁.world = fed-readable s₁.words s₁.world e in
    record { can_read = S; holds_it = cc (S.fed, e) }

-- ---- AND, OR and XOR of them
module _ (op : Operation) (d : ℕ) (left : Bool) {s t s' t' : Site} where
  -- is that of the two, shifted
  join-moved : Moved d left s t s' t' → combined op (holds s') (holds t') ≡ moved d left (combined op (holds s) (holds t))
  join-moved M = ap₂ (combined op) M.first_holds M.second_holds ∙ sym (moved-through op d left (holds s) (holds t))

  -- also where it is shifted in place
  pub place-through : {w w₁ w₂ v v₁ : List ℕ} {i j : ℕ} → Did w i (Call.combine op s t) w₁ → Did w₁ i (Call.shift d left) w₂ → Moved d left s t s' t'
      → Did v j (Call.combine op s' t') v₁ → SameLeft w i w₂ v j v₁
  place-through m n M k =
      let G = combine-gets op s t m in
      gets-same (gets-again G (given-gets n)) (combine-gets op s' t' k) (ap (moved d left) G.held ∙ sym (join-moved M))

  -- and where a shifted copy of it is made
  pub copy-through : {w w₁ x x₁ v v₁ : List ℕ} {i h j : ℕ} → Did w i (Call.combine op s t) w₁ → Did x h (Call.shifted d left (site w₁ i)) x₁ → Moved d left s t s' t'
      → Did v j (Call.combine op s' t') v₁ → SameLeft x h x₁ v j v₁
  copy-through {w₁ = w₁} {i = i} m n M k =
      gets-same (shifted-gets d left (site w₁ i) n) (combine-gets op s' t' k) (ap (moved d left) (combine-gets op s t m).held ∙ sym (join-moved M))

  -- it has no more runs, so it is not refused where that of the two was not, into the world as it was or as it became, whatever worlds of its pool were
  -- shifted in place since
  pub still-unrefused : {s₁ t₁ : Site} {w w₁ v v₁ : List ℕ} {i : ℕ} {a b c : Answer} → Did w i (Call.combine op s t) w₁
      → fed_at s₁ ≡ fed_at s → fed_at t₁ ≡ fed_at t → BothShift d left a b s₁ t₁ s' t'
      → Shifts w v ⊎ Shifts w₁ v → Met v i (Call.combine op s' t') c v₁ → (a ≡ gave done) × (b ≡ gave done) × (c ≡ gave done)
  still-unrefused {s₁} {t₁} {w} {w₁} {v} {v₁} {i} {c = c} m f g B where_to k =
      let S = fed-alike {s = s} {s₁ = s₁} (combine-first op s t m) f in
      let T = fed-alike {s = t} {s₁ = t₁} (combine-second op s t m) g in
      let e = both-done d left B (record { first_read = S.can_read; second-read = T.can_read }) in
      let B' : BothShift d left (gave done) (gave done) s₁ t₁ s' t' = subst₂ (λ x y. BothShift d left x y s₁ t₁ s' t') e.0 e.1 B in
      let M = both-moved d left B' in
      let few : stretches (combined op (holds s') (holds t')) ≤ allowance w i =
      subst (λ P. stretches P ≤ allowance w i)
      (sym (join-moved (record {
        first_holds = M.first_holds ∙ ap (moved d left) S.holds_it;
        second_holds = M.second_holds ∙ ap (moved d left) T.holds_it;
      })))
      (le_trans (moved-few d left (combined op (holds s) (holds t))) (combine-fits op s t m)) in
      (e.0, e.1, go (both-readable d left B') few where_to)
    where
      into : {x : List ℕ} → Readables s' t' → Readable x i → stretches (combined op (holds s') (holds t')) ≤ allowance x i → Lightened x v
          → c ≡ gave done
      into R S few L = combine-done op s' t' (L.still-readable i S) R.first_read R.second-read (le_trans few (allowance-rises i L)) k

      go : Readables s' t' → stretches (combined op (holds s') (holds t')) ≤ allowance w i → Shifts w v ⊎ Shifts w₁ v → c ≡ gave done
      go R few (inl f) = into R (given-readable m) few (shifts-lighten f)
      go R few (inr f) =
          let S = given-settled m in
          into R (readable-now (given-readable m) S i (given-readable m))
          (subst (λ n. stretches (combined op (holds s') (holds t')) ≤ n) (sym (allowance-now S.long (combine-gets op s t m))) few) (shifts-lighten f)
