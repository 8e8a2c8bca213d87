-- Two changes of one world at ranges without a common position, over what the calls promise: what each does at a position is told by that position alone,
-- so neither sees the other. Assumes nothing.
use Prim.Native.Nat.{ℕ, ◌+◌, ◌-◌, ◌≤◌, ◌<◌}
use mathlib.Core.Path.{◌≡◌, refl, sym, ap, ◌∙◌, fun_ext}
use mathlib.Core.Bool.{Bool, true, false, cond, not, ◌&&◌, beq, true≢false}
use mathlib.Core.List.{List}
use native.Mathlib.Omega.{arith}
use lib.Dec.{leb, ltb}
use borrow.Author.Tests.{lt-ltb, leb-true, ltb-true}
use Rattle.model.specs.Ends.{Bound}
use Rattle.model.specs.declared.Operation.TheVariants.{Xor}
use Rattle.model.specs.Numbers.{size}
use Rattle.model.specs.Range.{first_allowed, extent}
use Rattle.model.specs.Positions.{Positions, among, combined, set_range, flip_range, bounded, changes}
use Rattle.model.specs.Bytes.{map_bit, mapped}
use Rattle.model.specs.Call.{Call, number, Result, gave}
use Rattle.model.specs.Model.{Effect, plan, left_by}
use Rattle.model.proofs.Counting.{count-cong}
use Rattle.model.proofs.After.{differ_self}
use Rattle.model.proofs.Edit.{and-holds}
use Rattle.pool.specs.Layout.{held_by, worlds_of}
use Rattle.interval_bit_set.specs.Met.{Site, fed_at, Met}
use Rattle.interval_bit_set.proofs.Giving.{given-is}
use Rattle.theorems.specs.Swaps.{Changes-at, by_set, by_flip, by_map, by_strict_set, by_strict_flip, Disjoint}
use Rattle.theorems.proofs.Doing.{Gets, gets-again, gets-as, gets-one, given-gets}

-- ---- positions
-- the n positions from a become f of themselves
unfoldable within : ℕ → ℕ → (ℕ → Bool → Bool) → Positions → Positions
within a n f P x = cond (among a n x) (f x (P x)) (P x)

-- no position is in both ranges
abbrev Apart : ℕ → ℕ → ℕ → ℕ → Type 0
Apart a n b m = (x : ℕ) → among a n x ≡ true → among b m x ≡ true → ⊥

-- of one position: s tells whether it is below 2^64, t and r whether it is in the first range and in the second
one_apart : (s t r : Bool) (F G : Bool → Bool) (p : Bool) → (t ≡ true → r ≡ true → ⊥)
    → (s && cond r (G (s && cond t (F p) p)) (s && cond t (F p) p)) ≡ (s && cond t (F (s && cond r (G p) p)) (s && cond r (G p) p))
one_apart false t r F G p h = refl
one_apart true true true F G p h = absurd (h refl refl)
one_apart true true false F G p h = refl
one_apart true false true F G p h = refl
one_apart true false false F G p h = refl

-- in either order the same is held
within-apart : (a n : ℕ) (f : ℕ → Bool → Bool) (b m : ℕ) (g : ℕ → Bool → Bool) (P : Positions) → Apart a n b m
    → bounded (within b m g (bounded (within a n f P))) ≡ bounded (within a n f (bounded (within b m g P)))
unfolding bounded within
within-apart a n f b m g P h = fun_ext (λ x. one_apart (ltb x size) (among a n x) (among b m x) (f x) (g x) (P x) (h x))

-- below 2^64 a change of the other range is not seen in this one
unseen : (a n b m : ℕ) (g : ℕ → Bool → Bool) (P : Positions) → Apart a n b m → (x : ℕ) → x < size → among a n x ≡ true → P x ≡ bounded (within b m g P) x
unfolding bounded within
unseen a n b m g P h x l e = go (ltb x size) (among b m x) (lt-ltb x size l) (h x e)
  where
    go : (s r : Bool) → s ≡ true → (r ≡ true → ⊥) → P x ≡ (s && cond r (g x (P x)) (P x))
    go true true k ne = absurd (ne refl)
    go true false k ne = refl
    go false r k ne = absurd (true≢false (sym k))

-- how many positions change is told by the range
within-changes : (a n : ℕ) (f : ℕ → Bool → Bool) (P Q : Positions) → ((x : ℕ) → x < size → among a n x ≡ true → P x ≡ Q x)
    → changes P (within a n f P) ≡ changes Q (within a n f Q)
unfolding changes combined within
within-changes a n f P Q h =
    count-cong (combined Xor P (within a n f P)) (combined Xor Q (within a n f Q)) true 0 size (λ x k l. go x (among a n x) (h x (omega arith)))
  where
    go : (x : ℕ) (t : Bool) → (t ≡ true → P x ≡ Q x) → not (beq (P x) (cond t (f x (P x)) (P x))) ≡ not (beq (Q x) (cond t (f x (Q x)) (Q x)))
    go x true e = ap (λ p. not (beq p (f x p))) (e refl)
    go x false e = differ_self (P x) ∙ sym (differ_self (Q x))

-- ---- calls
-- the call c changes its world at the n positions from a, and what it gives is told by what they were
record Local (c : Call Site) (a n : ℕ) : Type 0 where
  does : ℕ → Bool → Bool
  effect : (plan fed_at c).effect ≡ Effect.becomes (within a n does)
  told : (P Q : Positions) → ((x : ℕ) → x < size → among a n x ≡ true → P x ≡ Q x) → (plan fed_at c).gives P ≡ (plan fed_at c).gives Q

-- which calls do
local : {c : Call Site} {a n : ℕ} → Changes-at c a n → Local c a n
unfolding within set_range flip_range mapped
local (by_set {l = l} {u = u} {v = v}) =
    record { does = λ x p. v; effect = refl; told = λ P Q h. ap number (within-changes (first_allowed l) (extent l u) (λ x p. v) P Q h) }
local by_flip = record { does = λ x p. not p; effect = refl; told = λ P Q h. refl }
local (by_map {base = base} {n = n} {bs = bs}) = record {
  does = λ x p. map_bit bs (x - base);
  effect = refl;
  told = λ P Q h. ap number (within-changes base n (λ x p. map_bit bs (x - base)) P Q h);
}
local (by_strict_set {l = l} {u = u} {v = v}) =
    record { does = λ x p. v; effect = refl; told = λ P Q h. ap number (within-changes (first_allowed l) (extent l u) (λ x p. v) P Q h) }
local by_strict_flip = record { does = λ x p. not p; effect = refl; told = λ P Q h. refl }

-- what its world gets
local-gets : (c : Call Site) {a n : ℕ} (L : Local c a n) {w w' : List ℕ} {i : ℕ} {r : Result} → Met w i c (gave r) w' → Gets w i w' (bounded (within a n L.does (held_by w i)))
local-gets c L {w} {i = i} k = gets-as (given-gets k) (ap (λ e. left_by e (held_by w i)) L.effect)

-- two of them, one after the other
module _ (c d : Call Site) {a n b m : ℕ} (L : Local c a n) (K : Local d b m) {w w₁ w₂ : List ℕ} {i : ℕ} {r q : Result} (k : Met w i c (gave r) w₁) (l : Met w₁ i d (gave q) w₂) where
  both-get : Gets w i w₂ (bounded (within b m K.does (bounded (within a n L.does (held_by w i)))))
  both-get = let G = local-gets c L k in gets-as (gets-again G (local-gets d K l)) (ap (λ P. bounded (within b m K.does P)) G.held)

  -- the second answers as it would without the first
  second-said : Apart b m a n → q ≡ (plan fed_at d).gives (held_by w i)
  second-said h =
      given-is l ∙ ap (plan fed_at d).gives (local-gets c L k).held
      ∙ sym (K.told (held_by w i) (bounded (within a n L.does (held_by w i))) (unseen b m a n L.does (held_by w i) h))

-- ---- the laws
pub ranges_apart : (c d : Call Site) {a n b m : ℕ} {w w₁ w₂ v₁ v₂ : List ℕ} {i : ℕ} {r q r' q' : Result} → Changes-at c a n → Changes-at d b m
    → ((x : ℕ) → a ≤ x → x < a + n → b ≤ x → x < b + m → ⊥) → Met w i c (gave r) w₁ → Met w₁ i d (gave q) w₂ → Met w i d (gave q') v₁ → Met v₁ i c (gave r') v₂
    → (r ≡ r') × (q ≡ q') × (worlds_of w₂ ≡ worlds_of v₂)
ranges_apart c d {a} {n} {b} {m} {w} {i = i} C D h k l k' l' =
    let L = local C in
    let K = local D in (
      given-is k ∙ sym (second-said d c K L k' l' apart),
      second-said c d L K k l (λ x e f. apart x f e) ∙ sym (given-is k'),
      gets-one (both-get c d L K k l) (both-get d c K L k' l') (within-apart a n L.does b m K.does (held_by w i) apart),
    )
  where
    among-is : (a n x : ℕ) → among a n x ≡ true → (a ≤ x) × (x < a + n)
    among-is a n x e = let t = and-holds (leb a x) (ltb x (a + n)) e in (leb-true a x t.0, ltb-true x (a + n) t.1)

    apart : Apart a n b m
    apart x e f = let s = among-is a n x e in let t = among-is b m x f in h x s.0 s.1 t.0 t.1

-- of sets, by their bounds
pub sets-disjoint : (l u l' u' : Bound) (b b' : Bool) {w w₁ w₂ v₁ v₂ : List ℕ} {i n m n' m' : ℕ} → Disjoint l u l' u' → Met w i (Call.set l u b) (gave (number n)) w₁
    → Met w₁ i (Call.set l' u' b') (gave (number m)) w₂ → Met w i (Call.set l' u' b') (gave (number m')) v₁ → Met v₁ i (Call.set l u b) (gave (number n')) v₂
    → (n ≡ n') × (m ≡ m') × (worlds_of w₂ ≡ worlds_of v₂)
sets-disjoint l u l' u' b b' {n = n} {m} {n'} {m'} D s t s' t' =
    let e = ranges_apart (Call.set l u b) (Call.set l' u' b') by_set by_set (λ x h k f g. D x (h, omega arith) (f, omega arith)) s t s' t' in
    let p : number n ≡ number n' = e.0 in
    let q : number m ≡ number m' = e.1 in
    (cc, cc, e.2)
