-- Two shifts one after the other, in place or by copies, over what the calls promise: the second shifts what the first left. Assumes nothing.
use Prim.Native.Nat.{ℕ, ◌+◌, ◌-◌, ◌≤◌, ◌<◌}
use mathlib.Core.Path.{◌≡◌, sym, ap, ◌∙◌, subst}
use mathlib.Core.Logic.{◌⊎◌, inl, inr}
use mathlib.Core.Bool.{Bool, true, false}
use mathlib.Core.List.{List}
use native.Mathlib.Nat.{add_comm}
use native.Mathlib.Omega.{arith}
use Rattle.std.specs.declared.ops.Bound.TheVariants.{Excluded, Unbounded}
use Rattle.model.specs.Numbers.{size}
use Rattle.model.proofs.Numbers.{split}
use Rattle.model.specs.Range.{first_allowed, extent}
use Rattle.model.specs.Positions.{Positions, empty, set_range, bounded}
use Rattle.model.specs.Call.{Call, number, Answer, gave}
use Rattle.model.proofs.Ops.{bounded-below}
use Rattle.model.proofs.After.{set-inside, set_below}
use Rattle.model.proofs.Runs.{stretches-cong}
use Rattle.pool.specs.Layout.{held_by, worlds_of}
use Rattle.pool.proofs.Turn.{pool-past}
use Rattle.pool.proofs.Worlds.{held-allowed}
use Rattle.interval_bit_set.specs.Met.{Site, site, Met}
use Rattle.interval_bit_set.proofs.Giving.{given-readable}
use Rattle.interval_bit_set.proofs.Simulation.{bounded-ends, same-positions}
use Rattle.theorems.specs.Pairs.{Did, holds, SameLeft}
use Rattle.theorems.proofs.Moving.{moved, past, moved-few, moved_sum, moved_nothing, out-and-back, out-and-lost, down-and-up, down-and-lost}
use Rattle.theorems.proofs.Ranges.{put}
use Rattle.theorems.proofs.Doing.{Gets, gets-again, gets-as, gets-same, gets-one, given-gets}
use Rattle.theorems.proofs.Calls.{shifted-gets, set-done}

-- a copy holds what the shift in place leaves
pub copy_is : (d : ℕ) (left : Bool) {w w' v v' : List ℕ} {i j : ℕ} → Did w i (Call.shift d left) w' → Did v j (Call.shifted d left (site w i)) v' → held_by w' i ≡ held_by v' j
copy_is d left {w} {i = i} m n = (given-gets m).held ∙ sym (shifted-gets d left (site w i) n).held

-- ---- in place
-- by d and by e, each to its side
place_twice : (d e : ℕ) (left right : Bool) {w w₁ w₂ : List ℕ} {i : ℕ} → Did w i (Call.shift d left) w₁ → Did w₁ i (Call.shift e right) w₂ → Gets w i w₂ (moved e right (moved d left (held_by w i)))
place_twice d e left right m n = let G = given-gets m in gets-as (gets-again G (given-gets n)) (ap (moved e right) G.held)

module _ (d e : ℕ) (left : Bool) {w w₁ w₂ : List ℕ} {i : ℕ} (m : Did w i (Call.shift d left) w₁) (n : Did w₁ i (Call.shift e left) w₂) where
  -- the same way: as by the sum
  pub twice-add : {v : List ℕ} → Did w i (Call.shift (d + e) left) v → worlds_of w₂ ≡ worlds_of v
  twice-add k = gets-one (place_twice d e left left m n) (given-gets k) (moved_sum d e left (held_by w i))

  pub twice-empty : size ≤ d + e → held_by w₂ i ≡ empty
  twice-empty h = (place_twice d e left left m n).held ∙ moved_sum d e left (held_by w i) ∙ moved_nothing (d + e) left (held_by w i) h

-- so in either order
pub twice-either : (d e : ℕ) (left : Bool) {w w₁ w₂ v₁ v₂ : List ℕ} {i : ℕ} → Did w i (Call.shift d left) w₁ → Did w₁ i (Call.shift e left) w₂ → Did w i (Call.shift e left) v₁
    → Did v₁ i (Call.shift d left) v₂ → worlds_of w₂ ≡ worlds_of v₂
twice-either d e left {w} {i = i} m n k l =
    gets-one (place_twice d e left left m n) (place_twice e d left left k l)
    (moved_sum d e left (held_by w i) ∙ ap (λ f. moved f left (held_by w i)) (add_comm d e) ∙ sym (moved_sum e d left (held_by w i)))

-- ---- copies
copy-twice : (d e : ℕ) (left right : Bool) (s : Site) {w w₁ v v₁ : List ℕ} {i j : ℕ} → Did w i (Call.shifted d left s) w₁ → Did v j (Call.shifted e right (site w₁ i)) v₁
    → Gets v j v₁ (moved e right (moved d left (holds s)))
copy-twice d e left right s {w₁ = w₁} {i = i} m n = gets-as (shifted-gets e right (site w₁ i) n) (ap (moved e right) (shifted-gets d left s m).held)

module _ (d e : ℕ) (left : Bool) (s : Site) {w w₁ v v₁ : List ℕ} {i j : ℕ} (m : Did w i (Call.shifted d left s) w₁) (n : Did v j (Call.shifted e left (site w₁ i)) v₁) where
  pub copies-add : {x x₁ : List ℕ} {h : ℕ} → Did x h (Call.shifted (d + e) left s) x₁ → SameLeft v j v₁ x h x₁
  copies-add k = gets-same (copy-twice d e left left s m n) (shifted-gets (d + e) left s k) (moved_sum d e left (holds s))

  pub copies-empty : size ≤ d + e → held_by v₁ j ≡ empty
  copies-empty h = (copy-twice d e left left s m n).held ∙ moved_sum d e left (holds s) ∙ moved_nothing (d + e) left (holds s) h

-- ---- left then right by d
-- as a set of what is above M − d to false
back-clears : (d : ℕ) (P : Positions) → d < size → ((x : ℕ) → size ≤ x → P x ≡ false)
    → moved d false (moved d true P) ≡ put (first_allowed (Excluded (size - 1 - d))) (extent (Excluded (size - 1 - d)) Unbounded) false P
back-clears d P h ends =
    same-positions (moved d false (moved d true P)) (put a n false P) (λ x l. past d (moved d true P) x false l) (bounded-ends (set_range a n false P))
    (λ x l. go x l (split (x + d) size) ∙ sym (bounded-below (set_range a n false P) x l))
  where
    a : ℕ
    a = first_allowed (Excluded (size - 1 - d))

    n : ℕ
    n = extent (Excluded (size - 1 - d)) Unbounded

    go : (x : ℕ) → x < size → (x + d < size) ⊎ (size ≤ x + d) → moved d false (moved d true P) x ≡ set_range a n false P x
    go x l (inl k) = out-and-back d P x k ∙ sym (set_below a n false P x (omega arith))
    go x l (inr k) = out-and-lost d P x k ∙ sym (set-inside a n false P x (omega arith) (omega arith))

module _ (d : ℕ) {w w₁ w₂ : List ℕ} {i : ℕ} where
  -- what is at most M − d is kept, and nothing above it
  pub twice-back : Did w i (Call.shift d true) w₁ → Did w₁ i (Call.shift d false) w₂
      → ((x : ℕ) → x + d < size → held_by w₂ i x ≡ held_by w i x) × ((x : ℕ) → size ≤ x + d → held_by w₂ i x ≡ false)
  twice-back m n =
      let e = (place_twice d d true false m n).held in
      (λ x h. ap (λ P. P x) e ∙ out-and-back d (held_by w i) x h, λ x h. ap (λ P. P x) e ∙ out-and-lost d (held_by w i) x h)

  -- and a set of that to false is not refused, and leaves the same
  pub twice-clears : {v : List ℕ} {a : Answer} → d < size → Did w i (Call.shift d true) w₁ → Did w₁ i (Call.shift d false) w₂
      → Met w i (Call.set (Excluded (size - 1 - d)) Unbounded false) a v → ((k : ℕ) × (a ≡ gave (number k))) × (worlds_of w₂ ≡ worlds_of v)
  twice-clears {v} h m n c =
      let P = held_by w i in
      let Q = set_range (first_allowed (Excluded (size - 1 - d))) (extent (Excluded (size - 1 - d)) Unbounded) false P in
      let same : moved d false (moved d true P) ≡ bounded Q = back-clears d P h (pool-past w i) in
      let R = given-readable m in
      let e = set-done (Excluded (size - 1 - d)) Unbounded false R
      (omega (
        arith,
        stretches-cong (moved d false (moved d true P)) Q (λ x l. ap (λ T. T x) same ∙ bounded-below Q x l),
        moved-few d false (moved d true P),
        moved-few d true P,
        held-allowed w i R.openable,
      ))
      c in
      let k = subst (λ z. Met w i (Call.set (Excluded (size - 1 - d)) Unbounded false) z v) e.1 c in
      (e, gets-one (place_twice d d true false m n) (given-gets k) same)

  -- right then left by d: what is at least d is kept, and nothing below it
  pub twice-forth : Did w i (Call.shift d false) w₁ → Did w₁ i (Call.shift d true) w₂
      → ((x : ℕ) → d ≤ x → held_by w₂ i x ≡ held_by w i x) × ((x : ℕ) → x < d → held_by w₂ i x ≡ false)
  twice-forth m n = (λ x h. kept x h (split x size), λ x h. lost x h (split x size))
    where
      e : held_by w₂ i ≡ moved d true (moved d false (held_by w i))
      e = (place_twice d d false true m n).held

      kept : (x : ℕ) → d ≤ x → (x < size) ⊎ (size ≤ x) → held_by w₂ i x ≡ held_by w i x
      kept x h (inl l) = ap (λ P. P x) e ∙ down-and-up d (held_by w i) x h l
      kept x h (inr l) = pool-past w₂ i x l ∙ sym (pool-past w i x l)

      lost : (x : ℕ) → x < d → (x < size) ⊎ (size ≤ x) → held_by w₂ i x ≡ false
      lost x h (inl l) = ap (λ P. P x) e ∙ down-and-lost d (held_by w i) x h l
      lost x h (inr l) = pool-past w₂ i x l

-- and of copies
pub copies-back : (d : ℕ) (s : Site) {w w₁ v v₁ : List ℕ} {i j : ℕ} → Did w i (Call.shifted d true s) w₁ → Did v j (Call.shifted d false (site w₁ i)) v₁
    → ((x : ℕ) → x + d < size → held_by v₁ j x ≡ holds s x) × ((x : ℕ) → size ≤ x + d → held_by v₁ j x ≡ false)
copies-back d s m n =
    let e = (copy-twice d d true false s m n).held in
    (λ x h. ap (λ P. P x) e ∙ out-and-back d (holds s) x h, λ x h. ap (λ P. P x) e ∙ out-and-lost d (holds s) x h)
