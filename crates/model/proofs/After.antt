-- How many runs there are after a change within a range, from what is known before it: a run that goes over an end of the range counts
-- once, and outside the range nothing changes. And how many positions a set of a range changes. Assumes nothing.
use mathlib.Core.Path.{◌≡◌, refl, sym, ap, ap₂, ◌∙◌}
use mathlib.Core.Logic.{◌⊎◌, inl, inr}
use mathlib.Core.Bool.{Bool, true, false, cond, not, ◌&&◌, beq}
use Prim.Native.Nat.{ℕ, zero, suc, ◌+◌, ◌-◌, ◌≤◌, ◌<◌}
use native.Mathlib.Omega.{arith}
use lib.ListN.{length}
use borrow.Author.Tests.{lt-ltb, le-ltb}
use Rattle.model.specs.declared.Operation.TheVariants.{Xor}
use Rattle.model.specs.Numbers.{size}
use Rattle.model.proofs.Numbers.{split}
use Rattle.model.specs.Positions.{Positions, among, one_if, count, runs_in, run_count, held_runs, stretches, set_range, flip_range, combined, changes}
use Rattle.model.proofs.Counting.{among-yes, among_below, among-above, beq-true, count_cut, count_none, count-hits}
use Rattle.model.proofs.Runs.{runs_in-canon, runs_in-mem, runs_in-is, runs_in-cong, runs_in-all, runs_in-none, runs_in-length-join}
use Rattle.model.specs.Neighbours.{goes_on}

-- a range cut in two at x: the runs of both parts, but one that goes on over x counts once
cut-here : (P : Positions) (a m k : ℕ) → suc (a + m) < size
    → run_count P true a (suc m + suc k) + one_if (goes_on P (suc (a + m))) ≡ run_count P true a (suc m) + run_count P true (suc (a + m)) (suc k)
unfolding run_count goes_on
cut-here P a m k h =
    ap (λ t. length (runs_in P true a (suc m + suc k)) + one_if t)
    (ap (λ t. t && (P (a + m) && P (suc (a + m)))) (lt-ltb (suc (a + m)) size h) ∙ sym (ap₂ ◌&&◌ (beq-true (P (a + m))) (beq-true (P (suc (a + m))))))
    ∙ runs_in-length-join P true a m k

pub runs-cut : (P : Positions) (a m x k n : ℕ) → x ≡ a + m → n ≡ m + k → 0 < m → 0 < k → x < size
    → run_count P true a n + one_if (goes_on P x) ≡ run_count P true a m + run_count P true x k
runs-cut P a zero x k n e f h g l = absurd (omega arith)
runs-cut P a (suc m) x zero n e f h g l = absurd (omega arith)
runs-cut P a (suc m) x (suc k) n e f h g l =
    let q : x ≡ suc (a + m) = omega arith in
    rw (q, f) (cut-here P a m k (omega arith))

-- nothing goes on over 0, nor over 2^64
pub goes_on-top : (P : Positions) (x : ℕ) → size ≤ x → goes_on P x ≡ false
unfolding goes_on
goes_on-top P zero h = absurd (omega arith)
goes_on-top P (suc x) h = ap (λ t. t && (P x && P (suc x))) (le-ltb (suc x) size h)

pub goes_on-zero : (P : Positions) → goes_on P 0 ≡ false
unfolding goes_on
goes_on-zero P = refl

none-zero : (P : Positions) (a : ℕ) → run_count P true a 0 ≡ 0
unfolding run_count
none-zero P a = ap length (runs_in-none P true a 0 (λ x h l. absurd (omega arith)))

-- the same with parts that may have no position
pub runs-cut-any : (P : Positions) (a m x k n : ℕ) → x ≡ a + m → n ≡ m + k → a + n ≤ size → (0 < m ⊎ (a ≡ 0)) → (0 < k ⊎ (x ≡ size))
    → run_count P true a n + one_if (goes_on P x) ≡ run_count P true a m + run_count P true x k
runs-cut-any P a zero x k n e f t (inl h) r = absurd (omega arith)
runs-cut-any P a zero x k n e f t (inr h) r =
    let p : x ≡ 0 = omega arith in
    let q : n ≡ k = omega arith in
    rw (h, p, q, none-zero P 0, goes_on-zero P) (omega arith)
runs-cut-any P a (suc m) x zero n e f t l r =
    let p : x ≡ size = top r in
    let q : n ≡ suc m = omega arith in
    rw (q, none-zero P x, goes_on-top P x (omega arith)) (omega arith)
  where
    top : (0 < 0) ⊎ (x ≡ size) → x ≡ size
    top (inl h) = absurd (omega arith)
    top (inr h) = h
runs-cut-any P a (suc m) x (suc k) n e f t l r = runs-cut P a (suc m) x (suc k) n e f (omega arith) (omega arith) (omega arith)

ranges-cong : (P Q : Positions) (a n : ℕ) → ((x : ℕ) → a ≤ x → x < a + n → P x ≡ Q x) → run_count P true a n ≡ run_count Q true a n
unfolding run_count
ranges-cong P Q a n h = ap length (runs_in-cong P Q true a n h)

whole_is : (P : Positions) → run_count P true 0 size ≡ length (runs_in P true 0 size)
unfolding run_count
whole_is P = refl

-- all runs, by a range of n positions from a: those before it, in it and after it
pub stretches-parts : (P : Positions) (a n : ℕ) → 0 < n → a + n ≤ size
    → stretches P + one_if (goes_on P a) + one_if (goes_on P (a + n))
    ≡ run_count P true 0 a + run_count P true a n + run_count P true (a + n) (size - (a + n))
unfolding stretches held_runs
stretches-parts P a n h t =
    let k : ℕ = size - a in
    let one = runs-cut-any P 0 a a k size (omega arith) (omega arith) (omega arith) (some_or_none (split 0 a)) (inl (omega arith)) in
    let two = runs-cut-any P a n (a + n) (size - (a + n)) k refl (omega arith) (omega arith) (inl h) (some-or-all (split (a + n) size)) in
    omega (arith, one, two, whole)
  where
    whole : run_count P true 0 size ≡ length (runs_in P true 0 size)
    whole = whole_is P

    some_or_none : (0 < a) ⊎ (a ≤ 0) → (0 < a) ⊎ ◌≡◌ {A = ℕ} 0 0
    some_or_none (inl g) = inl g
    some_or_none (inr g) = inr refl

    some-or-all : (a + n < size) ⊎ (size ≤ a + n) → (0 < size - (a + n)) ⊎ (a + n ≡ size)
    some-or-all (inl g) = inl (omega arith)
    some-or-all (inr g) = inr (omega arith)

-- THE LAW: two sets that agree outside a range have as many runs outside it
pub runs-replaced : (P Q : Positions) (a n : ℕ) → 0 < n → a + n ≤ size → ((x : ℕ) → x < a → P x ≡ Q x) → ((x : ℕ) → a + n ≤ x → x < size → P x ≡ Q x)
    → stretches Q + (one_if (goes_on Q a) + one_if (goes_on Q (a + n))) + run_count P true a n
    ≡ stretches P + (one_if (goes_on P a) + one_if (goes_on P (a + n))) + run_count Q true a n
runs-replaced P Q a n h t under over =
    omega (arith, stretches-parts P a n h t, stretches-parts Q a n h t, left, right)
  where
    left : run_count P true 0 a ≡ run_count Q true 0 a
    left = ranges-cong P Q 0 a (λ x _ l. under x (omega arith))

    right : run_count P true (a + n) (size - (a + n)) ≡ run_count Q true (a + n) (size - (a + n))
    right = ranges-cong P Q (a + n) (size - (a + n)) (λ x g l. over x g (omega arith))

-- ---- a range set to a value
pub set-inside : (a n : ℕ) (v : Bool) (P : Positions) (x : ℕ) → a ≤ x → x < a + n → set_range a n v P x ≡ v
unfolding set_range
set-inside a n v P x h l = ap (λ t. cond t v (P x)) (among-yes a n x h l)

pub set_below : (a n : ℕ) (v : Bool) (P : Positions) (x : ℕ) → x < a → set_range a n v P x ≡ P x
unfolding set_range
set_below a n v P x h = ap (λ t. cond t v (P x)) (among_below a n x h)

pub set-above : (a n : ℕ) (v : Bool) (P : Positions) (x : ℕ) → a + n ≤ x → set_range a n v P x ≡ P x
unfolding set_range
set-above a n v P x h = ap (λ t. cond t v (P x)) (among-above a n x h)

-- equal positions are set alike
pub set-cong : (a n : ℕ) (v : Bool) (P Q : Positions) (x : ℕ) → P x ≡ Q x → set_range a n v P x ≡ set_range a n v Q x
unfolding set_range
set-cong a n v P Q x e = ap (cond (among a n x) v) e

pub set-one-run : (a n : ℕ) (v : Bool) (P : Positions) → 0 < n → run_count (set_range a n v P) true a n ≡ one_if v
unfolding run_count
set-one-run a zero v P h = absurd (omega arith)
set-one-run a (suc n) true P h = ap length (runs_in-all (set_range a (suc n) true P) true a n (λ x g l. set-inside a (suc n) true P x g l))
set-one-run a (suc n) false P h = ap length (runs_in-none (set_range a (suc n) false P) true a (suc n) (λ x g l. set-inside a (suc n) false P x g l))

-- how many runs there are when a range is set
pub set_runs : (P : Positions) (a n : ℕ) (v : Bool) → 0 < n → a + n ≤ size
    → stretches (set_range a n v P) + (one_if (goes_on (set_range a n v P) a) + one_if (goes_on (set_range a n v P) (a + n))) + run_count P true a n
    ≡ stretches P + (one_if (goes_on P a) + one_if (goes_on P (a + n))) + one_if v
set_runs P a n v h t =
    runs-replaced P (set_range a n v P) a n h t (λ x l. sym (set_below a n v P x l)) (λ x l _. sym (set-above a n v P x l))
    ∙ ap (λ k. stretches P + (one_if (goes_on P a) + one_if (goes_on P (a + n))) + k) (set-one-run a n v P h)

-- ---- a range flipped
pub flip-inside : (a n : ℕ) (P : Positions) (x : ℕ) → a ≤ x → x < a + n → flip_range a n P x ≡ not (P x)
unfolding flip_range
flip-inside a n P x h l = ap (λ t. cond t (not (P x)) (P x)) (among-yes a n x h l)

pub flip-below : (a n : ℕ) (P : Positions) (x : ℕ) → x < a → flip_range a n P x ≡ P x
unfolding flip_range
flip-below a n P x h = ap (λ t. cond t (not (P x)) (P x)) (among_below a n x h)

pub flip-above : (a n : ℕ) (P : Positions) (x : ℕ) → a + n ≤ x → flip_range a n P x ≡ P x
unfolding flip_range
flip-above a n P x h = ap (λ t. cond t (not (P x)) (P x)) (among-above a n x h)

-- the runs of a flipped range are the gaps that were there
pub flip-gaps : (a n : ℕ) (P : Positions) → run_count (flip_range a n P) true a n ≡ run_count P false a n
unfolding run_count
flip-gaps a n P =
    ap length
    (runs_in-is (flip_range a n P) true a n (runs_in P false a n) (runs_in-canon P false (a + n) a n (omega arith))
    (λ x h l. runs_in-mem P false a n x ∙ ap (λ t. t && beq (P x) false) (among-yes a n x h l) ∙ sym (ap (λ t. beq t true) (flip-inside a n P x h l) ∙ other (P x))))
  where
    other : (b : Bool) → beq (not b) true ≡ beq b false
    other true = refl
    other false = refl

-- how many runs there are when a range is flipped
pub flip-runs : (P : Positions) (a n : ℕ) → 0 < n → a + n ≤ size
    → stretches (flip_range a n P) + (one_if (goes_on (flip_range a n P) a) + one_if (goes_on (flip_range a n P) (a + n))) + run_count P true a n
    ≡ stretches P + (one_if (goes_on P a) + one_if (goes_on P (a + n))) + run_count P false a n
flip-runs P a n h t =
    runs-replaced P (flip_range a n P) a n h t (λ x l. sym (flip-below a n P x l)) (λ x l _. sym (flip-above a n P x l))
    ∙ ap (λ k. stretches P + (one_if (goes_on P a) + one_if (goes_on P (a + n))) + k) (flip-gaps a n P)

-- ---- how many positions change
pub differ-hit : (p v : Bool) → beq (not (beq p v)) true ≡ beq p (not v)
differ-hit true true = refl
differ-hit true false = refl
differ-hit false true = refl
differ-hit false false = refl

pub differ_self : (v : Bool) → not (beq v v) ≡ false
differ_self true = refl
differ_self false = refl

-- two values that differ, and two that do not
pub differing : (v u : Bool) → not (beq v u) ≡ true → v ≡ not u
differing true false e = refl
differing false true e = refl
differing true true e = sym e
differing false false e = e

pub agreeing : (v u : Bool) → not (beq v u) ≡ false → v ≡ u
agreeing true true e = refl
agreeing false false e = refl
agreeing true false e = e
agreeing false true e = sym e

-- a set of a range changes its positions of the other value
pub changes-set : (P : Positions) (a n : ℕ) (v : Bool) → a + n ≤ size → changes P (set_range a n v P) ≡ count P (not v) a n
unfolding changes combined
changes-set P a n v t =
    let D : Positions = combined Xor P (set_range a n v P) in
    let q : ℕ = size - (a + n) in
    let one : count D true 0 size ≡ count D true 0 a + count D true a (n + q) = count_cut D true 0 size a a (n + q) (omega arith) (omega arith) in
    let two : count D true a (n + q) ≡ count D true a n + count D true (a + n) q = count_cut D true a (n + q) n (a + n) q refl refl in
    let under : count D true 0 a ≡ 0 =
    count_none D true 0 a (λ x _ l. ap (λ b. not (beq (P x) b)) (set_below a n v P x (omega arith)) ∙ differ_self (P x)) in
    let over : count D true (a + n) q ≡ 0 =
    count_none D true (a + n) q (λ x l _. ap (λ b. not (beq (P x) b)) (set-above a n v P x l) ∙ differ_self (P x)) in
    let mid : count D true a n ≡ count P (not v) a n =
    count-hits D P true (not v) a n (λ x k l. ap (λ b. beq (not (beq (P x) b)) true) (set-inside a n v P x k l) ∙ differ-hit (P x) v) in
    one ∙ rw (under, two, over, mid) (omega arith)
