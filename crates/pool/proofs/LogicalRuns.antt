-- How many logical runs canonical physical ones are. Assumes nothing.
use Rattle.pool.proofs.Base.{◌≡◌, ℕ, ◌+◌, ◌-◌, ◌<◌, ◌≤◌, Bool, true, false, ◌&&◌, List, length, sym, refl, ap, ◌∙◌, ap₂, arith, Run, size, Positions, one_if, stretches, mem, Canon, stretches-is}
use Rattle.pool.proofs.Base.{physical_of, turned}
use Rattle.std.specs.Int.{from_bool}
use Rattle.pool.proofs.Turn.{stretches-zero, stretches-turned}

-- with offset 0 each run is a logical one
pub logical-zero : {n o : ℕ} (rs : List Run) → Canon size 0 rs → n ≡ length rs → o ≡ 0 → n ≡ stretches (turned o (mem rs))
logical-zero rs c e q =
    e ∙ sym (ap (λ k. stretches (turned k (mem rs))) q ∙ stretches-zero (mem rs) ∙ stretches-is (mem rs) rs c (λ x h. refl))

-- either order
and-swap : (a b : Bool) → (a && b) ≡ (b && a)
and-swap true true = refl
and-swap true false = refl
and-swap false true = refl
and-swap false false = refl

-- with another, `joined` two of them are one, and `cut` one is two
pub logical-runs : {n o z m : ℕ} (rs : List Run) {cut joined : Bool} → Canon size 0 rs → n ≡ length rs → o < size → (o ≡ 0 → ⊥)
    → z ≡ physical_of 0 o → m ≡ physical_of (size - 1) o → cut ≡ (mem rs z && mem rs m)
    → joined ≡ (mem rs 0 && mem rs (size - 1)) → stretches (turned o (mem rs)) + one_if joined ≡ n + one_if cut
logical-runs {o = o} {z = z} {m = m} rs c e h k y u p q =
    let x : m ≡ z - 1 = omega arith in
    let Q : Positions = mem rs in
    ap (λ b. stretches (turned o Q) + one_if b) (q ∙ and-swap (Q 0) (Q (size - 1)))
    ∙ stretches-turned o z Q h (omega arith) y
    ∙ ap₂ (λ j b. j + one_if b) (stretches-is Q rs c (λ x h. refl) ∙ sym e)
    (sym (p ∙ and-swap (Q z) (Q m) ∙ ap (λ j. Q j && Q z) x))

-- the same, with each bool as the number that it is
pub runs-from : (n s : ℕ) (cut joined : Bool) {a b : ℕ} → a ≡ from_bool cut → b ≡ from_bool joined → s + one_if joined ≡ n + one_if cut → s + b ≡ n + a
runs-from n s true true p q e = omega arith
runs-from n s true false p q e = omega arith
runs-from n s false true p q e = omega arith
runs-from n s false false p q e = omega arith

-- a bool is 1 at most
pub from-small : (b : Bool) {a : ℕ} → a ≡ from_bool b → a ≤ 1
from-small true e = omega arith
from-small false e = omega arith
