-- Truth values of two tests: which are equal, which are false, and both of them. Assumes nothing.
use Rattle.pool.proofs.Base.{◌≡◌, ℕ, ◌≤◌, Bool, true, false, ◌&&◌, sym, refl, arith, bool_byte, one_if}

-- a test is not both
pub never : {A : Type 0} → false ≡ true → A
never e = let z : ◌≡◌ {A = ℕ} 0 1 = cc in absurd (omega arith)

-- a test that cannot be true is false
pub is_false : (b : Bool) → (b ≡ true → ⊥) → b ≡ false
is_false true f = absurd (f refl)
is_false false f = refl

-- two tests that are true alike are equal
pub same : (a b : Bool) → (a ≡ true → b ≡ true) → (b ≡ true → a ≡ true) → a ≡ b
same true b f g = sym (f refl)
same false true f g = g refl
same false false f g = refl

-- both of two tests
pub both-in : (a b : Bool) → a ≡ true → b ≡ true → (a && b) ≡ true
both-in a b p q = rw (p, q)

-- a truth as a byte
pub byte-one : (b : Bool) → bool_byte b ≡ one_if b
byte-one true = refl
byte-one false = refl

-- it is small
pub byte-small : (b : Bool) → bool_byte b ≤ 1
byte-small true = omega arith
byte-small false = omega arith
