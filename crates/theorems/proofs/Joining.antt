-- Sets of positions that are joined by AND, OR and XOR: how many positions there are, and that shifts pass through. All three join nothing with
-- nothing to nothing, so a test passes through each. Assumes nothing.
use Prim.Native.Nat.{ℕ, zero, suc, ◌+◌, ◌-◌}
use mathlib.Core.Path.{◌≡◌, refl, ap, ◌∙◌, fun_ext}
use mathlib.Core.Bool.{Bool, true, false, ◌&&◌, ◌||◌, beq}
use native.Mathlib.Omega.{arith}
use lib.Dec.{leb, ltb}
use Rattle.model.specs.declared.Operation.{Operation}
use Rattle.model.specs.declared.Operation.TheVariants.{And, Or, Xor}
use Rattle.model.specs.Numbers.{size}
use Rattle.model.specs.Positions.{Positions, one_if, count, apply, combined, shift_left, shift_right, shift_by, bounded}
use Rattle.theorems.proofs.Moving.{moved}

-- ---- counts
-- of one position: AND and OR together have the value as often as the two do
one-adds : (p q v : Bool) → one_if (beq (p && q) v) + one_if (beq (p || q) v) ≡ one_if (beq p v) + one_if (beq q v)
one-adds true true true = refl
one-adds true true false = refl
one-adds true false true = refl
one-adds true false false = refl
one-adds false true true = refl
one-adds false true false = refl
one-adds false false true = refl
one-adds false false false = refl

-- of a range
pub counts-add : (P Q : Positions) (v : Bool) (a n : ℕ) → count (combined And P Q) v a n + count (combined Or P Q) v a n ≡ count P v a n + count Q v a n
unfolding count combined
counts-add P Q v a zero = refl
counts-add P Q v a (suc n) = omega (arith, one-adds (P a) (Q a) v, counts-add P Q v (suc a) n)

-- ---- shifts
-- a test passes through
through : (op : Operation) (b p q : Bool) → (b && apply op p q) ≡ apply op (b && p) (b && q)
through op true p q = refl
through And false p q = refl
through Or false p q = refl
through Xor false p q = refl

-- so does a shift, which is two tests
pub moved-through : (op : Operation) (d : ℕ) (left : Bool) (P Q : Positions) → moved d left (combined op P Q) ≡ combined op (moved d left P) (moved d left Q)
unfolding bounded shift_by shift_left shift_right combined
moved-through op d true P Q =
    fun_ext (λ x.
    ap (λ t. ltb x size && t) (through op (leb d x) (P (x - d)) (Q (x - d))) ∙ through op (ltb x size) (leb d x && P (x - d)) (leb d x && Q (x - d)))
moved-through op d false P Q =
    fun_ext (λ x.
    ap (λ t. ltb x size && t) (through op (ltb (x + d) size) (P (x + d)) (Q (x + d)))
    ∙ through op (ltb x size) (ltb (x + d) size && P (x + d)) (ltb (x + d) size && Q (x + d)))

-- nothing joined with nothing
pub joins-nothing : (op : Operation) → apply op false false ≡ false
joins-nothing And = refl
joins-nothing Or = refl
joins-nothing Xor = refl
