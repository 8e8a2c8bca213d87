-- `square_of` meets its contract: it makes the tests of a square one by one. Assumes nothing.
use Rattle.std.proofs.Common.{◌≡◌, ◌*◌, ◌%◌, ◌^◌, ◌≤◌, refl, ◌∙◌, arith}
use native.Mathlib.Nat.{one-mul}
use lib.Pow.{shl_exact}
use Rattle.interval_bit_set.proofs.Planes.{bad-large, row-beyond, column-beyond, square-there}
use Rattle.interval_bit_set.proofs.cells.square_of.Goals as goal
use Rattle.interval_bit_set.proofs.cells.square_of.Goals.{Else-k-gt8}

-- k is at most 8
few : (c : Else-k-gt8) → c.args.k ≤ 8
few c = omega (arith, c.if-k-gt8.false)

-- nothing is shifted out of the side
side : (c : Else-k-gt8) → (1 * 2 ^ c.args.k) % 18446744073709551616 ≡ 2 ^ c.args.k
side c = shl_exact {a = 1} 1 _ 64 (omega arith) (omega (arith, few c)) ∙ one-mul _

pub returns-then-k-gt8 : goal.returns-then-k-gt8
returns-then-k-gt8 c = bad-large _ _ _ c.if-k-gt8.true

pub returns-then-row-last : goal.returns-then-row-last
returns-then-row-last c =
    let e = (goal.at.returns-then-row-last c).Else-k-gt8 in
    row-beyond _ _ _ _ (side e) (few e) c.if-row-last.true

pub returns-then-column-last : goal.returns-then-column-last
returns-then-column-last c =
    let e = (goal.at.returns-then-column-last c).Else-k-gt8 in
    column-beyond _ _ _ _ (side e) (few e) (omega (arith, c.if-row-last.false)) c.if-column-last.true

pub returns : goal.returns
returns c =
    let e = (goal.at.returns c).Else-k-gt8 in
    (square-there _ _ _ _ (side e) (few e) (omega (arith, c.if-row-last.false)) (omega (arith, c.if-column-last.false)), refl, refl, refl)
