-- The tests of specs/Decision.antt as facts, and back: a test is true exactly where each of its parts holds. What the code's own tests
-- come to follows, since two tests that are true alike are equal. Assumes nothing.
use Rattle.pool.proofs.Base.{◌≡◌, ℕ, zero, suc, ◌+◌, ◌-◌, ◌/◌, ◌%◌, ◌^◌, ◌<◌, ◌≤◌, max, true, leb, List, length, refl, ◌∙◌, arith, lt-ltb, le-leb, leb-true, nat_tests, Node, cell_at, Room}
use Rattle.pool.proofs.Base.{width, free_cell, same-node, inside_b, below_of, run_b, heights_b, sums_b, free_b}
use Rattle.std.proofs.Common.{le_trans, ltb-true}
use lib.Bits.{bit_or, or_add_and, and_le_l, and_le_r, or_lt}
use Rattle.pool.specs.Decision.{within_b, zeros_b}
use Rattle.pool.proofs.Truths.{same}
use Rattle.pool.proofs.Chains.{FreeAt}

-- a node inside has room
pub inside-out : (w : List ℕ) (n : ℕ) → inside_b w n ≡ true → Room w n
unfolding inside_b
inside-out w n e = omega (arith, ltb-true n (length w / 8) e)

-- and a node with room is inside
pub inside-in : (w : List ℕ) (n : ℕ) → Room w n → inside_b w n ≡ true
unfolding inside_b
inside-in w n h = lt-ltb n (length w / 8) (omega arith)

-- the words at the link 0 are zeros
pub below_none : (w : List ℕ) (k : ℕ) → k ≡ 0 → free_cell 0 ≡ below_of w k
unfolding below_of
below_none w zero e = refl
below_none w (suc k) e = absurd (omega arith)

-- words that are all 0 are those
pub zeros-below : (w : List ℕ) (k : ℕ) (x : Node) → k ≡ 0
    → (x.start ≡ 0) × ((x.«end» ≡ 0) × ((x.left ≡ 0) × ((x.right ≡ 0) × ((x.height ≡ 0) × ((x.runs ≡ 0) × ((x.ones ≡ 0) × (x.tag ≡ 0)))))))
    → x ≡ below_of w k
zeros-below w k x z e = same-node x (free_cell 0) e.0 e.1.0 e.1.1.0 e.1.1.1.0 e.1.1.1.1.0 e.1.1.1.1.1.0 e.1.1.1.1.1.1.0 e.1.1.1.1.1.1.1 ∙ below_none w k z

-- elsewhere they are the node's
pub below-some : (w : List ℕ) (k : ℕ) → (k ≡ 0 → ⊥) → cell_at w k ≡ below_of w k
unfolding below_of
below-some w zero e = absurd (e refl)
below-some w (suc k) e = refl

-- a run within bounds, with the tag k
pub record Within (a b g k lo total : ℕ) : Type 0 where
  pub tagged : g ≡ k
  pub above : lo ≤ a
  pub ordered : a ≤ b
  pub under : b < total

-- what the test of a run says
pub run_out : (a b g k lo total : ℕ) → run_b a b g k lo total ≡ true → Within a b g k lo total
unfolding run_b within_b
run_out a b g k lo total e =
    grind (arith, nat_tests)

-- and back
pub run_in : (a b g k lo total : ℕ) → Within a b g k lo total → run_b a b g k lo total ≡ true
unfolding run_b within_b
run_in a b g k lo total h =
    grind (arith, nat_tests)

-- heights of a node and its sides
pub heights-out : (h h1 h2 : ℕ) → heights_b h h1 h2 ≡ true → (h ≡ 1 + max h1 h2) × (h1 ≤ h2 + 1) × (h2 ≤ h1 + 1)
unfolding heights_b
heights-out h h1 h2 e = grind (arith, nat_tests)

-- and back
pub heights-in : (h h1 h2 : ℕ) → h ≡ 1 + max h1 h2 → h1 ≤ h2 + 1 → h2 ≤ h1 + 1 → heights_b h h1 h2 ≡ true
unfolding heights_b
heights-in h h1 h2 p q r = grind (arith, nat_tests)

-- neither of two words is greater than their bits together
or_left : (a b : ℕ) → a ≤ bit_or a b
or_left a b = omega (arith, or_add_and a b, and_le_r a b)

or_right : (a b : ℕ) → b ≤ bit_or a b
or_right a b = omega (arith, or_add_and a b, and_le_l a b)

-- the code's test of heights: a and b are h - 1 less h1 and less h2, and c is their sum, modulo 2^64
pub heights-last : (h h1 h2 a b c : ℕ) → 2 ≤ h → h1 < 2 ^ 64 → h2 < 2 ^ 64 → a < 2 ^ 64 → b < 2 ^ 64 → (a + h1) % 2 ^ 64 ≡ h - 1
    → (b + h2) % 2 ^ 64 ≡ h - 1 → c ≡ (a + b) % 2 ^ 64 → leb (bit_or (bit_or a b) c) 1 ≡ heights_b h h1 h2
heights-last h h1 h2 a b c two l1 l2 la lb ea eb ec =
    let o : ℕ = bit_or (bit_or a b) c in
    same (leb o 1) (heights_b h h1 h2)
    (λ e.
    let l = leb-true o 1 e in
    let oa : a ≤ o = le_trans (or_left a b) (or_left (bit_or a b) c) in
    let ob : b ≤ o = le_trans (or_right a b) (or_left (bit_or a b) c) in
    let oc = or_right (bit_or a b) c in
    heights-in h h1 h2 (omega arith) (omega arith) (omega arith))
    (λ e.
    let p = heights-out h h1 h2 e in
    let few : a + b ≤ 1 = omega arith in
    let oo = or_lt 1 (bit_or a b) c (or_lt 1 a b (omega arith) (omega arith)) (omega arith) in
    le-leb o 1 (omega arith))

-- the sums of a node and its sides
pub sums-out : (k k1 k2 o o1 o2 a b : ℕ) → sums_b k k1 k2 o o1 o2 a b ≡ true
    → (k ≡ k1 + k2 + 1) × (o ≡ ((o1 + o2) % 2 ^ 64 + width a b) % 2 ^ 64)
unfolding sums_b
sums-out k k1 k2 o o1 o2 a b e = grind (arith, nat_tests)

-- and back
pub sums-in : (k k1 k2 o o1 o2 a b : ℕ) → k ≡ k1 + k2 + 1 → o ≡ ((o1 + o2) % 2 ^ 64 + width a b) % 2 ^ 64
    → sums_b k k1 k2 o o1 o2 a b ≡ true
unfolding sums_b
sums-in k k1 k2 o o1 o2 a b p q = grind (arith, nat_tests)

-- where all words but the link are 0 they are a free node's
pub zeros-out : (v : Node) → zeros_b v ≡ true → v ≡ free_cell v.left
unfolding zeros_b
zeros-out v e =
    let h : (v.start ≡ 0) × (v.«end» ≡ 0) × (v.right ≡ 0) × (v.height ≡ 0) × (v.runs ≡ 0) × (v.ones ≡ 0) × (v.tag ≡ 0) = grind (arith, nat_tests) in
    same-node v (free_cell v.left) h.0 h.1 refl h.2 h.3 h.4 h.5 h.6

-- and back
pub zeros-in : (v : Node) → v ≡ free_cell v.left → zeros_b v ≡ true
unfolding zeros_b
zeros-in v e = rw e refl

-- what the test of a free node says
pub free-out : (w : List ℕ) (n : ℕ) → free_b w n ≡ true → FreeAt w n
unfolding free_b
free-out w n e =
    let h : (0 < n) × (inside_b w n ≡ true) × (zeros_b (cell_at w n) ≡ true) = grind (arith, nat_tests) in
    record { some = h.0; room = inside-out w n h.1; zeros = zeros-out (cell_at w n) h.2 }

-- and back
pub free_in : (w : List ℕ) (n : ℕ) → FreeAt w n → free_b w n ≡ true
unfolding free_b
free_in w n f = rw (inside-in w n f.room, zeros-in (cell_at w n) f.zeros) (grind (arith, nat_tests, f.some))
