-- The capacity that a length tells, test by test, and that a length with a capacity is 8 × (capacity + 49). Assumes nothing.
use Rattle.pool.proofs.Base.{◌≡◌, ℕ, ◌+◌, ◌-◌, ◌*◌, ◌/◌, ◌%◌, ◌<◌, ◌≤◌, eqb, leb, ◌⊎◌, sym, ◌∙◌, inl, inr, arith, eq-eqb, ne_eqb, le-leb, and-false, split, capacity_of}
use borrow.Author.Tests.{lt-leb}

pub capacity-is : (n : ℕ) → n % 8 ≡ 0 → 50 ≤ n / 8 → n / 8 ≤ 65585 → n / 8 - 49 ≡ capacity_of n
capacity-is n e h k = sym (rw (eq-eqb (n % 8) 0 e, le-leb 50 (n / 8) h, le-leb (n / 8) 65585 k))

pub capacity-odd : (n : ℕ) → (n % 8 ≡ 0 → ⊥) → 0 ≡ capacity_of n
capacity-odd n e = sym (rw (ne_eqb (n % 8) 0 e))

pub capacity-low : (n : ℕ) → n / 8 < 50 → 0 ≡ capacity_of n
capacity-low n h = sym (rw (lt-leb 50 (n / 8) h, and-false (eqb (n % 8) 0)))

pub capacity-high : (n : ℕ) → 65585 < n / 8 → 0 ≡ capacity_of n
capacity-high n h = sym (rw (lt-leb (n / 8) 65585 h, and-false (leb 50 (n / 8)), and-false (eqb (n % 8) 0)))

-- a slice has a capacity exactly if its length is right
pub capacity-length : (c : ℕ) → 1 ≤ c → c ≤ 65536 → capacity_of (8 * (c + 49)) ≡ c
capacity-length c h k =
    sym (capacity-is (8 * (c + 49)) (omega arith) (omega arith) (omega arith)) ∙ omega arith

pub length-capacity : (n : ℕ) → 1 ≤ capacity_of n → (n ≡ 8 * (capacity_of n + 49)) × (capacity_of n ≤ 65536)
length-capacity n h = go (split (n % 8) 1) (split (n / 8) 50) (split 65585 (n / 8))
  where
    go : (n % 8 < 1) ⊎ (1 ≤ n % 8) → (n / 8 < 50) ⊎ (50 ≤ n / 8) → (65585 < n / 8) ⊎ (n / 8 ≤ 65585)
        → (n ≡ 8 * (capacity_of n + 49)) × (capacity_of n ≤ 65536)
    go (inl p) (inr q) (inr r) = let e = capacity-is n (omega arith) q r in rw (← e) (omega arith, omega arith)
    go (inr p) q r = absurd (omega (arith, capacity-odd n (omega arith)))
    go (inl p) (inl q) r = absurd (omega (arith, capacity-low n q))
    go (inl p) (inr q) (inl r) = absurd (omega (arith, capacity-high n r))
