-- Sums over the worlds of a pool: of one world and of the others; and of terms that are the same. Assumes nothing.
use Rattle.pool.proofs.Base.{◌≡◌, ℕ, zero, suc, ◌+◌, ◌<◌, ◌≤◌, cond, refl, ap, ap₂, arith, eq-eqb, ne_eqb, ℕ_discrete, nat_tests, sum_to, without}

-- one term more
pub sum_more : (n : ℕ) (f : ℕ → ℕ) → sum_to (suc n) f ≡ sum_to n f + f n
unfolding sum_to
sum_more n f = refl

-- no term
pub sum-nothing : (f : ℕ → ℕ) → sum_to 0 f ≡ 0
unfolding sum_to
sum-nothing f = refl

-- terms that are the same
pub sum-cong : (n : ℕ) (f g : ℕ → ℕ) → ((j : ℕ) → j < n → f j ≡ g j) → sum_to n f ≡ sum_to n g
unfolding sum_to
sum-cong zero f g h = refl
sum-cong (suc n) f g h = ap₂ (λ x y. x + y) (sum-cong n f g (λ j l. h j (omega arith))) (h n (omega arith))

-- terms that are at most others
pub sum-most : (n : ℕ) (f g : ℕ → ℕ) → ((j : ℕ) → j < n → f j ≤ g j) → sum_to n f ≤ sum_to n g
unfolding sum_to
sum-most zero f g h = omega arith
sum-most (suc n) f g h = omega (arith, sum-most n f g (λ j l. h j (omega arith)), h n (omega arith))

-- a sum of sums
pub sum_both : (n : ℕ) (f g : ℕ → ℕ) → sum_to n (λ j. f j + g j) ≡ sum_to n f + sum_to n g
unfolding sum_to
sum_both zero f g = refl
sum_both (suc n) f g = omega (arith, sum_both n f g)

-- a sum that is not 0 has a term that is not
pub sum-some : (n : ℕ) (f : ℕ → ℕ) → 1 ≤ sum_to n f → (j : ℕ) × (j < n) × (1 ≤ f j)
unfolding sum_to
sum-some zero f h = absurd (omega arith)
sum-some (suc n) f h = go (ℕ_discrete (f n) 0) (sum-some n f)
  where
    go : Dec (f n ≡ 0) → (1 ≤ sum_to n f → (j : ℕ) × (j < n) × (1 ≤ f j)) → (j : ℕ) × (j < suc n) × (1 ≤ f j)
    go (yes z) ih = let r = ih (omega arith) in (r.0, omega (arith, r.1), r.2)
    go (no s) ih = (n, omega arith, omega arith)

-- terms of at most 1, of which only the one of number g may be 1
pub sum-single : (n g : ℕ) (f : ℕ → ℕ) → ((j : ℕ) → j < n → f j ≤ 1) → ((j : ℕ) → j < n → 1 ≤ f j → j ≡ g) → sum_to n f ≤ 1
unfolding sum_to
sum-single zero g f few only = omega arith
sum-single (suc n) g f few only =
    go (ℕ_discrete (f n) 0) (ℕ_discrete (sum_to n f) 0) (sum-single n g f (λ j l. few j (omega arith)) (λ j l. only j (omega arith)))
  where
    go : Dec (f n ≡ 0) → Dec (sum_to n f ≡ 0) → sum_to n f ≤ 1 → sum_to n f + f n ≤ 1
    go (yes z) d ih = omega arith
    go (no s) (yes z) ih = omega (arith, few n (omega arith))
    go (no s) (no t) ih =
        let r = sum-some n f (omega arith) in
        absurd (omega (arith, r.1, only r.0 (omega (arith, r.1)) r.2, only n (omega arith) (omega arith)))

-- the first terms are at most all
pub sum-front : (n k : ℕ) (f : ℕ → ℕ) → k ≤ n → sum_to k f ≤ sum_to n f
unfolding sum_to
sum-front zero k f l = let z : k ≡ 0 = omega arith in rw z (omega arith)
sum-front (suc n) k f l = go (ℕ_discrete k (suc n)) (sum-front n k f)
  where
    go : Dec (k ≡ suc n) → (k ≤ n → sum_to k f ≤ sum_to n f) → sum_to k f ≤ sum_to n f + f n
    go (yes e) ih = rw e (omega arith)
    go (no ne) ih = omega (arith, ih (omega arith))

-- the term that is left out, and the others
pub without-here : (k : ℕ) (f : ℕ → ℕ) (j : ℕ) → j ≡ k → without k f j ≡ 0
without-here k f j e = ap (λ t. cond t 0 (f j)) (eq-eqb j k e)

pub without-there : (k : ℕ) (f : ℕ → ℕ) (j : ℕ) → (j ≡ k → ⊥) → without k f j ≡ f j
without-there k f j ne = ap (λ t. cond t 0 (f j)) (ne_eqb j k ne)

-- what is left out above the sum changes nothing
without-past : (n k : ℕ) (f : ℕ → ℕ) → n ≤ k → sum_to n (without k f) ≡ sum_to n f
without-past n k f h = sum-cong n (without k f) f (λ j l. without-there k f j (λ e. omega arith))

-- a sum is one of its terms and the others
pub sum-split : (n k : ℕ) (f : ℕ → ℕ) → k < n → sum_to n f ≡ f k + sum_to n (without k f)
unfolding sum_to
sum-split zero k f l = absurd (omega arith)
sum-split (suc n) k f l = go (ℕ_discrete n k) (sum-split n k f)
  where
    go : Dec (n ≡ k) → (k < n → sum_to n f ≡ f k + sum_to n (without k f)) → sum_to n f + f n ≡ f k + (sum_to n (without k f) + without k f n)
    go (yes e) ih = omega (arith, without-past n k f (omega arith), without-here k f n e, ap f e)
    go (no ne) ih = omega (arith, ih (omega arith), without-there k f n ne)

-- one of the terms is at most the sum
pub sum_one : (n : ℕ) (f : ℕ → ℕ) (k : ℕ) → k < n → f k ≤ sum_to n f
sum_one n f k l = omega (arith, sum-split n k f l)

-- the others, where only the term that is left out may differ
pub without-cong : (n k : ℕ) (f g : ℕ → ℕ) → ((j : ℕ) → j < n → (j ≡ k → ⊥) → f j ≡ g j) → sum_to n (without k f) ≡ sum_to n (without k g)
without-cong n k f g h = sum-cong n (without k f) (without k g) (λ j l. let e = h j l in grind (arith, nat_tests))

-- the others are at most all
pub without-most : (n k : ℕ) (f : ℕ → ℕ) → sum_to n (without k f) ≤ sum_to n f
without-most n k f = sum-most n (without k f) f (λ j l. grind (arith, nat_tests))
