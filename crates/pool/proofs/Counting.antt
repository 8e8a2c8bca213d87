-- The nodes of some trees and of a list, counted by their numbers: the counts of the numbers 1 .. n add up to the number of nodes, so if no
-- number stands twice and there are n nodes, each number stands once. Assumes nothing.
use Rattle.pool.proofs.Base.{◌≡◌, ℕ, zero, suc, ◌+◌, ◌<◌, ◌≤◌, List, [], ◌∷◌, length, refl, ap, ◌∙◌, arith, ℕ_discrete, Tree, leaf, node, runs, δ, count, times, δ-same, δ-other, sum_to}
use Rattle.pool.proofs.Sums.{sum-cong}

-- the sum of f over 1 .. n
abbrev pub sum : ℕ → (ℕ → ℕ) → ℕ
sum zero f = 0
sum (suc n) f = sum n f + f (suc n)

-- a sum of sums
sum-add : (n : ℕ) (f g : ℕ → ℕ) → sum n (λ m. f m + g m) ≡ sum n f + sum n g
sum-add zero f g = refl
sum-add (suc n) f g = omega (arith, sum-add n f g)

-- a sum of zeros
sum-zero : (n : ℕ) → sum n (λ m. 0) ≡ 0
sum-zero zero = refl
sum-zero (suc n) = omega (arith, sum-zero n)

-- the sum of δ m k over the m from 1 to n, where k is above n
sum-none : (n k : ℕ) → n < k → sum n (λ m. δ m k) ≡ 0
sum-none zero k h = refl
sum-none (suc n) k h = omega (arith, sum-none n k (omega arith), δ-other (suc n) k (λ (e : suc n ≡ k). omega arith))

-- and where it is one of them
sum-δ : (n k : ℕ) → 1 ≤ k → k ≤ n → sum n (λ m. δ m k) ≡ 1
sum-δ zero k p h = absurd (omega arith)
sum-δ (suc n) k p h = go (ℕ_discrete (suc n) k) (sum-δ n k p)
  where
    go : Dec (suc n ≡ k) → (k ≤ n → sum n (λ m. δ m k) ≡ 1) → sum n (λ m. δ m k) + δ (suc n) k ≡ 1
    go (yes e) ih = omega (arith, sum-none n k (omega arith), ap (λ (j : ℕ). δ j k) e, δ-same k)
    go (no ne) ih = omega (arith, ih (omega arith), δ-other (suc n) k ne)

-- a sum of terms of at most 1
sum-few : (n : ℕ) (f : ℕ → ℕ) → ((m : ℕ) → f m ≤ 1) → sum n f ≤ n
sum-few zero f h = omega arith
sum-few (suc n) f h = omega (arith, sum-few n f h, h (suc n))

-- if it comes to n, each is 1
sum-full : (n : ℕ) (f : ℕ → ℕ) → ((m : ℕ) → f m ≤ 1) → sum n f ≡ n → (m : ℕ) → 1 ≤ m → m ≤ n → f m ≡ 1
sum-full zero f h e m p q = absurd (omega arith)
sum-full (suc n) f h e m p q = go (ℕ_discrete m (suc n)) (sum-full n f h)
  where
    go : Dec (m ≡ suc n) → (sum n f ≡ n → (m : ℕ) → 1 ≤ m → m ≤ n → f m ≡ 1) → f m ≡ 1
    go (yes i) ih = omega (arith, sum-few n f h, h (suc n), ap f i)
    go (no ne) ih = ih (omega (arith, sum-few n f h, h (suc n))) m p (omega arith)

-- each number of the tree is one of 1 .. n
abbrev pub Among : ℕ → (ℕ → ℕ) → Type 0
Among n f = (m : ℕ) → 1 ≤ f m → (1 ≤ m) × (m ≤ n)

-- the counts of a tree add up to its nodes
sum-count : (n : ℕ) (t : Tree) → Among n (λ m. count m t) → sum n (λ m. count m t) ≡ runs t
sum-count n leaf h = sum-zero n
sum-count n (node k a b l r) h =
    let p = h k (omega (arith, δ-same k)) in
    omega (
      arith,
      sum-add n (λ m. δ m k) (λ m. count m l + count m r),
      sum-add n (λ m. count m l) (λ m. count m r),
      sum-δ n k p.0 p.1,
      sum-count n l (λ m i. h m (omega arith)),
      sum-count n r (λ m i. h m (omega arith)),
    )

-- and those of a list to its length
pub sum-times : (n : ℕ) (ks : List ℕ) → Among n (λ m. times m ks) → sum n (λ m. times m ks) ≡ length ks
sum-times n [] h = sum-zero n
sum-times n (k ∷ ks) h =
    let p = h k (omega (arith, δ-same k)) in
    omega (arith, sum-add n (λ m. δ m k) (λ m. times m ks), sum-δ n k p.0 p.1, sum-times n ks (λ m i. h m (omega arith)))

-- a sum over numbers and worlds, in either order
sum-swap : (n k : ℕ) (f : ℕ → ℕ → ℕ) → sum n (λ m. sum_to k (f m)) ≡ sum_to k (λ j. sum n (λ m. f m j))
unfolding sum_to
sum-swap n zero f = sum-zero n
sum-swap n (suc k) f = omega (arith, sum-add n (λ m. sum_to k (f m)) (λ m. f m k), sum-swap n k f)

module _ (n k : ℕ) (ts : ℕ → Tree) (ks : List ℕ) (ht : (j : ℕ) → j < k → Among n (λ m. count m (ts j))) (hk : Among n (λ m. times m ks)) where
  -- the counts of the first k trees add up to their nodes
  sum-counts : sum n (λ m. sum_to k (λ j. count m (ts j))) ≡ sum_to k (λ j. runs (ts j))
  sum-counts =
      sum-swap n k (λ m j. count m (ts j))
      ∙ sum-cong k (λ j. sum n (λ m. count m (ts j))) (λ j. runs (ts j)) (λ j l. sum-count n (ts j) (ht j l))

  -- those of the trees and the list, to all nodes
  total : sum n (λ m. sum_to k (λ j. count m (ts j)) + times m ks) ≡ sum_to k (λ j. runs (ts j)) + length ks
  total = omega (arith, sum-add n (λ m. sum_to k (λ j. count m (ts j))) (λ m. times m ks), sum-counts, sum-times n ks hk)

  -- n nodes, none twice: each number stands once
  pub each-once : ((m : ℕ) → sum_to k (λ j. count m (ts j)) + times m ks ≤ 1) → sum_to k (λ j. runs (ts j)) + length ks ≡ n
      → (m : ℕ) → 1 ≤ m → m ≤ n → sum_to k (λ j. count m (ts j)) + times m ks ≡ 1
  each-once h e = sum-full n (λ m. sum_to k (λ j. count m (ts j)) + times m ks) h (total ∙ e)
