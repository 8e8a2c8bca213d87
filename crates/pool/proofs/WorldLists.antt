-- The worlds of a pool as a list: which one has a number, what they claim together, and when two lists are the same. Assumes nothing.
use Rattle.pool.proofs.Base.{◌≡◌, ℕ, zero, suc, ◌+◌, ◌<◌, ◌≤◌, List, ◌∷◌, sym, refl, ap, ◌∙◌, ap₂, arith, ℕ_discrete, Positions, PlainWorld, claim, claims, other_claims, opened_at, plain_at}
use Rattle.pool.proofs.Base.{worlds_from, worlds_of, sum_to, without}
use Rattle.std.specs.Prelude.{None, Some}
use Rattle.model.specs.Pools.{world_of, with_positions, holding_at}
use Rattle.pool.proofs.Sums.{sum_more, sum-nothing, sum-cong, without-here, without-there, without-cong}

-- what world k + j claims
abbrev claim_from : List ℕ → ℕ → ℕ → ℕ
claim_from w k j = claim (plain_at w (k + j))

-- ---- sums from the front
-- a sum, its first term apart
sum_first : (n : ℕ) (f : ℕ → ℕ) → sum_to (suc n) f ≡ f 0 + sum_to n (λ j. f (suc j))
sum_first zero f = omega (arith, sum_more 0 f, sum-nothing f, sum-nothing (λ j. f (suc j)))
sum_first (suc n) f = omega (arith, sum_more (suc n) f, sum_first n f, sum_more n (λ j. f (suc j)))

-- ---- n worlds from world k on
-- the one of number i
pub world-from : (w : List ℕ) (k n i : ℕ) → i < n → world_of (worlds_from w k n) i ≡ Some (plain_at w (k + i))
unfolding worlds_from
world-from w k zero i l = absurd (omega arith)
world-from w k (suc n) zero l = ap (λ j. Some (plain_at w j)) (omega arith)
world-from w k (suc n) (suc i) l = world-from w (suc k) n i (omega arith) ∙ ap (λ j. Some (plain_at w j)) (omega arith)

-- there are no others
pub world-none : (w : List ℕ) (k n i : ℕ) → n ≤ i → world_of (worlds_from w k n) i ≡ None
unfolding worlds_from
world-none w k zero i l = refl
world-none w k (suc n) zero l = absurd (omega arith)
world-none w k (suc n) (suc i) l = world-none w (suc k) n i (omega arith)

-- what they claim
pub claims-from : (w : List ℕ) (k n : ℕ) → claims (worlds_from w k n) ≡ sum_to n (λ j. claim (plain_at w (k + j)))
unfolding worlds_from claims
claims-from w k zero = sym (sum-nothing (claim_from w k))
claims-from w k (suc n) =
    omega (
      arith,
      claims-from w (suc k) n,
      sum_first n (claim_from w k),
      sum-cong n (claim_from w (suc k)) (λ j. claim_from w k (suc j)) (λ j l. ap (λ m. claim (plain_at w m)) (omega arith)),
      ap (λ m. claim (plain_at w m)) (let e : k + 0 ≡ k = omega arith in e),
    )

-- what the first n claim
pub claims-first : (w : List ℕ) (n : ℕ) → claims (worlds_from w 0 n) ≡ sum_to n (λ j. claim (plain_at w j))
claims-first w n =
    claims-from w 0 n ∙ sum-cong n (claim_from w 0) (λ j. claim (plain_at w j)) (λ j l. ap (λ m. claim (plain_at w m)) (omega arith))

-- what all but world i claim
pub others-from : (w : List ℕ) (k n i : ℕ) → i < n → other_claims (worlds_from w k n) i ≡ sum_to n (without i (λ j. claim (plain_at w (k + j))))
unfolding worlds_from other_claims
others-from w k zero i l = absurd (omega arith)
others-from w k (suc n) zero l =
    omega (
      arith,
      claims-from w (suc k) n,
      sum_first n (without 0 (claim_from w k)),
      without-here 0 (claim_from w k) 0 refl,
      sum-cong n (claim_from w (suc k)) (λ j. without 0 (claim_from w k) (suc j))
          (λ j l. ap (λ m. claim (plain_at w m)) (omega arith) ∙ sym (without-there 0 (claim_from w k) (suc j) (λ e. omega arith))),
    )
others-from w k (suc n) (suc i) l =
    omega (
      arith,
      others-from w (suc k) n i (omega arith),
      sum_first n (without (suc i) (claim_from w k)),
      without-there (suc i) (claim_from w k) 0 (λ e. omega arith) ∙ ap (λ m. claim (plain_at w m)) (let e : k + 0 ≡ k = omega arith in e),
      sum-cong n (without i (claim_from w (suc k))) (λ j. without (suc i) (claim_from w k) (suc j)) (λ j l. shifted j (ℕ_discrete j i)),
    )
  where
    shifted : (j : ℕ) → Dec (j ≡ i) → without i (claim_from w (suc k)) j ≡ without (suc i) (claim_from w k) (suc j)
    shifted j (yes e) = without-here i (claim_from w (suc k)) j e ∙ sym (without-here (suc i) (claim_from w k) (suc j) (ap suc e))
    shifted j (no ne) =
        without-there i (claim_from w (suc k)) j ne ∙ ap (λ m. claim (plain_at w m)) (omega arith)
        ∙ sym (without-there (suc i) (claim_from w k) (suc j) (λ e. ne (omega arith)))

-- two pools whose worlds are the same one by one
pub worlds-same : (w v : List ℕ) (k n : ℕ) → ((j : ℕ) → k ≤ j → j < k + n → plain_at w j ≡ plain_at v j) → worlds_from w k n ≡ worlds_from v k n
unfolding worlds_from
worlds-same w v k zero h = refl
worlds-same w v k (suc n) h =
    ap₂ {C = List PlainWorld} (λ x xs. x ∷ xs) (h k (omega arith) (omega arith)) (worlds-same w v (suc k) n (λ j l m. h j (omega arith) (omega arith)))

-- two pools whose worlds are the same but for the positions of world i, which are P in one
pub worlds-but : (w v : List ℕ) (k n i : ℕ) (P : Positions) → i < n → plain_at w (k + i) ≡ with_positions (plain_at v (k + i)) P
    → ((j : ℕ) → k ≤ j → j < k + n → (j ≡ k + i → ⊥) → plain_at w j ≡ plain_at v j) → worlds_from w k n ≡ holding_at i P (worlds_from v k n)
unfolding worlds_from holding_at
worlds-but w v k zero i P l e h = absurd (omega arith)
worlds-but w v k (suc n) zero P l e h =
    let z : k + 0 ≡ k = omega arith in
    ap₂ {C = List PlainWorld} (λ x xs. x ∷ xs) (ap (plain_at w) (sym z) ∙ e ∙ ap (λ m. with_positions (plain_at v m) P) z)
    (worlds-same w v (suc k) n (λ j a b. h j (omega arith) (omega arith) (λ q. omega arith)))
worlds-but w v k (suc n) (suc i) P l e h =
    let z : k + suc i ≡ suc k + i = omega arith in
    ap₂ {C = List PlainWorld} (λ x xs. x ∷ xs) (h k (omega arith) (omega arith) (λ q. omega arith))
    (worlds-but w v (suc k) n i P (omega arith) (ap (plain_at w) (sym z) ∙ e ∙ ap (λ m. with_positions (plain_at v m) P) z) (λ j a b ne. h j (omega arith) (omega arith) (λ q. ne (omega arith))))

-- ---- all opened worlds
module _ (w : List ℕ) where
  pub opened-world : (i : ℕ) → i < opened_at w → world_of (worlds_of w) i ≡ Some (plain_at w i)
  unfolding worlds_of
  opened-world i l = world-from w 0 (opened_at w) i l ∙ ap (λ j. Some (plain_at w j)) (omega arith)

  pub unopened-world : (i : ℕ) → opened_at w ≤ i → world_of (worlds_of w) i ≡ None
  unfolding worlds_of
  unopened-world i l = world-none w 0 (opened_at w) i l

  pub claims-all : claims (worlds_of w) ≡ sum_to (opened_at w) (λ j. claim (plain_at w j))
  unfolding worlds_of
  claims-all = claims-first w (opened_at w)

  pub claims-others : (i : ℕ) → i < opened_at w → other_claims (worlds_of w) i ≡ sum_to (opened_at w) (without i (λ j. claim (plain_at w j)))
  unfolding worlds_of
  claims-others i l =
      others-from w 0 (opened_at w) i l
      ∙ without-cong (opened_at w) i (λ j. claim (plain_at w (0 + j))) (λ j. claim (plain_at w j)) (λ j l ne. ap (λ m. claim (plain_at w m)) (omega arith))
