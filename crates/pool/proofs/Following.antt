-- The free chain is decided by following it. Assumes nothing.
use Rattle.pool.proofs.Base.{◌≡◌, ℕ, zero, suc, ◌+◌, ◌-◌, ◌≤◌, true, List, [], ◌∷◌, length, refl, ap, arith, eq-eqb, eqb-true, le-leb, nat_tests, and-holds, cell_at, Chain, free_b, chain_b, rest_b}
use Rattle.pool.proofs.Truths.{both-in}
use Rattle.pool.proofs.Tests.{free-out, free_in}

-- what is followed to its end is a chain
chained : (c : ℕ) (w : List ℕ) (k : ℕ) → chain_b c w k ≡ true → (ns : List ℕ) × Chain w k ns × (length ns ≡ c)
unfolding chain_b
chained zero w k e = ([], eqb-true k 0 e, refl)
chained (suc c) w k e =
    let p = and-holds _ _ e in
    let f = free-out w k p.0 in
    let r = chained c w (cell_at w k).left p.1 in
    (k ∷ r.0, (refl, f.some, f.room, f.zeros, r.1), ap suc r.2)

-- and a chain is followed to its end
followed : (w : List ℕ) (k : ℕ) (ns : List ℕ) → Chain w k ns → chain_b (length ns) w k ≡ true
unfolding chain_b
followed w k [] c = eq-eqb k 0 c
followed w k (n ∷ ns) c =
    let e : k ≡ n = c.0 in
    rw e (both-in (free_b w n) (chain_b (length ns) w (cell_at w n).left)
    (free_in w n (record { some = c.1; room = c.2; zeros = c.3 }))
    (followed w (cell_at w n).left ns c.4))

-- the free chain from f has the nodes that trees with r of n nodes leave
pub record Rest (w : List ℕ) (n r f : ℕ) : Type 0 where
  pub ns : List ℕ
  pub chain : Chain w f ns
  pub many : r + length ns ≡ n

-- what the test of the rest says
pub rest_b-yes : (w : List ℕ) (n r f : ℕ) → rest_b w n r f ≡ true → Rest w n r f
unfolding rest_b
rest_b-yes w n r f e =
    let p : (r ≤ n) × (chain_b (n - r) w f ≡ true) = grind (arith, nat_tests) in
    let c = chained (n - r) w f p.1 in
    record { ns = c.0; chain = c.1; many = omega (arith, c.2, p.0) }

-- and back
pub rest_b-no : (w : List ℕ) (n r f : ℕ) → Rest w n r f → rest_b w n r f ≡ true
unfolding rest_b
rest_b-no w n r f R =
    let many : length R.ns ≡ n - r = omega (arith, R.many) in
    both-in _ _ (le-leb r n (omega (arith, R.many))) (rw (← many) (followed w f R.ns R.chain))
