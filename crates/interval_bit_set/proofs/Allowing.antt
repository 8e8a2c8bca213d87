-- How many runs a world may have does not depend on what it holds: only its ceiling, the capacity and what the others claim say it. Assumes nothing.
use Rattle.std.proofs.Common.{◌≡◌, ℕ, zero, suc, ◌+◌, List, [], ◌∷◌, length, refl, ap, ap₂, ◌∙◌}
use Rattle.model.specs.Pools
use Rattle.model.specs.Pools.{PlainWorld, world_of, claim, other_claims, holding_at, allowance_of}
use Rattle.model.specs.Positions.{Positions}
use Rattle.pool.specs.Layout.{capacity_of, capacity, allowance, worlds_of}

-- what the others claim
pub others-holding : (i : ℕ) (P : Positions) (ws : List PlainWorld) → other_claims (holding_at i P ws) i ≡ other_claims ws i
unfolding holding_at other_claims
others-holding i P [] = refl
others-holding zero P (x ∷ ws) = refl
others-holding (suc i) P (x ∷ ws) = ap (λ n. claim x + n) (others-holding i P ws)

-- and the ceiling
ceiling-holding : (C n i : ℕ) (P : Positions) (ws : List PlainWorld)
    → allowance_of C n (world_of (holding_at i P ws) i) ≡ allowance_of C n (world_of ws i)
unfolding holding_at
ceiling-holding C n i P [] = refl
ceiling-holding C n zero P (x ∷ ws) = refl
ceiling-holding C n (suc i) P (x ∷ ws) = ceiling-holding C n i P ws

-- so where a world alone has other positions, it may have as many runs as before
pub allowance-after : (w w' : List ℕ) (i : ℕ) (P : Positions) → length w' ≡ length w → worlds_of w' ≡ holding_at i P (worlds_of w)
    → allowance w' i ≡ allowance w i
unfolding allowance Pools.allowance
allowance-after w w' i P e G =
    ap₂ (λ C ws. Pools.allowance C ws i) (ap capacity_of e) G
    ∙ ap (λ n. allowance_of (capacity w) n (world_of (holding_at i P (worlds_of w)) i)) (others-holding i P (worlds_of w))
    ∙ ceiling-holding (capacity w) (other_claims (worlds_of w) i) i P (worlds_of w)
