-- A whole play goes along with the plain model, move by move, from a new pool on. So what is heard and the worlds after
-- each move are told by the worlds before and the plans of the moves, and two pools that hold the same worlds
-- play on alike. Assumes nothing.
use Prim.Native.Nat.{ℕ}
use mathlib.Core.Path.{◌≡◌, refl, sym, ap, ap₂, ◌∙◌}
use mathlib.Core.List.{List, [], ◌∷◌, map}
use Rattle.model.specs.declared.Limits.{Limits}
use Rattle.model.specs.Call.{Call}
use Rattle.model.specs.Model.{Plan}
use Rattle.model.specs.Pools.{PlainWorld, empty_worlds}
use Rattle.pool.specs.Layout.{capacity_of, worlds_of}
use Rattle.interval_bit_set.specs.Met.{Site}
use Rattle.interval_bit_set.proofs.Simulation.{Holds}
use Rattle.theorems.specs.Plays.{Move, plan_move, plans, Heard, New, rest, move, Plays, left}
use Rattle.theorems.specs.Plays.{move_outcome, worlds_after, over, next, Follows}
use Rattle.theorems.specs.Determinism.{PlayAlike}
use Rattle.theorems.proofs.Moves.{went}

-- ---- a play from a pool that holds the model's worlds
-- a new one holds empty ones
pub new-holds : {C : ℕ} {ls : List Limits} {w : List ℕ} → New C ls w → Holds C (empty_worlds ls) w
new-holds N =
    let E = N.made.left in
    record { sound = E.sound; sized = ap capacity_of E.long ∙ N.sized; held = E.worlds }

-- each move goes along
pub goes-along :
    {C : ℕ} {vs : List PlainWorld} {w : List ℕ} {ms : List (Move (Call Site))} {hs : List Heard} {ws : List (List ℕ)}
    → Holds C vs w → Plays w ms hs ws → Follows C vs w ms hs ws
goes-along H rest = over
goes-along {C = C} {vs = vs} H (move {m = m} s p) =
    let W = went H s in
    next W.told (goes-along {C = C} {vs = (move_outcome C vs (plan_move m)).worlds} W.holds p)

-- the pool in the end
pub left-after :
    {C : ℕ} {vs : List PlainWorld} {w : List ℕ} {ms : List (Move (Call Site))} {hs : List Heard} {ws : List (List ℕ)}
    → Holds C vs w → Plays w ms hs ws → Holds C (worlds_after C vs (plans ms)) (left w ws)
left-after H rest = H
left-after {C = C} {vs = vs} H (move {m = m} s p) =
    left-after {C = C} {vs = (move_outcome C vs (plan_move m)).worlds} (went H s).holds p

-- ---- what the model says of a list of moves
-- what is heard
abbrev heards : ℕ → List PlainWorld → List (Move Plan) → List Heard
heards C vs [] = []
heards C vs (m ∷ ms) = (move_outcome C vs m).heard ∷ heards C (move_outcome C vs m).worlds ms

-- the worlds after each
abbrev stages : ℕ → List PlainWorld → List (Move Plan) → List (List PlainWorld)
stages C vs [] = []
stages C vs (m ∷ ms) = (move_outcome C vs m).worlds ∷ stages C (move_outcome C vs m).worlds ms

-- that is what a play gives which goes along
told-all :
    {C : ℕ} {vs : List PlainWorld} {w : List ℕ} {ms : List (Move (Call Site))} {hs : List Heard} {ws : List (List ℕ)}
    → Follows C vs w ms hs ws → (hs ≡ heards C vs (plans ms)) × (map worlds_of ws ≡ stages C vs (plans ms))
told-all over = (refl, refl)
told-all (next t f) =
    let r = told-all f in (
      ap₂ {C = List Heard} (λ h l. h ∷ l) t.heard r.0,
      ap₂ {C = List (List PlainWorld)} (λ v l. v ∷ l) t.worlds r.1,
    )

-- ---- so pools that hold the same worlds play on alike
pub play-alike : {C : ℕ} {us : List PlainWorld} {w v : List ℕ} → Holds C us w → Holds C us v → PlayAlike w v
play-alike {C} {us} H K ms ns hs gs ws vs e p q =
    let a = told-all (goes-along H p) in
    let b = told-all (goes-along K q) in
    (a.0 ∙ ap (heards C us) e ∙ sym b.0, a.1 ∙ ap (stages C us) e ∙ sym b.1)
