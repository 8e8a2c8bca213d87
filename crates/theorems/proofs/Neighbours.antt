-- What a world learns of its neighbours: what the plain model says of a call on world i depends on that world and on the
-- sum of what the others claim, and on nothing else. A call on world i leaves that sum, and one on a neighbour leaves world
-- i: so lists of calls on world i are answered alike, if the sums are the same after the calls in between. Assumes nothing.
use Rattle.std.specs.Prelude.{Option, None, Some}
use Prim.Native.Nat.{ℕ, zero, suc}
use mathlib.Core.Path.{◌≡◌, refl, sym, ap, ap₂, ◌∙◌}
use mathlib.Core.List.{List, [], ◌∷◌}
use Rattle.model.specs.Positions.{Positions}
use Rattle.model.specs.Call.{Call, Answer}
use Rattle.model.specs.Model.{Plan, plan, serve}
use Rattle.model.specs.Pools.{PlainWorld, world_of, fed_by, other_claims, exceeds, full, with_positions, holding_at, serve_at, step}
use Rattle.pool.specs.Layout.{worlds_of}
use Rattle.interval_bit_set.specs.Met.{Site, fed_at, Met}
use Rattle.interval_bit_set.proofs.Allowing.{others-holding}
use Rattle.interval_bit_set.proofs.Simulation.{Holds, answer-is, step-holds}
use Rattle.theorems.specs.Beside.{Neighbours, Beside}

-- a world with other positions, if there is one
abbrev replaced : Positions → Option PlainWorld → Option PlainWorld
replaced P None = None
replaced P (Some x) = Some (with_positions x P)

-- ---- world i alone, and the sum of what the others claim
-- what the model says of a call on it
serve-alike : (C : ℕ) (us vs : List PlainWorld) (i : ℕ) (c : Plan) → world_of us i ≡ world_of vs i → other_claims us i ≡ other_claims vs i → serve_at C us i c ≡ serve_at C vs i c
unfolding serve_at full
serve-alike C us vs i c e f = ap₂ (λ o n. serve (exceeds C n o) (fed_by o) c) e f

-- the world that a call leaves
world-left : (ws : List PlainWorld) (i : ℕ) (P : Positions) → world_of (holding_at i P ws) i ≡ replaced P (world_of ws i)
unfolding holding_at
world-left [] i P = refl
world-left (y ∷ ws) zero P = refl
world-left (y ∷ ws) (suc i) P = world-left ws i P

-- so two pools that agree in these answer it alike, and leave world i alike
pub alike : {C : ℕ} {us vs : List PlainWorld} {w v : List ℕ} (i : ℕ) {c d : Call Site} {a b : Answer} {w' v' : List ℕ} → Holds C us w → Holds C vs v
    → world_of us i ≡ world_of vs i → other_claims us i ≡ other_claims vs i → plan fed_at c ≡ plan fed_at d → Met w i c a w' → Met v i d b v'
    → (a ≡ b) × (world_of (worlds_of w') i ≡ world_of (worlds_of v') i)
unfolding step
alike {C} {us} {vs} i {c} {d} H K e f g m n =
    let o = serve-alike C us vs i (plan fed_at c) e f ∙ ap (serve_at C vs i) g in (
      answer-is H m ∙ ap (λ p. p.answer) o ∙ sym (answer-is K n),
      ap (λ l. world_of l i) (step-holds H m).held
          ∙ world-left us i (serve_at C us i (plan fed_at c)).positions
          ∙ ap₂ (λ p x. replaced p.positions x) o e
          ∙ sym (world-left vs i (serve_at C vs i (plan fed_at d)).positions)
          ∙ sym (ap (λ l. world_of l i) (step-holds K n).held),
    )

-- ---- lists of calls
-- a call leaves a sound pool of the capacity that it had
met-holds : {C : ℕ} {w w' : List ℕ} {j : ℕ} {c : Call Site} {a : Answer}
    → Holds C (worlds_of w) w → Met w j c a w' → Holds C (worlds_of w') w'
met-holds H m = let K = step-holds H m in record { sound = K.sound; sized = K.sized; held = refl }

-- one on world i, the sum of what the others claim
sum-stays : {C : ℕ} {w w' : List ℕ} {i : ℕ} {c : Call Site} {a : Answer}
    → Holds C (worlds_of w) w → Met w i c a w' → other_claims (worlds_of w') i ≡ other_claims (worlds_of w) i
unfolding step
sum-stays {C} {w} {i = i} {c} H m =
    let o = serve_at C (worlds_of w) i (plan fed_at c) in
    ap (λ l. other_claims l i) (step-holds H m).held ∙ others-holding i o.positions (worlds_of w)

-- other worlds than that which a call is on are left
holding-other : (i j : ℕ) (P : Positions) (ws : List PlainWorld) → (i ≡ j → ⊥)
    → world_of (holding_at j P ws) i ≡ world_of ws i
unfolding holding_at
holding-other i j P [] ne = refl
holding-other zero zero P (x ∷ ws) ne = absurd (ne refl)
holding-other (suc i) zero P (x ∷ ws) ne = refl
holding-other zero (suc j) P (x ∷ ws) ne = refl
holding-other (suc i) (suc j) P (x ∷ ws) ne = holding-other i j P ws (λ e. ne (ap suc e))

-- so calls on the neighbours leave a sound pool, and world i of it
neighbours-leave : {C i : ℕ} {w w' : List ℕ} → Holds C (worlds_of w) w → Neighbours i w w'
    → Holds C (worlds_of w') w' × (world_of (worlds_of w') i ≡ world_of (worlds_of w) i)
unfolding step
neighbours-leave H Neighbours.none = (H, refl)
neighbours-leave {C} {i} {w} H (Neighbours.call {j = j} {c} ne m N) =
    let o = serve_at C (worlds_of w) j (plan fed_at c) in
    let r = neighbours-leave (met-holds H m) N in
    (r.0, r.1 ∙ ap (λ l. world_of l i) (step-holds H m).held ∙ holding-other i j o.positions (worlds_of w) ne)

-- two pools that agree in world i and in that sum answer the calls on world i alike, and leave it alike
pub all-alike : {C i : ℕ} {w v : List ℕ} {rs qs : List Answer} {w' v' : List ℕ}
    → Holds C (worlds_of w) w → Holds C (worlds_of v) v
    → world_of (worlds_of w) i ≡ world_of (worlds_of v) i → other_claims (worlds_of w) i ≡ other_claims (worlds_of v) i
    → Beside i w v rs qs w' v'
    → (rs ≡ qs) × (world_of (worlds_of w') i ≡ world_of (worlds_of v') i)
all-alike H K e f Beside.rest = (refl, e)
all-alike {i = i} H K e f (Beside.call g m n B) =
    let a = alike i H K e f g m n in
    let r = all-alike (met-holds H m) (met-holds K n) a.1 (sum-stays H m ∙ f ∙ sym (sum-stays K n)) B in
    (ap₂ (λ x xs. x ∷ xs) a.0 r.0, r.1)
all-alike H K e f (Beside.others N M g B) =
    let x = neighbours-leave H N in
    let y = neighbours-leave K M in
    all-alike x.0 y.0 (x.1 ∙ e ∙ sym y.1) g B
