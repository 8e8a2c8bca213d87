-- Any two calls, over what they promise: reports of one pool, calls on two worlds of one pool, and a call before one that overwrites its world.
-- Assumes nothing.
use Prim.Native.Nat.{ℕ, zero, suc}
use mathlib.Core.Path.{◌≡◌, refl, sym, ap, ap₂, ◌∙◌, subst}
use mathlib.Core.List.{List, [], ◌∷◌}
use Rattle.model.specs.Positions.{Positions}
use Rattle.model.specs.Call.{holding, Call, Result, Answer, refused, gave}
use Rattle.model.specs.Model.{Plan, plan, left_by, serve}
use Rattle.model.specs.Pools.{PlainWorld, holding_at}
use Rattle.pool.specs.Layout.{capacity_of, capacity, held_by, worlds_of}
use Rattle.interval_bit_set.specs.Met.{Site, fed_at, full_at, outcome_of, Readable, Met}
use Rattle.interval_bit_set.proofs.Giving.{given-readable, given-settled, given-is}
use Rattle.interval_bit_set.proofs.Simulation.{Holds}
use Rattle.interval_bit_set.proofs.Simulation
use Rattle.theorems.specs.Swaps.{reporting, overwriting, kind}
use Rattle.theorems.proofs.Doing.{given-gets, full-now, gets-again, gets-as, gets_back, readable-now, held-other}
use Rattle.theorems.proofs.Serving.{kind-stays, over-answer, over-positions}

-- ---- two worlds of one pool
-- given in either order, they hold the same
holding-swap : (i j : ℕ) (P Q : Positions) (ws : List PlainWorld) → (i ≡ j → ⊥) → holding_at j Q (holding_at i P ws) ≡ holding_at i P (holding_at j Q ws)
unfolding holding_at
holding-swap i j P Q [] ne = refl
holding-swap zero zero P Q (x ∷ ws) ne = absurd (ne refl)
holding-swap zero (suc j) P Q (x ∷ ws) ne = refl
holding-swap (suc i) zero P Q (x ∷ ws) ne = refl
holding-swap (suc i) (suc j) P Q (x ∷ ws) ne = ap (λ l. x ∷ l) (holding-swap i j P Q ws (λ e. ne (ap suc e)))

-- a call on world i leaves what world j holds, so a call on that does the same before it and after it
held-same : {w w₁ w₂ v : List ℕ} {i j : ℕ} {c d : Call Site} {r q q' : Result} → (i ≡ j → ⊥) → Met w i c (gave r) w₁ → Met w₁ j d (gave q) w₂ → Met w j d (gave q') v
    → held_by w₁ j ≡ held_by w j
held-same {j = j} ne m n k = held-other (given-readable m) (given-settled m) j (given-readable k) (λ e. ne (sym e))

pub worlds-either : {w w₁ w₂ v₁ v₂ : List ℕ} {i j : ℕ} (c d : Call Site) {r q r' q' : Result} → (i ≡ j → ⊥) → Met w i c (gave r) w₁ → Met w₁ j d (gave q) w₂
    → Met w j d (gave q') v₁ → Met v₁ i c (gave r') v₂ → (r ≡ r') × (q ≡ q') × (worlds_of w₂ ≡ worlds_of v₂)
worlds-either {w} {i = i} {j} c d ne m n k l =
    let p : Plan = plan fed_at c in
    let o : Plan = plan fed_at d in
    let e = held-same ne m n k in
    let f = held-same (λ z. ne (sym z)) k l m in (
      given-is m ∙ sym (given-is l ∙ ap p.gives f),
      given-is n ∙ ap o.gives e ∙ sym (given-is k),
      (given-gets n).worlds ∙ ap₂ (λ P ws. holding_at j (left_by o.effect P) ws) e (given-gets m).worlds
          ∙ holding-swap i j (left_by p.effect (held_by w i)) (left_by o.effect (held_by w j)) (worlds_of w) ne
          ∙ sym ((given-gets l).worlds ∙ ap₂ (λ P ws. holding_at i (left_by p.effect P) ws) f (given-gets k).worlds),
    )

-- ---- one that overwrites its world
-- what the model says of a call on a world that can be read
says : {w : List ℕ} {i : ℕ} (d : Call Site) → Readable w i → outcome_of w i d ≡ serve (full_at w i) (holding (held_by w i)) (plan fed_at d)
unfolding outcome_of
says {w} {i} d R = ap (λ s. serve (full_at w i) s (plan fed_at d)) R.fed

-- after any call it answers as without that
answers-same : {w w₁ : List ℕ} {i : ℕ} (c d : Call Site) → kind d ≡ overwriting → (a : Answer) → Met w i c a w₁ → (outcome_of w₁ i d).answer ≡ (outcome_of w i d).answer
answers-same {i = i} c d o (refused n) m = ap (λ z. (outcome_of z i d).answer) m.left
answers-same {w} {w₁} {i} c d o (gave r) m =
    let R = given-readable m in
    let S = given-settled m in
    ap (λ p. p.answer) (says d (readable-now R S i R))
    ∙ ap (λ f. (serve f (holding (held_by w₁ i)) (plan fed_at d)).answer) (full-now S.long (given-gets m))
    ∙ over-answer (full_at w i) (held_by w₁ i) (held_by w i) d o
    ∙ sym (ap (λ p. p.answer) (says d R))

-- and leaves the same worlds, if it is not refused
leaves-same : {w w₁ w₂ v : List ℕ} {i : ℕ} (c d : Call Site) {q q' : Result} → kind d ≡ overwriting → (a : Answer) → Met w i c a w₁ → Met w₁ i d (gave q) w₂ → Met w i d (gave q') v
    → worlds_of w₂ ≡ worlds_of v
leaves-same {i = i} c d o (refused x) m n k =
    (given-gets n).worlds ∙ ap (λ z. holding_at i (left_by (plan fed_at d).effect (held_by z i)) (worlds_of z)) m.left ∙ sym (given-gets k).worlds
leaves-same {w} {w₁} {i = i} c d o (gave r) m n k =
    (gets-again (given-gets m) (given-gets n)).worlds
    ∙ ap (λ P. holding_at i P (worlds_of w)) (over-positions (plan fed_at d).effect (held_by w₁ i) (held_by w i) o)
    ∙ sym (given-gets k).worlds

pub needless : {w w₁ w₂ v : List ℕ} {i : ℕ} (c d : Call Site) {a b b' : Answer} → kind d ≡ overwriting → Met w i c a w₁ → Met w₁ i d b w₂ → Met w i d b' v
    → (b ≡ b') × ((q : Result) → b ≡ gave q → worlds_of w₂ ≡ worlds_of v)
needless {w} {w₁} {w₂} {v} {i} c d {a} {b} {b'} o m n k =
    let e : b ≡ b' = n.answered ∙ answers-same c d o a m ∙ sym k.answered in
    (e, λ q f. leaves-same c d o a m (subst (λ z. Met w₁ i d z w₂) f n) (subst (λ z. Met w i d z v) (sym e ∙ f) k))

-- ---- reports
-- the words v are w, or a sound pool with its capacity and its worlds, as w is
pub data Alike (w v : List ℕ) : Type 0 where
  same : v ≡ w → Alike w v
  pools : Holds (capacity w) (worlds_of w) w → Holds (capacity w) (worlds_of w) v → Alike w v

-- a report leaves it so
report-alike : {w : List ℕ} {i : ℕ} (c : Call Site) (a : Answer) {w' : List ℕ} → kind c ≡ reporting → Met w i c a w' → Alike w w'
report-alike c (refused n) e m = same m.left
report-alike {w} {i} c (gave r) e m =
    let R = given-readable m in
    let S = given-settled m in
    let G = gets-as (given-gets m) (ap (λ d. left_by d (held_by w i)) (kind-stays (plan fed_at c).effect e)) in
    pools (record { sound = R.openable.sound; sized = refl; held = refl }) (record { sound = S.sound; sized = ap capacity_of S.long; held = gets_back R G })

-- so every call says the same of it
alike-says : {w v : List ℕ} → Alike w v → (i : ℕ) (c : Call Site) → outcome_of v i c ≡ outcome_of w i c
alike-says (same e) i c = ap (λ z. outcome_of z i c) e
alike-says (pools H K) i c = Simulation.outcome-is K i c ∙ sym (Simulation.outcome-is H i c)

alike-worlds : {w v : List ℕ} → Alike w v → worlds_of v ≡ worlds_of w
alike-worlds (same e) = ap worlds_of e
alike-worlds (pools H K) = K.held

pub reports-either : {w w₁ w₂ v₁ v₂ : List ℕ} {i j : ℕ} (c d : Call Site) {a b a' b' : Answer} → kind c ≡ reporting → kind d ≡ reporting → Met w i c a w₁ → Met w₁ j d b w₂
    → Met w j d b' v₁ → Met v₁ i c a' v₂ → (a ≡ a') × (b ≡ b') × (worlds_of w₂ ≡ worlds_of w) × (worlds_of v₂ ≡ worlds_of w)
reports-either {i = i} {j} c d {a} {b} {a'} {b'} e f m n k l =
    let A = report-alike c a e m in
    let B = report-alike d b' f k in (
      sym (l.answered ∙ ap (λ o. o.answer) (alike-says B i c) ∙ sym m.answered),
      n.answered ∙ ap (λ o. o.answer) (alike-says A j d) ∙ sym k.answered,
      alike-worlds (report-alike d b f n) ∙ alike-worlds A,
      alike-worlds (report-alike c a' e l) ∙ alike-worlds B,
    )
