-- What calls leave: the words after a call that settles, which worlds can be read and what they hold then. A call that was not refused gives its world what
-- its plan leaves. Assumes nothing.
use Prim.Native.Nat.{ℕ, zero, suc, ◌<◌}
use mathlib.Core.Path.{◌≡◌, refl, sym, ap, ap₂, ◌∙◌, subst}
use mathlib.Core.List.{List, [], ◌∷◌}
use lib.ListN.{length}
use Rattle.model.specs.Positions.{Positions}
use Rattle.model.specs.Call.{Call, Result, gave}
use Rattle.model.specs.Model.{plan, positions_of, left_by}
use Rattle.model.specs.Pools.{PlainWorld, world_of, fed_by, other_claims, exceeds, full, holding_at}
use Rattle.model.proofs.Pools.{holding-fed}
use Rattle.pool.specs.Layout.{capacity_of, capacity, allowance, held_by, worlds_of}
use Rattle.pool.specs.Settle.{Settled}
use Rattle.pool.proofs.WorldLists.{opened-world}
use Rattle.interval_bit_set.specs.Met.{Site, fed_at, full_at, Readable, Met}
use Rattle.interval_bit_set.proofs.Meeting.{readable}
use Rattle.interval_bit_set.proofs.Allowing.{others-holding, allowance-after}
use Rattle.interval_bit_set.proofs.Giving.{given-held, given-worlds}
use Rattle.theorems.specs.Pairs.{SameLeft}

-- ---- what settles
-- world i of w got the positions P, and the words are w' now: it holds them, and all worlds are those before, with these in world i
pub record Gets (w : List ℕ) (i : ℕ) (w' : List ℕ) (P : Positions) : Type 0 where
  pub held : held_by w' i ≡ P
  pub worlds : worlds_of w' ≡ holding_at i P (worlds_of w)

module _ {w w' : List ℕ} {i : ℕ} {P : Positions} (R : Readable w i) (S : Settled w w' i P) where
  -- every world that could be read can be read
  pub readable-now : (j : ℕ) → Readable w j → Readable w' j
  readable-now j Q = readable (record { sound = S.sound; named = subst (λ n. j < n) (sym S.opened) Q.openable.named })

  -- and every world that can be read could be read, and holds what it held if it is another
  pub readable-before : (j : ℕ) → Readable w' j → Readable w j
  readable-before j Q = readable (record { sound = R.openable.sound; named = subst (λ n. j < n) S.opened Q.openable.named })

  pub held-other : (j : ℕ) → Readable w j → (j ≡ i → ⊥) → held_by w' j ≡ held_by w j
  held-other j Q ne = S.others j Q.openable.named ne

-- what a call that was not refused leaves
pub given-gets : {w w' : List ℕ} {i : ℕ} {c : Call Site} {r : Result} → Met w i c (gave r) w' → Gets w i w' (left_by (plan fed_at c).effect (held_by w i))
given-gets m = record { held = given-held m; worlds = given-worlds m }

-- how many runs the world may have does not depend on what it holds
pub allowance-now : {w w' : List ℕ} {i : ℕ} {P : Positions} → length w' ≡ length w → Gets w i w' P → allowance w' i ≡ allowance w i
allowance-now {w} {w'} {i} {P} e G = allowance-after w w' i P e G.worlds

-- so which numbers of runs are too many does not either
exceeds-holding : (C n i : ℕ) (P : Positions) (ws : List PlainWorld) → exceeds C n (world_of (holding_at i P ws) i) ≡ exceeds C n (world_of ws i)
unfolding holding_at
exceeds-holding C n i P [] = refl
exceeds-holding C n zero P (x ∷ ws) = refl
exceeds-holding C n (suc i) P (x ∷ ws) = exceeds-holding C n i P ws

pub full-now : {w w' : List ℕ} {i : ℕ} {P : Positions} → length w' ≡ length w → Gets w i w' P → full_at w' i ≡ full_at w i
unfolding full_at full
full-now {w} {i = i} {P} e G =
    ap₂ (λ C ws. full C ws i) (ap capacity_of e) G.worlds
    ∙ ap (λ n. exceeds (capacity w) n (world_of (holding_at i P (worlds_of w)) i)) (others-holding i P (worlds_of w))
    ∙ exceeds-holding (capacity w) (other_claims (worlds_of w) i) i P (worlds_of w)

-- a world that is given positions twice has the second
holding-again : (i : ℕ) (P Q : Positions) (ws : List PlainWorld) → holding_at i P (holding_at i Q ws) ≡ holding_at i P ws
unfolding holding_at
holding-again i P Q [] = refl
holding-again zero P Q (x ∷ ws) = refl
holding-again (suc i) P Q (x ∷ ws) = ap (λ l. x ∷ l) (holding-again i P Q ws)

pub gets-again : {w w₁ w₂ : List ℕ} {i : ℕ} {P Q : Positions} → Gets w i w₁ P → Gets w₁ i w₂ Q → Gets w i w₂ Q
gets-again {w} {i = i} {P} {Q} G H = record { held = H.held; worlds = H.worlds ∙ ap (holding_at i Q) G.worlds ∙ holding-again i Q P (worlds_of w) }

-- what it gets, by an equation
pub gets-as : {w w' : List ℕ} {i : ℕ} {P Q : Positions} → Gets w i w' P → P ≡ Q → Gets w i w' Q
gets-as {w} {w'} {i} G e = subst (Gets w i w') e G

-- a world that gets what it held: all is as it was
pub gets_back : {w w' : List ℕ} {i : ℕ} → Readable w i → Gets w i w' (held_by w i) → worlds_of w' ≡ worlds_of w
gets_back {w} {i = i} R G =
    G.worlds ∙ ap (λ o. holding_at i (positions_of (fed_by o)) (worlds_of w)) (sym (opened-world w i R.openable.named)) ∙ holding-fed (worlds_of w) i

-- two worlds that got the same
pub gets-same : {w w' v v' : List ℕ} {i j : ℕ} {P Q : Positions} → Gets w i w' P → Gets v j v' Q → P ≡ Q → SameLeft w i w' v j v'
gets-same {w} {v = v} {i = i} {j} {P} {Q} G H e = (
  G.held ∙ e ∙ sym H.held,
  λ f g. G.worlds ∙ ap₂ (λ k R. holding_at k R (worlds_of w)) g e ∙ ap (holding_at j Q) f ∙ sym H.worlds,
)

-- one world that got the same twice
pub gets-one : {w w' v' : List ℕ} {i : ℕ} {P Q : Positions} → Gets w i w' P → Gets w i v' Q → P ≡ Q → worlds_of w' ≡ worlds_of v'
gets-one G H e = (gets-same G H e).1 refl refl
