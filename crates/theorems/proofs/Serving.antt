-- What the plain model gives of a call, by its kind: a report leaves the positions, and does not ask how many runs are too many; and what one that overwrites
-- its world answers and leaves does not depend on what that held. Assumes nothing.
use Prim.Native.Nat.{ℕ}
use mathlib.Core.Path.{◌≡◌, refl, sym, ap, ap₂, ◌∙◌}
use mathlib.Core.Bool.{Bool}
use mathlib.Core.List.{List, ◌∷◌, ◌++◌}
use native.Mathlib.Omega.{arith}
use Rattle.std.specs.Prelude.{Option, None, Some}
use Rattle.model.specs.Positions.{Positions, bounded}
use Rattle.model.specs.Refusals.{Condition, ◌when◌, refusal, too_many}
use Rattle.model.specs.Refusals
use Rattle.model.specs.Call.{Fed, holding, Call, Result}
use Rattle.model.specs.Model.{Effect, Plan, plan, positions_of, settle, look, or_else, first_refusal, room, left_by, serve}
use Rattle.interval_bit_set.specs.Met.{Site, fed_at}
use Rattle.theorems.specs.Swaps.{reporting, overwriting, kind_of, kind}

-- ---- reports
-- positions stay
pub kind-stays : (e : Effect) → kind_of e ≡ reporting → e ≡ Effect.stays
kind-stays Effect.stays k = refl
kind-stays e k = let z : ◌≡◌ {A = ℕ} 0 1 = cc in absurd (omega arith)

-- how many runs are too many is not asked
pub any-limit : (full full' : ℕ → Bool) (s : Fed) (p : Plan) → kind_of p.effect ≡ reporting → serve full s p ≡ serve full' s p
unfolding serve
any-limit full full' s p k =
    let P : Positions = positions_of s in
    let e = kind-stays p.effect k in
    ap (λ cs. settle (first_refusal (s ∷ p.further) (cs ++ p.earns P)) P (p.gives P) (left_by p.effect P)) (ap (λ d. room full d P) e ∙ sym (ap (λ d. room full' d P) e))

-- ---- what the world held
-- where it is overwritten, what is earned and given is told without it
abbrev Blind : Effect → (Positions → List Condition) → (Positions → Result) → Type 0
Blind Effect.stays E A = Unit {0}
Blind (Effect.becomes Q) E A = Unit {0}
Blind (Effect.overwritten Q) E A = (P P' : Positions) → (E P ≡ E P') × (A P ≡ A P')

-- of each call
blind : (c : Call Site) → Blind (plan fed_at c).effect (plan fed_at c).earns (plan fed_at c).gives
blind (Call.shifted d left t) = λ P P'. (refl, refl)
blind (Call.combine op t u) = λ P P'. (refl, refl)
blind (Call.complement t) = λ P P'. (refl, refl)
blind (Call.load bs) = λ P P'. (refl, refl)
blind (Call.mend bs out report) = λ P P'. (refl, refl)
blind (Call.build rs) = λ P P'. (refl, refl)
blind c = tt

-- so it does not matter to the answer
settle-answer : (o : Option ℕ) (P P' : Positions) (a : Result) (Q : Positions) → (settle o P a Q).answer ≡ (settle o P' a Q).answer
settle-answer None P P' a Q = refl
settle-answer (Some n) P P' a Q = refl

pub over-answer : (full : ℕ → Bool) (P P' : Positions) (c : Call Site) → kind c ≡ overwriting
    → (serve full (holding P) (plan fed_at c)).answer ≡ (serve full (holding P') (plan fed_at c)).answer
unfolding serve
over-answer full P P' c k = go p.effect k (blind c)
  where
    p : Plan
    p = plan fed_at c

    go : (e : Effect) → kind_of e ≡ overwriting → Blind e p.earns p.gives
        → (settle (first_refusal (holding P ∷ p.further) (room full e P ++ p.earns P)) P (p.gives P) (left_by e P)).answer
        ≡ (settle (first_refusal (holding P' ∷ p.further) (room full e P' ++ p.earns P')) P' (p.gives P') (left_by e P')).answer
    go (Effect.overwritten Q) k b =
        ap₂ (λ cs a. (settle (or_else (look p.further) (refusal (Refusals.capacity when too_many full Q ∷ cs))) P a (bounded Q)).answer) (b P P').0 (b P P').1
        ∙ settle-answer (or_else (look p.further) (refusal (Refusals.capacity when too_many full Q ∷ p.earns P'))) P P' (p.gives P') (bounded Q)
    go e k b = let z : ◌≡◌ {A = ℕ} 0 1 = cc in absurd (omega arith)

-- nor to the positions
pub over-positions : (e : Effect) (P P' : Positions) → kind_of e ≡ overwriting → left_by e P ≡ left_by e P'
over-positions (Effect.overwritten Q) P P' k = refl
over-positions e P P' k = let z : ◌≡◌ {A = ℕ} 0 1 = cc in absurd (omega arith)
