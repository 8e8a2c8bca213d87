-- Worlds in one pool (document 02, Ticket 3): where the limits are kept, refusal 8 is one number, the allowance of a world; a world alone has
-- the whole pool; and what a call on one world leaves of the others. Assumes nothing.
use Rattle.std.specs.Prelude.{Some}
use Prim.Native.Nat.{ℕ, zero, suc, ◌+◌, ◌-◌, ◌≤◌, ◌<◌, max}
use mathlib.Core.Path.{◌≡◌, refl, sym, ap, ◌∙◌, fun_ext}
use mathlib.Core.Logic.{◌⊎◌, inl, inr}
use mathlib.Core.Bool.{Bool, ◌||◌}
use mathlib.Core.List.{List, [], ◌∷◌}
use native.Mathlib.Omega.{arith}
use lib.Dec.{ltb}
use borrow.Author.Tests.{lt-ltb, le-ltb}
use Rattle.model.proofs.Numbers.{split}
use Rattle.model.specs.Positions.{Positions}
use Rattle.model.specs.Ends.{Bound}
use Rattle.model.specs.Call.{unopened, holding, fill, tally_strict, at, refused}
use Rattle.model.specs.Model.{Plan, positions_of, planned, serve}
use Rattle.model.specs.Pools.{PlainWorld, world_of, fed_by, claim_with, claim, claims, other_claims, exceeds, full, with_positions, holding_at, serve_at, leaving, step, alone, allowance_of, allowance}

-- ---- refusal 12
-- a world that is not open is refused before the call's window is looked at
pub unopened-first : (full : ℕ → Bool) (base n : ℕ) → (serve full unopened (planned (fill base n))).answer ≡ refused 12
unfolding serve
unopened-first full base n = refl

-- and before the range of a strict call is
pub unopened-strict : (full : ℕ → Bool) (l u : Bound) (v : Bool) → (serve full unopened (planned (tally_strict l u v))).answer ≡ refused 12
unfolding serve
unopened-strict full l u v = refl

-- ---- refusal 8
-- the two conditions of the ticket are one, where the floor fits beside what the others claim
decides : (C others : ℕ) (x : PlainWorld) (r : ℕ) → x.floor + others ≤ C → exceeds C others (Some x) r ≡ ltb (allowance_of C others (Some x)) r
decides C others x r h = go (split x.ceiling r) (split (C - others) r)
  where
    go : (x.ceiling < r) ⊎ (r ≤ x.ceiling) → (C - others < r) ⊎ (r ≤ C - others) → exceeds C others (Some x) r ≡ ltb (allowance_of C others (Some x)) r
    go (inl c) d = rw (lt-ltb x.ceiling r c, lt-ltb (allowance_of C others (Some x)) r (omega arith))
    go (inr c) (inl d) =
        rw (le-ltb x.ceiling r c, lt-ltb C (claim_with x r + others) (omega arith), lt-ltb (allowance_of C others (Some x)) r (omega arith))
    go (inr c) (inr d) =
        rw (le-ltb x.ceiling r c, le-ltb C (claim_with x r + others) (omega arith), le-ltb (allowance_of C others (Some x)) r (omega arith))

-- the claims of all worlds are that of one and those of the others
pub claims-split : (ws : List PlainWorld) (i : ℕ) (x : PlainWorld) → world_of ws i ≡ Some x → claims ws ≡ claim x + other_claims ws i
unfolding claims other_claims
claims-split [] i x e = let z : ◌≡◌ {A = ℕ} 0 1 = cc in absurd (omega arith)
claims-split (y ∷ ws) zero x e = let f : y ≡ x = cc in ap (λ z. claim z + claims ws) f
claims-split (y ∷ ws) (suc i) x e = omega (arith, claims-split ws i x e)

-- so in a pool whose limits are kept refusal 8 is given above the allowance
pub full-allowance : (C : ℕ) (ws : List PlainWorld) (i : ℕ) (x : PlainWorld) → world_of ws i ≡ Some x → claims ws ≤ C → full C ws i ≡ ltb (allowance C ws i)
unfolding full allowance
full-allowance C ws i x e h =
    fun_ext (λ r.
    ap (λ o. exceeds C (other_claims ws i) o r) e
    ∙ decides C (other_claims ws i) x r (omega (arith, claims-split ws i x e))
    ∙ ap (λ o. ltb (allowance_of C (other_claims ws i) o) r) (sym e))

-- ---- a world alone
pub alone-full : (C : ℕ) (P : Positions) → full C (alone C P) 0 ≡ ltb C
unfolding full other_claims claims
alone-full C P = fun_ext (λ r. go r (split C r))
  where
    go : (r : ℕ) → (C < r) ⊎ (r ≤ C) → (ltb C r || ltb C (max r 0 + 0)) ≡ ltb C r
    go r (inl h) = rw (lt-ltb C r h)
    go r (inr h) = rw (le-ltb C r h, le-ltb C (max r 0 + 0) (omega arith))

pub step-alone : (C : ℕ) (P : Positions) (p : Plan)
    → step C (alone C P) (at 0 p) ≡ record { answer = (serve (ltb C) (holding P) p).answer; worlds = alone C (serve (ltb C) (holding P) p).positions }
unfolding step serve_at holding_at
step-alone C P p = ap (λ f. leaving (alone C P) 0 (serve f (holding P) p)) (alone-full C P)

-- ---- what a call leaves of the worlds
-- a world that keeps what it is fed as leaves all as they were
pub holding-fed : (ws : List PlainWorld) (i : ℕ) → holding_at i (positions_of (fed_by (world_of ws i))) ws ≡ ws
unfolding holding_at
holding-fed [] i = refl
holding-fed (x ∷ ws) zero = refl
holding-fed (x ∷ ws) (suc i) = ap (λ l. x ∷ l) (holding-fed ws i)

-- the world that was changed
pub holding-here : (ws : List PlainWorld) (i : ℕ) (P : Positions) {x : PlainWorld} → world_of ws i ≡ Some x → world_of (holding_at i P ws) i ≡ Some (with_positions x P)
unfolding holding_at
holding-here [] i P e = let z : ◌≡◌ {A = ℕ} 0 1 = cc in absurd (omega arith)
holding-here (y ∷ ws) zero P {x} e = let f : y ≡ x = cc in ap (λ v. Some (with_positions v P)) f
holding-here (y ∷ ws) (suc i) P e = holding-here ws i P e
