-- A reading as an iterator: each run that it hands out leaves fewer positions, so it ends; what it has handed out are runs of the set, of which there
-- are fewer than 2^64, so they can be counted. Assumes nothing.
use Rattle.std.specs.Prelude.{Option, None, Some}
use Prim.Native.Nat.{ℕ, suc, ◌<◌}
use mathlib.Core.Path.{◌≡◌, sym, ap, subst, ◌∙◌}
use mathlib.Core.Logic.{inr}
use mathlib.Core.Bool.{true≢false}
use mathlib.Core.List.{map-id}
use lib.ListN.{length, length-take}
use native.Mathlib.Omega.{arith}
use Rattle.std.specs.Iterator.{Count, at_most, MakesProgress, Yields}
use Rattle.std.specs.Iterator.Runs.{CountFits}
use Rattle.std.proofs.lemmas.Iterator.Consumers.{YieldsList-so_far}
use Rattle.std.proofs.iter.Next.{stops}
use Rattle.std.proofs.iter.runs.Made.{took}
use Rattle.model.specs.declared.Run.{Run}
use Rattle.model.specs.declared.Logical.{Logical}
use Rattle.model.specs.Positions.{Positions, held_runs, stretches}
use Rattle.streams.specs.Reading.{Clear, RunFrom, Draws, positions_from}
use Rattle.run_lists.proofs.Ordered.{stretches-few}
use Rattle.streams.proofs.Streamed.{draws-list}

-- ---- each run leaves fewer positions
-- a reading that has J to read from x on stands there, if anything is left
abbrev pub StandsAt : Option Logical → ℕ → Positions → Type 0
StandsAt None x J = Clear x J
StandsAt (Some a) x J = a.0 ≡ x

fewer : (o o' : Option Logical) {x : ℕ} {J : Positions} (u : Run) → StandsAt o x J → RunFrom x u.start u.«end» J → StandsAt o' (suc u.«end») J
    → positions_from o' < positions_from o
fewer None o' u s r s' =
    absurd (true≢false (sym (r.held u.start (omega arith) r.ordered) ∙ s u.start r.onward (omega (arith, r.ordered, r.small))))
fewer (Some a) None u s r s' = omega (arith, r.onward, r.ordered, r.small)
fewer (Some a) (Some b) u s r s' = omega (arith, r.onward, r.ordered, r.small)

-- of a reading whose position is `from`
pub draw-goes : {A : Type 0} {Has : A → ℕ → Positions → Type 0} (from : A → Option Logical)
    → ((a : A) (x : ℕ) (J : Positions) → Has a x J → StandsAt (from a) x J)
    → (a a' : A) (r : Option Run) → (x : ℕ) × (J : Positions) × Has a x J → Draws Has a r a'
    → MakesProgress (λ b. (x : ℕ) × (J : Positions) × Has b x J) (λ b. at_most (positions_from (from b))) a r a'
draw-goes from stands a a' None h d = stops (λ _. tt)
draw-goes from stands a a' (Some u) (x, J, h) d =
    let k = d x J h in
    let l = fewer (from a) (from a') u (stands a x J h) k.0 (stands a' (suc u.«end») J k.1) in
    record { on = λ _. ((_, J, k.1), tt, l); keeps = (_, J, k.1); rests = λ _. tt }

-- ---- its runs
-- they can be counted
pub draws-fit : {A : Type 0} {Has : A → ℕ → Positions → Type 0} (left : A → Count) {r : A} (J : Positions) → Has r 0 J → CountFits (Draws Has) left 0 r
unfolding stretches
draws-fit {Has = Has} left {r} J h =
    inr (λ p _ e _.
    let k = took p in
    let y = subst (λ a. Yields (Draws Has) a p.items k.0) e k.1 in
    let g = YieldsList-so_far {steps = Draws Has} {v = λ u. u} {s = r} {all = held_runs J} (record { runs = draws-list Has J r h }) p.items k.0 y in
    omega (arith, p.long, simp (map-id, length-take) at (ap length g), stretches-few J))

-- and are, from the first one on
pub count-begins : {A : Type 0} {Has : A → ℕ → Positions → Type 0} (from : A → Option Logical) {r s : A} {n : ℕ} (J : Positions) → Has r 0 J → s ≡ r → n ≡ 0
    → ((x : ℕ) × (K : Positions) × Has s x K) × Unit {0} × CountFits (Draws Has) (λ a. at_most (positions_from (from a))) n s
count-begins from J h e z = rw (e, z) ((0, J, h), tt, draws-fit (λ a. at_most (positions_from (from a))) J h)
