-- A union as an iterator: fewer groups are pending after each that it hands out, so it ends; and there are no more of them than entries, so they can
-- be counted. Assumes nothing.
use Rattle.std.proofs.Common.{◌≡◌, ℕ, ◌<◌, ◌≤◌, List, [], ◌∷◌, ◌++◌, length, Option, None, Some, sym, ap, subst, inr, arith, ◌∙◌, append_assoc, append-nil}
use Rattle.std.specs.Option.{option_len, IfSome}
use Rattle.std.specs.Iterator.{at_most, MakesProgress, Yields, Drains}
use Rattle.std.specs.Iterator.Runs.{CountFits}
use Rattle.std.proofs.iter.Next.{stops}
use Rattle.std.proofs.iter.runs.Made.{took}
use Rattle.model.specs.declared.Run.{Run}
use Rattle.model.specs.Numbers.{size}
use Rattle.model.specs.Positions.{stretches, mem}
use Rattle.union.specs.declared.Group.{Group}
use Rattle.union.specs.declared.places.Places.{Places}
use Rattle.union.specs.declared.union.Union.{Union}
use Rattle.union.specs.Bands.{left, ahead}
use Rattle.union.specs.Joins.{Front, Complete, Joining, Draws, OnItsWay, GivesGroup, pending}
use Rattle.union.proofs.Steps.{front-small, complete-count}

-- ---- fewer are pending
module _ {L : Type 0} (u : Union L) (r : Places L) where
  -- an entry comes next: no more are pending, and fewer if a group is handed out
  pub pending-on : (b : Group) → ahead r < ahead u.places → pending (record { places = r; last = Some b }) ≤ pending u
  pending-on b l = omega arith

  pub pending-less : (b g : Group) → u.last ≡ Some g → ahead r < ahead u.places → pending (record { places = r; last = Some b }) < pending u
  pending-less b g e l = omega (arith, ap option_len e)

  -- no entry is left: none is pending
  pub pending_last : r.band ≡ None → r.next ≡ r.block.count → (n : ℕ) → pending u ≤ n → (o : Option Group) → u.last ≡ o
      → IfSome o (λ _. pending (record { places = r; last = None }) < n)
  unfolding ahead left
  pending_last w over n l None e = tt
  pending_last w over n l (Some g) e = omega (arith, ap option_len e, ap left w, over)

module _ {L : Type 0} (runs : L → List Run) where
  -- so it ends
  pub union-goes : (u u' : Union L) (r : Option Group) → OnItsWay runs u → GivesGroup runs u r u' → IfSome r (λ _. pending u' < pending u)
      → MakesProgress (OnItsWay runs) (λ v. at_most (pending v)) u r u'
  union-goes u u' None k d l = stops (λ _. tt)
  union-goes u u' (Some g) (done, k) d l =
      let j : OnItsWay runs u' = (done ++ g ∷ [], subst (λ x. Joining (runs x) (done ++ g ∷ []) u') (sym d.0) (d.1 done k).1) in
      record { on = λ _. (j, tt, l); keeps = j; rests = λ _. tt }

  -- ---- its groups
  -- the groups gs of the entries es are handed out
  pub record Handed (es : List Run) (gs : List Group) (u : Union L) : Type 0 where
    pub entries : runs u.places.list ≡ es
    pub joining : Joining es gs u

  module _ {es : List Run} {gs : List Group} {u t : Union L} (h : Handed es gs u) where
    -- one more
    pub handed-more : {g : Group} → GivesGroup runs u (Some g) t → Front es (gs ++ g ∷ []) × Handed es (gs ++ g ∷ []) t
    handed-more {g} d =
        let k = (subst (λ fs. Draws fs u (Some g) t) h.entries d.1) gs h.joining in
        (k.0, record { entries = ap runs d.0 ∙ h.entries; joining = k.1 })

    -- all of them
    pub handed-all : GivesGroup runs u None t → Complete es gs
    handed-all d = ((subst (λ fs. Draws fs u None t) h.entries d.1) gs h.joining).0

  -- any number more, which are few
  handed : {es : List Run} (xs : List Group) {gs : List Group} {s t : Union L} → Handed es gs s → length gs < size → Yields (GivesGroup runs) s xs t
      → Handed es (gs ++ xs) t × (length (gs ++ xs) < size)
  handed {es} [] {gs} {s} h l y = rw (append-nil gs) (subst (Handed es gs) y h, l)
  handed (x ∷ xs) {gs} h l y = let d = handed-more h y.1 in rw (← append_assoc gs (x ∷ []) xs) (handed xs d.1 (front-small d.0) y.2)

  module _ (list : L) {u : Union L} (same : u.places.list ≡ list) (k : Joining (runs list) [] u) where
    pub begun : Handed (runs list) [] u
    begun = record { entries = ap runs same; joining = k }

    -- they can be counted
    pub groups-fit : CountFits (GivesGroup runs) (λ a. at_most (pending a)) 0 u
    groups-fit =
        inr (λ p _ e _.
        let t = took p in
        let y = subst (λ a. Yields (GivesGroup runs) a p.items t.0) e t.1 in
        omega (arith, p.long, (handed p.items begun (omega arith) y).1))

    pub groups-begin : {s : Union L} {n : ℕ} → s ≡ u → n ≡ 0 → OnItsWay runs s × Unit {0} × CountFits (GivesGroup runs) (λ a. at_most (pending a)) n s
    groups-begin e z = rw (e, z) (([], subst (λ l. Joining (runs l) [] u) (sym same) k), tt, groups-fit)

    -- and are as many as the runs of the outcome
    pub groups-count : (xs : List Group) → Drains (GivesGroup runs) u xs → stretches (mem (runs list)) ≡ length xs
    groups-count xs (u', (t, y, d)) = complete-count (handed-all (handed xs begun (omega arith) y).0 d)
