-- The places that tell why a list stopped are those of the ranges that are first in their runs: a range has the positions of its entry, so this is which
-- entries lead, told by positions. And a list of answers has at most one first refusal. Assumes nothing.
use Prim.Native.Nat.{ℕ, zero, suc, ◌-◌, ◌≤◌, ◌<◌}
use mathlib.Core.Path.{◌≡◌, refl, sym, ap, ◌∙◌, subst}
use mathlib.Core.Bool.{Bool, true, false, cond}
use mathlib.Core.List.{List, [], ◌∷◌}
use native.Mathlib.Omega.{arith}
use lib.Dec.{ltb}
use lib.ListN.{length, get_or, take, length-take}
use lib.Seq.{get_or-take}
use borrow.Author.Tests.{ltb-true, ltb-false}
use Rattle.model.specs.declared.Run.{Run}
use Rattle.model.specs.Numbers.{size}
use Rattle.model.specs.Range.{first_allowed, past_allowed}
use Rattle.model.specs.Positions.{run}
use Rattle.model.specs.RunList.{AllWords}
use Rattle.model.specs.Call.{Answer, refused, gave}
use Rattle.model.specs.declared.between.Range.{Range}
use Rattle.model.specs.Spawning.{entry_of, entries_of, places, AllGiven, StopsAt}
use Rattle.union.specs.Entries.{entry}
use Rattle.why_full.proofs.Ranges.{entries-length, entries-at, take_words}
use Rattle.why_full.proofs.Leading.{places-rising}
use Rattle.why_full.proofs.Refusing.{Refused}
use Rattle.why_full.proofs.Sublists.{refused-places}
use Rattle.why_full.proofs.Foremost.{Has, First, place-first, first-place, refused-last}
use Rattle.theorems.specs.Why.{IsListed, IsFirstInRun, ArePlaces}

-- ---- answers
-- none of a list that is given is refused
pub given-not : (f : ℕ) (rs : List Answer) → AllGiven rs → StopsAt f rs → ⊥
given-not f [] g s = s
given-not f (refused n ∷ rs) g s = g
given-not zero (gave r ∷ rs) g s = let z : ◌≡◌ {A = ℕ} 0 1 = cc in omega arith
given-not (suc f) (gave r ∷ rs) g s = given-not f rs g s

-- THE FIRST REFUSED ONE is at one place
pub stops-once : (f g : ℕ) (rs : List Answer) → StopsAt f rs → StopsAt g rs → f ≡ g
stops-once f g [] s t = absurd s
stops-once zero zero (a ∷ rs) s t = refl
stops-once zero (suc g) (refused n ∷ rs) s t = absurd t
stops-once zero (suc g) (gave r ∷ rs) s t = let z : ◌≡◌ {A = ℕ} 0 1 = cc in absurd (omega arith)
stops-once (suc f) zero (refused n ∷ rs) s t = absurd s
stops-once (suc f) zero (gave r ∷ rs) s t = let z : ◌≡◌ {A = ℕ} 0 1 = cc in absurd (omega arith)
stops-once (suc f) (suc g) (refused n ∷ rs) s t = absurd s
stops-once (suc f) (suc g) (gave r ∷ rs) s t = ap suc (stops-once f g rs s t)

-- ---- a range and its entry
-- the entry of the positions from f and before p, by whether there are any
abbrev entry_by : Bool → ℕ → ℕ → Run
entry_by b f p = cond b (run f (p - 1)) (run 1 0)

-- the two have the same positions
entry-range : (r : Range) (x : ℕ) → (entry_of r).start ≤ x → x ≤ (entry_of r).«end»
    → (first_allowed r.lower ≤ x) × (x < past_allowed r.upper)
unfolding entry_of
entry-range r x = let f = first_allowed r.lower in let p = past_allowed r.upper in go (ltb f p) f p refl
  where
    go : (b : Bool) (f p : ℕ) → ltb f p ≡ b → (entry_by b f p).start ≤ x → x ≤ (entry_by b f p).«end» → (f ≤ x) × (x < p)
    go true f p e l k = (l, omega (arith, ltb-true f p e))
    go false f p e l k = absurd (omega arith)

range-entry : (r : Range) (x : ℕ) → first_allowed r.lower ≤ x → x < past_allowed r.upper
    → ((entry_of r).start ≤ x) × (x ≤ (entry_of r).«end»)
unfolding entry_of
range-entry r x = let f = first_allowed r.lower in let p = past_allowed r.upper in go (ltb f p) f p refl
  where
    go : (b : Bool) (f p : ℕ) → ltb f p ≡ b → f ≤ x → x < p → ((entry_by b f p).start ≤ x) × (x ≤ (entry_by b f p).«end»)
    go true f p e l k = (l, omega arith)
    go false f p e l k = absurd (omega (arith, ltb-false f p e))

-- ---- up to the first refused call
module _ (C : ℕ) (rs : List Range) (d : Range) (w : AllWords (entries_of rs)) (few : length rs < size) (f : ℕ) (r : Refused C (entries_of rs) f) where
  -- the entries up to it
  abbrev up_to : List Run
  up_to = take (suc f) (entries_of rs)

  -- each is of a range of the list
  entry-is : (p : ℕ) → p ≤ f → entry up_to p ≡ entry_of (get_or rs p d)
  entry-is p h =
      get_or-take (suc f) (entries_of rs) p (run 0 0) (omega arith) ∙ entries-at rs p d (omega (arith, r.within, entries-length rs))

  -- and has its positions
  has-listed : (p x : ℕ) → p ≤ f → Has up_to p x → IsListed rs d p x
  has-listed p x h k =
      let e = entry-is p h in
      let t = entry-range (get_or rs p d) x (subst (λ (r : Run). r.start ≤ x) e k.0) (subst (λ (r : Run). x ≤ r.«end») e k.1) in
      record { from = t.0; before = t.1 }

  listed-has : (p x : ℕ) → p ≤ f → IsListed rs d p x → Has up_to p x
  listed-has p x h i =
      let e = sym (entry-is p h) in
      let t = range-entry (get_or rs p d) x i.from i.before in
      (subst (λ (r : Run). r.start ≤ x) e t.0, subst (λ (r : Run). x ≤ r.«end») e t.1)

  -- so it is first in its run where the range is
  first-range : (p : ℕ) → First up_to p → IsFirstInRun rs d f p
  first-range p g =
      let h : p ≤ f = omega (arith, g.within, length-take (suc f) (entries_of rs)) in
      record {
        up_to = h;
        x = g.x;
        has = has-listed p g.x h g.has;
        first = λ q y l k. g.unmet q y l (listed-has q y (omega arith) k);
      }

  range-first : (p : ℕ) → IsFirstInRun rs d f p → First up_to p
  range-first p i = record {
    within = omega (arith, i.up_to, r.within, length-take (suc f) (entries_of rs));
    x = i.x;
    has = listed-has p i.x i.up_to i.has;
    unmet = λ q y l k. i.first q y l (has-listed q y (omega (arith, i.up_to)) k);
  }

  -- THE PLACES are those of the ranges that are
  pub are_places : ArePlaces C rs d f (places up_to)
  are_places =
      let short : length (entries_of rs) < size = omega (arith, entries-length rs) in
      record {
        many = refused-places C (entries_of rs) f w short r;
        rising = places-rising up_to;
        last = refused-last C (entries_of rs) f w short r;
        each = λ p m. first-range p (place-first up_to p m);
        all = λ p i. first-place up_to (take_words (suc f) (entries_of rs) w) (omega (arith, short, length-take (suc f) (entries_of rs))) p (range-first p i);
      }
