-- The runs of a list from p on: those that end below p, at its front, are dropped. What is left has the same positions from p on,
-- is canonical where the list was, and is told from the parts of a joined list. Assumes nothing.
use Prim.Native.Nat.{ℕ, ◌+◌, ◌-◌, ◌≤◌, ◌<◌}
use mathlib.Core.Path.{◌≡◌, refl, sym, ap, ◌∙◌}
use mathlib.Core.Logic.{◌⊎◌, inl, inr}
use mathlib.Core.List.{List, [], ◌∷◌, ◌++◌}
use native.Mathlib.Omega.{arith}
use borrow.Author.Tests.{lt-ltb, le-ltb}
use Rattle.model.specs.declared.Run.{Run}
use Rattle.model.proofs.Numbers.{split}
use Rattle.model.specs.Positions.{mem}
use Rattle.model.specs.RunList.{Canon, EndBelow}
use Rattle.model.proofs.RunList.{canon-weaken, mem-above}
use Rattle.model.proofs.Search.{canon-ends}
use Rattle.streams.specs.Reading.{EndsFrom, from}

-- the first run is dropped, or the list stays
pub from-drop : (p : ℕ) (r : Run) (rs : List Run) → r.«end» < p → from p (r ∷ rs) ≡ from p rs
from-drop p r rs h = rw (lt-ltb r.«end» p h)

pub from-stay : (p : ℕ) (r : Run) (rs : List Run) → p ≤ r.«end» → from p (r ∷ rs) ≡ r ∷ rs
from-stay p r rs h = rw (le-ltb r.«end» p h)

-- from 0 on it is the list
pub from_zero : (rs : List Run) → from 0 rs ≡ rs
from_zero [] = refl
from_zero (r ∷ rs) = from-stay 0 r rs (omega arith)

-- runs that all end below p are dropped
pub from_past : (p t : ℕ) (ls ss : List Run) → t ≤ p → EndBelow t ls → from p (ls ++ ss) ≡ from p ss
from_past p t [] ss h e = refl
from_past p t (l ∷ ls) ss h e = from-drop p l (ls ++ ss) (omega (arith, e.1)) ∙ from_past p t ls ss h e.2

-- around a run that ends below p
pub from-skip : (p : ℕ) (ls : List Run) (v : Run) (rs : List Run) → Canon (v.start - 1) 0 ls → v.start ≤ v.«end» → v.«end» < p
    → from p (ls ++ (v ∷ rs)) ≡ from p rs
from-skip p ls v rs c o h =
    from_past p (v.start - 1) ls (v ∷ rs) (omega arith) (canon-ends (v.start - 1) 0 ls c) ∙ from-drop p v rs h

-- around a run that does not
pub from-keep : (p : ℕ) (ls : List Run) (v : Run) (rs : List Run) → p ≤ v.«end» → from p (ls ++ (v ∷ rs)) ≡ from p ls ++ (v ∷ rs)
from-keep p [] v rs h = from-stay p v rs h
from-keep p (l ∷ ls) v rs h = go (split l.«end» p) (from-keep p ls v rs h)
  where
    go : (l.«end» < p) ⊎ (p ≤ l.«end») → from p (ls ++ (v ∷ rs)) ≡ from p ls ++ (v ∷ rs) → from p (l ∷ (ls ++ (v ∷ rs))) ≡ from p (l ∷ ls) ++ (v ∷ rs)
    go (inl g) ih = from-drop p l (ls ++ (v ∷ rs)) g ∙ ih ∙ sym (ap (λ us. us ++ (v ∷ rs)) (from-drop p l ls g))
    go (inr g) ih = from-stay p l (ls ++ (v ∷ rs)) g ∙ sym (ap (λ us. us ++ (v ∷ rs)) (from-stay p l ls g))

-- the positions from p on are the same
pub mem-from : (p : ℕ) (rs : List Run) (z : ℕ) → p ≤ z → mem (from p rs) z ≡ mem rs z
mem-from p [] z h = refl
mem-from p (r ∷ rs) z h = go (split r.«end» p) (mem-from p rs z h)
  where
    go : (r.«end» < p) ⊎ (p ≤ r.«end») → mem (from p rs) z ≡ mem rs z → mem (from p (r ∷ rs)) z ≡ mem (r ∷ rs) z
    go (inl g) ih = ap (λ us. mem us z) (from-drop p r rs g) ∙ ih ∙ sym (mem-above r rs z (omega arith))
    go (inr g) ih = ap (λ us. mem us z) (from-stay p r rs g)

-- the first of them ends at p or later
pub from-ends : (p : ℕ) (rs : List Run) → EndsFrom p (from p rs)
from-ends p [] = tt
from-ends p (r ∷ rs) = go (split r.«end» p) (from-ends p rs)
  where
    go : (r.«end» < p) ⊎ (p ≤ r.«end») → EndsFrom p (from p rs) → EndsFrom p (from p (r ∷ rs))
    go (inl g) ih = rw (lt-ltb r.«end» p g) ih
    go (inr g) ih = rw (le-ltb r.«end» p g) g

-- they are canonical where the list is
pub from-canon : (total k p : ℕ) (rs : List Run) → Canon total k rs → Canon total k (from p rs)
from-canon total k p [] c = tt
from-canon total k p (r ∷ rs) c =
    go (split r.«end» p) (canon-weaken total (r.«end» + 2) k (from p rs) (omega (arith, c.0, c.1)) (from-canon total (r.«end» + 2) p rs c.3))
  where
    go : (r.«end» < p) ⊎ (p ≤ r.«end») → Canon total k (from p rs) → Canon total k (from p (r ∷ rs))
    go (inl g) ih = rw (lt-ltb r.«end» p g) ih
    go (inr g) ih = rw (le-ltb r.«end» p g) c

-- the front of a canonical list is canonical
pub canon-front : (total k : ℕ) (rs ss : List Run) → Canon total k (rs ++ ss) → Canon total k rs
canon-front total k [] ss c = tt
canon-front total k (r ∷ rs) ss c = (c.0, c.1, c.2, canon-front total (r.«end» + 2) rs ss c.3)
