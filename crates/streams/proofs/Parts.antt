-- The next run of a part of a reading, told from the first run to come: clipped to where the reading stands and to the part's end.
-- In the part up to top, position z is kept at z + s - o. Assumes nothing.
use Rattle.std.specs.Prelude.{None, Some}
use Prim.Native.Nat.{ℕ, suc, ◌+◌, ◌-◌, ◌≤◌, ◌<◌, max}
use mathlib.Core.Path.{◌≡◌, refl, ap, ◌∙◌, subst}
use mathlib.Core.Logic.{◌⊎◌, inl, inr}
use mathlib.Core.Bool.{true, false}
use mathlib.Core.List.{List, [], ◌∷◌}
use native.Mathlib.Omega.{arith}
use Rattle.model.specs.declared.Run.{Run}
use Rattle.model.specs.Numbers.{size}
use Rattle.model.proofs.Numbers.{split}
use Rattle.model.specs.Positions.{Positions, mem}
use Rattle.model.specs.RunList.{Canon}
use Rattle.model.proofs.RunList.{mem-in, mem-above, mem_below, mem-before}
use Rattle.pool.proofs.Ends.{empty-mem}
use Rattle.streams.specs.declared.source.Path.{Path}
use Rattle.streams.specs.Reading.{RunFrom, EndsFrom, InPart, OnPath, Taken, Pops}

-- a .. b is the next run of Q from y on, as far as positions below top go
pub record FoundNext (a b y top : ℕ) (Q : Positions) : Type 0 where
  pub ordered : a ≤ b
  pub late : y ≤ a
  pub below : b < top
  pub clear : (z : ℕ) → y ≤ z → z < a → Q z ≡ false
  pub held : (z : ℕ) → a ≤ z → z ≤ b → Q z ≡ true
  pub stops : suc b < top → Q (suc b) ≡ false

-- the run a .. b is the part of r, the first run to come, from y on and below top
module _ (o s top y : ℕ) (Q : Positions) (r : Run) (rs : List Run) (canon : Canon size 0 (r ∷ rs)) (reach : y + s - o ≤ r.«end») (past : o ≤ y + s) (small : y < top)
    (tells : (z : ℕ) → y ≤ z → z < top → Q z ≡ mem (r ∷ rs) (z + s - o)) (a b : ℕ) (a-is : a + s ≡ max r.start (y + s - o) + o) (a_in : a < top) (b-in : b < top)
    (b-most : b + s ≤ r.«end» + o) (b-is : suc b < top → b + s ≡ r.«end» + o) where
  run-late : y ≤ a
  run-late = omega arith

  run-ordered : a ≤ b
  run-ordered = go (split (suc b) top)
    where
      go : (suc b < top) ⊎ (top ≤ suc b) → a ≤ b
      go (inl l) = let e = b-is l in omega (arith, canon.1)
      go (inr l) = omega arith

  run-stops : suc b < top → Q (suc b) ≡ false
  run-stops l =
      let e = b-is l in
      let k = run-ordered in
      let g = run-late in
      tells (suc b) (omega arith) l ∙ mem-above r rs (suc b + s - o) (omega arith) ∙ mem_below size (r.«end» + 2) rs (suc b + s - o) canon.3 (omega arith)

  run-found : FoundNext a b y top Q
  run-found = record {
    ordered = run-ordered;
    late = run-late;
    below = b-in;
    clear = λ z h k. tells z h (omega arith) ∙ mem-before size 0 r rs (z + s - o) canon (omega arith);
    held = λ z h k. let l = run-late in tells z (omega arith) (omega arith) ∙ mem-in r rs (z + s - o) (omega arith) (omega arith);
    stops = run-stops;
  }

  -- the other runs are to come after it
  run-reach : (qs : List Run) → Canon size (r.«end» + 2) qs → EndsFrom (suc b + s - o) qs
  run-reach [] c = tt
  run-reach (q ∷ qs) c = omega (arith, c.0, c.1)

  run-then : {w : List ℕ} {p : Path} → OnPath w p rs → InPart w p o s top (suc b) Q
  run-then on =
      let l = run-late in
      let k = run-ordered in
      record {
        runs = rs;
        on = on;
        reach = run-reach rs canon.3;
        past = omega arith;
        tells = λ z g t. let e = b-is (omega arith) in tells z (omega arith) t ∙ mem-above r rs (z + s - o) (omega arith);
      }

-- the run of a part that reaches to its end, or past which nothing is held
pub found-run : {a b y top : ℕ} {Q : Positions} → FoundNext a b y top Q → top ≤ size → (suc b ≡ top → suc b < size → Q (suc b) ≡ false) → RunFrom y a b Q
found-run {a} {b} {y} {top} {Q} f h last = record {
  onward = f.late;
  ordered = f.ordered;
  small = omega arith;
  clear = f.clear;
  held = f.held;
  stops = λ l. go l (split (suc b) top);
}
  where
    go : suc b < size → (suc b < top) ⊎ (top ≤ suc b) → Q (suc b) ≡ false
    go l (inl g) = f.stops g
    go l (inr g) = last (let k = f.below in omega arith) l

module _ {w : List ℕ} {p p' : Path} {o s top y : ℕ} {Q : Positions} (i : InPart w p o s top y Q) where
  -- nothing is left of a part where no run is on the path
  pub part_none : Pops w p None p' → (z : ℕ) → y ≤ z → z < top → Q z ≡ false
  part_none ps z h k = i.tells z h k ∙ ap (λ us. mem us (z + s - o)) (ps i.runs i.on).0 ∙ empty-mem (z + s - o)

  -- the run x was taken off the path
  module _ {x : Run} (ps : Pops w p (Some x) p') where
    taken : Taken w p' x i.runs
    taken = ps i.runs i.on

    ordered : Canon size 0 (x ∷ taken.others)
    ordered = subst (λ us. Canon size 0 us) taken.is i.on.ordered

    told : (z : ℕ) → y ≤ z → z < top → Q z ≡ mem (x ∷ taken.others) (z + s - o)
    told z h k = i.tells z h k ∙ ap (λ us. mem us (z + s - o)) taken.is

    -- nothing is held before it
    pub pop-clear : (z : ℕ) → y ≤ z → z < top → z + s - o < x.start → Q z ≡ false
    pop-clear z h k l = told z h k ∙ mem-before size 0 x taken.others (z + s - o) ordered l

    -- it ends where the reading stands or later
    pub pop-reach : y + s - o ≤ x.«end»
    pop-reach = subst (λ us. EndsFrom (y + s - o) us) taken.is i.reach

    -- it is a run
    pub pop-ordered : (x.start ≤ x.«end») × (x.«end» < size)
    pop-ordered = (ordered.1, ordered.2)

    -- none is to come after one that reaches to M
    pub pop-all : size - 1 ≤ x.«end» → OnPath w p' []
    pop-all l = subst (λ us. OnPath w p' us) (go taken.others ordered.3) taken.on
      where
        go : (us : List Run) → Canon size (x.«end» + 2) us → us ≡ []
        go [] c = refl
        go (u ∷ us) c = absurd (omega (arith, c.0, c.1, c.2))

    module _ (small : y < top) (a b : ℕ) (a-is : a + s ≡ max x.start (y + s - o) + o) (a_in : a < top) (b-in : b < top) (b-most : b + s ≤ x.«end» + o)
        (b-is : suc b < top → b + s ≡ x.«end» + o) where
      -- it is the next run, clipped
      pub pop-found : FoundNext a b y top Q
      pop-found = run-found o s top y Q x taken.others ordered pop-reach i.past small told a b a-is a_in b-in b-most b-is

      -- and the others are to come
      pub pop-then : InPart w p' o s top (suc b) Q
      pop-then = run-then o s top y Q x taken.others ordered pop-reach i.past small told a b a-is a_in b-in b-most b-is taken.on
