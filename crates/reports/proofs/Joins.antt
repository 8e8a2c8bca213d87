-- A range joined of two: its first and last run, what is found and selected in it, from those of the two parts, for any set.
-- A first or last run is taken apart into what is held and what is not, which holds of the joined range too. Assumes nothing.
use Rattle.std.specs.Prelude.{Option, None, Some}
use Rattle.std.proofs.Common.{◌≡◌, ℕ, suc, ◌+◌, ◌-◌, ◌<◌, ◌≤◌, Bool, true, false, not, ◌&&◌, ◌||◌, ◌⊎◌, List, [], ◌∷◌, ◌++◌, sym, refl, ap, ◌∙◌}
use Rattle.std.proofs.Common.{subst, ap₂, inl, inr, arith}
use mathlib.Core.Bool.{beq}
use Rattle.model.specs.declared.Run.{Run}
use Rattle.model.proofs.Numbers.{split}
use Rattle.model.specs.Positions.{Positions, inside, count, find, select, runs_in, first_run, mem}
use Rattle.model.proofs.Counting.{inside-yes, inside-below, inside-above, among-yes, count_cut, beq-is}
use Rattle.model.proofs.Runs.{runs_in-canon, runs_in-mem, mem-append}
use Rattle.model.proofs.Finds.{find_runs, count_runs, select-runs, select-is, select-none, select-only, Selected, select_runs, select_runs-in, select_runs-past, start_of}
use Rattle.model.specs.RunList.{Canon}
use Rattle.model.proofs.RunList.{mem_below, mem-past, widths}
use Rattle.model.proofs.Search.{canon-split}
use Rattle.pool.proofs.Ends.{empty-mem}

-- the other value
beq-no : (b v : Bool) → beq b v ≡ false → b ≡ not v
beq-no true true e = e
beq-no true false e = refl
beq-no false true e = refl
beq-no false false e = sym e

-- ---- a run of the value v among the n positions from a
pub record IsRun (P : Positions) (v : Bool) (a n : ℕ) (r : Run) : Type 0 where
  pub from : a ≤ r.start
  pub ordered : r.start ≤ r.«end»
  pub past : r.«end» < a + n
  pub same : (y : ℕ) → r.start ≤ y → y ≤ r.«end» → P y ≡ v
  pub before : (y : ℕ) → a ≤ y → suc y ≡ r.start → P y ≡ not v
  pub after : suc r.«end» < a + n → P (suc r.«end») ≡ not v

-- the first of them
pub record IsFirst (P : Positions) (v : Bool) (a n : ℕ) (r : Run) : Type 0 where
  pub is : IsRun P v a n r
  pub under : (y : ℕ) → a ≤ y → y < r.start → P y ≡ not v

-- a run of the list, with what precedes it and what follows it
module _ (P : Positions) (v : Bool) (a n : ℕ) (xs : List Run) (r : Run) (ys : List Run) (e : runs_in P v a n ≡ xs ++ (r ∷ ys)) where
  -- the list is canonical
  parts : (Canon (r.start - 1) a xs) × (a ≤ r.start) × (r.start ≤ r.«end») × (r.«end» < a + n) × Canon (a + n) (r.«end» + 2) ys
  parts = canon-split (a + n) a xs r ys (subst (Canon (a + n) a) e (runs_in-canon P v (a + n) a n (omega arith)))

  -- which positions of the range have the value
  hits : (y : ℕ) → a ≤ y → y < a + n → (mem xs y || (inside r.start r.«end» y || mem ys y)) ≡ beq (P y) v
  unfolding mem
  hits y h l =
      sym (ap (λ rs. mem rs y) e ∙ mem-append xs (r ∷ ys) y) ∙ runs_in-mem P v a n y ∙ ap (λ t. t && beq (P y) v) (among-yes a n y h l)

  -- or with true
  or-true : (b : Bool) → (b || true) ≡ true
  or-true true = refl
  or-true false = refl

  -- below the run, where no run precedes it
  under-run : (y : ℕ) → a ≤ y → y < r.start → mem xs y ≡ false → P y ≡ not v
  under-run y h l f =
      beq-no (P y) v (sym (hits y h (omega (arith, parts.2, parts.3)))
      ∙ ap₂ ◌||◌ f (ap₂ ◌||◌ (inside-below r.start r.«end» y l) (mem_below (a + n) (r.«end» + 2) ys y parts.4 (omega (arith, parts.2)))))

  -- above the run, where no run follows it
  over-run : (y : ℕ) → r.«end» < y → y < a + n → mem ys y ≡ false → P y ≡ not v
  over-run y h l f =
      beq-no (P y) v (sym (hits y (omega (arith, parts.1, parts.2)) l)
      ∙ ap₂ ◌||◌ (mem-past (r.start - 1) a xs y parts.0 (omega (arith, parts.2))) (ap₂ ◌||◌ (inside-above r.start r.«end» y h) f))

  -- in the run
  in-run : (y : ℕ) → r.start ≤ y → y ≤ r.«end» → P y ≡ v
  in-run y h l =
      beq-is (P y) v (sym (hits y (omega (arith, parts.1)) (omega (arith, parts.3)))
      ∙ ap (λ t. mem xs y || (t || mem ys y)) (inside-yes r.start r.«end» y h l) ∙ or-true (mem xs y))

  -- it is a run
  a-run : IsRun P v a n r
  a-run = record {
    from = parts.1;
    ordered = parts.2;
    past = parts.3;
    same = in-run;
    before = λ y h l. under-run y h (omega arith) (mem-past (r.start - 1) a xs y parts.0 (omega arith));
    after = λ h. over-run (suc r.«end») (omega arith) h (mem_below (a + n) (r.«end» + 2) ys (suc r.«end») parts.4 (omega arith));
  }

-- a list by its first run
first-parts : (rs : List Run) (r : Run) → first_run rs ≡ Some r → (ys : List Run) × (rs ≡ r ∷ ys)
first-parts [] r e = absurd (cc)
first-parts (q ∷ rs) r e = (rs, cc)

-- what a first run is
pub first_run-only : (P : Positions) (v : Bool) (a n : ℕ) (r : Run) → first_run (runs_in P v a n) ≡ Some r → IsFirst P v a n r
first_run-only P v a n r e =
    let d = first-parts (runs_in P v a n) r e in
    record { is = a-run P v a n [] r d.0 d.1; under = λ y h l. under-run P v a n [] r d.0 d.1 y h l (empty-mem y) }

-- ---- find
-- what is found is the start of a first run
start-parts : (o : Option Run) (x : ℕ) → start_of o ≡ Some x → (r : Run) × (o ≡ Some r) × (r.start ≡ x)
start-parts None x e = absurd (cc)
start-parts (Some r) x e = (r, refl, cc)

-- no start, no run
pub start_none : (o : Option Run) → start_of o ≡ None → o ≡ None
start_none None e = refl
start_none (Some r) e = absurd (cc)

-- it has the value, and nothing before it has
pub record FoundIn (P : Positions) (v : Bool) (a n x : ℕ) : Type 0 where
  pub from : a ≤ x
  pub past : x < a + n
  pub has : P x ≡ v
  pub under : (y : ℕ) → a ≤ y → y < x → P y ≡ not v

-- what a found position is
pub find-only : (P : Positions) (v : Bool) (a n x : ℕ) → find P v a n ≡ Some x → FoundIn P v a n x
find-only P v a n x e =
    let d = start-parts (first_run (runs_in P v a n)) x (sym (find_runs P v a n) ∙ e) in
    let f : IsFirst P v a n d.0 = first_run-only P v a n d.0 d.1 in
    record {
      from = omega (arith, f.is.from, d.2);
      past = omega (arith, f.is.ordered, f.is.past, d.2);
      has = f.is.same x (omega (arith, d.2)) (omega (arith, f.is.ordered, d.2));
      under = λ y h l. f.under y h (omega (arith, d.2));
    }

-- ---- select
-- there is one where the runs are wide enough
select_runs-some : (total j : ℕ) (rs : List Run) (k : ℕ) → Canon total j rs → k < widths rs → (x : ℕ) × (select_runs rs k ≡ Some x)
unfolding widths
select_runs-some total j [] k c h = absurd (omega arith)
select_runs-some total j (r ∷ rs) k c h =
    go (split k (r.«end» + 1 - r.start)) (λ l. select_runs-some total (r.«end» + 2) rs (k - (r.«end» + 1 - r.start)) c.3 l)
  where
    go : (k < r.«end» + 1 - r.start) ⊎ (r.«end» + 1 - r.start ≤ k)
        → (k - (r.«end» + 1 - r.start) < widths rs → (x : ℕ) × (select_runs rs (k - (r.«end» + 1 - r.start)) ≡ Some x)) → (x : ℕ) × (select_runs (r ∷ rs) k ≡ Some x)
    go (inl l) ih = (r.start + k, select_runs-in r rs k l)
    go (inr l) ih = let d = ih (omega arith) in (d.0, select_runs-past r rs k l ∙ d.1)

-- there is one where there are more than j positions of the value
pub select-some : (P : Positions) (v : Bool) (a n j : ℕ) → j < count P v a n → (x : ℕ) × (select P v a n j ≡ Some x)
select-some P v a n j h =
    let d = select_runs-some (a + n) a (runs_in P v a n) j (runs_in-canon P v (a + n) a n (omega arith)) (omega (arith, count_runs P v a n)) in
    (d.0, select-runs P v a n j ∙ d.1)

module _ (P : Positions) (v : Bool) (a m k : ℕ) where
  -- selected in the first part
  pub select-first : (j : ℕ) → j < count P v a m → select P v a (m + k) j ≡ select P v a m j
  select-first j h =
      let d = select-some P v a m j h in
      let s : Selected P v a m j d.0 = select-only P v a m j d.0 d.1 in
      let q : a + (d.0 - a) ≡ d.0 = omega (arith, s.from) in
      select-is P v a (m + k) (d.0 - a) j (omega (arith, s.past, s.from)) (ap P q ∙ s.has) s.before ∙ ap Some q ∙ sym d.1

  -- selected in the second part, or not at all
  pub select-second : (j : ℕ) → count P v a m ≤ j → select P v a (m + k) j ≡ select P v (a + m) k (j - count P v a m)
  select-second j h = go (split (j - count P v a m) (count P v (a + m) k))
    where
      whole : count P v a (m + k) ≡ count P v a m + count P v (a + m) k
      whole = count_cut P v a (m + k) m (a + m) k refl refl

      go : (j - count P v a m < count P v (a + m) k) ⊎ (count P v (a + m) k ≤ j - count P v a m)
          → select P v a (m + k) j ≡ select P v (a + m) k (j - count P v a m)
      go (inr l) = select-none P v a (m + k) j (omega (arith, whole)) ∙ sym (select-none P v (a + m) k (j - count P v a m) l)
      go (inl l) =
          let d = select-some P v (a + m) k (j - count P v a m) l in
          let s : Selected P v (a + m) k (j - count P v a m) d.0 = select-only P v (a + m) k (j - count P v a m) d.0 d.1 in
          let q : a + (d.0 - a) ≡ d.0 = omega (arith, s.from) in
          let c : count P v a (d.0 - a) ≡ count P v a m + count P v (a + m) (d.0 - (a + m)) =
          count_cut P v a (d.0 - a) m (a + m) (d.0 - (a + m)) (omega (arith, s.from)) refl in
          select-is P v a (m + k) (d.0 - a) j (omega (arith, s.past, s.from)) (ap P q ∙ s.has) (omega (arith, c, s.before)) ∙ ap Some q ∙ sym d.1
