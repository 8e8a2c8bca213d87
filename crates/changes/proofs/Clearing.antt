-- Freeing the positions s .. e, as runs in order: of the runs that start at s or after it, the first goes while it ends by e, and loses its
-- front where it goes on. The model's `clear` does the same, so each step leaves its outcome as it was. Assumes nothing.
use Rattle.std.specs.Prelude.{Option, None, Some}
use Rattle.std.proofs.Common.{◌≡◌, ℕ, ◌+◌, ◌-◌, ◌<◌, ◌≤◌, List, [], ◌∷◌, ◌++◌, sym, refl, ap, ◌∙◌, subst, arith, length-append, le-ltb, lt-ltb}
use Rattle.model.specs.declared.Run.{Run}
use Rattle.model.specs.Numbers.{size}
use Rattle.model.specs.Positions.{run, first_run}
use Rattle.model.specs.RunList.{Canon, first_from, EndBelow, StartFrom, clear}
use Rattle.model.proofs.Search.{canon-split}
use Rattle.run_index.specs.Tree.{Tree}
use Rattle.run_index.specs.Search.{Indexed, runs_from}
use Rattle.pool.specs.declared.Links.{Links}
use Rattle.pool.specs.Soundness.{Footprint}
use Rattle.pool.specs.Free.{Becomes, Removable, RemovesRun, Changeable, Changes}
use Rattle.changes.specs.Change.{Cut, Clearable}
use Rattle.changes.proofs.Counting.{runs_of}
use Rattle.changes.proofs.Lists.{first-after, first_some, first-none, ends-before, canon-shrink}
use Rattle.changes.proofs.Steps.{becomes-canon, becomes-runs, becomes-indexed, becomes-after, becomes-removable, becomes-removed, becomes-changeable, becomes-changed}

-- ---- what `clear` makes of runs
-- a run that ends before s stays
pub clear-early : (s e : ℕ) (r : Run) (us : List Run) → s ≤ e → r.start ≤ r.«end» → r.«end» < s → clear s e (r ∷ us) ≡ r ∷ clear s e us
unfolding clear
clear-early s e r us le o h =
    rw (lt-ltb r.start s (omega arith), le-ltb e r.«end» (omega arith)) (ap (λ (k : ℕ). run r.start k ∷ clear s e us) (omega arith))

-- runs that all do stay
pub clear-below : (s e : ℕ) (ls us : List Run) → s ≤ e → EndBelow s ls → clear s e (ls ++ us) ≡ ls ++ clear s e us
clear-below s e [] us le h = refl
clear-below s e (r ∷ ls) us le h =
    clear-early s e r (ls ++ us) le h.0 h.1 ∙ ap (λ (vs : List Run). r ∷ vs) (clear-below s e ls us le h.2)

-- runs that start after e stay
pub clear_above : (s e k : ℕ) (us : List Run) → s ≤ k → e < k → Canon size k us → clear s e us ≡ us
unfolding clear
clear_above s e k [] l h c = refl
clear_above s e k (r ∷ us) l h c =
    rw (
      le-ltb r.start s (omega (arith, c.0)),
      lt-ltb e r.«end» (omega (arith, c.0, c.1)),
      clear_above s e (r.«end» + 2) us (omega (arith, c.0, c.1)) (omega (arith, c.0, c.1)) c.3,
    ) (ap (λ (j : ℕ). run j r.«end» ∷ us) (omega (arith, c.0)))

-- a run from s to e goes
pub clear-gone : (s e : ℕ) (r : Run) (us : List Run) → s ≤ r.start → r.«end» ≤ e → clear s e (r ∷ us) ≡ clear s e us
unfolding clear
clear-gone s e r us h k = rw (le-ltb r.start s h, le-ltb e r.«end» k)

-- a run from s on loses what is up to e
pub clear-front : (s e : ℕ) (r : Run) (us : List Run) → s ≤ r.start → r.start ≤ e → e < r.«end» → clear s e (r ∷ us) ≡ run (e + 1) r.«end» ∷ clear s e us
unfolding clear
clear-front s e r us h l k =
    rw (le-ltb r.start s h, lt-ltb e r.«end» k) (ap (λ (j : ℕ). run j r.«end» ∷ clear s e us) (omega arith))

-- nothing stays nothing
clear_none : (s e : ℕ) → clear s e [] ≡ []
unfolding clear
clear_none s e = refl

-- ---- what `clear_from` has done so far to the runs us from s on
pub record Cleared (w w1 : List ℕ) (sh : Footprint) (y : Links) (s e : ℕ) (ls us : List Run) : Type 0 where
  pub left : List Run
  pub becomes : Becomes w w1 sh y (ls ++ left)
  pub below : EndBelow s ls
  pub from : StartFrom s left
  pub same : clear s e left ≡ clear s e us

-- what is left is all that is to be left
cleared-done : {w w1 : List ℕ} {sh : Footprint} {y : Links} (ls : List Run) {vs ws : List Run} → Becomes w w1 sh y (ls ++ vs) → vs ≡ ws → Becomes w w1 sh y (ls ++ ws)
cleared-done {w} {w1} {sh} {y} ls b f = subst (λ (vs : List Run). Becomes w w1 sh y (ls ++ vs)) f b

module _ {w w1 : List ℕ} {sh : Footprint} {y : Links} {s e : ℕ} {ls us : List Run} (d : Cleared w w1 sh y s e ls us)
    (n : Option Run) (f : n ≡ first_from s (runs_from w1 y.root)) where
  -- the search finds the first of the runs left
  first-is : n ≡ first_run d.left
  first-is = becomes-after d.becomes s n f ∙ first-after s ls d.left (ends-before s s ls (omega arith) d.below) d.from

  -- the search finds r
  module _ (r : Run) (en : n ≡ Some r) where
    -- the runs after r
    rest : (vs : List Run) × (d.left ≡ r ∷ vs)
    rest = first_some d.left r (sym en ∙ first-is)

    -- r and they start at s or after it
    starts : StartFrom s (r ∷ rest.0)
    starts = subst (StartFrom s) rest.1 d.from

    -- the runs around r
    around : Becomes w w1 sh y (ls ++ (r ∷ rest.0))
    around = subst (Becomes w w1 sh y) (ap (λ (vs : List Run). ls ++ vs) rest.1) d.becomes

    -- what is before r ends two before it, what follows starts two after it
    parts : (Canon (r.start - 1) 0 ls) × (0 ≤ r.start) × (r.start ≤ r.«end») × (r.«end» < size) × Canon size (r.«end» + 2) rest.0
    parts = canon-split size 0 ls r rest.0 (becomes-canon around)

    -- r may be removed
    pub first-removable : Removable w1 y r.start
    first-removable = becomes-removable ls r rest.0 around

    module _ {w2 : List ℕ} {z : Links} (g : RemovesRun w1 w2 y z r.start) where
      -- the runs without r
      removed : Becomes w w2 sh z (ls ++ rest.0)
      removed = becomes-removed ls r rest.0 around g

      -- it goes where it ends by e
      gone : r.«end» ≤ e → clear s e rest.0 ≡ clear s e us
      gone le = sym (clear-gone s e r rest.0 starts.0 le) ∙ ap (clear s e) (sym rest.1) ∙ d.same

      -- others may follow
      pub cleared-gone : r.«end» ≤ e → Cleared w w2 sh z s e ls us
      cleared-gone le = record { left = rest.0; becomes = removed; below = d.below; from = starts.1; same = gone le }

      -- it is the last to go where the next, two after it at least, starts past e
      pub cleared-last : r.«end» ≤ e → e - r.«end» ≤ 1 → Becomes w w2 sh z (ls ++ clear s e us)
      cleared-last le near =
          cleared-done ls removed (sym (clear_above s e (r.«end» + 2) rest.0 (omega (arith, starts.0, parts.2)) (omega arith) parts.4) ∙ gone le)

      -- there are fewer runs
      pub cleared-fewer : runs_of w2 z.root < runs_of w1 y.root
      cleared-fewer =
          omega (arith, becomes-runs removed, becomes-runs around, length-append ls rest.0, length-append ls (r ∷ rest.0))

    -- it goes on after e
    module _ (le : r.start ≤ e) (lt : e < r.«end») where
      -- the runs with r shrunk are canonical
      shrunk : Canon size 0 (ls ++ (run (e + 1) r.«end» ∷ rest.0))
      shrunk = canon-shrink size 0 ls r.start r.«end» (e + 1) r.«end» rest.0 (omega arith) (omega arith) (omega arith) (becomes-canon around)

      -- so it may become what is after e
      pub first-changeable : Changeable w1 y r.start r.«end» (e + 1) r.«end»
      first-changeable = becomes-changeable ls r rest.0 around (e + 1) r.«end» (omega arith) shrunk

      -- and does
      pub cleared-front : {w2 : List ℕ} → Changes w1 w2 y r.start r.«end» (e + 1) r.«end» → Becomes w w2 sh y (ls ++ clear s e us)
      cleared-front g =
          cleared-done ls (becomes-changed ls r rest.0 around (e + 1) r.«end» (omega arith) shrunk g)
          (ap (λ (vs : List Run). run (e + 1) r.«end» ∷ vs) (sym (clear_above s e (r.«end» + 2) rest.0 (omega (arith, starts.0, parts.2)) (omega arith) parts.4))
          ∙ sym (clear-front s e r rest.0 starts.0 le lt) ∙ ap (clear s e) (sym rest.1) ∙ d.same)

    -- it starts after e
    pub cleared-apart : e < r.start → Becomes w w1 sh y (ls ++ clear s e us)
    cleared-apart lt =
        cleared-done ls d.becomes
        (rest.1 ∙ sym (clear_above s e r.start (r ∷ rest.0) starts.0 lt (omega arith, parts.2, parts.3, parts.4)) ∙ ap (clear s e) (sym rest.1) ∙ d.same)

  -- the search finds none
  pub cleared-over : n ≡ None → Becomes w w1 sh y (ls ++ clear s e us)
  cleared-over en =
      let nothing : d.left ≡ [] = first-none d.left (sym en ∙ first-is) in
      cleared-done ls d.becomes (nothing ∙ sym (clear_none s e) ∙ ap (clear s e) (sym nothing) ∙ d.same)

-- ---- the invariant of `clear_from`
pub record ClearingFrom (w w1 : List ℕ) (x y : Links) (s e : ℕ) : Type 0 where
  pub so_far : {sh : Footprint} {ls us : List Run} {t : Tree} {ns : List ℕ} → Cut w sh x s ls us t ns → Cleared w w1 sh y s e ls us

module _ {w w1 : List ℕ} {x y : Links} {s e : ℕ} (i : ClearingFrom w w1 x y s e) (p : Clearable w x s) where
  -- what has been done to the runs that the caller has
  pub here : Cleared w w1 p.0 y s e p.1 p.2
  here = i.so_far p.5

  -- the tree may be searched
  pub clearing-indexed : Indexed w1 y.root
  clearing-indexed = becomes-indexed here.becomes
