-- Holding the positions s .. e, as runs in order: the run that is to grow takes in, one after another, the runs after it that touch what
-- has been reached. The model's `insert` does the same, so each step leaves its outcome as it was. Assumes nothing.
use Rattle.std.specs.Prelude.{Option, None, Some}
use Rattle.std.proofs.Common.{◌≡◌, ℕ, ◌+◌, ◌<◌, ◌≤◌, List, [], ◌∷◌, ◌++◌, length, sym, refl, ap, ◌∙◌}
use Rattle.std.proofs.Common.{subst, ap₂, arith, length-append}
use Rattle.model.specs.declared.Run.{Run}
use Rattle.model.specs.Numbers.{size}
use Rattle.model.specs.Positions.{run, first_run}
use Rattle.model.specs.RunList.{Canon, first_from, insert}
use Rattle.model.proofs.Search.{canon-split, canon-starts, starts-weaken}
use Rattle.model.proofs.Edit.{insert-put, insert-join}
use Rattle.run_index.specs.Tree.{Tree}
use Rattle.run_index.specs.Order.{Before}
use Rattle.run_index.specs.Search.{Indexed, runs_from}
use Rattle.pool.specs.declared.Links.{Links}
use Rattle.pool.specs.Soundness.{Footprint}
use Rattle.pool.specs.Free.{Becomes, Removable, RemovesRun}
use Rattle.changes.specs.Change.{Parted, Absorbable, Absorbed}
use Rattle.changes.proofs.Counting.{runs_of}
use Rattle.changes.proofs.Steps.{becomes-none, becomes-canon, becomes-runs, becomes-indexed, becomes-after, becomes-removable, becomes-removed}
use Rattle.changes.proofs.Lists.{first-after, first_some, first-none, append-one, canon-before}

-- ---- the run start .. b takes in runs after it
module _ (ls us : List Run) (start b : ℕ) (c : Canon size 0 (ls ++ (run start b ∷ us))) where
  -- its ends are in order
  grow-ordered : start ≤ b
  grow-ordered = (canon-split size 0 ls (run start b) us c).2

  -- what follows starts two after it
  grow-after : Canon size (b + 2) us
  grow-after = (canon-split size 0 ls (run start b) us c).4

  -- the next run is the first of those after it
  pub next-first : first_from (start + 1) (ls ++ (run start b ∷ us)) ≡ first_run us
  next-first =
      ap (first_from (start + 1)) (sym (append-one ls (run start b) us))
      ∙ first-after (start + 1) (ls ++ (run start b ∷ [])) us (past ls (canon-before size 0 ls (run start b) us c))
      (starts-weaken (b + 2) (start + 1) us (omega (arith, grow-ordered)) (canon-starts size (b + 2) us grow-after))
    where
      past : (qs : List Run) → Before start qs → Before (start + 1) (qs ++ (run start b ∷ []))
      past [] h = (omega arith, tt)
      past (q ∷ qs) h = (omega (arith, h.0), past qs h.1)

-- nothing is left
pub take_none : (a b : ℕ) → insert a b [] ≡ run a b ∷ []
unfolding insert
take_none a b = refl

-- canonical runs that start two after b stay
pub insert-first : (a b k : ℕ) (us : List Run) → a ≤ k → b + 2 ≤ k → Canon size k us → insert a b us ≡ run a b ∷ us
insert-first a b k [] l h c = take_none a b
insert-first a b k (r ∷ us) l h c = insert-put a b r us (omega (arith, c.0, c.1)) (omega (arith, c.0))

-- it takes the next one in, which ends by what is reached
take_in : (start b reached : ℕ) (r : Run) (us : List Run) → start ≤ b → Canon size (b + 2) (r ∷ us) → r.start ≤ reached + 1 → r.«end» ≤ reached
    → (a : ℕ) → a ≤ start → insert a reached us ≡ insert a reached (r ∷ us)
take_in start b reached r us o c h k a le =
    ap₂ (λ (i j : ℕ). insert i j us) (omega (arith, c.0)) (omega arith) ∙ sym (insert-join a reached r us (omega (arith, c.0, c.1)) h)

-- one that ends no earlier is the last
take_last : (start b reached : ℕ) (r : Run) (us : List Run) → start ≤ b → Canon size (b + 2) (r ∷ us) → r.start ≤ reached + 1 → reached ≤ r.«end»
    → (a : ℕ) → a ≤ start → insert a reached (r ∷ us) ≡ run a r.«end» ∷ us
take_last start b reached r us o c h k a le =
    insert-join a reached r us (omega (arith, c.0, c.1)) h ∙ ap₂ (λ (i j : ℕ). insert i j us) (omega (arith, c.0)) (omega arith)
    ∙ insert-first a r.«end» (r.«end» + 2) us (omega (arith, o, c.0, c.1)) (omega arith) c.3

-- or leaves it, and all after it
pub leave-out : (start b reached : ℕ) (r : Run) (us : List Run) → start ≤ b → Canon size (b + 2) (r ∷ us) → reached + 1 < r.start
    → (a : ℕ) → a ≤ start → insert a reached (r ∷ us) ≡ run a reached ∷ (r ∷ us)
leave-out start b reached r us o c h a le = insert-put a reached r us (omega (arith, c.0, c.1)) h

-- ---- what `absorb` has done so far to the runs us after start .. b
pub record SoFar (w w1 : List ℕ) (sh : Footprint) (y : Links) (start e : ℕ) (ls us : List Run) (b : ℕ) : Type 0 where
  pub left : List Run
  pub becomes : Becomes w w1 sh y (ls ++ (run start b ∷ left))
  pub same : (a : ℕ) → a ≤ start → insert a e left ≡ insert a e us

module _ {w w1 : List ℕ} {sh : Footprint} {y : Links} {start e : ℕ} {ls us : List Run} {b : ℕ} (s : SoFar w w1 sh y start e ls us b) where
  -- the run that grows has its ends in order
  ordered : start ≤ b
  ordered = grow-ordered ls s.left start b (becomes-canon s.becomes)

  -- what is left starts two after it
  after : Canon size (b + 2) s.left
  after = grow-after ls s.left start b (becomes-canon s.becomes)

  -- what stands where nothing that is left joins
  absorbed : {last : ℕ} → ((a : ℕ) → a ≤ start → insert a e s.left ≡ run a last ∷ s.left) → Absorbed w w1 sh y start e last ls us b
  absorbed f = record { left = s.left; becomes = s.becomes; joined = λ a l. sym (s.same a l) ∙ f a l }

  -- nothing of what reaches no further than the run does
  pub within : e ≤ b → Absorbed w w1 sh y start e e ls us b
  within h = absorbed (λ a l. insert-first a e (b + 2) s.left (omega (arith, ordered)) (omega arith) after)

  -- the search for the next run
  module _ (n : Option Run) (f : n ≡ first_from (start + 1) (runs_from w1 y.root)) where
    -- it finds the first of the runs left
    next-is : n ≡ first_run s.left
    next-is = becomes-after s.becomes (start + 1) n f ∙ next-first ls s.left start b (becomes-canon s.becomes)

    -- it finds r
    module _ (r : Run) (en : n ≡ Some r) where
      -- the runs after r
      rest : (vs : List Run) × (s.left ≡ r ∷ vs)
      rest = first_some s.left r (sym en ∙ next-is)

      -- r and they are canonical
      canon-rest : Canon size (b + 2) (r ∷ rest.0)
      canon-rest = subst (Canon size (b + 2)) rest.1 after

      -- the runs around r
      around : Becomes w w1 sh y ((ls ++ (run start b ∷ [])) ++ (r ∷ rest.0))
      around =
          subst (Becomes w w1 sh y) (ap (λ (vs : List Run). ls ++ (run start b ∷ vs)) rest.1 ∙ sym (append-one ls (run start b) (r ∷ rest.0))) s.becomes

      -- r may be removed
      pub next-removable : Removable w1 y r.start
      next-removable = becomes-removable (ls ++ (run start b ∷ [])) r rest.0 around

      module _ {w2 : List ℕ} {z : Links} (g : RemovesRun w1 w2 y z r.start) where
        -- the runs without r
        removed : Becomes w w2 sh z (ls ++ (run start b ∷ rest.0))
        removed =
            subst (Becomes w w2 sh z) (append-one ls (run start b) rest.0) (becomes-removed (ls ++ (run start b ∷ [])) r rest.0 around g)

        -- it is taken in
        pub so-far-taken : r.start ≤ e + 1 → r.«end» ≤ e → SoFar w w2 sh z start e ls us b
        so-far-taken le k = record {
          left = rest.0;
          becomes = removed;
          same = λ a l. take_in start b e r rest.0 ordered canon-rest le k a l ∙ ap (insert a e) (sym rest.1) ∙ s.same a l;
        }

        -- it is the last
        pub last-taken : r.start ≤ e + 1 → e ≤ r.«end» → Absorbed w w2 sh z start e r.«end» ls us b
        last-taken le k = record {
          left = rest.0;
          becomes = removed;
          joined = λ a l. sym (s.same a l) ∙ ap (insert a e) rest.1 ∙ take_last start b e r rest.0 ordered canon-rest le k a l;
        }

        -- there are fewer runs
        pub so-far-fewer : runs_of w2 z.root < runs_of w1 y.root
        so-far-fewer =
            omega (
              arith,
              becomes-runs removed,
              becomes-runs s.becomes,
              length-append ls (run start b ∷ rest.0),
              length-append ls (run start b ∷ s.left),
              ap length rest.1,
            )

      -- r does not touch what is reached
      pub apart : e + 1 < r.start → Absorbed w w1 sh y start e e ls us b
      apart lt =
          absorbed (λ a l. ap (insert a e) rest.1 ∙ leave-out start b e r rest.0 ordered canon-rest lt a l ∙ ap (λ (vs : List Run). run a e ∷ vs) (sym rest.1))

    -- it finds none
    pub over : n ≡ None → Absorbed w w1 sh y start e e ls us b
    over en =
        let nothing : s.left ≡ [] = first-none s.left (sym en ∙ next-is) in
        absorbed (λ a l. ap (insert a e) nothing ∙ take_none a e ∙ ap (λ (vs : List Run). run a e ∷ vs) (sym nothing))

-- ---- the invariant of `absorb`
pub record Absorbing (w w1 : List ℕ) (x y : Links) (start b e : ℕ) : Type 0 where
  pub so_far : {sh : Footprint} {ls us : List Run} {t : Tree} {ns : List ℕ} → Parted w sh x ls (run start b ∷ us) t ns → SoFar w w1 sh y start e ls us b

-- it holds at first
pub absorbing-none : {w : List ℕ} {x : Links} {start b e : ℕ} → Absorbing w w x x start b e
absorbing-none = record {
  so_far = λ {sh} {ls} {us} p. record { left = us; becomes = becomes-none p.kept p.runs-are; same = λ a l. refl };
}

-- the run that grows has its ends in order
pub absorbing-ordered : {w : List ℕ} {x : Links} {start b : ℕ} → Absorbable w x start b → start ≤ b
absorbing-ordered {start = start} {b = b} p =
    grow-ordered p.1 p.2 start b (becomes-canon (becomes-none p.5.kept p.5.runs-are))

module _ {w w1 : List ℕ} {x y : Links} {start b e : ℕ} (i : Absorbing w w1 x y start b e) (p : Absorbable w x start b) where
  -- what has been done to the runs that the caller has
  pub here : SoFar w w1 p.0 y start e p.1 p.2 b
  here = i.so_far p.5

  -- the tree may be searched
  pub absorbing-indexed : Indexed w1 y.root
  absorbing-indexed = becomes-indexed here.becomes
