-- A tree on its way: w1 is what became of w, and rs are the runs that the links y lead to. Each call of the index is asked for in these words
-- and leaves them, so that a function is a walk from list to list. In the end the runs have the positions that were set. Assumes nothing.
use Rattle.std.specs.Prelude.{Option, None, Some}
use Rattle.std.proofs.Common.{◌≡◌, ℕ, suc, ◌+◌, ◌-◌, ◌<◌, ◌≤◌, Bool, cond, ◌&&◌, ltb, leb, ◌⊎◌, List, ◌∷◌, ◌++◌, length, sym, refl, ap, ◌∙◌, subst}
use Rattle.std.proofs.Common.{inl, inr, arith, length-append, le-ltb, lt-ltb, le-leb}
use borrow.Author.Tests.{lt-leb}
use Rattle.model.specs.declared.Run.{Run}
use Rattle.model.specs.Numbers.{size}
use Rattle.model.proofs.Numbers.{split}
use Rattle.model.specs.Positions.{run, inside, among, set_range, mem}
use Rattle.model.proofs.Runs.{stretches-is}
use Rattle.model.specs.RunList.{Canon, StartFrom, last_up_to, first_from}
use Rattle.model.proofs.Edit.{set_to, set_to-canon, set_to-mem}
use Rattle.run_index.specs.Tree.{Tree, inorder}
use Rattle.run_index.specs.Order.{insert_run, remove_run, replace_run, Before, Starts, Has}
use Rattle.run_index.specs.Search.{Indexed, runs_from}
use Rattle.run_index.proofs.Totals.{runs-length}
use Rattle.pool.specs.declared.Links.{Links}
use Rattle.pool.specs.Soundness.{Footprint, Represents}
use Rattle.pool.specs.Free.{RoomFor, Addable, Becomes, Adds, HasRun, Removable, RemovesRun, Alterable, Changeable, Changes}
use Rattle.changes.specs.Change.{MaySet, Holding}
use Rattle.pool.proofs.Nodes.{kept-index, still-then, still-same}
use Rattle.pool.proofs.Reached.{kept-runs}
use Rattle.changes.proofs.Counting.{runs_of, runs_of_lem}
use Rattle.changes.proofs.Lists.{last_none, Around, last-around, starts-at, has-at, remove-at, replace-at, insert-at, canon-before}

-- nothing is done yet
pub becomes-none : {w : List ℕ} {sh : Footprint} {x : Links} {t : Tree} {ns : List ℕ} {rs : List Run} → Represents w sh x t ns → inorder t ≡ rs → Becomes w w sh x rs
becomes-none {t = t} {ns = ns} k e = record { tree = t; nodes = ns; kept = k; runs-are = e; still = still-same }

module _ {w w1 : List ℕ} {sh : Footprint} {y : Links} {rs : List Run} (u : Becomes w w1 sh y rs) where
  -- its runs are canonical
  pub becomes-canon : Canon size 0 rs
  becomes-canon = subst (Canon size 0) u.runs-are u.kept.ordered

  -- the words give how many they are
  pub becomes-runs : runs_of w1 y.root ≡ length rs
  becomes-runs = runs_of_lem u.tree u.kept.linked ∙ ap length u.runs-are

  -- a step that makes qs of them
  pub becomes-then : {w2 : List ℕ} {z : Links} {qs : List Run} → Becomes w1 w2 sh z qs → Becomes w w2 sh z qs
  becomes-then b = record { tree = b.tree; nodes = b.nodes; kept = b.kept; runs-are = b.runs-are; still = still-then u.still b.still }

  -- its tree may be searched
  pub becomes-indexed : Indexed w1 y.root
  becomes-indexed = (sh.tag, u.tree, kept-index u.kept)

  -- the search for the run at p or before it
  pub becomes-before : (p : ℕ) (n : Option Run) → n ≡ last_up_to p (runs_from w1 y.root) → n ≡ last_up_to p rs
  becomes-before p n f = f ∙ ap (last_up_to p) (kept-runs u.kept ∙ u.runs-are)

  -- the search for the run at p or after it
  pub becomes-after : (p : ℕ) (n : Option Run) → n ≡ first_from p (runs_from w1 y.root) → n ≡ first_from p rs
  becomes-after p n f = f ∙ ap (first_from p) (kept-runs u.kept ∙ u.runs-are)

-- a run between ls and us
module _ {w w1 : List ℕ} {sh : Footprint} {y : Links} (ls : List Run) (r : Run) (us : List Run) (u : Becomes w w1 sh y (ls ++ (r ∷ us))) where
  -- it is there
  has-run : HasRun w1 sh y r.start u.tree u.nodes
  has-run = record { kept = u.kept; starts = subst (Starts r.start) (sym u.runs-are) (starts-at r us ls) }

  -- it may be removed
  pub becomes-removable : Removable w1 y r.start
  becomes-removable = (sh, u.tree, u.nodes, has-run)

  -- and is
  pub becomes-removed : {w2 : List ℕ} {z : Links} → RemovesRun w1 w2 y z r.start → Becomes w w2 sh z (ls ++ us)
  becomes-removed {w2} {z} f =
      subst (Becomes w w2 sh z) (ap (remove_run r.start) u.runs-are ∙ remove-at r us ls (canon-before size 0 ls r us (becomes-canon u)))
      (becomes-then u (f sh u.tree u.nodes has-run))

  module _ (a b : ℕ) (o : a ≤ b) (c : Canon size 0 (ls ++ (run a b ∷ us))) where
    -- the runs with a .. b in its place
    replaced : replace_run r.start (run a b) (inorder u.tree) ≡ ls ++ (run a b ∷ us)
    replaced = ap (replace_run r.start (run a b)) u.runs-are ∙ replace-at r us (run a b) ls (canon-before size 0 ls r us (becomes-canon u))

    -- they may be made
    alterable : Alterable w1 sh y r.start r.«end» a b u.tree u.nodes
    alterable = record { kept = u.kept; has = subst (Has r.start r.«end») (sym u.runs-are) (has-at r us ls); fits = subst (Canon size 0) (sym replaced) c; ordered = o }

    -- it may become a .. b
    pub becomes-changeable : Changeable w1 y r.start r.«end» a b
    becomes-changeable = (sh, u.tree, u.nodes, alterable)

    -- and does
    pub becomes-changed : {w2 : List ℕ} → Changes w1 w2 y r.start r.«end» a b → Becomes w w2 sh y (ls ++ (run a b ∷ us))
    becomes-changed {w2} f = subst (Becomes w w2 sh y) replaced (becomes-then u (f sh u.tree u.nodes alterable))

-- a new run a .. b between ls and us, where the nodes are enough
module _ {w w1 : List ℕ} {sh : Footprint} {y : Links} (ls us : List Run) (u : Becomes w w1 sh y (ls ++ us)) (a b : ℕ) (before : Before a ls)
    (after : StartFrom (a + 1) us) (o : a ≤ b) (c : Canon size 0 (ls ++ (run a b ∷ us))) (few : length (ls ++ (run a b ∷ us)) ≤ sh.own) where
  -- the runs with it
  added : insert_run (run a b) (inorder u.tree) ≡ ls ++ (run a b ∷ us)
  added = ap (insert_run (run a b)) u.runs-are ∙ insert-at (run a b) ls us before after

  -- there is a free node, since the runs with it are no more than the nodes
  room_for : RoomFor w1 sh y a b u.tree u.nodes
  room_for = record {
    kept = u.kept;
    some = omega (
      arith,
      u.kept.counted,
      runs-length u.tree,
      ap length u.runs-are,
      length-append ls us,
      length-append ls (run a b ∷ us),
    );
    fits = subst (Canon size 0) (sym added) c;
    ordered = o;
  }

  -- it may be added
  pub becomes-addable : Addable w1 y a b
  becomes-addable = (sh, u.tree, u.nodes, room_for)

  -- and is
  pub becomes-added : {w2 : List ℕ} {z : Links} → Adds w1 w2 y z a b → Becomes w w2 sh z (ls ++ (run a b ∷ us))
  becomes-added {w2} {z} f = subst (Becomes w w2 sh z) added (becomes-then u (f sh u.tree u.nodes room_for))

-- ---- setting
-- r is the last run that starts at s or before it
pub record FoundRun (w : List ℕ) (x : Links) (s : ℕ) (r : Run) : Type 0 where
  pub around : {sh : Footprint} {t : Tree} {ns : List ℕ} → Represents w sh x t ns → Around s r (inorder t)

-- all runs start after s
pub record FoundNone (w : List ℕ) (x : Links) (s : ℕ) : Type 0 where
  pub after : {sh : Footprint} {t : Tree} {ns : List ℕ} → Represents w sh x t ns → StartFrom (s + 1) (inorder t)

module _ {w : List ℕ} {x : Links} {s : ℕ} (n : Option Run) (f : n ≡ last_up_to s (runs_from w x.root)) where
  -- the search has found r
  pub found : (r : Run) → n ≡ Some r → FoundRun w x s r
  found r en = record {
    around = λ {sh} {t} {ns} k. last-around s (inorder t) r (sym en ∙ becomes-before (becomes-none k refl) s n f);
  }

  -- it has found none
  pub found_none : n ≡ None → FoundNone w x s
  found_none en = record {
    after = λ {sh} {t} {ns} k. last_none s (inorder t) (sym (becomes-before (becomes-none k refl) s n f) ∙ en);
  }

-- the positions from s to e are suc e - s many from s
among-inside : (s e x : ℕ) → s ≤ e → inside s e x ≡ among s (suc e - s) x
among-inside s e x h = ap (λ (t : Bool). leb s x && t) (go (split e x))
  where
    go : (e < x) ⊎ (x ≤ e) → leb x e ≡ ltb x (s + (suc e - s))
    go (inl l) = lt-leb x e l ∙ sym (le-ltb x (s + (suc e - s)) (omega arith))
    go (inr l) = le-leb x e l ∙ sym (lt-ltb x (s + (suc e - s)) (omega arith))

module _ {w : List ℕ} {sh : Footprint} {x : Links} {s e : ℕ} {v : Bool} {t : Tree} {ns : List ℕ} (o : s ≤ e) (m : MaySet w sh x s e v t ns) where
  -- the runs set by the model have the positions set
  set-mem : (p : ℕ) → mem (set_to v s e (inorder t)) p ≡ set_range s (suc e - s) v (mem (inorder t)) p
  unfolding set_range
  set-mem p =
      set_to-mem size s e v (inorder t) p m.kept.ordered o
      ∙ ap (λ (b : Bool). cond b v (mem (inorder t) p)) (among-inside s e p o)

  -- they are canonical
  pub set-canon : Canon size 0 (set_to v s e (inorder t))
  set-canon = set_to-canon size s e v (inorder t) m.kept.ordered o m.below

  -- the nodes are enough for them
  pub set-few : length (set_to v s e (inorder t)) ≤ sh.own
  set-few =
      omega (arith, m.fits, stretches-is (set_range s (suc e - s) v (mem (inorder t))) (set_to v s e (inorder t)) set-canon (λ p _. set-mem p))

  -- links that lead to these runs hold the positions set
  pub set-holding : {w' : List ℕ} {y : Links} → Becomes w w' sh y (set_to v s e (inorder t)) → Holding w w' sh y (set_range s (suc e - s) v (mem (inorder t)))
  set-holding u = record {
    tree = u.tree;
    nodes = u.nodes;
    kept = u.kept;
    positions-are = λ p _. ap (λ (rs : List Run). mem rs p) u.runs-are ∙ set-mem p;
    still = u.still;
  }
