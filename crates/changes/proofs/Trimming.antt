-- Freeing the positions s .. e: the run that goes on from before s keeps what is before s, and what it has after e becomes a run of its
-- own; then no run goes on from before s. In each case the runs are on their way to those of the model's `clear`. Assumes nothing.
use Rattle.std.proofs.Common.{◌≡◌, ℕ, suc, ◌+◌, ◌-◌, ◌<◌, ◌≤◌, false, List, [], ◌∷◌, ◌++◌, length, sym, refl, ap, ◌∙◌, subst, ap₂, arith, le-ltb, lt-ltb}
use Rattle.model.specs.declared.Run.{Run}
use Rattle.model.specs.Numbers.{size}
use Rattle.model.specs.Positions.{run, set_range, mem}
use Rattle.model.specs.RunList.{Canon, EndBelow, StartFrom, clear}
use Rattle.model.proofs.Search.{canon-split, canon-starts, starts-weaken}
use Rattle.model.proofs.Edit.{set_to}
use Rattle.run_index.specs.Tree.{Tree, inorder}
use Rattle.run_index.specs.Order.{Before}
use Rattle.pool.specs.declared.Links.{Links}
use Rattle.pool.specs.Soundness.{Footprint}
use Rattle.pool.specs.Free.{Becomes, Addable, Adds, Changeable, Changes}
use Rattle.changes.specs.Change.{MaySet, Settable, Holding, Sets, Cut, Clearable, ClearsFrom}
use Rattle.changes.proofs.Lists.{Around, ends-before, ends_more, ends_last, append-one, canon-shrink, canon-below}
use Rattle.changes.proofs.Steps.{
  FoundRun,
  FoundNone,
  becomes-none,
  becomes-canon,
  becomes-then,
  becomes-changeable,
  becomes-changed,
  becomes-addable,
  becomes-added,
  set-canon,
  set-few,
  set-holding,
}
use Rattle.changes.proofs.Clearing.{clear-below, clear_above}

-- ---- what `clear` makes of a run that goes on from before s
-- it keeps what is before s
clear-back : (s e : ℕ) (r : Run) (us : List Run) → r.start < s → s ≤ r.«end» → r.«end» ≤ e → clear s e (r ∷ us) ≡ run r.start (s - 1) ∷ clear s e us
unfolding clear
clear-back s e r us h k l =
    rw (lt-ltb r.start s h, le-ltb e r.«end» l) (ap (λ (j : ℕ). run r.start j ∷ clear s e us) (omega arith))

-- and what is after e
clear_both : (s e : ℕ) (r : Run) (us : List Run) → s ≤ e → r.start < s → e < r.«end»
    → clear s e (r ∷ us) ≡ run r.start (s - 1) ∷ (run (e + 1) r.«end» ∷ clear s e us)
unfolding clear
clear_both s e r us o h l =
    rw (lt-ltb r.start s h, lt-ltb e r.«end» l)
    (ap₂ (λ (j k : ℕ). run r.start j ∷ (run k r.«end» ∷ clear s e us)) (omega arith) (omega arith))

-- ---- the runs set
-- links that lead to those of `clear` hold what is left
lowered : {w w' : List ℕ} {sh : Footprint} {x y : Links} {s e : ℕ} {t : Tree} {ns : List ℕ} → s ≤ e → MaySet w sh x s e false t ns → Becomes w w' sh y (clear s e (inorder t))
    → Holding w w' sh y (set_range s (suc e - s) false (mem (inorder t)))
unfolding set_to
lowered o m u = set-holding o m u

-- they are canonical
lowered-canon : {w : List ℕ} {sh : Footprint} {x : Links} {s e : ℕ} {t : Tree} {ns : List ℕ} → s ≤ e → MaySet w sh x s e false t ns → Canon size 0 (clear s e (inorder t))
unfolding set_to
lowered-canon o m = set-canon o m

-- the nodes are enough for them
lowered-few : {w : List ℕ} {sh : Footprint} {x : Links} {s e : ℕ} {t : Tree} {ns : List ℕ} → s ≤ e → MaySet w sh x s e false t ns → length (clear s e (inorder t)) ≤ sh.own
unfolding set_to
lowered-few o m = set-few o m

-- ---- no run goes on from before s
-- the runs ls end before s, us start at s or after it, and what is left of us is left of all
pub record Trim (w w1 : List ℕ) (sh : Footprint) (x : Links) (s e : ℕ) (rs : List Run) : Type 0 where
  pub ls : List Run
  pub us : List Run
  pub becomes : Becomes w w1 sh x (ls ++ us)
  pub below : EndBelow s ls
  pub from : StartFrom s us
  pub is : clear s e rs ≡ ls ++ clear s e us

-- it is so in the tree
pub record Trimmed (w w1 : List ℕ) (x : Links) (s e : ℕ) : Type 0 where
  pub trim : {sh : Footprint} {t : Tree} {ns : List ℕ} → MaySet w sh x s e false t ns → Trim w w1 sh x s e (inorder t)

-- equal words are trimmed alike
pub trimmed-same : {w w1 v : List ℕ} {x : Links} {s e : ℕ} → v ≡ w1 → Trimmed w w1 x s e → Trimmed w v x s e
trimmed-same {w} {x = x} {s = s} {e = e} same d = subst (λ (u : List ℕ). Trimmed w u x s e) (sym same) d

module _ {w w1 : List ℕ} {x : Links} {s e : ℕ} (o : s ≤ e) (d : Trimmed w w1 x s e) where
  -- the runs are cut at s
  cut : {sh : Footprint} {t : Tree} {ns : List ℕ} (m : MaySet w sh x s e false t ns)
      → Cut w1 sh x s (d.trim m).ls (d.trim m).us (d.trim m).becomes.tree (d.trim m).becomes.nodes
  cut m =
      let a = d.trim m in
      record { parted = record { kept = a.becomes.kept; runs-are = a.becomes.runs-are }; below = a.below; from = a.from }

  -- the rest may be cleared
  pub trimmed-clearable : Settable w x s e false → Clearable w1 x s
  trimmed-clearable p = (_, _, _, _, _, cut p.3)

  module _ {w2 : List ℕ} {y : Links} (g : ClearsFrom w1 w2 x y s e) where
    -- `clear_from` makes those of `clear`
    cleared : {sh : Footprint} {t : Tree} {ns : List ℕ} (m : MaySet w sh x s e false t ns) → Becomes w w2 sh y (clear s e (inorder t))
    cleared {sh} m =
        let a = d.trim m in
        subst (Becomes w w2 sh y) (sym a.is) (becomes-then a.becomes (g sh a.ls a.us a.becomes.tree a.becomes.nodes (cut m)))

    -- and is
    pub trimmed-cleared : Sets w w2 x y s e false
    trimmed-cleared sh t ns m = lowered o m (cleared m)

-- ---- the run at s or before it
-- there is none
pub trimmed-none : {w : List ℕ} {x : Links} {s e : ℕ} → FoundNone w x s → Trimmed w w x s e
trimmed-none {s = s} q = record {
  trim = λ {sh} {t} m. record {
    ls = [];
    us = inorder t;
    becomes = becomes-none m.kept refl;
    below = tt;
    from = starts-weaken (s + 1) s (inorder t) (omega arith) (q.after m.kept);
    is = refl;
  };
}

-- it is r
module _ {w : List ℕ} {x : Links} {s e : ℕ} {r : Run} (o : s ≤ e) (q : FoundRun w x s r) where
  module _ {sh : Footprint} {t : Tree} {ns : List ℕ} (m : MaySet w sh x s e false t ns) where
    -- the runs around r
    around : Around s r (inorder t)
    around = q.around m.kept

    -- the tree as it is
    at_first : Becomes w w sh x (around.ls ++ (r ∷ around.us))
    at_first = becomes-none m.kept around.is

    -- what is before r ends two before it, what follows starts two after it
    parts : (Canon (r.start - 1) 0 around.ls) × (0 ≤ r.start) × (r.start ≤ r.«end») × (r.«end» < size) × Canon size (r.«end» + 2) around.us
    parts = canon-split size 0 around.ls r around.us (becomes-canon at_first)

    -- the runs before r end before s
    early : EndBelow s around.ls
    early =
        ends_more (r.start - 1) s around.ls (omega (arith, around.at)) (canon-below size 0 around.ls r around.us (becomes-canon at_first))

    -- those after it start after s
    late : StartFrom s around.us
    late = starts-weaken (s + 1) s around.us (omega arith) around.after

    -- the runs before r stay
    set-around : clear s e (inorder t) ≡ around.ls ++ clear s e (r ∷ around.us)
    set-around = ap (clear s e) around.is ∙ clear-below s e around.ls (r ∷ around.us) o early

  -- it starts at s
  pub trimmed-from : s ≤ r.start → Trimmed w w x s e
  trimmed-from le = record {
    trim = λ m. record {
      ls = (around m).ls;
      us = r ∷ (around m).us;
      becomes = at_first m;
      below = early m;
      from = (le, late m);
      is = set-around m;
    };
  }

  -- it ends before s
  pub trimmed-below : r.«end» < s → Trimmed w w x s e
  trimmed-below lt = record {
    trim = λ {sh} {t} m.
        let past : EndBelow s ((around m).ls ++ (r ∷ [])) = ends_last s r (around m).ls (early m) (parts m).2 lt in
        let same : inorder t ≡ ((around m).ls ++ (r ∷ [])) ++ (around m).us = (around m).is ∙ sym (append-one (around m).ls r (around m).us) in
        record {
          ls = (around m).ls ++ (r ∷ []);
          us = (around m).us;
          becomes = becomes-none m.kept same;
          below = past;
          from = late m;
          is = ap (clear s e) same ∙ clear-below s e ((around m).ls ++ (r ∷ [])) (around m).us o past;
        };
  }

  -- it goes on from before s
  module _ (lt : r.start < s) (le : s ≤ r.«end») where
    module _ {sh : Footprint} {t : Tree} {ns : List ℕ} (m : MaySet w sh x s e false t ns) where
      -- the runs with r up to s - 1 are canonical
      back-canon : Canon size 0 ((around m).ls ++ (run r.start (s - 1) ∷ (around m).us))
      back-canon =
          canon-shrink size 0 (around m).ls r.start r.«end» r.start (s - 1) (around m).us (omega arith) (omega arith) (omega arith) (becomes-canon (at_first m))

    -- it may lose what is from s on
    pub back-changeable : Settable w x s e false → Changeable w x r.start r.«end» r.start (s - 1)
    back-changeable p =
        becomes-changeable (around p.3).ls r (around p.3).us (at_first p.3) r.start (s - 1) (omega arith) (back-canon p.3)

    module _ {w1 : List ℕ} (g : Changes w w1 x r.start r.«end» r.start (s - 1)) where
      module _ {sh : Footprint} {t : Tree} {ns : List ℕ} (m : MaySet w sh x s e false t ns) where
        -- the runs with r up to s - 1
        back-becomes : Becomes w w1 sh x (((around m).ls ++ (run r.start (s - 1) ∷ [])) ++ (around m).us)
        back-becomes =
            subst (Becomes w w1 sh x) (sym (append-one (around m).ls (run r.start (s - 1)) (around m).us))
            (becomes-changed (around m).ls r (around m).us (at_first m) r.start (s - 1) (omega arith) (back-canon m) g)

        -- all up to r end before s
        back_below : EndBelow s ((around m).ls ++ (run r.start (s - 1) ∷ []))
        back_below = ends_last s (run r.start (s - 1)) (around m).ls (early m) (omega arith) (omega arith)

      -- it has nothing after e
      pub trimmed-back : r.«end» ≤ e → Trimmed w w1 x s e
      trimmed-back l = record {
        trim = λ m. record {
          ls = (around m).ls ++ (run r.start (s - 1) ∷ []);
          us = (around m).us;
          becomes = back-becomes m;
          below = back_below m;
          from = late m;
          is = set-around m ∙ ap (λ (vs : List Run). (around m).ls ++ vs) (clear-back s e r (around m).us lt le l)
              ∙ sym (append-one (around m).ls (run r.start (s - 1)) (clear s e (around m).us));
        };
      }

      -- nor has any run after it, where the next, two after it at least, starts past e
      pub back_last : r.«end» ≤ e → e - r.«end» ≤ 1 → Sets w w1 x x s e false
      back_last l near sh t ns m = lowered o m (subst (Becomes w w1 sh x) (sym back) (back-becomes m))
        where
          back : clear s e (inorder t) ≡ ((around m).ls ++ (run r.start (s - 1) ∷ [])) ++ (around m).us
          back =
              set-around m
              ∙ ap (λ (vs : List Run). (around m).ls ++ vs)
              (clear-back s e r (around m).us lt le l
              ∙ ap (λ (vs : List Run). run r.start (s - 1) ∷ vs) (clear_above s e (r.«end» + 2) (around m).us (omega (arith, o)) (omega arith) (parts m).4))
              ∙ sym (append-one (around m).ls (run r.start (s - 1)) (around m).us)

      -- it goes on after e
      module _ (l : e < r.«end») where
        module _ {sh : Footprint} {t : Tree} {ns : List ℕ} (m : MaySet w sh x s e false t ns) where
          -- the runs set have both parts of r
          both : clear s e (inorder t) ≡ ((around m).ls ++ (run r.start (s - 1) ∷ [])) ++ (run (e + 1) r.«end» ∷ (around m).us)
          both =
              set-around m
              ∙ ap (λ (vs : List Run). (around m).ls ++ vs)
              (clear_both s e r (around m).us o lt l
              ∙ ap (λ (vs : List Run). run r.start (s - 1) ∷ (run (e + 1) r.«end» ∷ vs)) (clear_above s e (r.«end» + 2) (around m).us (omega arith) (omega arith) (parts m).4))
              ∙ sym (append-one (around m).ls (run r.start (s - 1)) (run (e + 1) r.«end» ∷ (around m).us))

          -- they are canonical
          both-canon : Canon size 0 (((around m).ls ++ (run r.start (s - 1) ∷ [])) ++ (run (e + 1) r.«end» ∷ (around m).us))
          both-canon = subst (Canon size 0) both (lowered-canon o m)

          -- the runs up to the first part start before e + 1
          both-before : Before (e + 1) ((around m).ls ++ (run r.start (s - 1) ∷ []))
          both-before = ends-before s (e + 1) ((around m).ls ++ (run r.start (s - 1) ∷ [])) (omega (arith, o)) (back_below m)

          -- those after r start after it
          both-after : StartFrom (e + 1 + 1) (around m).us
          both-after = starts-weaken (r.«end» + 2) (e + 1 + 1) (around m).us (omega arith) (canon-starts size (r.«end» + 2) (around m).us (parts m).4)

          -- the nodes are enough
          both-few : length (((around m).ls ++ (run r.start (s - 1) ∷ [])) ++ (run (e + 1) r.«end» ∷ (around m).us)) ≤ sh.own
          both-few = omega (arith, lowered-few o m, ap length both)

        -- that may become a run of its own
        pub both-addable : Settable w x s e false → Addable w1 x (e + 1) r.«end»
        both-addable p =
            let m = p.3 in
            becomes-addable ((around m).ls ++ (run r.start (s - 1) ∷ [])) (around m).us (back-becomes m) (e + 1) r.«end» (both-before m) (both-after m) (omega arith) (both-canon m) (both-few m)

        -- and does
        pub both-added : {w2 : List ℕ} {y : Links} → Adds w1 w2 x y (e + 1) r.«end» → Sets w w2 x y s e false
        both-added {w2} {y} a sh t ns m =
            lowered o m (subst (Becomes w w2 sh y) (sym (both m))
            (becomes-added ((around m).ls ++ (run r.start (s - 1) ∷ [])) (around m).us (back-becomes m) (e + 1) r.«end»
            (both-before m) (both-after m) (omega arith) (both-canon m) (both-few m) a))
