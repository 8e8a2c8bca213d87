-- Holding the positions s .. e: the first run that holds or touches one of them grows, or a new one comes. In each case the runs that
-- the code leaves are those of the model's `insert`, so they are canonical and have the positions that they should have. Assumes nothing.
use Rattle.std.specs.Prelude.{Option, None, Some, MatchOption}
use Rattle.std.specs.Bool.{then_some}
use Rattle.std.proofs.Common.{◌≡◌, ℕ, suc, ◌+◌, ◌-◌, ◌<◌, ◌≤◌, min, max, leb, Bool, true, false, ◌⊎◌, List, []}
use Rattle.std.proofs.Common.{◌∷◌, ◌++◌, length, sym, refl, ap, ◌∙◌, subst, ap₂, inl, inr, arith, leb-false, leb-true}
use Rattle.model.specs.declared.Run.{Run}
use Rattle.model.specs.Numbers.{size}
use Rattle.model.specs.Positions.{run, first_run, set_range, mem}
use Rattle.model.specs.RunList.{Canon, EndBelow, StartFrom, TouchesNone, last_up_to, first_from, insert}
use Rattle.model.proofs.RunList.{touch-within}
use Rattle.model.proofs.Search.{canon-split, canon-starts, starts-weaken}
use Rattle.model.proofs.Edit.{set_to, insert-skip, insert-put, insert-join}
use Rattle.run_index.specs.Tree.{Tree, inorder, tree_from}
use Rattle.run_index.specs.Order.{Before}
use Rattle.pool.specs.declared.Links.{Links}
use Rattle.pool.specs.Layout.{highest}
use Rattle.pool.specs.Soundness.{Footprint}
use Rattle.pool.specs.Free.{Becomes, Addable, Adds, Changeable, Changes}
use Rattle.run_index.specs.Search.{runs_from}
use Rattle.pool.proofs.Reached.{kept-runs, kept-tree}
use Rattle.changes.specs.declared.change.Reach.{Reach}
use Rattle.changes.specs.Change.{MaySet, Settable, Holding, Sets, Touching, Apart, Parted, Absorbable, Absorbed, Absorbs}
use Rattle.changes.proofs.Lists.{first-after, first_some, first-none, last_none, Around, last-around, ends-before, ends_more, ends_last, append-one, canon-below}
use Rattle.changes.proofs.Steps.{
  becomes-none,
  becomes-changeable,
  becomes-changed,
  becomes-addable,
  becomes-added,
  set-canon,
  set-few,
  set-holding,
}
use Rattle.changes.proofs.Joining.{take_none, insert-first}

-- ---- what `insert` makes of runs
-- runs that end two before a stay
insert-past : (a b : ℕ) (ls us : List Run) → EndBelow (a - 1) ls → insert a b (ls ++ us) ≡ ls ++ insert a b us
insert-past a b [] us h = refl
insert-past a b (r ∷ ls) us h =
    insert-skip a b r (ls ++ us) (omega (arith, h.1)) ∙ ap (λ (vs : List Run). r ∷ vs) (insert-past a b ls us h.2)

-- ---- the runs set
-- the runs set are those of `insert`
raised : {w w' : List ℕ} {sh : Footprint} {x y : Links} {s e : ℕ} {t : Tree} {ns : List ℕ} → s ≤ e → MaySet w sh x s e true t ns → Becomes w w' sh y (insert s e (inorder t))
    → Holding w w' sh y (set_range s (suc e - s) true (mem (inorder t)))
unfolding set_to
raised o m u = set-holding o m u

-- they are canonical
raised-canon : {w : List ℕ} {sh : Footprint} {x : Links} {s e : ℕ} {t : Tree} {ns : List ℕ} → s ≤ e → MaySet w sh x s e true t ns → Canon size 0 (insert s e (inorder t))
unfolding set_to
raised-canon o m = set-canon o m

-- the nodes are enough for them
raised-few : {w : List ℕ} {sh : Footprint} {x : Links} {s e : ℕ} {t : Tree} {ns : List ℕ} → s ≤ e → MaySet w sh x s e true t ns → length (insert s e (inorder t)) ≤ sh.own
unfolding set_to
raised-few o m = set-few o m

-- ---- the first run that holds or touches a position from s to e
-- the runs ls end two before s, and us start at s or after it
record Parts (s : ℕ) (rs : List Run) : Type 0 where
  ls : List Run
  us : List Run
  is : rs ≡ ls ++ us
  below : EndBelow (s - 1) ls
  from : StartFrom s us

module _ (rs : List Run) (c : Canon size 0 rs) (s e : ℕ) (o : s ≤ e) where
  -- the run that starts at s or before it reaches s
  pub touching-before : {r : Run} → Some r ≡ last_up_to s rs → s ≤ r.«end» + 1 → Touching rs s e r
  touching-before {r} f h =
      let a : Around s r rs = last-around s rs r f in
      record {
        ls = a.ls;
        us = a.us;
        is = a.is;
        below = ends_more (r.start - 1) (s - 1) a.ls (omega (arith, a.at)) (canon-below size 0 a.ls r a.us (subst (Canon size 0) a.is c));
        from = h;
        upto = omega (arith, a.at);
      }

  -- it ends two before s
  parts-apart : {r : Run} → Some r ≡ last_up_to s rs → r.«end» + 1 < s → Parts s rs
  parts-apart {r} f lt =
      let a : Around s r rs = last-around s rs r f in
      let d : Canon size 0 (a.ls ++ (r ∷ a.us)) = subst (Canon size 0) a.is c in
      record {
        ls = a.ls ++ (r ∷ []);
        us = a.us;
        is = a.is ∙ sym (append-one a.ls r a.us);
        below = ends_last (s - 1) r a.ls
            (ends_more (r.start - 1) (s - 1) a.ls (omega (arith, a.at)) (canon-below size 0 a.ls r a.us d)) (canon-split size 0 a.ls r a.us d).2 (omega arith);
        from = starts-weaken (s + 1) s a.us (omega arith) a.after;
      }

  -- or there is none
  parts_none : last_up_to s rs ≡ None → Parts s rs
  parts_none f = record { ls = []; us = rs; is = refl; below = tt; from = starts-weaken (s + 1) s rs (omega arith) (last_none s rs f) }

  -- so no run reaches s from before it
  parts : (m : Option Run) → m ≡ last_up_to s rs → (m ≡ None) ⊎ ((r : Run) × (m ≡ Some r) × (r.«end» + 1 < s)) → Parts s rs
  parts m f (inl i) = parts_none (sym f ∙ i)
  parts m f (inr (r, i, l)) = parts-apart (sym i ∙ f) l

  module _ (p : Parts s rs) where
    -- the search finds the first run from s on
    next-is : first_from s rs ≡ first_run p.us
    next-is = ap (first_from s) p.is ∙ first-after s p.ls p.us (ends-before (s - 1) s p.ls (omega arith) p.below) p.from

    -- which is touched if it starts by e + 1
    after : (r : Run) (vs : List Run) → p.us ≡ r ∷ vs → r.start ≤ e + 1 → Touching rs s e r
    after r vs u l =
        let is : rs ≡ p.ls ++ (r ∷ vs) = p.is ∙ ap (λ (ws : List Run). p.ls ++ ws) u in
        let d = canon-split size 0 p.ls r vs (subst (Canon size 0) is c) in
        record { ls = p.ls; us = vs; is = is; below = p.below; from = omega (arith, (subst (StartFrom s) u p.from).0, d.2); upto = l }

    -- no run is if that starts later
    apart : (r : Run) (vs : List Run) → p.us ≡ r ∷ vs → e + 1 < r.start → Apart rs s e
    apart r vs u l =
        let is : rs ≡ p.ls ++ (r ∷ vs) = p.is ∙ ap (λ (ws : List Run). p.ls ++ ws) u in
        let d = canon-split size 0 p.ls r vs (subst (Canon size 0) is c) in
        record {
          ls = p.ls;
          us = p.us;
          is = p.is;
          below = p.below;
          from = subst (StartFrom (e + 2)) (sym u)
              (omega arith, starts-weaken (r.«end» + 2) (e + 2) vs (omega (arith, d.2)) (canon-starts size (r.«end» + 2) vs d.4));
        }

    -- or if there is none
    apart_none : p.us ≡ [] → Apart rs s e
    apart_none u = record { ls = p.ls; us = p.us; is = p.is; below = p.below; from = subst (StartFrom (e + 2)) (sym u) tt }

  -- what is told where no run reaches s from before it: the first run from s on, if it starts by e + 1
  pub touching-after : {m n r : Option Run} {R : Run → Type 0} → m ≡ last_up_to s rs → (m ≡ None) ⊎ ((q : Run) × (m ≡ Some q) × (q.«end» + 1 < s))
      → n ≡ first_from s rs → MatchOption n (r ≡ None) R → ((q : Run) → R q → r ≡ then_some (leb q.start (e + 1)) q)
      → MatchOption r (Apart rs s e) (Touching rs s e)
  touching-after {m} {n} {r} {R} f b g k h = go n (p.us) refl (g ∙ next-is p) k
    where
      p : Parts s rs
      p = parts m f b

      pick : (q : Run) (vs : List Run) → p.us ≡ q ∷ vs → (t : Bool) → leb q.start (e + 1) ≡ t → r ≡ then_some t q → MatchOption r (Apart rs s e) (Touching rs s e)
      pick q vs u true i j = subst (λ (z : Option Run). MatchOption z (Apart rs s e) (Touching rs s e)) (sym j) (after p q vs u (leb-true q.start (e + 1) i))
      pick q vs u false i j = subst (λ (z : Option Run). MatchOption z (Apart rs s e) (Touching rs s e)) (sym j) (apart p q vs u (leb-false q.start (e + 1) i))

      go : (n : Option Run) (us : List Run) → p.us ≡ us → n ≡ first_run us → MatchOption n (r ≡ None) R → MatchOption r (Apart rs s e) (Touching rs s e)
      go None us u i j = subst (λ (z : Option Run). MatchOption z (Apart rs s e) (Touching rs s e)) (sym j) (apart_none p (u ∙ first-none us i))
      go (Some q) us u i j =
          let v = first_some us q i in
          pick q v.0 (u ∙ v.1) (leb q.start (e + 1)) refl (h q j)

-- ---- it is r
module _ {w : List ℕ} {x : Links} {s e : ℕ} (le : s ≤ e) {o : Option Run} {rs : List Run} (seen : rs ≡ runs_from w x.root)
    (f : MatchOption o (Apart rs s e) (Touching rs s e)) {r : Run} (is : o ≡ Some r) where
  module _ {sh : Footprint} {t : Tree} {ns : List ℕ} (m : MaySet w sh x s e true t ns) where
    -- the runs around r
    around : Touching (inorder t) s e r
    around = subst (λ (us : List Run). Touching us s e r) (seen ∙ kept-runs m.kept) (subst (λ (z : Option Run). MatchOption z (Apart rs s e) (Touching rs s e)) is f)

    -- what is before r ends two before it, what follows starts two after it
    sides : (Canon (r.start - 1) 0 around.ls) × (0 ≤ r.start) × (r.start ≤ r.«end») × (r.«end» < size) × Canon size (r.«end» + 2) around.us
    sides = canon-split size 0 around.ls r around.us (subst (Canon size 0) around.is m.kept.ordered)

    -- so r is touched
    held : TouchesNone s e (inorder t) → ⊥
    held n = go (touch-within s e around.ls r around.us (subst (TouchesNone s e) around.is n))
      where
        go : (r.«end» + 1 < s) ⊎ (e + 1 < r.start) → ⊥
        go (inl l) = omega (arith, around.from)
        go (inr l) = omega (arith, around.upto)

    -- the runs set are those before r, and r with what is set and what follows
    joined-with : insert s e (inorder t) ≡ around.ls ++ insert (min s r.start) (max e r.«end») around.us
    joined-with =
        ap (insert s e) around.is ∙ insert-past s e around.ls (r ∷ around.us) around.below
        ∙ ap (λ (vs : List Run). around.ls ++ vs) (insert-join s e r around.us around.from around.upto)

    -- r is one of the runs
    parted : Parted w sh x around.ls (run r.start r.«end» ∷ around.us) t ns
    parted = record { kept = m.kept; runs-are = around.is }

    -- it takes in what it touches with what is set
    module _ {a b : ℕ} (ea : a ≡ min s r.start) (eb : b ≡ max e r.«end») {w1 : List ℕ} (far : Reach) (ab : Absorbs w w1 x r.start r.«end» b far) where
      -- what `absorb` leaves
      taken : Absorbed w w1 sh far.links r.start b far.«end».0 around.ls around.us r.«end»
      taken = ab sh around.ls around.us t ns parted

      -- the runs set have r from a up to what was reached
      grown : insert s e (inorder t) ≡ around.ls ++ (run a far.«end».0 ∷ taken.left)
      grown =
          joined-with
          ∙ ap (λ (vs : List Run). around.ls ++ vs)
          (ap₂ (λ (i j : ℕ). insert i j around.us) (sym ea) (sym eb) ∙ taken.joined a (omega arith))

      -- they are canonical
      grown-canon : Canon size 0 (around.ls ++ (run a far.«end».0 ∷ taken.left))
      grown-canon = subst (Canon size 0) grown (raised-canon le m)

      -- it ends no earlier than it starts
      grown-ordered : a ≤ far.«end».0
      grown-ordered = (canon-split size 0 around.ls (run a far.«end».0) taken.left grown-canon).2

      -- r may grow
      grow-changeable : Changeable w1 far.links r.start r.«end» a far.«end».0
      grow-changeable =
          becomes-changeable around.ls (run r.start r.«end») taken.left taken.becomes a far.«end».0 grown-ordered grown-canon

      -- with r grown the positions are set
      grow-held : {w2 : List ℕ} → Changes w1 w2 far.links r.start r.«end» a far.«end».0 → Holding w w2 sh far.links (set_range s (suc e - s) true (mem (inorder t)))
      grow-held {w2} g =
          raised le m (subst (Becomes w w2 sh far.links) (sym grown) (becomes-changed around.ls (run r.start r.«end») taken.left taken.becomes a far.«end».0 grown-ordered grown-canon g))

    -- it holds all
    all-held : r.start ≤ s → e ≤ r.«end» → Holding w w sh x (set_range s (suc e - s) true (mem (inorder t)))
    all-held lo hi =
        raised le m (becomes-none m.kept
        (around.is ∙ sym (joined-with ∙ ap (λ (vs : List Run). around.ls ++ vs)
        (ap₂ (λ (i j : ℕ). insert i j around.us) (omega arith) (omega arith) ∙ insert-first r.start r.«end»
        (r.«end» + 2) around.us (omega (arith, sides.2)) (omega arith) sides.4))))

  -- a run of the tree is touched
  pub touched : Settable w x s e true → TouchesNone s e (inorder (tree_from highest w x.root)) → ⊥
  touched p n = held p.3 (subst (λ (t : Tree). TouchesNone s e (inorder t)) (kept-tree p.3.kept) n)

  -- it holds all already
  pub touched-stays : r.start ≤ s → e ≤ r.«end» → Sets w w x x s e true
  touched-stays lo hi sh t ns m = all-held m lo hi

  -- it may take in what follows
  pub touched-absorbable : Settable w x s e true → Absorbable w x r.start r.«end»
  touched-absorbable p = (p.0, (around p.3).ls, (around p.3).us, p.1, p.2, parted p.3)

  module _ {a b : ℕ} (ea : a ≡ min s r.start) (eb : b ≡ max e r.«end») {w1 : List ℕ} (far : Reach) (ab : Absorbs w w1 x r.start r.«end» b far) where
    -- it may grow
    pub touched-changeable : Settable w x s e true → Changeable w1 far.links r.start r.«end» a far.«end».0
    touched-changeable p = grow-changeable p.3 ea eb far ab

    -- and does
    pub touched-grown : {w2 : List ℕ} → Changes w1 w2 far.links r.start r.«end» a far.«end».0 → Sets w w2 x far.links s e true
    touched-grown g sh t ns m = grow-held m ea eb far ab g

-- ---- there is none
module _ {w : List ℕ} {x : Links} {s e : ℕ} (le : s ≤ e) {o : Option Run} {rs : List Run} (seen : rs ≡ runs_from w x.root)
    (f : MatchOption o (Apart rs s e) (Touching rs s e)) (is : o ≡ None) where
  module _ {sh : Footprint} {t : Tree} {ns : List ℕ} (m : MaySet w sh x s e true t ns) where
    -- what is set stands alone
    lone : Apart (inorder t) s e
    lone = subst (λ (us : List Run). Apart us s e) (seen ∙ kept-runs m.kept) (subst (λ (z : Option Run). MatchOption z (Apart rs s e) (Touching rs s e)) is f)

    -- so the runs set have it between those before s and those after e
    set : insert s e (inorder t) ≡ lone.ls ++ (run s e ∷ lone.us)
    set =
        ap (insert s e) lone.is ∙ insert-past s e lone.ls lone.us lone.below
        ∙ ap (λ (vs : List Run). lone.ls ++ vs) (between lone.us lone.from (subst (Canon size 0) lone.is m.kept.ordered))
      where
        between : (us : List Run) → StartFrom (e + 2) us → Canon size 0 (lone.ls ++ us) → insert s e us ≡ run s e ∷ us
        between [] h c = take_none s e
        between (r ∷ us) h c =
            insert-put s e r us (omega (arith, h.0, le, (canon-split size 0 lone.ls r us c).2)) (omega (arith, h.0))

    -- they are canonical
    lone-canon : Canon size 0 (lone.ls ++ (run s e ∷ lone.us))
    lone-canon = subst (Canon size 0) set (raised-canon le m)

    -- the runs before it start before s
    lone-before : Before s lone.ls
    lone-before = ends-before (s - 1) s lone.ls (omega arith) lone.below

    -- those after it start after s
    lone-after : StartFrom (s + 1) lone.us
    lone-after = starts-weaken (e + 2) (s + 1) lone.us (omega (arith, le)) lone.from

    -- the nodes are enough
    lone-few : length (lone.ls ++ (run s e ∷ lone.us)) ≤ sh.own
    lone-few = omega (arith, raised-few le m, ap length set)

    -- the tree as it is
    at-lone : Becomes w w sh x (lone.ls ++ lone.us)
    at-lone = becomes-none m.kept lone.is

    -- s .. e may be added
    lone-addable : Addable w x s e
    lone-addable = becomes-addable lone.ls lone.us at-lone s e lone-before lone-after le lone-canon lone-few

    -- with it the positions are set
    lone-held : {w2 : List ℕ} {y : Links} → Adds w w2 x y s e → Holding w w2 sh y (set_range s (suc e - s) true (mem (inorder t)))
    lone-held {w2} {y} g =
        raised le m (subst (Becomes w w2 sh y) (sym set) (becomes-added lone.ls lone.us at-lone s e lone-before lone-after le lone-canon lone-few g))

  -- a new run may be added
  pub alone-addable : Settable w x s e true → Addable w x s e
  alone-addable p = lone-addable p.3

  -- and is
  pub alone-added : {w2 : List ℕ} {y : Links} → Adds w w2 x y s e → Sets w w2 x y s e true
  alone-added g sh t ns m = lone-held m g
