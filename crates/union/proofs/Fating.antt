-- What became of each entry: where the groups are those of all that count, an entry is kept exactly if a group is of it alone. So a report that
-- is marked group by group is the list of fates. A list that is in order keeps every entry. Assumes nothing.
use Rattle.std.proofs.Common.{◌≡◌, ℕ, zero, suc, ◌+◌, ◌<◌, ◌≤◌, Bool, true, false, cond, not, ◌&&◌, ◌||◌, eqb, ltb, leb, List, [], ◌∷◌, ◌++◌, length, get_or, take, drop, set}
use Rattle.std.proofs.Common.{replicate, sym, refl, ap, ◌∙◌, subst, ap₂, inl, inr, true≢false, zero-add, arith, length-set, take-append-drop, length-take, get_or-take, ext_get_or, le-ltb, eq-eqb, eqb-true}
use mathlib.Core.Bool.{false≢true}
use lib.ListN.{length-replicate, get_or-replicate}
use borrow.Author.Tests.{eqb-false}
use Rattle.std.proofs.lemmas.Bool.Decides.{nat_tests}
use Rattle.std.proofs.lemmas.Grind.{common_steps}
use Rattle.model.specs.declared.Run.{Run}
use Rattle.model.specs.Numbers.{size}
use Rattle.model.specs.Positions.{Positions, run, inside, runs_in, held_runs, run_with, run_at, mem}
use Rattle.model.specs.RunList.{Canon, AllWords}
use Rattle.model.specs.Refusals.{ordered_from}
use Rattle.model.specs.Bytes.{into_front}
use Rattle.model.specs.Mending.{another, fate, fates_from}
use Rattle.model.proofs.Runs.{held_runs-mem}
use Rattle.model.proofs.Codec.{ordered-canon}
use Rattle.union.specs.declared.Group.{Group}
use Rattle.union.specs.Entries.{entry, Counts}
use Rattle.union.specs.Groups.{runs_of, OneOf, kept, mark, Marked}
use Rattle.union.proofs.Entries.{entry-holds}
use Rattle.union.proofs.Grouping.{Starts, Two, Whole, one-run, whole-held}

-- ---- the run around a position
-- a held position has that of the held runs which has it
run_at-held : (P : Positions) (x : ℕ) → P x ≡ true → run_at P x ≡ run_with x (held_runs P)
unfolding run_at held_runs
run_at-held P x e = ap (λ v. run_with x (runs_in P v 0 size)) e

-- a run of canonical ones starts at their bound or after it, and does not end before its start
canon-at : (t k : ℕ) (rs : List Run) (p : ℕ) → Canon t k rs → p < length rs → (k ≤ (entry rs p).start) × ((entry rs p).start ≤ (entry rs p).«end»)
canon-at t k [] p c h = absurd (omega arith)
canon-at t k (r ∷ rs) zero c h = (c.0, c.1)
canon-at t k (r ∷ rs) (suc p) c h = let i = canon-at t (r.«end» + 2) rs p c.3 (omega arith) in (omega (arith, c.0, c.1, i.0), i.1)

-- later ones start behind the ends of earlier ones
canon-apart : (t k : ℕ) (rs : List Run) (p q : ℕ) → Canon t k rs → p < q → q < length rs → (entry rs p).«end» < (entry rs q).start
canon-apart t k [] p q c h l = absurd (omega arith)
canon-apart t k (r ∷ rs) p zero c h l = absurd (omega arith)
canon-apart t k (r ∷ rs) zero (suc q) c h l = let i = canon-at t (r.«end» + 2) rs q c.3 (omega arith) in omega (arith, i.0)
canon-apart t k (r ∷ rs) (suc p) (suc q) c h l = canon-apart t (r.«end» + 2) rs p q c.3 (omega arith) (omega arith)

-- the one that has x is found
run_with-is : (t k : ℕ) (rs : List Run) (p x : ℕ) → Canon t k rs → p < length rs → (entry rs p).start ≤ x → x ≤ (entry rs p).«end» → run_with x rs ≡ entry rs p
run_with-is t k [] p x c h l m = absurd (omega arith)
run_with-is t k (r ∷ rs) zero x c h l m = grind (arith, nat_tests)
run_with-is t k (r ∷ rs) (suc p) x c h l m =
    let i = canon-at t (r.«end» + 2) rs p c.3 (omega arith) in grind (arith, nat_tests, run_with-is t (r.«end» + 2) rs p x c.3)

-- the run around a position of a group is that of the group
pub whole_run : (es : List Run) (ps : List ℕ) (gs : List Group) (h : Group) (x : ℕ) → Whole es ps gs → OneOf h gs → h.start ≤ x → x ≤ h.«end» → mem es x ≡ true
    → run_at (mem es) x ≡ run h.start h.«end»
whole_run es ps gs h x t m l k e =
    let p = one-run gs h m in
    run_at-held (mem es) x e ∙ ap (run_with x) (whole-held es ps gs t)
    ∙ run_with-is size 0 (runs_of gs) p.0 x t.right.canon p.1 (omega (arith, ap (λ (r : Run). r.start) p.2)) (omega (arith, ap (λ (r : Run). r.«end») p.2))
    ∙ p.2

-- ---- another entry that starts in a run
-- the entry at place j of a list whose first place is k counts, is not that at place p, and starts in the run q
record Other (q : Run) (p k : ℕ) (rs : List Run) (j : ℕ) : Type 0 where
  counts : Counts rs j
  differs : k + j ≡ p → ⊥
  from : q.start ≤ (entry rs j).start
  to : (entry rs j).start ≤ q.«end»

-- one such entry is enough
another-some : (q : Run) (p k : ℕ) (rs : List Run) (j : ℕ) → Other q p k rs j → another q p k rs ≡ true
unfolding another
another-some q p k rs j o = go k rs j o.counts.within o.counts.ordered o.differs o.from o.to
  where
    go : (k : ℕ) (rs : List Run) (j : ℕ) → j < length rs → (entry rs j).start ≤ (entry rs j).«end» → (k + j ≡ p → ⊥) → q.start ≤ (entry rs j).start → (entry rs j).start ≤ q.«end»
        → another q p k rs ≡ true
    go k [] j w o d f t = absurd (omega arith)
    go k (r ∷ rs) zero w o d f t = grind (arith, nat_tests)
    go k (r ∷ rs) (suc j) w o d f t = grind (arith, go (suc k) rs j)

-- without one there is no other
another-none : (q : Run) (p k : ℕ) (rs : List Run) → ((j : ℕ) → Other q p k rs j → ⊥) → another q p k rs ≡ false
unfolding another
another-none q p k [] f = refl
another-none q p k (r ∷ rs) f =
    go (λ o d a b. f 0 (record { counts = record { within = omega arith; ordered = o }; differs = λ e. d (omega arith); from = a; to = b }))
    (another-none q p (suc k) rs (λ j o. f (suc j) (record {
      counts = record { within = omega (arith, o.counts.within); ordered = o.counts.ordered };
      differs = λ e. o.differs (omega arith);
      from = o.from;
      to = o.to;
    })))
  where
    go : (r.start ≤ r.«end» → (k ≡ p → ⊥) → q.start ≤ r.start → r.start ≤ q.«end» → ⊥) → another q p (suc k) rs ≡ false
        → ((not (eqb k p) && (leb r.start r.«end» && inside q.start q.«end» r.start)) || another q p (suc k) rs) ≡ false
    go first later = grind (arith, nat_tests, first)

-- ---- entries alone in a group
-- one more group
pub kept_more : (p : ℕ) (gs : List Group) (g : Group) → kept p (gs ++ g ∷ []) ≡ (kept p gs || (g.sole && eqb g.place p))
unfolding kept
kept_more p [] g = grind arith
kept_more p (f ∷ gs) g = grind (arith, kept_more p gs g)

-- a sole group keeps its place
pub kept-one : (p : ℕ) (gs : List Group) (h : Group) → OneOf h gs → h.sole ≡ true → h.place ≡ p → kept p gs ≡ true
unfolding kept
kept-one p [] h m s q = elim m [ ]
kept-one p (g ∷ gs) h (inl e) s q =
    rw (sym (ap (λ (f : Group). f.sole) e) ∙ s, eq-eqb g.place p (sym (ap (λ (f : Group). f.place) e) ∙ q))
kept-one p (g ∷ gs) h (inr m) s q = grind (arith, kept-one p gs h m s q)

-- what is kept has a sole group
pub kept_of : (p : ℕ) (gs : List Group) → kept p gs ≡ true → (h : Group) × OneOf h gs × (h.sole ≡ true) × (h.place ≡ p)
unfolding kept
kept_of p [] e = absurd (false≢true e)
kept_of p (g ∷ gs) e = go g.sole refl (eqb g.place p) refl e (kept_of p gs)
  where
    later : ((h : Group) × OneOf h gs × (h.sole ≡ true) × (h.place ≡ p)) → (h : Group) × OneOf h (g ∷ gs) × (h.sole ≡ true) × (h.place ≡ p)
    later t = (t.0, inr t.1, t.2, t.3)

    go : (a : Bool) → g.sole ≡ a → (b : Bool) → eqb g.place p ≡ b → ((a && b) || kept p gs) ≡ true
        → (kept p gs ≡ true → (h : Group) × OneOf h gs × (h.sole ≡ true) × (h.place ≡ p)) → (h : Group) × OneOf h (g ∷ gs) × (h.sole ≡ true) × (h.place ≡ p)
    go true s true q d f = (g, inl refl, s, eqb-true g.place p q)
    go true s false q d f = later (f d)
    go false s b q d f = later (f d)

-- an entry that is kept: no other one starts in its run
fate-kept : (es : List Run) (ps : List ℕ) (gs : List Group) (p : ℕ) → Whole es ps gs → Counts es p → kept p gs ≡ true
    → another (run_at (mem es) (entry es p).start) p 0 es ≡ false
fate-kept es ps gs p t c e =
    let k = kept_of p gs e in
    alone k.0 k.1 k.2 (subst (Starts es ps k.0) k.3 (t.right.fits k.0 k.1).placed) k.3
  where
    alone : (h : Group) → OneOf h gs → h.sole ≡ true → Starts es ps h p → h.place ≡ p → another (run_at (mem es) (entry es p).start) p 0 es ≡ false
    alone h m s i q =
        ap (λ r. another r p 0 es)
        (whole_run es ps gs h (entry es p).start t m i.from i.to (entry-holds es p (entry es p).start c.within (omega arith) c.ordered))
        ∙ another-none (run h.start h.«end») p 0 es
        (λ j o. o.differs
        (omega (arith, q, (t.right.fits h m).single s j (record { listed = t.each j o.counts; from = o.from; to = o.to }))))

-- one that is not: its group has two
fate-joined : (es : List Run) (ps : List ℕ) (gs : List Group) (p : ℕ) → Whole es ps gs → Counts es p → kept p gs ≡ false
    → another (run_at (mem es) (entry es p).start) p 0 es ≡ true
fate-joined es ps gs p t c e =
    let y = t.right.lies p (t.each p c) in
    ap (λ r. another r p 0 es)
    (whole_run es ps gs y.group (entry es p).start t y.one y.starts (omega (arith, y.ends, c.ordered))
    (entry-holds es p (entry es p).start c.within (omega arith) c.ordered))
    ∙ shared y.group y.one (record { listed = t.each p c; from = y.starts; to = omega (arith, y.ends, c.ordered) })
  where
    other : (h : Group) (q : ℕ) → Starts es ps h q → (q ≡ p → ⊥) → another (run h.start h.«end») p 0 es ≡ true
    other h q s d =
        another-some (run h.start h.«end») p 0 es q
        (record { counts = (t.right.lies q s.listed).counts; differs = λ f. d (omega arith); from = s.from; to = s.to })

    either : (h : Group) (two : Two es ps h) (b : Bool) → eqb two.this p ≡ b → another (run h.start h.«end») p 0 es ≡ true
    either h two true q = other h two.that two.those (λ d. two.differ (omega (arith, eqb-true two.this p q)))
    either h two false q = other h two.this two.these (eqb-false two.this p q)

    shared : (h : Group) → OneOf h gs → Starts es ps h p → another (run h.start h.«end») p 0 es ≡ true
    shared h m s = go h.sole refl
      where
        go : (b : Bool) → h.sole ≡ b → another (run h.start h.«end») p 0 es ≡ true
        go true q = absurd (true≢false (sym (kept-one p gs h m q (sym ((t.right.fits h m).single q p s))) ∙ e))
        go false q = let two = (t.right.fits h m).several q in either h two (eqb two.this p) refl

-- ---- the fate of each entry
-- is its mark, where the groups are those of all that count
pub fate-is : (es : List Run) (ps : List ℕ) (gs : List Group) (p : ℕ) → Whole es ps gs → p < length es → fate es p (entry es p) ≡ mark es gs p
unfolding fate mark
fate-is es ps gs p t h =
    go (λ o e. fate-kept es ps gs p t (record { within = h; ordered = o }) e) (λ o e. fate-joined es ps gs p t (record { within = h; ordered = o }) e)
  where
    alone : Bool
    alone = another (run_at (mem es) (entry es p).start) p 0 es

    go : ((entry es p).start ≤ (entry es p).«end» → kept p gs ≡ true → alone ≡ false) → ((entry es p).start ≤ (entry es p).«end» → kept p gs ≡ false → alone ≡ true)
        → fate es p (entry es p) ≡ mark es gs p
    go f g = grind (arith, nat_tests, f, g)

-- the list of fates has as many elements as there are entries
pub fates-length : (es : List Run) (k : ℕ) (rs : List Run) → length (fates_from es k rs) ≡ length rs
unfolding fates_from
fates-length es k [] = refl
fates-length es k (r ∷ rs) = ap suc (fates-length es (suc k) rs)

-- each is the fate of its entry
pub fates-at : (es : List Run) (k : ℕ) (rs : List Run) (j : ℕ) → j < length rs → get_or (fates_from es k rs) j 0 ≡ fate es (k + j) (entry rs j)
unfolding fates_from
fates-at es k [] j h = absurd (omega arith)
fates-at es k (r ∷ rs) zero h = grind arith
fates-at es k (r ∷ rs) (suc j) h = grind (arith, fates-at es (suc k) rs j)

-- a list with the fate of each entry is that list
fates-are : (es : List Run) (rep : List ℕ) → length rep ≡ length es → ((p : ℕ) → p < length es → get_or rep p 0 ≡ fate es p (entry es p))
    → rep ≡ fates_from es 0 es
fates-are es rep h f =
    ext_get_or 0 rep (fates_from es 0 es) (h ∙ sym (fates-length es 0 es))
    (λ p l. f p (omega arith) ∙ ap (λ q. fate es q (entry es p)) (sym (zero-add p)) ∙ sym (fates-at es 0 es p (omega arith)))

-- ---- a report, marked group by group
-- before any group, an entry that counts is marked as joined
pub mark-none : (es : List Run) (p : ℕ) → mark es [] p ≡ cond (ltb (entry es p).«end» (entry es p).start) 0 1
unfolding mark kept
mark-none es p = refl

-- a sole group marks its place
pub marked-sole : (es : List Run) (gs : List Group) (g : Group) (rep : List ℕ) → Marked es gs rep → g.sole ≡ true → Counts es g.place
    → Marked es (gs ++ g ∷ []) (set rep g.place 2)
unfolding mark
marked-sole es gs g rep m s c = record {
  room = omega (arith, m.room, length-set rep g.place 2);
  marks = λ p h. go p (omega (arith, m.room)) (m.marks p h) c.ordered;
}
  where
    go : (p : ℕ) → p < length rep → get_or rep p 0 ≡ mark es gs p → (entry es g.place).start ≤ (entry es g.place).«end»
        → get_or (set rep g.place 2) p 0 ≡ mark es (gs ++ g ∷ []) p
    go p h n o = grind (arith, nat_tests, common_steps, kept_more p gs g)

-- any other group marks none
pub marked-joined : (es : List Run) (gs : List Group) (g : Group) (rep : List ℕ) → Marked es gs rep → g.sole ≡ false → Marked es (gs ++ g ∷ []) rep
unfolding mark
marked-joined es gs g rep m s = record { room = m.room; marks = λ p h. go p (m.marks p h) }
  where
    go : (p : ℕ) → get_or rep p 0 ≡ mark es gs p → get_or rep p 0 ≡ mark es (gs ++ g ∷ []) p
    go p n = grind (arith, kept_more p gs g)

-- at the end its front is the list of fates
pub marked-fates : (es : List Run) (ps : List ℕ) (gs : List Group) (rep : List ℕ) → Whole es ps gs → Marked es gs rep → take (length es) rep ≡ fates_from es 0 es
marked-fates es ps gs rep t m =
    fates-are es (take (length es) rep) (omega (arith, m.room, length-take (length es) rep))
    (λ p h. get_or-take (length es) rep p 0 h ∙ m.marks p h ∙ sym (fate-is es ps gs p t h))

-- and it is written into the front of what stood there
pub marked-report : (es : List Run) (ps : List ℕ) (gs : List Group) (old rep : List ℕ) → Whole es ps gs → Marked es gs rep
    → drop (length es) rep ≡ drop (length es) old → rep ≡ into_front (fates_from es 0 es) old
unfolding into_front
marked-report es ps gs old rep t m d =
    sym (take-append-drop (length es) rep)
    ∙ ap₂ ◌++◌ (marked-fates es ps gs rep t m) (d ∙ ap (λ n. drop n old) (sym (fates-length es 0 es)))

-- ---- a list in order
-- its runs are the held ones
pub ordered-held : (es : List Run) → AllWords es → ordered_from 0 es ≡ true → held_runs (mem es) ≡ es
ordered-held es w o = held_runs-mem es (ordered-canon 0 es w o)

-- and each is kept
pub ordered-fates : (es : List Run) → AllWords es → ordered_from 0 es ≡ true → fates_from es 0 es ≡ replicate (length es) 2
unfolding fate
ordered-fates es w o =
    sym (fates-are es (replicate (length es) 2) (length-replicate (length es) 2) (λ p h. get_or-replicate (length es) p 2 0 h ∙ sym (kept-all p h)))
  where
    canonical : Canon size 0 es
    canonical = ordered-canon 0 es w o

    none : (p : ℕ) → p < length es → (j : ℕ) → Other (entry es p) p 0 es j → ⊥
    none p h j i =
        let a = canon-apart size 0 es j p canonical in
        let b = canon-apart size 0 es p j canonical in
        grind (arith, a, b, i.differs, i.counts.ordered, i.counts.within, i.from, i.to)

    kept-all : (p : ℕ) → p < length es → fate es p (entry es p) ≡ 2
    kept-all p h =
        let x = (entry es p).start in
        let l = (canon-at size 0 es p canonical h).1 in
        let r : run_at (mem es) x ≡ entry es p =
        run_at-held (mem es) x (entry-holds es p x h (omega arith) l) ∙ ap (run_with x) (ordered-held es w o) ∙ run_with-is size 0 es p x canonical h (omega arith) l in
        rw (le-ltb (entry es p).«end» x l, r, another-none (entry es p) p 0 es (none p h))
