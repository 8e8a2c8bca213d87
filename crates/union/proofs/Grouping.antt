-- Entries joined to groups in rising order: the runs of the groups are canonical, each group holds what its entries hold and no more, and each
-- entry lies in one of them. At the end they are the runs of all that the list holds. Assumes nothing.
use Rattle.std.proofs.Common.{◌≡◌, ℕ, zero, suc, ◌+◌, ◌*◌, ◌<◌, ◌≤◌, min, max, Bool, true, false, ◌⊎◌, List, [], ◌∷◌, ◌++◌, length, sym, refl, ap, ◌∙◌, subst, inl, inr}
use Rattle.std.proofs.Common.{true≢false, arith}
use mathlib.Core.Bool.{false≢true}
use Rattle.model.specs.declared.Run.{Run}
use Rattle.model.specs.Numbers.{size}
use Rattle.model.specs.Positions.{run, held_runs, stretches, mem}
use Rattle.model.specs.RunList.{Canon, AllWords}
use Rattle.model.proofs.Numbers.{split}
use Rattle.model.proofs.Runs.{held_runs-is, stretches-is}
use Rattle.union.specs.declared.Group.{Group}
use Rattle.union.specs.Entries.{entry, Counts, key, Rising, In, Lists}
use Rattle.union.specs.Groups.{runs_of, OneOf, alone, joining, Grouped, none, first, begins, joins}
use Rattle.union.proofs.Entries.{entry-words, key-start, in-none, in_head, in_one, in_left, in_both, in-last, rising-front, rising-apart, entry-holds, entry_of, lists-whole}

-- ---- one of the groups
-- it stays one when others are put behind them
pub one_left : (h : Group) (gs hs : List Group) → OneOf h gs → OneOf h (gs ++ hs)
one_left h [] hs m = elim m [ ]
one_left h (g ∷ gs) hs (inl e) = inl e
one_left h (g ∷ gs) hs (inr m) = inr (one_left h gs hs m)

-- the last one
pub one_last : (g : Group) (gs : List Group) → OneOf g (gs ++ g ∷ [])
one_last g [] = inl refl
one_last g (h ∷ gs) = inr (one_last g gs)

-- one of those before the last, or the last one
pub one-either : (h : Group) (gs : List Group) (g : Group) → OneOf h (gs ++ g ∷ []) → OneOf h gs ⊎ (h ≡ g)
one-either h [] g (inl e) = inr e
one-either h [] g (inr m) = elim m [ ]
one-either h (f ∷ gs) g (inl e) = inl (inl e)
one-either h (f ∷ gs) g (inr m) = go (one-either h gs g m)
  where
    go : OneOf h gs ⊎ (h ≡ g) → OneOf h (f ∷ gs) ⊎ (h ≡ g)
    go (inl n) = inl (inr n)
    go (inr e) = inr e

-- ---- canonical groups
-- a group of canonical ones starts at their bound or after it, and has a position
pub canon-from : (t k : ℕ) (gs : List Group) (h : Group) → Canon t k (runs_of gs) → OneOf h gs → (k ≤ h.start) × (h.start ≤ h.«end»)
canon-from t k [] h c m = elim m [ ]
canon-from t k (g ∷ gs) h c (inl e) = subst (λ (f : Group). (k ≤ f.start) × (f.start ≤ f.«end»)) (sym e) (c.0, c.1)
canon-from t k (g ∷ gs) h c (inr m) = let f = canon-from t (g.«end» + 2) gs h c.3 m in (omega (arith, c.0, c.1, f.0), f.1)

-- one that is before the last one ends two before it
pub canon-before : (t k : ℕ) (gs : List Group) (g h : Group) → Canon t k (runs_of (gs ++ g ∷ [])) → OneOf h gs → h.«end» + 2 ≤ g.start
canon-before t k [] g h c m = elim m [ ]
canon-before t k (f ∷ gs) g h c (inl e) =
    subst (λ (x : Group). x.«end» + 2 ≤ g.start) (sym e) (canon-from t (f.«end» + 2) (gs ++ g ∷ []) g c.3 (one_last g gs)).0
canon-before t k (f ∷ gs) g h c (inr m) = canon-before t (f.«end» + 2) gs g h c.3 m

-- so none ends after the last one
pub canon-most : (t k : ℕ) (gs : List Group) (g h : Group) → Canon t k (runs_of (gs ++ g ∷ [])) → OneOf h (gs ++ g ∷ []) → h.«end» ≤ g.«end»
canon-most t k gs g h c m = go (one-either h gs g m)
  where
    go : OneOf h gs ⊎ (h ≡ g) → h.«end» ≤ g.«end»
    go (inl n) = omega (arith, canon-before t k gs g h c n, (canon-from t k (gs ++ g ∷ []) g c (one_last g gs)).1)
    go (inr e) = omega (arith, ap (λ (f : Group). f.«end») e)

-- each ends below the bound
pub canon-below : (t k : ℕ) (gs : List Group) (h : Group) → Canon t k (runs_of gs) → OneOf h gs → h.«end» < t
canon-below t k [] h c m = elim m [ ]
canon-below t k (g ∷ gs) h c (inl e) = subst (λ (f : Group). f.«end» < t) (sym e) c.2
canon-below t k (g ∷ gs) h c (inr m) = canon-below t (g.«end» + 2) gs h c.3 m

-- one more behind them
canon-begins : (t k : ℕ) (gs : List Group) (h : Group) → Canon t k (runs_of gs) → ((f : Group) → OneOf f gs → f.«end» + 1 < h.start) → k ≤ h.start → h.start ≤ h.«end» → h.«end» < t
    → Canon t k (runs_of (gs ++ h ∷ []))
canon-begins t k [] h c l b m n = (b, m, n, tt)
canon-begins t k (f ∷ gs) h c l b m n = (c.0, c.1, c.2, canon-begins t (f.«end» + 2) gs h c.3 (λ g i. l g (inr i)) (omega (arith, l f (inl refl))) m n)

-- the last one ends later
canon-joins : (t k : ℕ) (gs : List Group) (g h : Group) → Canon t k (runs_of (gs ++ g ∷ [])) → g.start ≡ h.start → g.«end» ≤ h.«end» → h.«end» < t
    → Canon t k (runs_of (gs ++ h ∷ []))
canon-joins t k [] g h c e l n = (omega (arith, c.0), omega (arith, c.1), n, tt)
canon-joins t k (f ∷ gs) g h c e l n = (c.0, c.1, c.2, canon-joins t (f.«end» + 2) gs g h c.3 e l n)

-- ---- what groups are
-- the entry at place q starts in the group
pub record Starts (es : List Run) (ps : List ℕ) (h : Group) (q : ℕ) : Type 0 where
  pub listed : In q ps
  pub from : h.start ≤ (entry es q).start
  pub to : (entry es q).start ≤ h.«end»

-- two entries start in the group
pub record Two (es : List Run) (ps : List ℕ) (h : Group) : Type 0 where
  pub this : ℕ
  pub that : ℕ
  pub differ : this ≡ that → ⊥
  pub these : Starts es ps h this
  pub those : Starts es ps h that

-- a group of entries at the places ps: an entry starts it, each position is of an entry, its place is that of an entry in it, and the least such;
-- if it is sole, no other entry starts in it, and else two do
pub record Fits (es : List Run) (ps : List ℕ) (h : Group) : Type 0 where
  pub begun : (q : ℕ) × In q ps × ((entry es q).start ≡ h.start)
  pub tight : (x : ℕ) → h.start ≤ x → x ≤ h.«end» → (q : ℕ) × In q ps × ((entry es q).start ≤ x) × (x ≤ (entry es q).«end»)
  pub placed : Starts es ps h h.place
  pub foremost : (q : ℕ) → Starts es ps h q → h.place ≤ q
  pub single : h.sole ≡ true → (q : ℕ) → Starts es ps h q → q ≡ h.place
  pub several : h.sole ≡ false → Two es ps h

-- an entry that counts lies in one of the groups
pub record Lies (es : List Run) (gs : List Group) (q : ℕ) : Type 0 where
  pub counts : Counts es q
  pub group : Group
  pub one : OneOf group gs
  pub starts : group.start ≤ (entry es q).start
  pub ends : (entry es q).«end» ≤ group.«end»

-- THE GROUPS ARE RIGHT: their runs are canonical, each is one of entries at the places, and each of these lies in one
pub record Right (es : List Run) (ps : List ℕ) (gs : List Group) : Type 0 where
  pub canon : Canon size 0 (runs_of gs)
  pub fits : (h : Group) → OneOf h gs → Fits es ps h
  pub lies : (q : ℕ) → In q ps → Lies es gs q

-- ---- one place more
-- p comes next: it counts, is no place of before, and no entry there starts after its own
pub record Next (es : List Run) (ps : List ℕ) (p : ℕ) : Type 0 where
  pub counts : Counts es p
  pub fresh : (q : ℕ) → In q ps → q ≡ p → ⊥
  pub later : (q : ℕ) → In q ps → (entry es q).start ≤ (entry es p).start

-- an entry that starts in a group does so among more places
starts_more : (es : List Run) (ps : List ℕ) (h : Group) (q p : ℕ) → Starts es ps h q → Starts es (ps ++ p ∷ []) h q
starts_more es ps h q p s = record { listed = in_left q ps (p ∷ []) s.listed; from = s.from; to = s.to }

-- a group that ends before the next entry starts stays right
fits_more : (es : List Run) (ps : List ℕ) (h : Group) (p : ℕ) → Fits es ps h → h.«end» < (entry es p).start → Fits es (ps ++ p ∷ []) h
fits_more es ps h p f l = record {
  begun = let b = f.begun in (b.0, in_left b.0 ps (p ∷ []) b.1, b.2);
  tight = λ x m n. let t = f.tight x m n in (t.0, in_left t.0 ps (p ∷ []) t.1, t.2, t.3);
  placed = starts_more es ps h h.place p f.placed;
  foremost = λ q s. f.foremost q (before q s (in_both q ps (p ∷ []) s.listed));
  single = λ e q s. f.single e q (before q s (in_both q ps (p ∷ []) s.listed));
  several = λ e.
      let t = f.several e in
      record {
        this = t.this;
        that = t.that;
        differ = t.differ;
        these = starts_more es ps h t.this p t.these;
        those = starts_more es ps h t.that p t.those;
      };
}
  where
    -- what starts in it did so before
    before : (q : ℕ) → Starts es (ps ++ p ∷ []) h q → In q ps ⊎ In q (p ∷ []) → Starts es ps h q
    before q s (inl m) = record { listed = m; from = s.from; to = s.to }
    before q s (inr m) = absurd (omega (arith, s.to, ap (λ k. (entry es k).start) (in_one q p m)))

-- the group of an entry alone is right where all others start before it
fits-alone : (es : List Run) (ps : List ℕ) (p : ℕ) → Counts es p → ((q : ℕ) → In q ps → (entry es q).start < (entry es p).start)
    → Fits es (ps ++ p ∷ []) (alone es p)
fits-alone es ps p c before = record {
  begun = (p, in-last p ps, refl);
  tight = λ x m n. (p, in-last p ps, m, n);
  placed = record { listed = in-last p ps; from = omega arith; to = c.ordered };
  foremost = λ q s. omega (arith, go q s (in_both q ps (p ∷ []) s.listed));
  single = λ e q s. go q s (in_both q ps (p ∷ []) s.listed);
  several = λ e. absurd (true≢false e);
}
  where
    go : (q : ℕ) → Starts es (ps ++ p ∷ []) (alone es p) q → In q ps ⊎ In q (p ∷ []) → q ≡ p
    go q s (inl m) = absurd (omega (arith, before q m, s.from))
    go q s (inr m) = in_one q p m

-- no place has no group
right-none : (es : List Run) → Right es [] []
right-none es = record { canon = tt; fits = λ h m. absurd m; lies = λ q m. absurd (in-none q m) }

-- an entry that starts after the position after each group begins one
right-begins : (es : List Run) (ps : List ℕ) (gs : List Group) (p : ℕ) → AllWords es → Counts es p → Right es ps gs
    → ((h : Group) → OneOf h gs → h.«end» + 1 < (entry es p).start) → Right es (ps ++ p ∷ []) (gs ++ alone es p ∷ [])
right-begins es ps gs p w c r ended = record {
  canon = canon-begins size 0 gs (alone es p) r.canon ended (omega arith) c.ordered (entry-words es p w).1;
  fits = λ h m. fits h (one-either h gs (alone es p) m);
  lies = λ q m. lies q (in_both q ps (p ∷ []) m);
}
  where
    before : (q : ℕ) → In q ps → (entry es q).start < (entry es p).start
    before q m = let y = r.lies q m in omega (arith, y.ends, ended y.group y.one, y.counts.ordered)

    fits : (h : Group) → OneOf h gs ⊎ (h ≡ alone es p) → Fits es (ps ++ p ∷ []) h
    fits h (inl m) = fits_more es ps h p (r.fits h m) (omega (arith, ended h m))
    fits h (inr e) = subst (Fits es (ps ++ p ∷ [])) (sym e) (fits-alone es ps p c before)

    lies : (q : ℕ) → In q ps ⊎ In q (p ∷ []) → Lies es (gs ++ alone es p ∷ []) q
    lies q (inl m) =
        let y = r.lies q m in
        record { counts = y.counts; group = y.group; one = one_left y.group gs (alone es p ∷ []) y.one; starts = y.starts; ends = y.ends }
    lies q (inr m) = subst (Lies es (gs ++ alone es p ∷ [])) (sym (in_one q p m)) (record { counts = c; group = alone es p; one = one_last (alone es p) gs; starts = omega arith; ends = omega arith })

-- an entry that overlaps the last group or touches it joins it
right-joins : (es : List Run) (ps : List ℕ) (gs : List Group) (g : Group) (p : ℕ) → AllWords es → Next es ps p → Right es ps (gs ++ g ∷ [])
    → (entry es p).start ≤ g.«end» + 1 → Right es (ps ++ p ∷ []) (gs ++ joining es g p ∷ [])
right-joins es ps gs g p w n r l = record {
  canon = canon-joins size 0 gs g (joining es g p) r.canon refl (omega arith) (let e = entry-words es p w in omega (arith, last, e.1));
  fits = λ h m. fits h (one-either h gs (joining es g p) m);
  lies = λ q m. lies q (in_both q ps (p ∷ []) m);
}
  where
    old : Fits es ps g
    old = r.fits g (one_last g gs)

    last : g.«end» < size
    last = canon-below size 0 (gs ++ g ∷ []) g r.canon (one_last g gs)

    -- the group starts with an entry of before, so no later than this one
    from : g.start ≤ (entry es p).start
    from = let b = old.begun in omega (arith, b.2, n.later b.0 b.1)

    starts : Starts es (ps ++ p ∷ []) (joining es g p) p
    starts = record { listed = in-last p ps; from = from; to = omega (arith, n.counts.ordered) }

    -- an entry that starts in the group starts in the longer one
    longer : (q : ℕ) → Starts es ps g q → Starts es (ps ++ p ∷ []) (joining es g p) q
    longer q s = record { listed = in_left q ps (p ∷ []) s.listed; from = s.from; to = omega (arith, s.to) }

    least : (g.place < p) ⊎ (p ≤ g.place) → Starts es (ps ++ p ∷ []) (joining es g p) (min g.place p)
    least (inl m) = subst (Starts es (ps ++ p ∷ []) (joining es g p)) (omega arith) (longer g.place old.placed)
    least (inr m) = subst (Starts es (ps ++ p ∷ []) (joining es g p)) (omega arith) starts

    -- an entry that starts in the longer one and not in the group is this one, or starts right behind the group, where no entry of before does
    first_of : (q : ℕ) → Starts es (ps ++ p ∷ []) (joining es g p) q → In q ps ⊎ In q (p ∷ []) → (g.«end» < (entry es q).start) ⊎ ((entry es q).start ≤ g.«end»)
        → min g.place p ≤ q
    first_of q s (inr m) k = omega (arith, in_one q p m)
    first_of q s (inl m) (inr k) = omega (arith, old.foremost q (record { listed = m; from = s.from; to = k }))
    first_of q s (inl m) (inl k) = let y = r.lies q m in absurd (omega (arith, y.counts.ordered, y.ends, canon-most size 0 gs g y.group r.canon y.one))

    tight : (x : ℕ) → g.start ≤ x → x ≤ max g.«end» (entry es p).«end» → (g.«end» < x) ⊎ (x ≤ g.«end»)
        → (q : ℕ) × In q (ps ++ p ∷ []) × ((entry es q).start ≤ x) × (x ≤ (entry es q).«end»)
    tight x a b (inl m) = (p, in-last p ps, omega arith, omega arith)
    tight x a b (inr m) = let t = old.tight x a m in (t.0, in_left t.0 ps (p ∷ []) t.1, t.2, t.3)

    joined : Fits es (ps ++ p ∷ []) (joining es g p)
    joined = record {
      begun = let b = old.begun in (b.0, in_left b.0 ps (p ∷ []) b.1, b.2);
      tight = λ x a b. tight x a b (split g.«end» x);
      placed = least (split g.place p);
      foremost = λ q s. first_of q s (in_both q ps (p ∷ []) s.listed) (split g.«end» (entry es q).start);
      single = λ e. absurd (false≢true e);
      several = λ e. record {
        this = g.place;
        that = p;
        differ = n.fresh g.place old.placed.listed;
        these = longer g.place old.placed;
        those = starts;
      };
    }

    fits : (h : Group) → OneOf h gs ⊎ (h ≡ joining es g p) → Fits es (ps ++ p ∷ []) h
    fits h (inl m) =
        fits_more es ps h p (r.fits h (one_left h gs (g ∷ []) m)) (omega (arith, canon-before size 0 gs g h r.canon m, from))
    fits h (inr e) = subst (Fits es (ps ++ p ∷ [])) (sym e) joined

    -- what lay in the last group lies in the longer one
    moved : (q : ℕ) (y : Lies es (gs ++ g ∷ []) q) → OneOf y.group gs ⊎ (y.group ≡ g) → Lies es (gs ++ joining es g p ∷ []) q
    moved q y (inl m) = record {
      counts = y.counts;
      group = y.group;
      one = one_left y.group gs (joining es g p ∷ []) m;
      starts = y.starts;
      ends = y.ends;
    }
    moved q y (inr e) = record {
      counts = y.counts;
      group = joining es g p;
      one = one_last (joining es g p) gs;
      starts = omega (arith, y.starts, ap (λ (h : Group). h.start) e);
      ends = omega (arith, y.ends, ap (λ (h : Group). h.«end») e);
    }

    lies : (q : ℕ) → In q ps ⊎ In q (p ∷ []) → Lies es (gs ++ joining es g p ∷ []) q
    lies q (inl m) = let y = r.lies q m in moved q y (one-either y.group gs g y.one)
    lies q (inr m) =
        subst (Lies es (gs ++ joining es g p ∷ [])) (sym (in_one q p m))
        (record { counts = n.counts; group = joining es g p; one = one_last (joining es g p) gs; starts = from; ends = omega arith })

-- ---- the groups of places in rising order are right
-- what follows in a rising list comes next
next-rising : (es : List Run) (b : ℕ) (ps : List ℕ) (p : ℕ) → length es < size → Rising es b (ps ++ p ∷ []) → Counts es p → Next es ps p
next-rising es b ps p h r c = record {
  counts = c;
  fresh = λ q m e. omega (arith, rising-apart es b ps (p ∷ []) r q p m (in_head p []), ap (key es) e);
  later = λ q m. key-start es q p (omega (arith, c.within)) (rising-apart es b ps (p ∷ []) r q p m (in_head p []));
}

-- by the steps that made them
pub grouped-right : (es : List Run) (ps : List ℕ) (gs : List Group) → AllWords es → length es < size → Rising es 0 ps → ((q : ℕ) → In q ps → Counts es q)
    → Grouped es ps gs → Right es ps gs
grouped-right es ps gs w h r c none = right-none es
grouped-right es ps gs w h r c (first p) = right-begins es [] [] p w (c p (in_head p [])) (right-none es) (λ g m. absurd m)
grouped-right es ps gs w h r c (begins qs fs g p d l) =
    let old = grouped-right es qs (fs ++ g ∷ []) w h (rising-front es 0 qs (p ∷ []) r) (λ q m. c q (in_left q qs (p ∷ []) m)) d in
    right-begins es qs (fs ++ g ∷ []) p w (c p (in-last p qs)) old (λ f m. omega (arith, canon-most size 0 fs g f old.canon m))
grouped-right es ps gs w h r c (joins qs fs g p d l) =
    right-joins es qs fs g p w (next-rising es 0 qs p h r (c p (in-last p qs)))
    (grouped-right es qs (fs ++ g ∷ []) w h (rising-front es 0 qs (p ∷ []) r) (λ q m. c q (in_left q qs (p ∷ []) m)) d) l

-- those of a list of places are
pub lists-right : (es : List Run) (u : ℕ) (ps : List ℕ) (gs : List Group) → AllWords es → length es < size → Lists es (length es) 0 u ps → Grouped es ps gs
    → Right es ps gs
lists-right es u ps gs w h s d = grouped-right es ps gs w h s.rising (λ q m. (s.only q m).1) d

-- and so are those of its front
pub front-right : (es : List Run) (u : ℕ) (ps qs : List ℕ) (gs : List Group) → AllWords es → length es < size → Lists es (length es) 0 u (ps ++ qs)
    → Grouped es ps gs → Right es ps gs
front-right es u ps qs gs w h s d = grouped-right es ps gs w h (rising-front es 0 ps qs s.rising) (λ q m. (s.only q (in_left q ps qs m)).1) d

-- the place of each group counts
pub group-counts : (es : List Run) (ps : List ℕ) (gs : List Group) (h : Group) → Right es ps gs → OneOf h gs → Counts es h.place
group-counts es ps gs h r m = (r.lies h.place (r.fits h m).placed.listed).counts

-- there are as many runs as groups
pub runs-length : (gs : List Group) → length (runs_of gs) ≡ length gs
runs-length [] = refl
runs-length (g ∷ gs) = ap suc (runs-length gs)

-- ---- what the groups hold
-- each group has a place among the runs
pub one-run : (gs : List Group) (h : Group) → OneOf h gs → (p : ℕ) × (p < length (runs_of gs)) × (entry (runs_of gs) p ≡ run h.start h.«end»)
one-run [] h m = elim m [ ]
one-run (g ∷ gs) h (inl e) = (0, omega arith, ap (λ (f : Group). run f.start f.«end») (sym e))
one-run (g ∷ gs) h (inr m) = let t = one-run gs h m in (suc t.0, omega (arith, t.1), t.2)

-- and each run is of one
run-one : (gs : List Group) (p : ℕ) → p < length (runs_of gs) → (h : Group) × OneOf h gs × (entry (runs_of gs) p ≡ run h.start h.«end»)
run-one [] p l = absurd (omega arith)
run-one (g ∷ gs) zero l = (g, inl refl, refl)
run-one (g ∷ gs) (suc p) l = let t = run-one gs p (omega arith) in (t.0, inr t.1, t.2)

-- the positions of each group
pub group-holds : (gs : List Group) (h : Group) (x : ℕ) → OneOf h gs → h.start ≤ x → x ≤ h.«end» → mem (runs_of gs) x ≡ true
group-holds gs h x m l k =
    let p = one-run gs h m in
    entry-holds (runs_of gs) p.0 x p.1 (omega (arith, ap (λ (r : Run). r.start) p.2)) (omega (arith, ap (λ (r : Run). r.«end») p.2))

-- each position is of a group
pub group_of : (gs : List Group) (x : ℕ) → mem (runs_of gs) x ≡ true → (h : Group) × OneOf h gs × (h.start ≤ x) × (x ≤ h.«end»)
group_of gs x e =
    let q = entry_of (runs_of gs) x e in
    let t = run-one gs q.0 q.1 in
    (t.0, t.1, omega (arith, q.2, ap (λ (r : Run). r.start) t.2), omega (arith, q.3, ap (λ (r : Run). r.«end») t.2))

-- right groups hold what the entries at the places hold
pub right-holds : (es : List Run) (ps : List ℕ) (gs : List Group) (q x : ℕ) → Right es ps gs → In q ps → (entry es q).start ≤ x → x ≤ (entry es q).«end»
    → mem (runs_of gs) x ≡ true
right-holds es ps gs q x r m l k =
    let y = r.lies q m in
    group-holds gs y.group x y.one (omega (arith, y.starts)) (omega (arith, y.ends))

-- and no more
pub right_of : (es : List Run) (ps : List ℕ) (gs : List Group) (x : ℕ) → Right es ps gs → mem (runs_of gs) x ≡ true
    → (q : ℕ) × In q ps × ((entry es q).start ≤ x) × (x ≤ (entry es q).«end»)
right_of es ps gs x r e = let h = group_of gs x e in (r.fits h.0 h.1).tight x h.2 h.3

-- two tests that hold together are the same
pub both-or-none : (a b : Bool) → (a ≡ true → b ≡ true) → (b ≡ true → a ≡ true) → a ≡ b
both-or-none a b f g = grind (arith, f, g)

-- ---- the end: right groups of all places that count
pub record Whole (es : List Run) (ps : List ℕ) (gs : List Group) : Type 0 where
  pub right : Right es ps gs
  pub each : (p : ℕ) → Counts es p → In p ps

-- the groups of a list of all keys are such
pub lists-end : (es : List Run) (u : ℕ) (ps : List ℕ) (gs : List Group) → AllWords es → length es < size → size * size ≤ u → Lists es (length es) 0 u ps
    → Grouped es ps gs → Whole es ps gs
lists-end es u ps gs w h l s d = record { right = lists-right es u ps gs w h s d; each = lists-whole es u ps w h l s }

-- they hold what the list holds
whole_mem : (es : List Run) (ps : List ℕ) (gs : List Group) (x : ℕ) → Whole es ps gs → mem (runs_of gs) x ≡ mem es x
whole_mem es ps gs x t = both-or-none (mem (runs_of gs) x) (mem es x) there back
  where
    there : mem (runs_of gs) x ≡ true → mem es x ≡ true
    there e =
        let q = right_of es ps gs x t.right e in
        entry-holds es q.0 x (t.right.lies q.0 q.1).counts.within q.2 q.3

    back : mem es x ≡ true → mem (runs_of gs) x ≡ true
    back e =
        let q = entry_of es x e in
        let c : Counts es q.0 = record { within = q.1; ordered = omega (arith, q.2, q.3) } in
        right-holds es ps gs q.0 x t.right (t.each q.0 c) q.2 q.3

-- so their runs are those of the list's positions
pub whole-held : (es : List Run) (ps : List ℕ) (gs : List Group) → Whole es ps gs → held_runs (mem es) ≡ runs_of gs
whole-held es ps gs t = held_runs-is (mem es) (runs_of gs) t.right.canon (λ x h. whole_mem es ps gs x t)

-- and as many
pub whole-stretches : (es : List Run) (ps : List ℕ) (gs : List Group) → Whole es ps gs → stretches (mem es) ≡ length gs
whole-stretches es ps gs t =
    stretches-is (mem es) (runs_of gs) t.right.canon (λ x h. whole_mem es ps gs x t) ∙ runs-length gs
