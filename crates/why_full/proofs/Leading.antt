-- The first entry of each run: its place is the place of a group, where the groups are those of all entries. So there are as many as runs of the
-- union. Assumes nothing.
use Rattle.std.proofs.Common.{ℕ, zero, suc, ◌+◌, ◌≤◌, ◌<◌, ◌≡◌, refl, sym, ap, ap₂, ◌∙◌, subst, ◌⊎◌, inl, inr, Bool, true, false, cond, not, ◌&&◌, List, [], ◌∷◌, ◌++◌, arith}
use Rattle.std.proofs.Common.{zero-add, leb, length, take, length-take, length-append, get_or-take, le-leb, leb-true}
use mathlib.Core.Bool.{false≢true}
use Rattle.std.proofs.lemmas.Bool.Decides.{nat_tests}
use Rattle.model.specs.declared.Run.{Run}
use Rattle.model.specs.Numbers.{size}
use Rattle.model.specs.Positions.{run, run_at, mem}
use Rattle.model.specs.RunList.{Canon}
use Rattle.model.proofs.Numbers.{split}
use Rattle.model.proofs.Edit.{and-holds}
use Rattle.union.specs.declared.Group.{Group}
use Rattle.union.specs.Entries.{entry, Counts, In}
use Rattle.union.specs.Groups.{runs_of, OneOf}
use Rattle.union.proofs.Entries.{in-none, in_head, in_tail, in_either, entry-holds}
use Rattle.union.proofs.Grouping.{one_left, one_last, one-either, canon-from, canon-before, Starts, Fits, Lies, Right, Whole}
use Rattle.union.proofs.Fating.{whole_run}
use Rattle.model.specs.Spawning.{meets, leads, places_from, places}
use Rattle.why_full.specs.Placing.{Climbing, in_order, Ranked}
use Rattle.why_full.proofs.Climbing.{climbing-unique, order-length, order-has, order-keeps, order-only, order-climbing}

-- ---- an entry in a run
-- the entry at place j counts, and has a position in the run q
pub record Meeting (q : Run) (rs : List Run) (j : ℕ) : Type 0 where
  pub counts : Counts rs j
  pub low : (entry rs j).start ≤ q.«end»
  pub high : q.start ≤ (entry rs j).«end»

-- so does the same entry of another list
same-meets : {q : Run} {rs ss : List Run} {i : ℕ} (j : ℕ) → entry rs i ≡ entry ss j → j < length ss → Meeting q rs i → Meeting q ss j
same-meets j e l m =
    record { counts = record { within = l; ordered = rw (← e) m.counts.ordered }; low = rw (← e) m.low; high = rw (← e) m.high }

-- one such entry is enough
pub meets-some : (q : Run) (rs : List Run) (j : ℕ) → Meeting q rs j → meets q rs ≡ true
unfolding meets
meets-some q [] j m = absurd (omega (arith, m.counts.within))
meets-some q (r ∷ rs) zero m = grind (arith, nat_tests, m.counts.ordered, m.low, m.high)
meets-some q (r ∷ rs) (suc j) m = grind (arith, meets-some q rs j (same-meets j refl (omega (arith, m.counts.within)) m))

-- without one there is none
pub meets-none : (q : Run) (rs : List Run) → ((j : ℕ) → Meeting q rs j → ⊥) → meets q rs ≡ false
unfolding meets
meets-none q [] f = refl
meets-none q (r ∷ rs) f =
    go (λ s l h. f 0 (record { counts = record { within = omega arith; ordered = s }; low = l; high = h }))
    (meets-none q rs (λ j m. f (suc j) (same-meets (suc j) refl (omega (arith, m.counts.within)) m)))
  where
    go : (r.start ≤ r.«end» → r.start ≤ q.«end» → q.start ≤ r.«end» → ⊥) → meets q rs ≡ false → meets q (r ∷ rs) ≡ false
    go first later = grind (arith, nat_tests, first)

-- one of the first p entries of a list is one of the list
pub meeting-take : (q : Run) (p : ℕ) (rs : List Run) (j : ℕ) → Meeting q (take p rs) j → (j < p) × Meeting q rs j
meeting-take q p rs j m =
    let l : j < p = omega (arith, m.counts.within, length-take p rs) in
    (l, same-meets j (get_or-take p rs j (run 0 0) l) (omega (arith, m.counts.within, length-take p rs)) m)

-- and the other way
pub take-meeting : (q : Run) (p : ℕ) (rs : List Run) (j : ℕ) → j < p → Meeting q rs j → Meeting q (take p rs) j
take-meeting q p rs j l m = same-meets j (sym (get_or-take p rs j (run 0 0) l)) (omega (arith, m.counts.within, length-take p rs)) m

-- ---- the place of a group
module _ {es : List Run} {ps : List ℕ} {gs : List Group} (t : Whole es ps gs) where
  -- the run around the start of an entry in a group is that of the group
  run_is : (h : Group) (p : ℕ) → OneOf h gs → Counts es p → h.start ≤ (entry es p).start → (entry es p).start ≤ h.«end»
      → run_at (mem es) (entry es p).start ≡ run h.start h.«end»
  run_is h p m c l k = whole_run es ps gs h (entry es p).start t m l k (entry-holds es p (entry es p).start c.within (omega arith) c.ordered)

  -- an entry that starts in a group meets it
  starts-meets : (h : Group) (j : ℕ) → Starts es ps h j → Meeting (run h.start h.«end») es j
  starts-meets h j s =
      let c = (t.right.lies j s.listed).counts in
      record { counts = c; low = s.to; high = omega (arith, s.from, c.ordered) }

  -- one that meets a group starts in it: it lies in a group, which is this one
  meets-starts : (h : Group) (j : ℕ) → OneOf h gs → Meeting (run h.start h.«end») es j → Starts es ps h j
  meets-starts h j m k = record { listed = t.each j k.counts; from = grind (arith, y.starts, shared); to = k.low }
    where
      y : Lies es gs j
      y = t.right.lies j (t.each j k.counts)

      -- the first position of this one is in both
      shared : (entry es j).start < h.start → run h.start h.«end» ≡ run y.group.start y.group.«end»
      shared l =
          let x = h.start in
          let e = entry-holds es j x k.counts.within (omega arith) k.high in
          sym (whole_run es ps gs h x t m (omega arith) (canon-from size 0 gs h t.right.canon m).1 e)
          ∙ whole_run es ps gs y.group x t y.one (omega (arith, y.starts)) (omega (arith, y.ends, k.high)) e

  -- the place of a group is that of the first entry in its run
  group-leads : (h : Group) → OneOf h gs → leads es h.place (entry es h.place) ≡ true
  unfolding leads
  group-leads h m =
      let s = (t.right.fits h m).placed in
      let c = (t.right.lies h.place s.listed).counts in
      ap₂ (λ a b. a && not b) (le-leb (entry es h.place).start (entry es h.place).«end» c.ordered)
      (ap (λ q. meets q (take h.place es)) (run_is h h.place m c s.from s.to)
      ∙ meets-none (run h.start h.«end») (take h.place es) (none h m))
    where
      none : (h : Group) → OneOf h gs → (j : ℕ) → Meeting (run h.start h.«end») (take h.place es) j → ⊥
      none h m j k =
          let e = meeting-take (run h.start h.«end») h.place es j k in
          omega (arith, e.0, (t.right.fits h m).foremost j (meets-starts h j m e.1))

  -- the first entry of a run is at the place of a group
  leads-group : (p : ℕ) → p < length es → leads es p (entry es p) ≡ true → (h : Group) × OneOf h gs × (h.place ≡ p)
  unfolding leads
  leads-group p l e =
      let b = and-holds (leb (entry es p).start (entry es p).«end») (not (meets (run_at (mem es) (entry es p).start) (take p es))) e in
      go (record { within = l; ordered = leb-true (entry es p).start (entry es p).«end» b.0 }) b.1
    where
      go : Counts es p → not (meets (run_at (mem es) (entry es p).start) (take p es)) ≡ true → (h : Group) × OneOf h gs × (h.place ≡ p)
      go c n = (y.group, y.one, same (split y.group.place p))
        where
          y : Lies es gs p
          y = t.right.lies p (t.each p c)

          to : (entry es p).start ≤ y.group.«end»
          to = omega (arith, y.ends, c.ordered)

          f : Fits es ps y.group
          f = t.right.fits y.group y.one

          same : (y.group.place < p) ⊎ (p ≤ y.group.place) → y.group.place ≡ p
          same (inl k) =
              absurd (false≢true (sym (ap not (ap (λ q. meets q (take p es)) (run_is y.group p y.one c y.starts to)
              ∙ meets-some (run y.group.start y.group.«end») (take p es) y.group.place
              (take-meeting (run y.group.start y.group.«end») p es y.group.place k (starts-meets y.group y.group.place f.placed)))) ∙ n))
          same (inr k) = omega (arith, f.foremost p (record { listed = t.each p c; from = y.starts; to = to }))

-- ---- the list of these places
-- it is rising
places-climbing : (es : List Run) (k : ℕ) (rs : List Run) → Climbing k (places_from es k rs)
unfolding places_from
places-climbing es k [] = tt
places-climbing es k (r ∷ rs) = go (leads es k r) (places-climbing es (suc k) rs)
  where
    lower : (b : ℕ) (qs : List ℕ) → Climbing (suc b) qs → Climbing b qs
    lower b [] c = tt
    lower b (q ∷ qs) c = (omega (arith, c.0), c.1)

    go : (b : Bool) → Climbing (suc k) (places_from es (suc k) rs) → Climbing k (cond b (k ∷ places_from es (suc k) rs) (places_from es (suc k) rs))
    go true c = (omega arith, c)
    go false c = lower k (places_from es (suc k) rs) c

-- each of them leads
pub places-only : (es : List Run) (k : ℕ) (rs : List Run) (p : ℕ) → In p (places_from es k rs)
    → (j : ℕ) × (j < length rs) × (k + j ≡ p) × (leads es p (entry rs j) ≡ true)
unfolding places_from
places-only es k [] p m = absurd (in-none p m)
places-only es k (r ∷ rs) p m = go (leads es k r) refl m (places-only es (suc k) rs p)
  where
    Found : ℕ → List Run → Type 0
    Found k rs = (j : ℕ) × (j < length rs) × (k + j ≡ p) × (leads es p (entry rs j) ≡ true)

    later : Found (suc k) rs → Found k (r ∷ rs)
    later f = (suc f.0, omega (arith, f.1), omega (arith, f.2), f.3)

    first : leads es k r ≡ true → (p ≡ k) ⊎ In p (places_from es (suc k) rs) → (In p (places_from es (suc k) rs) → Found (suc k) rs) → Found k (r ∷ rs)
    first e (inl q) f = (0, omega arith, omega arith, subst (λ x. leads es x r ≡ true) (sym q) e)
    first e (inr n) f = later (f n)

    go : (b : Bool) → leads es k r ≡ b → In p (cond b (k ∷ places_from es (suc k) rs) (places_from es (suc k) rs))
        → (In p (places_from es (suc k) rs) → Found (suc k) rs) → Found k (r ∷ rs)
    go true e m f = first e (in_either p k (places_from es (suc k) rs) m) f
    go false e m f = later (f m)

-- and each that leads is one of them
pub places-all : (es : List Run) (k : ℕ) (rs : List Run) (j : ℕ) → j < length rs
    → leads es (k + j) (entry rs j) ≡ true → In (k + j) (places_from es k rs)
unfolding places_from
places-all es k [] j l e = absurd (omega arith)
places-all es k (r ∷ rs) zero l e =
    let z : k + 0 ≡ k = omega arith in
    subst (λ b. In (k + 0) (cond b (k ∷ places_from es (suc k) rs) (places_from es (suc k) rs))) (sym (ap (λ x. leads es x r) (sym z) ∙ e))
    (subst (λ x. In x (k ∷ places_from es (suc k) rs)) (sym z) (in_head k (places_from es (suc k) rs)))
places-all es k (r ∷ rs) (suc j) l e =
    let z : suc k + j ≡ k + suc j = omega arith in
    go (leads es k r) (subst (λ x. In x (places_from es (suc k) rs)) z (places-all es (suc k) rs j (omega arith) (ap (λ x. leads es x (entry rs j)) z ∙ e)))
  where
    go : (b : Bool) → In (k + suc j) (places_from es (suc k) rs) → In (k + suc j) (cond b (k ∷ places_from es (suc k) rs) (places_from es (suc k) rs))
    go true m = in_tail (k + suc j) k (places_from es (suc k) rs) m
    go false m = m

-- THE PLACES are rising
pub places-rising : (es : List Run) → Climbing 0 (places es)
unfolding places
places-rising es = places-climbing es 0 es

-- none is beyond the list
pub places-within : (es : List Run) (p : ℕ) → In p (places es) → p < length es
unfolding places
places-within es p m = let f = places-only es 0 es p m in omega (arith, f.1, f.2)

-- ---- places of groups in rising order
-- of no group
pub ranked-none : Ranked [] []
ranked-none = record { climbing = tt; counted = refl; only = λ q m. absurd (in-none q m); all = λ h m. absurd m }

-- one group more: its place, which was none of theirs, comes among those of the others, wherever the group stands
ranked-more : {gs : List Group} {qs : List ℕ} (g : Group) (hs : List Group) → Ranked gs qs → ((h : Group) → OneOf h gs → h.place ≡ g.place → ⊥)
    → length hs ≡ suc (length gs) → OneOf g hs → ((h : Group) → OneOf h gs → OneOf h hs) → ((h : Group) → OneOf h hs → OneOf h gs ⊎ (h ≡ g))
    → Ranked hs (in_order g.place qs)
ranked-more {gs} {qs} g hs r fresh long here others either = record {
  climbing = order-climbing 0 g.place qs r.climbing (omega arith) (λ m. let o = r.only g.place m in fresh o.0 o.1 o.2);
  counted = omega (arith, order-length g.place qs, r.counted);
  only = λ q m. only q (order-only g.place q qs m);
  all = λ h m. all h (either h m);
}
  where
    only : (q : ℕ) → (q ≡ g.place) ⊎ In q qs → (h : Group) × OneOf h hs × (h.place ≡ q)
    only q (inl e) = (g, here, sym e)
    only q (inr m) = let o = r.only q m in (o.0, others o.0 o.1, o.2)

    all : (h : Group) → OneOf h gs ⊎ (h ≡ g) → In h.place (in_order g.place qs)
    all h (inl m) = order-keeps g.place h.place qs (r.all h m)
    all h (inr e) = subst (λ (x : Group). In x.place (in_order g.place qs)) (sym e) (order-has g.place qs)

-- behind them
pub ranked-behind : {gs : List Group} {qs : List ℕ} (g : Group) → Ranked gs qs → ((h : Group) → OneOf h gs → h.place ≡ g.place → ⊥) → Ranked (gs ++ g ∷ []) (in_order g.place qs)
ranked-behind {gs} g r fresh =
    ranked-more g (gs ++ g ∷ []) r fresh (omega (arith, length-append gs (g ∷ []))) (one_last g gs) (λ h m. one_left h gs (g ∷ []) m) (λ h m. one-either h gs g m)

-- in front of them
ranked-before : {gs : List Group} {qs : List ℕ} (g : Group) → Ranked gs qs → ((h : Group) → OneOf h gs → h.place ≡ g.place → ⊥) → Ranked (g ∷ gs) (in_order g.place qs)
ranked-before {gs} g r fresh = ranked-more g (g ∷ gs) r fresh refl (inl refl) (λ h m. inr m) either
  where
    either : (h : Group) → OneOf h (g ∷ gs) → OneOf h gs ⊎ (h ≡ g)
    either h (inl e) = inr e
    either h (inr m) = inl m

-- the places of two groups that are apart differ
apart-places : (es : List Run) (ps : List ℕ) (g h : Group) → Fits es ps g → Fits es ps h → g.«end» + 2 ≤ h.start → g.place ≡ h.place → ⊥
apart-places es ps g h f k l e = omega (arith, f.placed.to, k.placed.from, ap (λ p. (entry es p).start) e)

-- so the last group has a place of its own
pub last-fresh : (es : List Run) (ps : List ℕ) (gs : List Group) (g : Group) → Right es ps (gs ++ g ∷ []) → (h : Group) → OneOf h gs → h.place ≡ g.place → ⊥
last-fresh es ps gs g r h m =
    apart-places es ps h g (r.fits h (one_left h gs (g ∷ []) m)) (r.fits g (one_last g gs)) (canon-before size 0 gs g h r.canon m)

-- groups that are right have places in rising order
ranked-some : (es : List Run) (ps : List ℕ) (k : ℕ) (gs : List Group) → Canon size k (runs_of gs) → ((h : Group) → OneOf h gs → Fits es ps h) → (qs : List ℕ) × Ranked gs qs
ranked-some es ps k [] c f = ([], ranked-none)
ranked-some es ps k (g ∷ gs) c f =
    let r = ranked-some es ps (g.«end» + 2) gs c.3 (λ h m. f h (inr m)) in (
      in_order g.place r.0,
      ranked-before g r.1 (λ h m e. apart-places es ps g h (f g (inl refl)) (f h (inr m)) (canon-from size (g.«end» + 2) gs h c.3 m).0 (sym e)),
    )

-- THE PLACES of the groups of all entries are those that lead
pub ranked-places : {es : List Run} {ps : List ℕ} {gs : List Group} {qs : List ℕ} → Whole es ps gs → Ranked gs qs → qs ≡ places es
unfolding places
ranked-places {es} {ps} {gs} {qs} t r = climbing-unique 0 0 qs (places_from es 0 es) r.climbing (places-climbing es 0 es) there back
  where
    there : (q : ℕ) → In q qs → In q (places_from es 0 es)
    there q m =
        let o = r.only q m in
        let z : 0 + o.0.place ≡ q = zero-add o.0.place ∙ o.2 in
        let w = (t.right.lies o.0.place (t.right.fits o.0 o.1).placed.listed).counts.within in
        subst (λ x. In x (places_from es 0 es)) z
        (places-all es 0 es o.0.place w (ap (λ x. leads es x (entry es o.0.place)) (zero-add o.0.place) ∙ group-leads t o.0 o.1))

    back : (q : ℕ) → In q (places_from es 0 es) → In q qs
    back q m =
        let f = places-only es 0 es q m in
        let z : f.0 ≡ q = sym (zero-add f.0) ∙ f.2 in
        let o = leads-group t q (omega (arith, f.1)) (subst (λ x. leads es q (entry es x) ≡ true) z f.3) in
        subst (λ x. In x qs) o.2 (r.all o.0 o.1)

-- every list whose groups are known has them so
pub whole-ranked : {es : List Run} {ps : List ℕ} {gs : List Group} → Whole es ps gs → Ranked gs (places es)
whole-ranked {es} {ps} {gs} t =
    let r = ranked-some es ps 0 gs t.right.canon t.right.fits in
    subst (Ranked gs) (ranked-places t r.1) r.1
