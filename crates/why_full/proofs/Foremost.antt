-- The entries that lead, told by positions: those with a position in whose run no earlier entry has any. A run only grows with the list, so what leads in
-- a list leads in each shorter one that has it; and the last place up to the first refused call is that call's own. Assumes nothing.
use Rattle.std.proofs.Common.{ℕ, suc, ◌+◌, ◌≤◌, ◌<◌, min, max, ◌≡◌, refl, sym, ap, ap₂, ◌∙◌, subst, ◌⊎◌, inl, inr, Bool, true, false, not, ◌&&◌, List, [], ◌∷◌, arith, zero-add}
use Rattle.std.proofs.Common.{leb, length, get_or, take, length-take, get_or-take, le-leb, leb-true}
use mathlib.Core.Bool.{false≢true}
use Rattle.model.specs.declared.Run.{Run}
use Rattle.model.specs.Numbers.{size}
use Rattle.model.specs.Positions.{run, inside, run_at, mem}
use Rattle.model.specs.RunList.{Canon, AllWords}
use Rattle.model.specs.Spawning.{meets, leads, places_from, places}
use Rattle.model.proofs.Numbers.{split}
use Rattle.model.proofs.Counting.{inside-yes}
use Rattle.model.proofs.Edit.{and-holds}
use Rattle.union.specs.declared.Group.{Group}
use Rattle.union.specs.Entries.{entry, In}
use Rattle.union.specs.Groups.{runs_of, OneOf}
use Rattle.union.proofs.Entries.{entry-holds, entry_of}
use Rattle.union.proofs.Grouping.{canon-from, Lies, Whole}
use Rattle.union.proofs.Completing.{whole-some}
use Rattle.union.proofs.Fating.{whole_run}
use Rattle.why_full.specs.Placing.{Climbing}
use Rattle.why_full.proofs.Climbing.{climbing-few}
use Rattle.why_full.proofs.Ordering.{climbing-once}
use Rattle.why_full.proofs.Ranges.{take_words}
use Rattle.why_full.proofs.Leading.{Meeting, meets-some, meets-none, meeting-take, take-meeting, places-only, places-all, places-rising, places-within}
use Rattle.why_full.proofs.Refusing.{Refused}
use Rattle.why_full.proofs.Sublists.{places-length, refused-places}

-- the entry at place p has the position x
abbrev pub Has : List Run → ℕ → ℕ → Type 0
Has es p x = ((entry es p).start ≤ x) × (x ≤ (entry es p).«end»)

-- y is in the run around x
abbrev pub near : List Run → ℕ → ℕ → Bool
near es x y = inside (run_at (mem es) x).start (run_at (mem es) x).«end» y

-- no entry before place p has a position there
abbrev pub Unmet : List Run → ℕ → ℕ → Type 0
Unmet es p x = (q y : ℕ) → q < p → Has es q y → near es x y ≡ false

-- ---- the run around a position
-- the position behind a group is in none
end-free : (t k : ℕ) (gs : List Group) (g h : Group) → Canon t k (runs_of gs) → OneOf g gs → OneOf h gs
    → h.start ≤ g.«end» + 1 → g.«end» + 1 ≤ h.«end» → ⊥
end-free t k [] g h c m n l r = elim m [ ]
end-free t k (f ∷ gs) g h c (inl d) (inl e) l r =
    omega (arith, ap (λ (x : Group). x.«end») d, ap (λ (x : Group). x.«end») e)
end-free t k (f ∷ gs) g h c (inl d) (inr n) l r =
    omega (arith, ap (λ (x : Group). x.«end») d, (canon-from t (f.«end» + 2) gs h c.3 n).0)
end-free t k (f ∷ gs) g h c (inr m) (inl e) l r =
    let b = canon-from t (f.«end» + 2) gs g c.3 m in
    omega (arith, ap (λ (x : Group). x.«end») e, b.0, b.1)
end-free t k (f ∷ gs) g h c (inr m) (inr n) l r = end-free t (f.«end» + 2) gs g h c.3 m n l r

-- x and y are in one of the groups
record Joint (gs : List Group) (x y : ℕ) : Type 0 where
  group : Group
  one : OneOf group gs
  from : group.start ≤ min x y
  to : max x y ≤ group.«end»

module _ {es : List Run} {ps : List ℕ} {gs : List Group} (t : Whole es ps gs) where
  -- each position is in a group
  group-at : (x : ℕ) → mem es x ≡ true → Joint gs x x
  group-at x e =
      let q = entry_of es x e in
      let y = t.right.lies q.0 (t.each q.0 (record { within = q.1; ordered = omega (arith, q.2, q.3) })) in
      record { group = y.group; one = y.one; from = omega (arith, y.starts, q.2); to = omega (arith, y.ends, q.3) }

  -- what is in a group is held
  group-held : (h : Group) (x : ℕ) → OneOf h gs → h.start ≤ x → x ≤ h.«end» → mem es x ≡ true
  group-held h x m l k =
      let q = (t.right.fits h m).tight x l k in
      entry-holds es q.0 x (t.right.lies q.0 q.1).counts.within q.2 q.3

  -- the run around a position of a group is the group's
  run-around : (h : Group) (x : ℕ) → OneOf h gs → h.start ≤ x → x ≤ h.«end» → run_at (mem es) x ≡ run h.start h.«end»
  run-around h x m l k = whole_run es ps gs h x t m l k (group-held h x m l k)

  -- positions of one group are in one run
  near-yes : (x y : ℕ) → Joint gs x y → near es x y ≡ true
  near-yes x y j =
      let e = run-around j.group x j.one (omega (arith, j.from)) (omega (arith, j.to)) in
      let i = inside-yes j.group.start j.group.«end» y (omega (arith, j.from)) (omega (arith, j.to)) in
      subst (λ (r : Run). inside r.start r.«end» y ≡ true) (sym e) i

  -- and those of one run in one group
  near_of : (x y : ℕ) → mem es x ≡ true → near es x y ≡ true → Joint gs x y
  near_of x y e n =
      let g = group-at x e in
      let h = g.group in
      let a = run-around h x g.one (omega (arith, g.from)) (omega (arith, g.to)) in
      let i = and-holds (leb h.start y) (leb y h.«end») (subst (λ (r : Run). inside r.start r.«end» y ≡ true) a n) in
      record {
        group = h;
        one = g.one;
        from = omega (arith, g.from, leb-true h.start y i.0);
        to = omega (arith, g.to, leb-true y h.«end» i.1);
      }

  -- so are all that are held from one to another
  spread : (x y : ℕ) → ((z : ℕ) → min x y ≤ z → z ≤ max x y → mem es z ≡ true) → Joint gs x y
  spread x y f = go (group-at (min x y) (f (min x y) (omega arith) (omega arith)))
    where
      go : Joint gs (min x y) (min x y) → Joint gs x y
      go g = at (split g.group.«end» (max x y))
        where
          behind : ℕ
          behind = g.group.«end» + 1

          at : (g.group.«end» < max x y) ⊎ (max x y ≤ g.group.«end») → Joint gs x y
          at (inl k) =
              let n = group-at behind (f behind (omega (arith, g.to)) (omega arith)) in
              absurd (end-free size 0 gs g.group n.group t.right.canon g.one n.one (omega (arith, n.from)) (omega (arith, n.to)))
          at (inr k) = record { group = g.group; one = g.one; from = omega (arith, g.from); to = k }

-- a run grows with the list
run-grows : {es fs : List Run} {ps qs : List ℕ} {gs hs : List Group} → Whole es ps gs → Whole fs qs hs
    → ((z : ℕ) → mem es z ≡ true → mem fs z ≡ true) → (x y : ℕ) → mem es x ≡ true → near es x y ≡ true → near fs x y ≡ true
run-grows t u f x y e n =
    let o = near_of t x y e n in
    near-yes u x y
    (spread u x y (λ z a b. f z (group-held t o.group z o.one (omega (arith, o.from)) (omega (arith, o.to)))))

-- ---- what leads
-- what is told of a place: the entry there has a position that no earlier one meets
pub record First (es : List Run) (p : ℕ) : Type 0 where
  pub within : p < length es
  pub x : ℕ
  pub has : Has es p x
  pub unmet : Unmet es p x

-- each that leads is such
pub place-first : (es : List Run) (p : ℕ) → In p (places es) → First es p
unfolding places leads
place-first es p m =
    let f = places-only es 0 es p m in
    let z : f.0 ≡ p = omega (arith, f.2) in
    let b = and-holds (leb first (entry es p).«end») (not (meets around (take p es)))
    (subst (λ j. leads es p (entry es j) ≡ true) z f.3) in
    record {
      within = omega (arith, f.1);
      x = first;
      has = (omega arith, leb-true first (entry es p).«end» b.0);
      unmet = λ q y l h. none (omega (arith, f.1)) b.1 q y l h (near es first y) refl;
    }
  where
    first : ℕ
    first = (entry es p).start

    around : Run
    around = run_at (mem es) first

    none : p < length es → not (meets around (take p es)) ≡ true
        → (q y : ℕ) → q < p → Has es q y → (v : Bool) → near es first y ≡ v → near es first y ≡ false
    none n e q y l h false g = g
    none n e q y l h true g =
        let i = and-holds (leb around.start y) (leb y around.«end») g in
        let met = take-meeting around p es q l (record {
          counts = record { within = omega arith; ordered = omega (arith, h.0, h.1) };
          low = omega (arith, h.0, leb-true y around.«end» i.1);
          high = omega (arith, h.1, leb-true around.start y i.0);
        }) in
        absurd (false≢true (sym (ap not (meets-some around (take p es) q met)) ∙ e))

-- and each such place leads
pub first-place : (es : List Run) → AllWords es → length es < size → (p : ℕ) → First es p → In p (places es)
unfolding places leads
first-place es w few p f = let t = whole-some es w few in go t.0 t.1 t.2
  where
    ordered : (entry es p).start ≤ (entry es p).«end»
    ordered = omega (arith, f.has.0, f.has.1)

    go : (ps : List ℕ) (gs : List Group) → Whole es ps gs → In p (places_from es 0 es)
    go ps gs t =
        let quiet = ap (λ q. meets q (take p es)) same ∙ meets-none own (take p es) none in
        let e = ap₂ (λ a b. a && not b) (le-leb (entry es p).start (entry es p).«end» ordered) quiet in
        subst (λ n. In n (places_from es 0 es)) (zero-add p)
        (places-all es 0 es p f.within (ap (λ n. leads es n (entry es p)) (zero-add p) ∙ e))
      where
        g : Lies es gs p
        g = t.right.lies p (t.each p (record { within = f.within; ordered = ordered }))

        own : Run
        own = run g.group.start g.group.«end»

        same : run_at (mem es) (entry es p).start ≡ own
        same = run-around t g.group (entry es p).start g.one g.starts (omega (arith, g.ends, ordered))

        none : (j : ℕ) → Meeting own (take p es) j → ⊥
        none j m =
            let k = meeting-take own p es j m in
            let y = max (entry es j).start g.group.start in
            let there = near-yes t f.x y (record {
              group = g.group;
              one = g.one;
              from = omega (arith, g.starts, f.has.0);
              to = omega (arith, g.starts, g.ends, f.has.1, k.1.low, ordered);
            }) in
            let held : Has es j y = (omega arith, omega (arith, k.1.counts.ordered, k.1.high)) in
            false≢true (sym (f.unmet j y k.0 held) ∙ there)

-- ---- the first entries of a list
-- an entry of two parts has the same positions in both
has-part : (es : List Run) (n m q x : ℕ) → q < n → q < m → Has (take n es) q x → Has (take m es) q x
has-part es n m q x h l a =
    let s : entry (take n es) q ≡ entry (take m es) q = get_or-take n es q (run 0 0) h ∙ sym (get_or-take m es q (run 0 0) l) in
    rw (← s) a

module _ (es : List Run) (w : AllWords es) (few : length es < size) (n m : ℕ) (h : n ≤ m) where
  first-few : (k : ℕ) → length (take k es) < size
  first-few k = omega (arith, few, length-take k es)

  -- a longer part holds what a shorter one does
  held-later : (z : ℕ) → mem (take n es) z ≡ true → mem (take m es) z ≡ true
  held-later z e =
      let q = entry_of (take n es) z e in
      let a = has-part es n m q.0 z (omega (arith, q.1, length-take n es)) (omega (arith, q.1, length-take n es)) (q.2, q.3) in
      entry-holds (take m es) q.0 z (omega (arith, q.1, length-take n es, length-take m es)) a.0 a.1

  -- WHAT LEADS leads in each shorter part that has it
  pub leads-sooner : (p : ℕ) → p < n → In p (places (take m es)) → In p (places (take n es))
  leads-sooner p l i =
      let f = place-first (take m es) p i in
      let a = has-part es m n p f.x (omega arith) l f.has in
      let within : p < length (take n es) = omega (arith, f.within, length-take n es, length-take m es) in
      let here = entry-holds (take n es) p f.x within a.0 a.1 in
      first-place (take n es) (take_words n es w) (first-few n) p (record {
        within = within;
        x = f.x;
        has = a;
        unmet = λ q y k b. none f here q y k b (near (take n es) f.x y) refl;
      })
    where
      none : (f : First (take m es) p) → mem (take n es) f.x ≡ true → (q y : ℕ) → q < p → Has (take n es) q y
          → (v : Bool) → near (take n es) f.x y ≡ v → near (take n es) f.x y ≡ false
      none f here q y k b false e = e
      none f here q y k b true e =
          let t = whole-some (take n es) (take_words n es w) (first-few n) in
          let u = whole-some (take m es) (take_words m es w) (first-few m) in
          let c = f.unmet q y k (has-part es n m q y (omega arith) (omega arith) b) in
          absurd (false≢true (sym c ∙ run-grows t.2 u.2 held-later f.x y here e))

-- THE LAST PLACE up to the first refused call is that call's: without it the places would lead before the call, and be too many
pub refused-last : (C : ℕ) (es : List Run) (f : ℕ) → AllWords es → length es < size → Refused C es f
    → get_or (places (take (suc f) es)) C 0 ≡ f
refused-last C es f w few r = go (split last f)
  where
    ps : List ℕ
    ps = places (take (suc f) es)

    rising : Climbing 0 ps
    rising = places-rising (take (suc f) es)

    last : ℕ
    last = get_or ps C 0

    many : length ps ≡ C + 1
    many = refused-places C es f w few r

    most : (p : ℕ) → In p ps → p ≤ last
    most p (i, l, e) = grind (arith, many, climbing-once 0 ps i C rising)

    go : (last < f) ⊎ (f ≤ last) → last ≡ f
    go (inl l) =
        let sooner = λ (p : ℕ) (m : In p ps). leads-sooner es w few f (suc f) (omega arith) p (omega (arith, most p m)) m in
        absurd (omega (
          arith,
          many,
          climbing-few 0 0 ps (places (take f es)) rising (places-rising (take f es)) sooner,
          places-length (take f es) (take_words f es w) (omega (arith, few, length-take f es)),
          r.before f (omega arith),
        ))
    go (inr l) =
        let within = places-within (take (suc f) es) last (C, omega (arith, many), refl) in
        omega (arith, l, within, length-take (suc f) es)
