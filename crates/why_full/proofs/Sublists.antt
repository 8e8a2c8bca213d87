-- The entries that lead, as a list of their own: they are as many as the runs of the union, and so are the runs that they make. Assumes nothing.
use Rattle.std.proofs.Common.{ℕ, zero, suc, ◌+◌, ◌≤◌, ◌<◌, ◌≡◌, refl, sym, ap, ◌∙◌, subst, ◌⊎◌, inl, inr, true, List, [], ◌∷◌, arith, length, get_or, take, length-take, length-take-le}
use Rattle.std.proofs.Common.{take_all}
use Rattle.model.specs.declared.Run.{Run}
use Rattle.model.specs.Numbers.{size}
use Rattle.model.specs.Positions.{run, stretches, mem}
use Rattle.model.specs.RunList.{Canon, AllWords}
use Rattle.model.proofs.RunList.{canon-weaken}
use Rattle.model.proofs.Runs.{stretches-is}
use Rattle.union.specs.declared.Group.{Group}
use Rattle.union.specs.Entries.{entry, In}
use Rattle.union.specs.Groups.{runs_of, OneOf}
use Rattle.union.proofs.Entries.{in-none, in_head, in_tail, in_either, entry-holds, entry_of}
use Rattle.union.proofs.Grouping.{Starts, Lies, both-or-none, Whole, whole-stretches}
use Rattle.union.proofs.Completing.{whole-some}
use Rattle.union.proofs.Fating.{whole_run}
use Rattle.model.specs.Spawning.{runs_after, places, pick}
use Rattle.why_full.proofs.Adding.{runs-few}
use Rattle.why_full.proofs.Ranges.{take_words}
use Rattle.why_full.proofs.Leading.{whole-ranked}
use Rattle.why_full.proofs.Refusing.{Refused, refused-runs}

-- the entries at places
abbrev pub entries_at : List Run → List ℕ → List Run
entries_at es ps = pick (run 0 0) es ps

-- as many as places
pub pick-length : {A : Type 0} (d : A) (xs : List A) (ps : List ℕ) → length (pick d xs ps) ≡ length ps
pick-length d xs [] = refl
pick-length d xs (p ∷ ps) = ap suc (pick-length d xs ps)

-- one for each
pick_at : {A : Type 0} (d : A) (xs : List A) (ps : List ℕ) (j : ℕ) → j < length ps → get_or (pick d xs ps) j d ≡ get_or xs (get_or ps j 0) d
pick_at d xs [] j h = absurd (omega arith)
pick_at d xs (p ∷ ps) zero h = refl
pick_at d xs (p ∷ ps) (suc j) h = pick_at d xs ps j (omega arith)

-- ---- what they hold
-- what one of them holds
at-holds : (es : List Run) (ps : List ℕ) (p x : ℕ) → In p ps → (entry es p).start ≤ x → x ≤ (entry es p).«end» → mem (entries_at es ps) x ≡ true
at-holds es ps p x (j, h, e) l k =
    let z : entry es p ≡ entry (entries_at es ps) j = ap (entry es) (sym e) ∙ sym (pick_at (run 0 0) es ps j h) in
    entry-holds (entries_at es ps) j x (omega (arith, pick-length (run 0 0) es ps)) (subst (λ (r : Run). r.start ≤ x) z l) (subst (λ (r : Run). x ≤ r.«end») z k)

-- each position is of one of them
at_of : (es : List Run) (ps : List ℕ) (x : ℕ) → mem (entries_at es ps) x ≡ true → (p : ℕ) × In p ps × ((entry es p).start ≤ x) × (x ≤ (entry es p).«end»)
at_of es ps x e =
    let t = entry_of (entries_at es ps) x e in
    let h : t.0 < length ps = omega (arith, t.1, pick-length (run 0 0) es ps) in
    let z = pick_at (run 0 0) es ps t.0 h in
    (get_or ps t.0 0, (t.0, h, refl), subst (λ (r : Run). r.start ≤ x) z t.2, subst (λ (r : Run). x ≤ r.«end») z t.3)

-- places with the same members hold the same
at_same : (es : List Run) (ps qs : List ℕ) (x : ℕ) → ((p : ℕ) → In p ps → In p qs) → ((p : ℕ) → In p qs → In p ps) → mem (entries_at es ps) x ≡ mem (entries_at es qs) x
at_same es ps qs x f g = both-or-none (mem (entries_at es ps) x) (mem (entries_at es qs) x) (moved ps qs f) (moved qs ps g)
  where
    moved : (these those : List ℕ) → ((p : ℕ) → In p these → In p those) → mem (entries_at es these) x ≡ true → mem (entries_at es those) x ≡ true
    moved these those h e = let t = at_of es these x e in at-holds es those t.0 x (h t.0 t.1) t.2 t.3

-- ---- the runs that they make
-- the places of groups, as the groups stand
abbrev places_of : List Group → List ℕ
places_of [] = []
places_of (g ∷ gs) = g.place ∷ places_of gs

places_of-length : (gs : List Group) → length (places_of gs) ≡ length gs
places_of-length [] = refl
places_of-length (g ∷ gs) = ap suc (places_of-length gs)

of-in : (gs : List Group) (h : Group) → OneOf h gs → In h.place (places_of gs)
of-in [] h m = elim m [ ]
of-in (g ∷ gs) h (inl e) = subst (λ (x : Group). In x.place (g.place ∷ places_of gs)) (sym e) (in_head g.place (places_of gs))
of-in (g ∷ gs) h (inr m) = in_tail h.place g.place (places_of gs) (of-in gs h m)

in-of : (gs : List Group) (p : ℕ) → In p (places_of gs) → (h : Group) × OneOf h gs × (h.place ≡ p)
in-of [] p m = absurd (in-none p m)
in-of (g ∷ gs) p m = go (in_either p g.place (places_of gs) m) (in-of gs p)
  where
    go : (p ≡ g.place) ⊎ In p (places_of gs) → (In p (places_of gs) → (h : Group) × OneOf h gs × (h.place ≡ p)) → (h : Group) × OneOf h (g ∷ gs) × (h.place ≡ p)
    go (inl e) f = (g, inl refl, sym e)
    go (inr n) f = let t = f n in (t.0, inr t.1, t.2)

-- the entry at the place of a group lies in it
pub record Leader (es : List Run) (h : Group) : Type 0 where
  pub from : h.start ≤ (entry es h.place).start
  pub ordered : (entry es h.place).start ≤ (entry es h.place).«end»
  pub to : (entry es h.place).«end» ≤ h.«end»

leader : {es : List Run} {ps : List ℕ} {gs : List Group} → Whole es ps gs → (h : Group) → OneOf h gs → Leader es h
leader {es} {ps} {gs} t h m = record { from = s.from; ordered = y.counts.ordered; to = omega (arith, y.ends, ap (λ (r : Run). r.«end») same) }
  where
    s : Starts es ps h h.place
    s = (t.right.fits h m).placed

    y : Lies es gs h.place
    y = t.right.lies h.place s.listed

    x : ℕ
    x = (entry es h.place).start

    held : mem es x ≡ true
    held = entry-holds es h.place x y.counts.within (omega arith) y.counts.ordered

    same : run h.start h.«end» ≡ run y.group.start y.group.«end»
    same =
        sym (whole_run es ps gs h x t m s.from s.to held)
        ∙ whole_run es ps gs y.group x t y.one y.starts (omega (arith, y.ends, y.counts.ordered)) held

-- so these entries are apart
leaders-canon : (es : List Run) (k : ℕ) (gs : List Group) → Canon size k (runs_of gs) → ((h : Group) → OneOf h gs → Leader es h) → Canon size k (entries_at es (places_of gs))
leaders-canon es k [] c f = tt
leaders-canon es k (g ∷ gs) c f =
    let l = f g (inl refl) in (
      omega (arith, c.0, l.from),
      l.ordered,
      omega (arith, c.2, l.to),
      canon-weaken size (g.«end» + 2) ((entry es g.place).«end» + 2) (entries_at es (places_of gs)) (omega (arith, l.to)) (leaders-canon es (g.«end» + 2) gs c.3 (λ h m. f h (inr m))),
    )

-- ---- how many
module _ (es : List Run) (w : AllWords es) (few : length es < size) where
  -- as many entries lead as the union has runs
  pub places-length : length (places es) ≡ stretches (mem es)
  places-length =
      let t = whole-some es w few in
      (whole-ranked t.2).counted ∙ sym (whole-stretches es t.0 t.1 t.2)

  -- and they make as many
  pub places-runs : stretches (mem (entries_at es (places es))) ≡ stretches (mem es)
  places-runs =
      let t = whole-some es w few in
      go t.0 t.1 t.2
    where
      go : (ps : List ℕ) (gs : List Group) → Whole es ps gs → stretches (mem (entries_at es (places es))) ≡ stretches (mem es)
      go ps gs t =
          let r = whole-ranked t in
          stretches-is (mem (entries_at es (places es))) (entries_at es (places_of gs)) (leaders-canon es 0 gs t.right.canon (leader t))
          (λ x h. at_same es (places_of gs) (places es) x
          (λ p m. let o = in-of gs p m in subst (λ q. In q (places es)) o.2 (r.all o.0 o.1))
          (λ p m. let o = r.only p m in subst (λ q. In q (places_of gs)) o.2 (of-in gs o.0 o.1)))
          ∙ pick-length (run 0 0) es (places_of gs) ∙ places_of-length gs ∙ sym (whole-stretches es ps gs t)

-- ---- up to the first refused call
module _ (C : ℕ) (es : List Run) (f : ℕ) (w : AllWords es) (few : length es < size) (r : Refused C es f) where
  -- the entries up to it
  abbrev pub up_to : List Run
  up_to = take (suc f) es

  up-to-few : length up_to < size
  up-to-few = omega (arith, length-take-le (suc f) es r.within)

  -- THERE ARE C + 1 places
  pub refused-places : length (places up_to) ≡ C + 1
  refused-places = places-length up_to (take_words (suc f) es w) up-to-few ∙ refused-runs C es f r

  -- and the entries there make C + 1 runs, the last one the last of them
  pub refused-sublist : Refused C (entries_at up_to (places up_to)) C
  refused-sublist = record {
    within = omega (arith, long);
    exceeds = omega (arith, all, ap (λ rs. stretches (mem rs)) (take_all (suc C) (entries_at up_to (places up_to)) (omega (arith, long))));
    before = λ n h. omega (arith, runs-few (take n (entries_at up_to (places up_to))), length-take-le n (entries_at up_to (places up_to)) (omega (arith, long)));
  }
    where
      long : length (entries_at up_to (places up_to)) ≡ C + 1
      long = pick-length (run 0 0) up_to (places up_to) ∙ refused-places

      all : stretches (mem (entries_at up_to (places up_to))) ≡ C + 1
      all = places-runs up_to (take_words (suc f) es w) up-to-few ∙ refused-runs C es f r

-- A LIST OF AT MOST C entries never has more than C runs
pub short-runs : (C : ℕ) (es : List Run) → length es ≤ C → (n : ℕ) → runs_after es n ≤ C
short-runs C es h n = omega (arith, runs-few (take n es), length-take n es)
