-- Groups of the front of a list of places, carried on to its end: there is a list of the places that are left, and no group is lost by joining
-- them. So there are never more groups than runs of what the list holds. Assumes nothing.
use Rattle.std.proofs.Common.{◌≡◌, ℕ, zero, suc, ◌+◌, ◌*◌, ◌<◌, ◌≤◌, ◌⊎◌, List, [], ◌∷◌, ◌++◌, length, sym, refl, ap, subst, inl, inr, append_assoc, append-nil, le_refl, le-add_right}
use Rattle.std.proofs.Common.{le-add_left, arith, length-append}
use Rattle.model.specs.declared.Run.{Run}
use Rattle.model.specs.Numbers.{size}
use Rattle.model.specs.Positions.{stretches, mem}
use Rattle.model.specs.RunList.{AllWords}
use Rattle.model.proofs.Numbers.{split}
use Rattle.union.specs.declared.Group.{Group}
use Rattle.union.specs.Entries.{entry, Counts, key, Rising, In, Lists}
use Rattle.union.specs.Groups.{alone, joining, Grouped, none, first, begins, joins}
use Rattle.union.proofs.Entries.{
  key-start,
  in-none,
  in_tail,
  in_either,
  rising-from,
  lists-none,
  lists-pass,
  lists-slip,
  lists-more,
}
use Rattle.union.proofs.Grouping.{Whole, lists-end, whole-stretches}

-- ---- the places that are left
-- places in rising order, parted by where their entries start
record Parted (es : List Run) (ps : List ℕ) (x : ℕ) : Type 0 where
  lo : List ℕ
  hi : List ℕ
  whole : lo ++ hi ≡ ps
  low : (q : ℕ) → In q lo → (entry es q).start ≤ x
  high : (q : ℕ) → In q hi → x < (entry es q).start

-- they can be parted at any position
parted : (es : List Run) (b : ℕ) (ps : List ℕ) (x : ℕ) → Rising es b ps → ((q : ℕ) → In q ps → q < size) → Parted es ps x
parted es b [] x r w = record { lo = []; hi = []; whole = refl; low = λ q m. absurd (in-none q m); high = λ q m. absurd (in-none q m) }
parted es b (p ∷ ps) x r w =
    go (split x (entry es p).start) (parted es (suc (key es p)) ps x r.1 (λ q m. w q (in_tail q p ps m)))
  where
    after : x < (entry es p).start → (q : ℕ) → (q ≡ p) ⊎ In q ps → x < (entry es q).start
    after l q (inl e) = subst (λ t. x < (entry es t).start) (sym e) l
    after l q (inr m) = omega (arith, key-start es p q (w q (in_tail q p ps m)) (rising-from es (suc (key es p)) ps r.1 q m))

    first-low : (entry es p).start ≤ x → (lo : List ℕ) → ((q : ℕ) → In q lo → (entry es q).start ≤ x) → (q : ℕ) → (q ≡ p) ⊎ In q lo → (entry es q).start ≤ x
    first-low l lo f q (inl e) = subst (λ t. (entry es t).start ≤ x) (sym e) l
    first-low l lo f q (inr m) = f q m

    go : (x < (entry es p).start) ⊎ ((entry es p).start ≤ x) → Parted es ps x → Parted es (p ∷ ps) x
    go (inl l) t = record {
      lo = [];
      hi = p ∷ ps;
      whole = refl;
      low = λ q m. absurd (in-none q m);
      high = λ q m. after l q (in_either q p ps m);
    }
    go (inr l) t = record {
      lo = p ∷ t.lo;
      hi = t.hi;
      whole = ap (λ qs. p ∷ qs) t.whole;
      low = λ q m. first-low l t.lo t.low q (in_either q p t.lo m);
      high = t.high;
    }

-- those before i whose keys lie in a range have a list
lists-some : (es : List Run) (i b u : ℕ) → i < size → (ps : List ℕ) × Lists es i b u ps
lists-some es zero b u h = ([], lists-none es b u)
lists-some es (suc i) b u h =
    let old = lists-some es i b u (omega arith) in
    go old.0 old.1 (split i (length es)) (split (entry es i).«end» (entry es i).start) (split (key es i) b) (split (key es i) u)
  where
    put : (ps : List ℕ) → Lists es i b u ps → Counts es i → b ≤ key es i → key es i < u → (qs : List ℕ) × Lists es (suc i) b u qs
    put ps s c l k =
        let t = parted es b ps (entry es i).start s.rising (λ q m. omega (arith, (s.only q m).0)) in (
          t.lo ++ i ∷ t.hi,
          lists-slip es i b u t.lo t.hi (subst (Lists es i b u) (sym t.whole) s) (omega arith) c l k t.low t.high,
        )

    go : (ps : List ℕ) → Lists es i b u ps → (i < length es) ⊎ (length es ≤ i) → ((entry es i).«end» < (entry es i).start) ⊎ ((entry es i).start ≤ (entry es i).«end»)
        → (key es i < b) ⊎ (b ≤ key es i) → (key es i < u) ⊎ (u ≤ key es i) → (qs : List ℕ) × Lists es (suc i) b u qs
    go ps s (inr a) c l k = (ps, lists-pass es i b u ps s (λ d e f. omega (arith, d.within)))
    go ps s (inl a) (inl c) l k = (ps, lists-pass es i b u ps s (λ d e f. omega (arith, d.ordered)))
    go ps s (inl a) (inr c) (inl l) k = (ps, lists-pass es i b u ps s (λ d e f. omega arith))
    go ps s (inl a) (inr c) (inr l) (inr k) = (ps, lists-pass es i b u ps s (λ d e f. omega arith))
    go ps s (inl a) (inr c) (inr l) (inl k) = put ps s (record { within = a; ordered = c }) l k

-- ---- groups carried on
-- groups of more places, and no fewer of them
record More (es : List Run) (ps : List ℕ) (n : ℕ) : Type 0 where
  groups : List Group
  grouped : Grouped es ps groups
  least : n ≤ length groups

-- one place more begins a group or joins the last one
more-last : (es : List Run) (ps : List ℕ) (gs : List Group) (g : Group) (p : ℕ) → Grouped es ps (gs ++ g ∷ []) → More es (ps ++ p ∷ []) (length (gs ++ g ∷ []))
more-last es ps gs g p d = go (split (g.«end» + 1) (entry es p).start)
  where
    go : (g.«end» + 1 < (entry es p).start) ⊎ ((entry es p).start ≤ g.«end» + 1) → More es (ps ++ p ∷ []) (length (gs ++ g ∷ []))
    go (inl l) = record {
      groups = (gs ++ g ∷ []) ++ alone es p ∷ [];
      grouped = begins ps gs g p d l;
      least = omega (arith, length-append (gs ++ g ∷ []) (alone es p ∷ []));
    }
    go (inr l) = record {
      groups = gs ++ joining es g p ∷ [];
      grouped = joins ps gs g p d l;
      least = omega (arith, length-append gs (g ∷ []), length-append gs (joining es g p ∷ []));
    }

-- the same where there may be no group before
more-one : (es : List Run) (ps : List ℕ) (gs : List Group) (p : ℕ) → Grouped es ps gs → More es (ps ++ p ∷ []) (length gs)
more-one es ps gs p none = record { groups = alone es p ∷ []; grouped = first p; least = omega arith }
more-one es ps gs p (first q) = more-last es (q ∷ []) [] (alone es q) p (first q)
more-one es ps gs p (begins qs fs g q d l) = more-last es (qs ++ q ∷ []) (fs ++ g ∷ []) (alone es q) p (begins qs fs g q d l)
more-one es ps gs p (joins qs fs g q d l) = more-last es (qs ++ q ∷ []) fs (joining es g q) p (joins qs fs g q d l)

-- any number of places more
more-all : (es : List Run) (ps qs : List ℕ) (gs : List Group) → Grouped es ps gs → More es (ps ++ qs) (length gs)
more-all es ps [] gs d = record { groups = gs; grouped = subst (λ rs. Grouped es rs gs) (sym (append-nil ps)) d; least = omega arith }
more-all es ps (q ∷ qs) gs d =
    let one = more-one es ps gs q d in
    let all = more-all es (ps ++ q ∷ []) qs one.groups one.grouped in
    record {
      groups = all.groups;
      grouped = subst (λ rs. Grouped es rs all.groups) (append_assoc ps (q ∷ []) qs) all.grouped;
      least = omega (arith, one.least, all.least);
    }

-- THE ROOM: the groups of the front of a list of places are no more than the runs of what all entries hold
pub groups-room : (es : List Run) (u : ℕ) (ps qs : List ℕ) (gs : List Group) → AllWords es → length es < size → Lists es (length es) 0 u (ps ++ qs)
    → Grouped es ps gs → length gs ≤ stretches (mem es)
groups-room es u ps qs gs w h s d =
    let rest = lists-some es (length es) u (u + size * size) h in
    let all = more-all es ps (qs ++ rest.0) gs d in
    let listed : Lists es (length es) 0 (u + size * size) ((ps ++ qs) ++ rest.0) =
    lists-more es (length es) 0 u (u + size * size) (ps ++ qs) rest.0 s rest.1 (omega arith) (le-add_right u (size * size)) in
    let t = lists-end es (u + size * size) (ps ++ (qs ++ rest.0)) all.groups w h (le-add_left (size * size) u)
    (subst (Lists es (length es) 0 (u + size * size)) (append_assoc ps qs rest.0) listed) all.grouped in
    bound (length gs) (length all.groups) (stretches (mem es)) all.least (whole-stretches es (ps ++ (qs ++ rest.0)) all.groups t)
  where
    bound : (a b c : ℕ) → a ≤ b → c ≡ b → a ≤ c
    bound a b c l e = omega arith

-- ---- the groups of all
-- every list has them
pub whole-some : (es : List Run) → AllWords es → length es < size → (ps : List ℕ) × (gs : List Group) × Whole es ps gs
whole-some es w h =
    let all = lists-some es (length es) 0 (size * size) h in
    let d = more-all es [] all.0 [] none in
    (all.0, d.groups, lists-end es (size * size) all.0 d.groups w h (le_refl (size * size)) all.1 d.grouped)
