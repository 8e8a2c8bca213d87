-- What a search tree is asked of its runs, as functions of the list of runs in order: the runs next to a position, the held positions
-- and the starts before one, the k-th position of either value. Each goes over the parts of a list that is joined of several,
-- and equals the plain report. Assumes nothing.
use Rattle.std.specs.Prelude.{Option, None, Some}
use mathlib.Core.Path.{◌≡◌, refl, sym, ap, ap₂, ◌∙◌, subst}
use mathlib.Core.Logic.{◌⊎◌, inl, inr}
use mathlib.Core.Bool.{Bool, true, false, cond, ◌&&◌}
use mathlib.Core.List.{List, [], ◌∷◌, ◌++◌}
use Prim.Native.Nat.{ℕ, ◌+◌, ◌-◌, ◌≤◌, ◌<◌, min}
use native.Mathlib.Omega.{arith}
use lib.Dec.{leb, ltb}
use lib.ListN.{length}
use borrow.Author.Tests.{lt-ltb, le-ltb, le-leb, lt-leb}
use Rattle.model.specs.declared.Run.{Run}
use Rattle.model.specs.Numbers.{size}
use Rattle.model.proofs.Numbers.{split}
use Rattle.model.specs.Positions.{inside, count, select, held_runs, mem}
use Rattle.model.proofs.Counting.{Place, below, within, above, place, count_none, count-or, count-inside, count-both}
use Rattle.model.proofs.Runs.{held_runs-mem}
use Rattle.model.proofs.Finds.{select-is, select-runs, select_runs, select_runs-in, select_runs-past}
use Rattle.model.specs.RunList.{Canon, EndBelow, StartFrom, or_else, last_up_to, first_from, starts_below}
use Rattle.model.proofs.RunList.{canon-weaken, mem-in, mem-above, mem_below, mem-before, widths}

or_else-assoc : (o p q : Option Run) → or_else (or_else o p) q ≡ or_else o (or_else p q)
or_else-assoc None p q = refl
or_else-assoc (Some r) p q = refl

or_else-none : (o : Option Run) → or_else o None ≡ o
or_else-none None = refl
or_else-none (Some r) = refl

pub last_up_to-append : (x : ℕ) (rs ss : List Run) → last_up_to x (rs ++ ss) ≡ or_else (last_up_to x ss) (last_up_to x rs)
unfolding last_up_to
last_up_to-append x [] ss = sym (or_else-none (last_up_to x ss))
last_up_to-append x (r ∷ rs) ss =
    ap (λ o. or_else o (cond (leb r.start x) (Some r) None)) (last_up_to-append x rs ss)
    ∙ or_else-assoc (last_up_to x ss) (last_up_to x rs) (cond (leb r.start x) (Some r) None)

pub first_from-append : (x : ℕ) (rs ss : List Run) → first_from x (rs ++ ss) ≡ or_else (first_from x rs) (first_from x ss)
unfolding first_from
first_from-append x [] ss = refl
first_from-append x (r ∷ rs) ss = go (leb x r.start) (first_from-append x rs ss)
  where
    go : (b : Bool) → first_from x (rs ++ ss) ≡ or_else (first_from x rs) (first_from x ss)
        → cond b (Some r) (first_from x (rs ++ ss)) ≡ or_else (cond b (Some r) (first_from x rs)) (first_from x ss)
    go true ih = refl
    go false ih = ih

-- nothing starts at or before x where all starts are above it; nothing starts at or after x where all are below it
pub last_up_to-none : (x k : ℕ) (rs : List Run) → x < k → StartFrom k rs → last_up_to x rs ≡ None
unfolding last_up_to
last_up_to-none x k [] h s = refl
last_up_to-none x k (r ∷ rs) h s = rw (last_up_to-none x k rs h s.1, lt-leb r.start x (omega (arith, s.0)))

pub first_from-none : (x t : ℕ) (rs : List Run) → t ≤ x → EndBelow t rs → first_from x rs ≡ None
unfolding first_from
first_from-none x t [] h s = refl
first_from-none x t (r ∷ rs) h s = rw (lt-leb x r.start (omega (arith, s.0, s.1)), first_from-none x t rs h s.2)

-- ---- the held positions before x, and the starts before x
unfoldable pub ones_below : ℕ → List Run → ℕ
ones_below x [] = 0
ones_below x (r ∷ rs) = (min (r.«end» + 1) x - r.start) + ones_below x rs

pub ones_below-append : (x : ℕ) (rs ss : List Run) → ones_below x (rs ++ ss) ≡ ones_below x rs + ones_below x ss
unfolding ones_below
ones_below-append x [] ss = omega arith
ones_below-append x (r ∷ rs) ss = omega (arith, ones_below-append x rs ss)

pub starts_below-append : (x : ℕ) (rs ss : List Run) → starts_below x (rs ++ ss) ≡ starts_below x rs + starts_below x ss
unfolding starts_below
starts_below-append x [] ss = omega arith
starts_below-append x (r ∷ rs) ss = omega (arith, starts_below-append x rs ss)

pub ones_below-none : (x k : ℕ) (rs : List Run) → x ≤ k → StartFrom k rs → ones_below x rs ≡ 0
unfolding ones_below
ones_below-none x k [] h s = refl
ones_below-none x k (r ∷ rs) h s = omega (arith, s.0, ones_below-none x k rs h s.1)

pub starts_below-none : (x k : ℕ) (rs : List Run) → x ≤ k → StartFrom k rs → starts_below x rs ≡ 0
unfolding starts_below
starts_below-none x k [] h s = refl
starts_below-none x k (r ∷ rs) h s = rw (le-ltb r.start x (omega (arith, s.0)), starts_below-none x k rs h s.1)

pub ones_below-all : (x t : ℕ) (rs : List Run) → t ≤ x → EndBelow t rs → ones_below x rs ≡ widths rs
unfolding ones_below widths
ones_below-all x t [] h s = refl
ones_below-all x t (r ∷ rs) h s = omega (arith, s.0, s.1, ones_below-all x t rs h s.2)

pub starts_below-all : (x t : ℕ) (rs : List Run) → t ≤ x → EndBelow t rs → starts_below x rs ≡ length rs
unfolding starts_below
starts_below-all x t [] h s = refl
starts_below-all x t (r ∷ rs) h s = rw (lt-ltb r.start x (omega (arith, s.0, s.1)), starts_below-all x t rs h s.2) (omega arith)

pub widths-append : (rs ss : List Run) → widths (rs ++ ss) ≡ widths rs + widths ss
unfolding widths
widths-append [] ss = omega arith
widths-append (r ∷ rs) ss = omega (arith, widths-append rs ss)

-- the plain count before x
pub count-ones_below : (total k : ℕ) (rs : List Run) (x : ℕ) → Canon total k rs → count (mem rs) true 0 x ≡ ones_below x rs
unfolding mem ones_below
count-ones_below total k [] x c = count_none (mem []) true 0 x (λ y _ _. refl)
count-ones_below total k (r ∷ rs) x c =
    count-or (inside r.start r.«end») (mem rs) 0 x (λ y _ _. apart y (place r.start r.«end» y))
    ∙ ap₂ ◌+◌ (count-inside r.start r.«end» 0 x c.1 ∙ omega arith) (count-ones_below total (r.«end» + 2) rs x c.3)
  where
    apart : (y : ℕ) → Place r.start r.«end» y → (inside r.start r.«end» y && mem rs y) ≡ false
    apart y (below s e) = ap (λ t. t && mem rs y) e
    apart y (above s e) = ap (λ t. t && mem rs y) e
    apart y (within s t e) = ap (λ t. t && mem rs y) e ∙ mem_below total (r.«end» + 2) rs y c.3 (omega arith)

pub canon-ends : (total k : ℕ) (rs : List Run) → Canon total k rs → EndBelow total rs
canon-ends total k [] c = tt
canon-ends total k (r ∷ rs) c = (c.1, c.2, canon-ends total (r.«end» + 2) rs c.3)

-- runs that start at j or after it start so for each lower number
pub starts-weaken : (j i : ℕ) (rs : List Run) → i ≤ j → StartFrom j rs → StartFrom i rs
starts-weaken j i [] h s = tt
starts-weaken j i (r ∷ rs) h s = (omega (arith, s.0), starts-weaken j i rs h s.1)

pub canon-starts : (total k : ℕ) (rs : List Run) → Canon total k rs → StartFrom k rs
canon-starts total k [] c = tt
canon-starts total k (r ∷ rs) c =
    (c.0, starts-weaken (r.«end» + 2) k rs (omega (arith, c.0, c.1)) (canon-starts total (r.«end» + 2) rs c.3))

-- x is held exactly if the last run that starts at or before it reaches it
abbrev pub reaches : ℕ → Option Run → Bool
reaches x None = false
reaches x (Some r) = leb x r.«end»

pub mem-last : (total k : ℕ) (rs : List Run) (x : ℕ) → Canon total k rs → mem rs x ≡ reaches x (last_up_to x rs)
unfolding mem last_up_to
mem-last total k [] x c = refl
mem-last total k (r ∷ rs) x c = go (place r.start r.«end» x) (mem-last total (r.«end» + 2) rs x c.3)
  where
    later : StartFrom (r.«end» + 2) rs
    later = canon-starts total (r.«end» + 2) rs c.3

    passed : r.«end» < x → (o : Option Run) → reaches x o ≡ reaches x (or_else o (Some r))
    passed h None = sym (lt-leb x r.«end» h)
    passed h (Some q) = refl

    go : Place r.start r.«end» x → mem rs x ≡ reaches x (last_up_to x rs) → mem (r ∷ rs) x ≡ reaches x (last_up_to x (r ∷ rs))
    go (below h e) ih =
        mem-before total k r rs x c h ∙ sym (rw (last_up_to-none x (r.«end» + 2) rs (omega (arith, c.1)) later, lt-leb r.start x h))
    go (within l h e) ih =
        mem-in r rs x l h ∙ sym (rw (last_up_to-none x (r.«end» + 2) rs (omega arith) later, le-leb r.start x l) (le-leb x r.«end» h))
    go (above h e) ih =
        mem-above r rs x h ∙ ih ∙ passed h (last_up_to x rs)
        ∙ ap (λ b. reaches x (or_else (last_up_to x rs) (cond b (Some r) None))) (sym (le-leb r.start x (omega (arith, c.1))))

-- a canonical list around one of its runs: what is before it ends before its start, what follows starts after its end
pub canon-split : (total k : ℕ) (rs : List Run) (r : Run) (ss : List Run) → Canon total k (rs ++ (r ∷ ss))
    → (Canon (r.start - 1) k rs) × (k ≤ r.start) × (r.start ≤ r.«end») × (r.«end» < total) × Canon total (r.«end» + 2) ss
canon-split total k [] r ss c = (tt, c.0, c.1, c.2, c.3)
canon-split total k (q ∷ rs) r ss c =
    let d = canon-split total (q.«end» + 2) rs r ss c.3 in
    ((c.0, c.1, omega (arith, d.1), d.0), omega (arith, d.1, c.0, c.1), d.2, d.3, d.4)

-- ---- the k-th held position: in a joined list it is in the first part, or in the second
pub select_runs-left : (rs ss : List Run) (k : ℕ) → k < widths rs → select_runs (rs ++ ss) k ≡ select_runs rs k
unfolding widths
select_runs-left [] ss k h = absurd (omega arith)
select_runs-left (r ∷ rs) ss k h = go (split k (r.«end» + 1 - r.start)) (λ l. select_runs-left rs ss (k - (r.«end» + 1 - r.start)) l)
  where
    go : (k < r.«end» + 1 - r.start) ⊎ (r.«end» + 1 - r.start ≤ k)
        → (k - (r.«end» + 1 - r.start) < widths rs → select_runs (rs ++ ss) (k - (r.«end» + 1 - r.start)) ≡ select_runs rs (k - (r.«end» + 1 - r.start)))
        → select_runs (r ∷ (rs ++ ss)) k ≡ select_runs (r ∷ rs) k
    go (inl l) ih = select_runs-in r (rs ++ ss) k l ∙ sym (select_runs-in r rs k l)
    go (inr l) ih = select_runs-past r (rs ++ ss) k l ∙ ih (omega arith) ∙ sym (select_runs-past r rs k l)

pub select_runs-right : (rs ss : List Run) (k : ℕ) → widths rs ≤ k → select_runs (rs ++ ss) k ≡ select_runs ss (k - widths rs)
unfolding widths
select_runs-right [] ss k h = ap (select_runs ss) (omega arith)
select_runs-right (r ∷ rs) ss k h =
    select_runs-past r (rs ++ ss) k (omega arith) ∙ select_runs-right rs ss (k - (r.«end» + 1 - r.start)) (omega arith) ∙ ap (select_runs ss) (omega arith)

pub select-held : (rs : List Run) (k : ℕ) → Canon size 0 rs → select (mem rs) true 0 size k ≡ select_runs rs k
unfolding held_runs
select-held rs k c = select-runs (mem rs) true 0 size k ∙ ap (λ ss. select_runs ss k) (held_runs-mem rs c)

-- ---- the k-th position from `low` on that is in no run of the list
unfoldable pub select_gap : ℕ → List Run → ℕ → ℕ
select_gap low [] k = low + k
select_gap low (r ∷ rs) k = elim (ltb k (r.start - low)) [ true ↦ low + k | false ↦ select_gap (r.«end» + 1) rs (k - (r.start - low)) ]

pub select_gap-in : (low : ℕ) (r : Run) (rs : List Run) (k : ℕ) → k < r.start - low → select_gap low (r ∷ rs) k ≡ low + k
unfolding select_gap
select_gap-in low r rs k h = rw (lt-ltb k (r.start - low) h, select_gap)

pub select_gap-past : (low : ℕ) (r : Run) (rs : List Run) (k : ℕ) → r.start - low ≤ k
    → select_gap low (r ∷ rs) k ≡ select_gap (r.«end» + 1) rs (k - (r.start - low))
unfolding select_gap
select_gap-past low r rs k h = rw (le-ltb k (r.start - low) h, select_gap)

ends-later : (top : ℕ) (rs : List Run) → EndBelow top rs → EndBelow (top + 1) rs
ends-later top [] e = tt
ends-later top (q ∷ rs) e = (e.0, omega (arith, e.1), ends-later top rs e.2)

-- the runs of a canonical list have room between `low` and whatever they all end below
pub widths-room : (total low top : ℕ) (rs : List Run) → Canon total low rs → EndBelow top rs → low ≤ top → widths rs + low ≤ top
unfolding widths
widths-room total low top [] c e l = omega arith
widths-room total low top (q ∷ rs) c e l =
    omega (arith, c.0, c.1, widths-room total (q.«end» + 2) (top + 1) rs c.3 (ends-later top rs e.2) (omega (arith, e.1)))

-- in a joined list: before the first run of the second part, or past it
gap-first : (k low s e w t : ℕ) → low ≤ s → s ≤ e → s ≤ k + low → k + (e + 1 - s + w) + low < t → k + low - s + w + (e + 1) < t
gap-first k low s e w t a b c d = omega arith

gap-later : (k low s e w t : ℕ) → low ≤ s → s ≤ e → s ≤ k + low → k + low - s + w + (e + 1) ≡ k + (e + 1 - s + w) + low
gap-later k low s e w t a b c = omega arith

pub select_gap-left : (total low : ℕ) (rs : List Run) (r : Run) (ss : List Run) (k : ℕ) → Canon total low rs → k + widths rs + low < r.start
    → select_gap low (rs ++ (r ∷ ss)) k ≡ select_gap low rs k
unfolding widths select_gap
select_gap-left total low [] r ss k c h = select_gap-in low r ss k (omega arith)
select_gap-left total low (q ∷ rs) r ss k c h =
    go (split (k + low) q.start)
    (λ g. select_gap-left total (q.«end» + 1) rs r ss (k + low - q.start) (canon-weaken total (q.«end» + 2) (q.«end» + 1) rs (omega arith) c.3) g)
  where
    go : (k + low < q.start) ⊎ (q.start ≤ k + low)
        → (k + low - q.start + widths rs + (q.«end» + 1) < r.start
        → select_gap (q.«end» + 1) (rs ++ (r ∷ ss)) (k + low - q.start) ≡ select_gap (q.«end» + 1) rs (k + low - q.start))
        → select_gap low (q ∷ (rs ++ (r ∷ ss))) k ≡ select_gap low (q ∷ rs) k
    go (inl g) ih = select_gap-in low q (rs ++ (r ∷ ss)) k (omega arith) ∙ sym (select_gap-in low q rs k (omega arith))
    go (inr g) ih =
        let e : k - (q.start - low) ≡ k + low - q.start = past c.0 g in
        select_gap-past low q (rs ++ (r ∷ ss)) k (omega arith) ∙ ap (select_gap (q.«end» + 1) (rs ++ (r ∷ ss))) e
        ∙ ih (gap-first k low q.start q.«end» (widths rs) r.start c.0 c.1 g h)
        ∙ sym (select_gap-past low q rs k (omega arith) ∙ ap (select_gap (q.«end» + 1) rs) e)
      where
        past : low ≤ q.start → q.start ≤ k + low → k - (q.start - low) ≡ k + low - q.start
        past a b = omega arith

pub select_gap-right : (total low : ℕ) (rs : List Run) (r : Run) (ss : List Run) (k : ℕ) → Canon total low rs → EndBelow r.start rs → low ≤ r.start
    → r.start ≤ k + widths rs + low → select_gap low (rs ++ (r ∷ ss)) k ≡ select_gap (r.«end» + 1) ss (k + widths rs + low - r.start)
unfolding widths
select_gap-right total low [] r ss k c e l h = select_gap-past low r ss k (omega arith) ∙ ap (select_gap (r.«end» + 1) ss) (omega arith)
select_gap-right total low (q ∷ rs) r ss k c e l h =
    go (select_gap-right total (q.«end» + 1) rs r ss (k + low - q.start) (canon-weaken total (q.«end» + 2) (q.«end» + 1) rs (omega arith) c.3) e.2 (omega (arith, e.1)))
    (widths-room total (q.«end» + 2) (r.start + 1) rs c.3 (ends-later r.start rs e.2) (omega (arith, e.1)))
  where
    w : ℕ
    w = widths rs

    far : w + (q.«end» + 2) ≤ r.start + 1 → q.start ≤ k + low
    far room = go (split (k + low) q.start)
      where
        go : (k + low < q.start) ⊎ (q.start ≤ k + low) → q.start ≤ k + low
        go (inl g) = absurd (near q.start q.«end» r.start c.0 c.1 g room h)
          where
            near : (s f t : ℕ) → low ≤ s → s ≤ f → k + low < s → w + (f + 2) ≤ t + 1 → t ≤ k + (f + 1 - s + w) + low → ⊥
            near s f t a b g d h = omega arith
        go (inr g) = g

    go : (r.start ≤ k + low - q.start + w + (q.«end» + 1)
        → select_gap (q.«end» + 1) (rs ++ (r ∷ ss)) (k + low - q.start) ≡ select_gap (r.«end» + 1) ss (k + low - q.start + w + (q.«end» + 1) - r.start))
        → w + (q.«end» + 2) ≤ r.start + 1
        → select_gap low (q ∷ (rs ++ (r ∷ ss))) k ≡ select_gap (r.«end» + 1) ss (k + (q.«end» + 1 - q.start + w) + low - r.start)
    go ih room =
        let g : q.start ≤ k + low = far room in
        let m : k + low - q.start + w + (q.«end» + 1) ≡ k + (q.«end» + 1 - q.start + w) + low = gap-later k low q.start q.«end» w r.start c.0 c.1 g in
        select_gap-past low q (rs ++ (r ∷ ss)) k (omega arith) ∙ ap (select_gap (q.«end» + 1) (rs ++ (r ∷ ss))) (past c.0 g) ∙ ih (rw m h)
        ∙ ap (λ j. select_gap (r.«end» + 1) ss (j - r.start)) m
      where
        past : low ≤ q.start → q.start ≤ k + low → k - (q.start - low) ≡ k + low - q.start
        past a b = omega arith

-- what it is: free, from `low` on, and with k free positions before it
pub record FreeBetween (low k x : ℕ) (rs : List Run) : Type 0 where
  pub from : low ≤ x
  pub free : mem rs x ≡ false
  pub before : ones_below x rs + low + k ≡ x

pub select_gap-is : (total low : ℕ) (rs : List Run) (k : ℕ) → Canon total low rs → FreeBetween low k (select_gap low rs k) rs
unfolding select_gap mem ones_below
select_gap-is total low [] k c = record { from = omega arith; free = refl; before = omega arith }
select_gap-is total low (r ∷ rs) k c =
    go (split k (r.start - low)) (select_gap-is total (r.«end» + 1) rs (k - (r.start - low)) (canon-weaken total (r.«end» + 2) (r.«end» + 1) rs (omega arith) c.3))
  where
    x : ℕ
    x = select_gap (r.«end» + 1) rs (k - (r.start - low))

    go : (k < r.start - low) ⊎ (r.start - low ≤ k) → FreeBetween (r.«end» + 1) (k - (r.start - low)) x rs → FreeBetween low k (select_gap low (r ∷ rs) k) (r ∷ rs)
    go (inl h) g =
        subst (λ y. FreeBetween low k y (r ∷ rs)) (sym (select_gap-in low r rs k h)) (record {
          from = omega arith;
          free = mem-before total low r rs (low + k) c (omega arith);
          before = omega (arith, ones_below-none (low + k) (r.«end» + 2) rs (omega (arith, c.0, c.1)) (canon-starts total (r.«end» + 2) rs c.3));
        })
    go (inr h) g =
        subst (λ y. FreeBetween low k y (r ∷ rs)) (sym (select_gap-past low r rs k h)) (record {
          from = omega (arith, g.from, c.0, c.1);
          free = mem-above r rs x (omega (arith, g.from)) ∙ g.free;
          before = omega (arith, g.from, g.before, c.0, c.1);
        })

-- the plain select of false
pub select-gap : (rs : List Run) (k : ℕ) → Canon size 0 rs → select_gap 0 rs k < size → select (mem rs) false 0 size k ≡ Some (select_gap 0 rs k)
select-gap rs k c h =
    let x : ℕ = select_gap 0 rs k in
    let g : FreeBetween 0 k x rs = select_gap-is size 0 rs k c in
    let q : 0 + x ≡ x = omega arith in
    select-is (mem rs) false 0 size x k h (ap (mem rs) q ∙ g.free) (omega (arith, count-both (mem rs) 0 x, count-ones_below size 0 rs x c, g.before)) ∙ ap Some q
