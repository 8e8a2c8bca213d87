-- What the run before a position and the run after it tell: which positions from here to there are held. And so which position of a
-- turned set is held first and last, by the searches that start at the place of logical 0, and of logical M. Assumes nothing.
use Rattle.pool.proofs.Base.{◌≡◌, ℕ, suc, ◌+◌, ◌-◌, ◌<◌, ◌≤◌, Bool, true, false, cond, leb, ◌⊎◌, List, [], ◌∷◌, sym, refl, ap, ◌∙◌, subst, inl, inr, arith, leb-true, Run, size, split}
use Rattle.pool.proofs.Base.{held_runs, mem, Canon, mem-in, mem-above, mem-before, reaches, mem-last, physical_of, logical_of, turned, first_of, last_of}
use Rattle.std.specs.Prelude.{Option, None, Some, MatchOption}
use Rattle.std.proofs.Common.{leb-false}
use Rattle.model.specs.declared.Logical.{Logical}
use Rattle.model.specs.RunList.{or_else, last_up_to, first_from}
use Rattle.model.proofs.RunList.{mem-under, mem_below}
use Rattle.pool.proofs.Ends.{clash, empty-mem, turned-first, turned-last, turned_none}

-- r is a run of the list, that is, its positions are held and those next to it are not
pub record Member (rs : List Run) (total : ℕ) (r : Run) : Type 0 where
  pub ordered : r.start ≤ r.«end»
  pub bounded : r.«end» < total
  pub held : (y : ℕ) → r.start ≤ y → y ≤ r.«end» → mem rs y ≡ true
  pub under : (y : ℕ) → suc y ≡ r.start → mem rs y ≡ false
  pub over : mem rs (r.«end» + 1) ≡ false

-- ---- the last run that starts at or before x
pub record Before (rs : List Run) (total x : ℕ) (r : Run) : Type 0 where
  pub member : Member rs total r
  pub starts : r.start ≤ x
  pub free : (y : ℕ) → r.«end» < y → y ≤ x → mem rs y ≡ false

-- what a search for it tells
abbrev pub Earlier : List Run → ℕ → ℕ → Option Run → Type 0
Earlier rs total x None = (y : ℕ) → y ≤ x → mem rs y ≡ false
Earlier rs total x (Some r) = Before rs total x r

-- every run of a canonical list starts at its bound or above
member-from : (total k : ℕ) (rs : List Run) (r : Run) → Canon total k rs → Member rs total r → k ≤ r.start
member-from total k rs r c m = go (split r.start k)
  where
    go : (r.start < k) ⊎ (k ≤ r.start) → k ≤ r.start
    go (inl l) = clash (m.held r.start (omega arith) m.ordered) (mem_below total k rs r.start c l)
    go (inr l) = l

-- a run of the rest is one of the list
member-later : (total k : ℕ) (q : Run) (rs : List Run) (r : Run) → Canon total k (q ∷ rs) → Member rs total r → Member (q ∷ rs) total r
member-later total k q rs r c m =
    let h : q.«end» + 2 ≤ r.start = member-from total (q.«end» + 2) rs r c.3 m in
    record {
      ordered = m.ordered;
      bounded = m.bounded;
      held = λ y l u. mem-above q rs y (omega arith) ∙ m.held y l u;
      under = λ y e. mem-above q rs y (omega arith) ∙ m.under y e;
      over = mem-above q rs (r.«end» + 1) (omega (arith, m.ordered)) ∙ m.over;
    }

-- the first run is one of the list
member-first : (total k : ℕ) (q : Run) (rs : List Run) → Canon total k (q ∷ rs) → Member (q ∷ rs) total q
member-first total k q rs c = record {
  ordered = c.1;
  bounded = c.2;
  held = λ y l u. mem-in q rs y l u;
  under = λ y e. mem-before total k q rs y c (omega arith);
  over = mem-above q rs (q.«end» + 1) (omega arith) ∙ mem_below total (q.«end» + 2) rs (q.«end» + 1) c.3 (omega arith);
}

-- what the search before x finds
pub earlier : (total k : ℕ) (rs : List Run) (x : ℕ) → Canon total k rs → Earlier rs total x (last_up_to x rs)
unfolding last_up_to
earlier total k [] x c = λ y l. empty-mem y
earlier total k (q ∷ rs) x c = go (last_up_to x rs) (earlier total (q.«end» + 2) rs x c.3) (leb q.start x) refl
  where
    go : (o : Option Run) → Earlier rs total x o → (b : Bool) → leb q.start x ≡ b → Earlier (q ∷ rs) total x (or_else o (cond b (Some q) None))
    go (Some r) ih b e =
        let l : q.«end» + 2 ≤ r.start = member-from total (q.«end» + 2) rs r c.3 ih.member in
        record {
          member = member-later total k q rs r c ih.member;
          starts = ih.starts;
          free = λ y h u. mem-above q rs y (omega (arith, ih.member.ordered)) ∙ ih.free y h u;
        }
    go None ih true e = record {
      member = member-first total k q rs c;
      starts = leb-true q.start x e;
      free = λ y h u. mem-above q rs y h ∙ ih y u;
    }
    go None ih false e = λ y u. mem-under q rs y (omega (arith, leb-false q.start x e)) ∙ ih y u

-- ---- the first run that starts at or after x, where no run goes on from below x
pub record After (rs : List Run) (total x : ℕ) (r : Run) : Type 0 where
  pub member : Member rs total r
  pub starts : x ≤ r.start
  pub free : (y : ℕ) → x ≤ y → y < r.start → mem rs y ≡ false

-- what a search for it tells
abbrev pub Later : List Run → ℕ → ℕ → Option Run → Type 0
Later rs total x None = (y : ℕ) → x ≤ y → mem rs y ≡ false
Later rs total x (Some r) = After rs total x r

-- what the search after x finds
pub later : (total k : ℕ) (rs : List Run) (x : ℕ) → Canon total k rs → (mem rs x ≡ false) ⊎ (x ≡ 0) → Later rs total x (first_from x rs)
unfolding first_from
later total k [] x c f = λ y l. empty-mem y
later total k (q ∷ rs) x c f = go (leb x q.start) refl f (λ g. later total (q.«end» + 2) rs x c.3 (inl g))
  where
    past : q.start < x → mem (q ∷ rs) x ≡ false → q.«end» < x
    past l e = sub (split q.«end» x)
      where
        sub : (q.«end» < x) ⊎ (x ≤ q.«end») → q.«end» < x
        sub (inl h) = h
        sub (inr h) = clash (mem-in q rs x (omega arith) h) e

    rest : q.«end» < x → (o : Option Run) → Later rs total x o → Later (q ∷ rs) total x o
    rest h None ih = λ y l. mem-above q rs y (omega arith) ∙ ih y l
    rest h (Some r) ih = record {
      member = member-later total k q rs r c ih.member;
      starts = ih.starts;
      free = λ y l u. mem-above q rs y (omega arith) ∙ ih.free y l u;
    }

    go : (b : Bool) → leb x q.start ≡ b → (mem (q ∷ rs) x ≡ false) ⊎ (x ≡ 0) → (mem rs x ≡ false → Later rs total x (first_from x rs))
        → Later (q ∷ rs) total x (cond b (Some q) (first_from x rs))
    go true e g ih = record {
      member = member-first total k q rs c;
      starts = leb-true x q.start e;
      free = λ y l u. mem-before total k q rs y c u;
    }
    go false e (inr g) ih = absurd (omega (arith, leb-false x q.start e))
    go false e (inl g) ih =
        let h : q.«end» < x = past (leb-false x q.start e) g in
        rest h (first_from x rs) (ih (sym (mem-above q rs x h) ∙ g))

-- ---- the first held position of a turned set
module _ (rs : List Run) (c : Canon size 0 rs) (o : ℕ) (small : o < size) where
  -- where r starts, if no position before that is held
  starts-at : {x : ℕ} {r : Run} → After rs size x r → ((y : ℕ) → y < size → logical_of y o < logical_of r.start o → mem rs y ≡ false)
      → logical_of r.start o ≡ first_of (held_runs (turned o (mem rs)))
  starts-at {r = r} a f =
      sym (turned-first o (mem rs) small r.start (omega (arith, a.member.ordered, a.member.bounded)) (a.member.held r.start (omega arith) a.member.ordered) f)

  -- the place of logical 0 is held
  pub first-zero : (z : ℕ) → z ≡ physical_of 0 o → mem rs z ≡ true → 0 ≡ first_of (held_runs (turned o (mem rs)))
  first-zero z e h =
      let q : logical_of z o ≡ 0 = omega arith in
      sym (turned-first o (mem rs) small z (omega arith) h (λ y l t. absurd (omega arith)) ∙ q)

  -- a run starts between the place of logical 0 and physical M
  pub first-after : (z : ℕ) (r : Run) → z ≡ physical_of 0 o → mem rs z ≡ false → Some r ≡ first_from z rs
      → logical_of r.start o ≡ first_of (held_runs (turned o (mem rs)))
  first-after z r e h n =
      let a : After rs size z r = subst (Later rs size z) (sym n) (later size 0 rs z c (inl h)) in
      let l : r.start < size = omega (arith, a.member.ordered, a.member.bounded) in
      let b = a.starts in
      starts-at a (λ y t u. a.free y (omega arith) (omega arith))

  -- no run does, but one starts below
  pub first-wrapped : (z : ℕ) (r : Run) → z ≡ physical_of 0 o → mem rs z ≡ false → None ≡ first_from z rs → Some r ≡ first_from 0 rs
      → logical_of r.start o ≡ first_of (held_runs (turned o (mem rs)))
  first-wrapped z r e h m n =
      let f : (y : ℕ) → z ≤ y → mem rs y ≡ false = subst (Later rs size z) (sym m) (later size 0 rs z c (inl h)) in
      let a : After rs size 0 r = subst (Later rs size 0) (sym n) (later size 0 rs 0 c (inr refl)) in
      starts-at a (λ y t u. sub y u (f y) (split y z) (split r.start z) (f r.start) a)
    where
      sub : (y : ℕ) → logical_of y o < logical_of r.start o → (z ≤ y → mem rs y ≡ false) → (y < z) ⊎ (z ≤ y) → (r.start < z) ⊎ (z ≤ r.start)
          → (z ≤ r.start → mem rs r.start ≡ false) → After rs size 0 r → mem rs y ≡ false
      sub y u f (inr i) j g a = f i
      sub y u f (inl i) (inr j) g a = clash (a.member.held r.start (omega arith) a.member.ordered) (g j)
      sub y u f (inl i) (inl j) g a = a.free y (omega arith) (omega arith)

  -- there is no run
  pub first-none : None ≡ first_from 0 rs → 0 ≡ first_of (held_runs (turned o (mem rs)))
  first-none n =
      let f : (y : ℕ) → 0 ≤ y → mem rs y ≡ false = subst (Later rs size 0) (sym n) (later size 0 rs 0 c (inr refl)) in
      sym (ap first_of (turned_none o (mem rs) small (λ y l. f y (omega arith))))

  -- ---- and the last one
  ends-at : {x : ℕ} {r : Run} → Before rs size x r → ((y : ℕ) → y < size → logical_of r.«end» o < logical_of y o → mem rs y ≡ false)
      → logical_of r.«end» o ≡ last_of (held_runs (turned o (mem rs)))
  ends-at {r = r} b f = sym (turned-last o (mem rs) small r.«end» b.member.bounded (b.member.held r.«end» b.member.ordered (omega arith)) f)

  -- the place of logical M is held
  pub last-top : (z : ℕ) → z ≡ physical_of (size - 1) o → mem rs z ≡ true → size - 1 ≡ last_of (held_runs (turned o (mem rs)))
  last-top z e h =
      let q : logical_of z o ≡ size - 1 = omega arith in
      sym (turned-last o (mem rs) small z (omega arith) h (λ y l t. absurd (omega arith)) ∙ q)

  -- the last run that starts at or before it ends before it
  pub last-before : (z : ℕ) (r : Run) → z ≡ physical_of (size - 1) o → Some r ≡ last_up_to z rs → r.«end» < z
      → logical_of r.«end» o ≡ last_of (held_runs (turned o (mem rs)))
  last-before z r e n i =
      let b : Before rs size z r = subst (Earlier rs size z) (sym n) (earlier size 0 rs z c) in
      ends-at b (λ y t u. b.free y (omega arith) (omega arith))

  -- none does, but one starts above
  pub last-wrapped : (z : ℕ) (r : Run) → z ≡ physical_of (size - 1) o → None ≡ last_up_to z rs → Some r ≡ last_up_to (size - 1) rs
      → logical_of r.«end» o ≡ last_of (held_runs (turned o (mem rs)))
  last-wrapped z r e m n =
      let f : (y : ℕ) → y ≤ z → mem rs y ≡ false = subst (Earlier rs size z) (sym m) (earlier size 0 rs z c) in
      let b : Before rs size (size - 1) r = subst (Earlier rs size (size - 1)) (sym n) (earlier size 0 rs (size - 1) c) in
      ends-at b (λ y t u. sub y t u b.member.bounded (f y) (split z y) (split z r.«end») (f r.«end») b)
    where
      sub : (y : ℕ) → y < size → logical_of r.«end» o < logical_of y o → r.«end» < size → (y ≤ z → mem rs y ≡ false) → (z < y) ⊎ (y ≤ z) → (z < r.«end») ⊎ (r.«end» ≤ z)
          → (r.«end» ≤ z → mem rs r.«end» ≡ false) → Before rs size (size - 1) r → mem rs y ≡ false
      sub y t u l f (inr i) j g b = f i
      sub y t u l f (inl i) (inr j) g b = clash (b.member.held r.«end» b.member.ordered (omega arith)) (g j)
      sub y t u l f (inl i) (inl j) g b = b.free y (omega arith) (omega arith)

  -- there is no run
  pub last_none : None ≡ last_up_to (size - 1) rs → 0 ≡ last_of (held_runs (turned o (mem rs)))
  last_none n =
      let f : (y : ℕ) → y ≤ size - 1 → mem rs y ≡ false = subst (Earlier rs size (size - 1)) (sym n) (earlier size 0 rs (size - 1) c) in
      sym (ap last_of (turned_none o (mem rs) small (λ y l. f y (omega arith))))

  -- ---- where nothing is turned, the first run of all and the last one tell them
  pub first-straight : (r : Run) → o ≡ 0 → Some r ≡ first_from 0 rs → logical_of r.start 0 ≡ first_of (held_runs (turned o (mem rs)))
  first-straight r e n =
      let a : After rs size 0 r = subst (Later rs size 0) (sym n) (later size 0 rs 0 c (inr refl)) in
      let l : r.start < size = omega (arith, a.member.ordered, a.member.bounded) in
      ap (logical_of r.start) (sym e) ∙ starts-at a (λ y t u. a.free y (omega arith) (omega arith))

  pub last-straight : (r : Run) → o ≡ 0 → Some r ≡ last_up_to (size - 1) rs → logical_of r.«end» 0 ≡ last_of (held_runs (turned o (mem rs)))
  last-straight r e n =
      let b : Before rs size (size - 1) r = subst (Earlier rs size (size - 1)) (sym n) (earlier size 0 rs (size - 1) c) in
      let l = b.member.bounded in
      ap (logical_of r.«end») (sym e) ∙ ends-at b (λ y t u. b.free y (omega arith) (omega arith))

  -- ---- what a call makes of the run that a search finds, and of none
  module _ {q : Option Run} {Q : Run → Type 0} where
    -- whether the last run that starts at or before x reaches x
    pub told-held : (x : ℕ) {b : Bool} → q ≡ last_up_to x rs → MatchOption q (b ≡ false) Q → ((r : Run) → Q r → b ≡ leb x r.«end») → b ≡ mem rs x
    told-held x {b} e m f = go q m ∙ ap (reaches x) e ∙ sym (mem-last size 0 rs x c)
      where
        go : (q : Option Run) → MatchOption q (b ≡ false) Q → b ≡ reaches x q
        go None n = n
        go (Some r) h = f r h

    -- where the first run of all starts
    pub told-first : {l : Logical} → o ≡ 0 → q ≡ first_from 0 rs → MatchOption q (l ≡ record { 0 = 0 }) Q
        → ((r : Run) → Q r → l.0 ≡ logical_of r.start 0) → l.0 ≡ first_of (held_runs (turned o (mem rs)))
    told-first {l} z e m f = go q e m
      where
        go : (q : Option Run) → q ≡ first_from 0 rs → MatchOption q (l ≡ record { 0 = 0 }) Q → l.0 ≡ first_of (held_runs (turned o (mem rs)))
        go None e n = ap (λ (k : Logical). k.0) n ∙ first-none e
        go (Some r) e h = f r h ∙ first-straight r z e

    -- where the last run of all ends
    pub told-last : {l : Logical} → o ≡ 0 → q ≡ last_up_to (size - 1) rs → MatchOption q (l ≡ record { 0 = 0 }) Q
        → ((r : Run) → Q r → l.0 ≡ logical_of r.«end» 0) → l.0 ≡ last_of (held_runs (turned o (mem rs)))
    told-last {l} z e m f = go q e m
      where
        go : (q : Option Run) → q ≡ last_up_to (size - 1) rs → MatchOption q (l ≡ record { 0 = 0 }) Q → l.0 ≡ last_of (held_runs (turned o (mem rs)))
        go None e n = ap (λ (k : Logical). k.0) n ∙ last_none e
        go (Some r) e h = f r h ∙ last-straight r z e

pub ruleset seeking = (first-zero, first-after, first-wrapped, first-none, last-top, last-before, last-wrapped, last_none)
