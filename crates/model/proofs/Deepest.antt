-- The shortest list of runs that makes a tree of height h: it has `least h` runs, and none of them touches another one. Ranks are counted by
-- weighing: each rank weighs 1 where the list's length is wanted, and 1 or 0 where it is to be told how often one of them stands there.
-- Assumes nothing.
use Prim.Native.Nat.{ℕ, zero, suc, ◌+◌, ◌-◌, ◌*◌, ◌≤◌, ◌<◌}
use mathlib.Core.Path.{◌≡◌, refl, sym, ap, ◌∙◌, subst}
use mathlib.Core.Logic.{◌⊎◌, inl, inr}
use mathlib.Core.List.{List, [], ◌∷◌, ◌++◌}
use native.Mathlib.Omega.{arith}
use native.Mathlib.Decide.{dec_le}
use lib.Dec.{eqb}
use lib.ListN.{length, length-append}
use borrow.Author.Tests.{eq-eqb, ne_eqb}
use Rattle.model.specs.declared.Run.{Run}
use Rattle.model.specs.Positions.{run, one_if}
use Rattle.model.specs.RunList.{TouchesNone}
use Rattle.model.proofs.RunList.{touch-within}
use Rattle.model.specs.Deepest.{least, middles, middles_up_to, runs_at, deepest_runs, words_of, deepest_words}

-- ---- how many there are
-- no tree has no run
pub least-none : least 0 ≡ 0
unfolding least
least-none = refl

-- the middle rank, the lesser ones and the greater ones
pub least-parts : (h : ℕ) → least (suc h) ≡ least h + least (h - 1) + 1
unfolding least
least-parts zero = refl
least-parts (suc h) = let e : suc h - 1 ≡ h = omega arith in omega (arith, ap least e)

-- the same of a height that is not 0
pub least-halves : (h : ℕ) → 1 ≤ h → least h ≡ least (h - 1) + least (h - 2) + 1
least-halves h some =
    let e : suc (h - 1) ≡ h = omega arith in
    let f : h - 1 - 1 ≡ h - 2 = omega arith in
    omega (arith, least-parts (h - 1), ap least e, ap least f)

-- each is one more than the last two together
pub least-next : (h : ℕ) → least (h + 2) ≡ least (h + 1) + least h + 1
least-next h =
    let e : h + 2 - 1 ≡ h + 1 = omega arith in
    let f : h + 2 - 2 ≡ h = omega arith in
    omega (arith, least-halves (h + 2) (omega arith), ap least e, ap least f)

-- a tree of height 1 has one
pub least-one : least 1 ≡ 1
unfolding least
least-one = refl

-- a higher tree has more runs
pub least-up : (h : ℕ) → least h ≤ least (suc h)
least-up h = omega (arith, least-parts h)

-- from each height up
pub least-rises : (h d : ℕ) → least h ≤ least (d + h)
least-rises h zero = let e : zero + h ≡ h = omega arith in omega (arith, ap least e)
least-rises h (suc d) = let e : suc d + h ≡ suc (d + h) = omega arith in omega (arith, ap least e, least-rises h d, least-up (d + h))

-- a tree of height 22 has at least these
pub least-22 : least 22 ≡ 46367
unfolding least
least-22 = refl

-- and one of height 23 these, more than 65,536
pub least-23 : least 23 ≡ 75024
unfolding least
least-23 = refl

-- so a list for a height up to 22 has no more runs than the one for 22
pub least-most : (h : ℕ) → h ≤ 22 → least h ≤ 46367
least-most h le = let e : (22 - h) + h ≡ 22 = omega arith in omega (arith, least-rises h (22 - h), ap least e, least-22)

-- ---- weighing
-- the weights of all elements together
abbrev weigh : (ℕ → ℕ) → List ℕ → ℕ
weigh f [] = 0
weigh f (k ∷ ks) = f k + weigh f ks

-- those of two lists
weigh-append : (f : ℕ → ℕ) (xs ys : List ℕ) → weigh f (xs ++ ys) ≡ weigh f xs + weigh f ys
weigh-append f [] ys = omega arith
weigh-append f (x ∷ xs) ys = omega (arith, weigh-append f xs ys)

-- no height, no rank
pub no-middles : (d k : ℕ) → middles d zero k ≡ []
unfolding middles
no-middles zero k = refl
no-middles (suc d) k = rw (no-middles d k, no-middles d (k + least 0 + 1))

-- after no parting: the middle one
pub middles-first : (h k : ℕ) → 1 ≤ h → middles 0 h k ≡ (k + least (h - 1)) ∷ []
unfolding middles
middles-first zero k some = absurd (omega arith)
middles-first (suc h) k some = let e : h ≡ suc h - 1 = omega arith in ap (λ j. (k + least j) ∷ []) e

-- after others: those of the two parts
pub middles-next : (d h k : ℕ) → 1 ≤ d → middles d h k ≡ middles (d - 1) (h - 1) k ++ middles (d - 1) (h - 2) (k + least (h - 1) + 1)
unfolding middles
middles-next zero h k some = absurd (omega arith)
middles-next (suc d) h k some =
    let e : d ≡ suc d - 1 = omega arith in
    ap (λ j. middles j (h - 1) k ++ middles j (h - 2) (k + least (h - 1) + 1)) e

-- those of the two parts
pub middles-parts : (d h k : ℕ) → middles (suc d) (suc h) k ≡ middles d h k ++ middles d (h - 1) (k + least h + 1)
unfolding middles
middles-parts d h k =
    let e : suc h - 1 ≡ h = omega arith in
    let f : suc h - 2 ≡ h - 1 = omega arith in
    λ i. middles d (e i) k ++ middles d (f i) (k + least (e i) + 1)

-- the ranks from k on after fewer than d partings
abbrev weigh_up_to : (ℕ → ℕ) → ℕ → ℕ → ℕ → ℕ
weigh_up_to f zero h k = 0
weigh_up_to f (suc d) h k = weigh_up_to f d h k + weigh f (middles d h k)

module _ (f : ℕ → ℕ) where
  -- they are what the definition joins, where k is 0
  weigh-up-to : (d h : ℕ) → weigh f (middles_up_to d h) ≡ weigh_up_to f d h 0
  unfolding middles_up_to
  weigh-up-to zero h = refl
  weigh-up-to (suc d) h = omega (arith, weigh-append f (middles_up_to d h) (middles d h 0), weigh-up-to d h)

  -- those of no height
  weigh-none : (d k : ℕ) → weigh_up_to f d zero k ≡ 0
  weigh-none zero k = refl
  weigh-none (suc d) k = omega (arith, weigh-none d k, ap (weigh f) (no-middles d k))

  -- the middle one, and those of the two parts
  weigh-parts : (d h k : ℕ) → weigh_up_to f (suc d) (suc h) k ≡ f (k + least h) + weigh_up_to f d h k + weigh_up_to f d (h - 1) (k + least h + 1)
  unfolding middles
  weigh-parts zero h k = omega arith
  weigh-parts (suc d) h k =
      omega (
        arith,
        weigh-parts d h k,
        ap (weigh f) (middles-parts d h k),
        weigh-append f (middles d h k) (middles d (h - 1) (k + least h + 1)),
      )

-- after h partings each rank has been a middle one
one_each : (d h k : ℕ) → h ≤ d → weigh_up_to (λ j. 1) d h k ≡ least h
one_each zero zero k le = sym least-none
one_each zero (suc h) k le = absurd (omega arith)
one_each (suc d) zero k le = weigh-none (λ j. 1) (suc d) k ∙ sym least-none
one_each (suc d) (suc h) k le =
    omega (
      arith,
      weigh-parts (λ j. 1) d h k,
      least-parts h,
      one_each d h k (omega arith),
      one_each d (h - 1) (k + least h + 1) (omega arith),
    )

-- the length of a list of ranks, and of their runs
weigh-length : (ks : List ℕ) → length (runs_at ks) ≡ weigh (λ j. 1) ks
unfolding runs_at
weigh-length [] = refl
weigh-length (k ∷ ks) = omega (arith, weigh-length ks)

-- THE LENGTH of the list for the height h
pub deepest-length : (h : ℕ) → length (deepest_runs h) ≡ least h
unfolding deepest_runs
deepest-length h = weigh-length (middles_up_to h h) ∙ weigh-up-to (λ j. 1) h h ∙ one_each h h 0 (omega arith)

-- ---- which they are
-- each rank is at least lo and below hi
abbrev pub Between : ℕ → ℕ → List ℕ → Type 0
Between lo hi [] = Unit
Between lo hi (k ∷ ks) = (lo ≤ k) × (k < hi) × Between lo hi ks

-- two such lists, within wider bounds
between-append : (lo hi lo₁ hi₁ lo₂ hi₂ : ℕ) (xs ys : List ℕ) → lo ≤ lo₁ → hi₁ ≤ hi → lo ≤ lo₂ → hi₂ ≤ hi
    → Between lo₁ hi₁ xs → Between lo₂ hi₂ ys → Between lo hi (xs ++ ys)
between-append lo hi lo₁ hi₁ lo₂ hi₂ [] [] a b c d p q = tt
between-append lo hi lo₁ hi₁ lo₂ hi₂ [] (y ∷ ys) a b c d p q =
    (omega (arith, q.0), omega (arith, q.1), between-append lo hi lo₁ hi₁ lo₂ hi₂ [] ys a b c d p q.2)
between-append lo hi lo₁ hi₁ lo₂ hi₂ (x ∷ xs) ys a b c d p q =
    (omega (arith, p.0), omega (arith, p.1), between-append lo hi lo₁ hi₁ lo₂ hi₂ xs ys a b c d p.2 q)

-- the middle ones of the ranks from k on are some of these
pub middles-between : (d h k : ℕ) → Between k (k + least h) (middles d h k)
unfolding middles
middles-between zero zero k = tt
middles-between zero (suc h) k = (omega arith, omega (arith, least-parts h), tt)
middles-between (suc d) zero k = rw (no-middles (suc d) k) tt
middles-between (suc d) (suc h) k =
    let both : Between k (k + least (suc h)) (middles d h k ++ middles d (h - 1) (k + least h + 1)) =
    between-append k (k + least (suc h)) k (k + least h) (k + least h + 1) (k + least h + 1 + least (h - 1))
    (middles d h k) (middles d (h - 1) (k + least h + 1))
    (omega arith) (omega (arith, least-up h)) (omega arith) (omega (arith, least-parts h))
    (middles-between d h k) (middles-between d (h - 1) (k + least h + 1)) in
    rw (middles-parts d h k) both

-- all of them are below their number
ranks-below : (d h : ℕ) → Between 0 (least h) (middles_up_to d h)
unfolding middles_up_to
ranks-below zero h = tt
ranks-below (suc d) h =
    between-append 0 (least h) 0 (least h) 0 (0 + least h) (middles_up_to d h) (middles d h 0)
    (omega arith) (omega arith) (omega arith) (omega arith) (ranks-below d h) (middles-between d h 0)

-- ---- that each stands there once
-- 1 for the rank m
abbrev is : ℕ → ℕ → ℕ
is m k = one_if (eqb m k)

-- and 0 for others
is-not : (m k : ℕ) → (m ≡ k → ⊥) → is m k ≡ 0
is-not m k ne = ap one_if (ne_eqb m k ne)

-- a rank that is none of those from k on
outside : (m d h k : ℕ) → (m < k) ⊎ (k + least h ≤ m) → weigh_up_to (is m) d h k ≡ 0
outside m zero h k o = refl
outside m (suc d) zero k o = weigh-none (is m) (suc d) k
outside m (suc d) (suc h) k o =
    omega (
      arith,
      weigh-parts (is m) d h k,
      is-not m (k + least h) (λ (q : m ≡ k + least h). ne o q),
      outside m d h k (left o),
      outside m d (h - 1) (k + least h + 1) (right o),
    )
  where
    -- it is not the middle one, and none of either part
    ne : (m < k) ⊎ (k + least (suc h) ≤ m) → m ≡ k + least h → ⊥
    ne (inl l) q = omega arith
    ne (inr l) q = omega (arith, least-parts h)

    left : (m < k) ⊎ (k + least (suc h) ≤ m) → (m < k) ⊎ (k + least h ≤ m)
    left (inl l) = inl l
    left (inr l) = inr (omega (arith, least-up h))

    right : (m < k) ⊎ (k + least (suc h) ≤ m) → (m < k + least h + 1) ⊎ (k + least h + 1 + least (h - 1) ≤ m)
    right (inl l) = inl (omega arith)
    right (inr l) = inr (omega (arith, least-parts h))

-- one that may be one of them
once : (m d h k : ℕ) → weigh_up_to (is m) d h k ≤ 1
once m zero h k = omega arith
once m (suc d) zero k = omega (arith, weigh-none (is m) (suc d) k)
once m (suc d) (suc h) k = go (once m d h k) (once m d (h - 1) (k + least h + 1)) (dec_le (suc m) (k + least h)) (dec_le (suc (k + least h)) m)
  where
    -- how often it is the middle one, one of the lesser and one of the greater ones
    all : weigh_up_to (is m) (suc d) (suc h) k ≡ is m (k + least h) + weigh_up_to (is m) d h k + weigh_up_to (is m) d (h - 1) (k + least h + 1)
    all = weigh-parts (is m) d h k

    -- it is one of them only
    less : m ≤ k + least h → weigh_up_to (is m) d (h - 1) (k + least h + 1) ≡ 0
    less le = outside m d (h - 1) (k + least h + 1) (inl (omega arith))

    more : k + least h ≤ m → weigh_up_to (is m) d h k ≡ 0
    more le = outside m d h k (inr le)

    go : weigh_up_to (is m) d h k ≤ 1 → weigh_up_to (is m) d (h - 1) (k + least h + 1) ≤ 1 → Dec (suc m ≤ k + least h) → Dec (suc (k + least h) ≤ m)
        → weigh_up_to (is m) (suc d) (suc h) k ≤ 1
    go l r (yes a) b = omega (arith, all, l, less (omega arith), is-not m (k + least h) (λ (q : m ≡ k + least h). omega arith))
    go l r (no a) (yes b) = omega (arith, all, r, more (omega arith), is-not m (k + least h) (λ (q : m ≡ k + least h). omega arith))
    go l r (no a) (no b) =
        omega (arith, all, less (omega arith), more (omega arith), ap one_if (eq-eqb m (k + least h) (omega arith)))

-- a rank that stands nowhere in a list touches none of its runs
none-touched : (m : ℕ) (ks : List ℕ) → weigh (is m) ks ≡ 0 → TouchesNone (2 * m) (2 * m) (runs_at ks)
unfolding runs_at
none-touched m [] z = tt
none-touched m (k ∷ ks) z = (go (dec_le (suc m) k) (dec_le (suc k) m), none-touched m ks (omega arith))
  where
    go : Dec (suc m ≤ k) → Dec (suc k ≤ m) → (2 * k + 1 < 2 * m) ⊎ (2 * m + 1 < 2 * k)
    go (yes l) g = inr (omega arith)
    go (no l) (yes g) = inl (omega arith)
    go (no l) (no g) = absurd (omega (arith, z, ap one_if (eq-eqb m k (omega arith))))

-- the runs of ranks that stand once do not touch: each touches none of those before it
once-apart : (ks : List ℕ) → ((m : ℕ) → weigh (is m) ks ≤ 1) → (xs : List Run) (r : Run) (ys : List Run) → runs_at ks ≡ xs ++ r ∷ ys
    → TouchesNone r.start r.«end» xs
unfolding runs_at
once-apart ks o [] r ys e = tt
once-apart [] o (x ∷ xs) r ys e = absurd (omega (arith, ap length e))
once-apart (k ∷ ks) o (x ∷ xs) r ys e =
    let head : run (2 * k) (2 * k) ≡ x = cc e in
    let tail : runs_at ks ≡ xs ++ r ∷ ys = cc e in
    let none : weigh (is k) ks ≡ 0 = omega (arith, o k, ap one_if (eq-eqb k k refl)) in
    let far = touch-within (2 * k) (2 * k) xs r ys (subst (TouchesNone (2 * k) (2 * k)) tail (none-touched k ks none)) in
    (swap (ap (λ (y : Run). y.start) head) (ap (λ (y : Run). y.«end») head) far, once-apart ks (λ m. omega (arith, o m)) xs r ys tail)
  where
    swap : 2 * k ≡ x.start → 2 * k ≡ x.«end» → (r.«end» + 1 < 2 * k) ⊎ (2 * k + 1 < r.start) → (x.«end» + 1 < r.start) ⊎ (r.«end» + 1 < x.start)
    swap a b (inl l) = inr (omega arith)
    swap a b (inr l) = inl (omega arith)

-- THE RUNS of the list for the height h do not touch
pub deepest-apart : (h : ℕ) (xs : List Run) (r : Run) (ys : List Run) → deepest_runs h ≡ xs ++ r ∷ ys → TouchesNone r.start r.«end» xs
unfolding deepest_runs
deepest-apart h xs r ys e = once-apart (middles_up_to h h) (λ m. omega (arith, weigh-up-to (is m) h h, once m h h 0)) xs r ys e

-- each run of ranks below m is a single position below 2 m
below-single : (m : ℕ) (ks : List ℕ) → Between 0 m ks → (xs : List Run) (r : Run) (ys : List Run) → runs_at ks ≡ xs ++ r ∷ ys
    → (r.start ≡ r.«end») × (r.«end» < 2 * m)
unfolding runs_at
below-single m [] b [] r ys e = absurd (omega (arith, ap length e))
below-single m [] b (x ∷ xs) r ys e = absurd (omega (arith, ap length e))
below-single m (k ∷ ks) b [] r ys e =
    let head : run (2 * k) (2 * k) ≡ r = cc e in
    let from : 2 * k ≡ r.start = ap (λ (y : Run). y.start) head in
    let to : 2 * k ≡ r.«end» = ap (λ (y : Run). y.«end») head in
    (omega arith, omega (arith, b.1))
below-single m (k ∷ ks) b (x ∷ xs) r ys e = below-single m ks b.2 xs r ys (cc e)

-- so is each of the list for the height h, below twice their number
pub deepest-single : (h : ℕ) (xs : List Run) (r : Run) (ys : List Run) → deepest_runs h ≡ xs ++ r ∷ ys → (r.start ≡ r.«end») × (r.«end» < 2 * least h)
unfolding deepest_runs
deepest-single h xs r ys e = below-single (least h) (middles_up_to h h) (ranks-below h h) xs r ys e

-- ---- as words
-- the runs of two lists of ranks
pub runs_append : (xs ys : List ℕ) → runs_at (xs ++ ys) ≡ runs_at xs ++ runs_at ys
unfolding runs_at
runs_append [] ys = refl
runs_append (x ∷ xs) ys = ap (λ (rs : List Run). run (2 * x) (2 * x) ∷ rs) (runs_append xs ys)

-- the words of two lists of runs
words_append : (xs ys : List Run) → words_of (xs ++ ys) ≡ words_of xs ++ words_of ys
unfolding words_of
words_append [] ys = refl
words_append (x ∷ xs) ys = ap (λ (ws : List ℕ). x.start ∷ (x.«end» ∷ ws)) (words_append xs ys)

-- a run is two words
words-length : (rs : List Run) → length (words_of rs) ≡ 2 * length rs
unfolding words_of
words-length [] = refl
words-length (r ∷ rs) = omega (arith, words-length rs)

-- no rank, no word
pub no-ranks : words_of (runs_at []) ≡ []
unfolding runs_at words_of
no-ranks = refl

-- the words of one rank
pub rank-words : (k : ℕ) → words_of (runs_at (k ∷ [])) ≡ 2 * k ∷ (2 * k ∷ [])
unfolding runs_at words_of
rank-words k = refl

-- those of two lists of ranks
pub ranks-append : (xs ys : List ℕ) → words_of (runs_at (xs ++ ys)) ≡ words_of (runs_at xs) ++ words_of (runs_at ys)
ranks-append xs ys = ap words_of (runs_append xs ys) ∙ words_append (runs_at xs) (runs_at ys)

-- a rank is one run
runs-length : (ks : List ℕ) → length (runs_at ks) ≡ length ks
unfolding runs_at
runs-length [] = refl
runs-length (k ∷ ks) = ap suc (runs-length ks)

-- so it is two words
pub ranks-length : (ks : List ℕ) → length (words_of (runs_at ks)) ≡ 2 * length ks
ranks-length ks = omega (arith, words-length (runs_at ks), runs-length ks)

-- THE WORDS of the list for the height h: how many there are
pub deepest-words : (h : ℕ) → length (deepest_words h) ≡ 2 * least h
unfolding deepest_words
deepest-words h = omega (arith, words-length (deepest_runs h), deepest-length h)

-- and that they are those of h partings
pub deepest-ranks : (h : ℕ) → deepest_words h ≡ words_of (runs_at (middles_up_to h h))
unfolding deepest_words deepest_runs
deepest-ranks h = refl

-- the ranks with one parting more
pub up-to-next : (d h : ℕ) → middles_up_to (suc d) h ≡ middles_up_to d h ++ middles d h 0
unfolding middles_up_to
up-to-next d h = refl

-- no parting, no rank
pub up-to-none : (h : ℕ) → middles_up_to 0 h ≡ []
unfolding middles_up_to
up-to-none h = refl

-- fewer partings have no more ranks
up-to-rises : (e d h : ℕ) → length (middles_up_to d h) ≤ length (middles_up_to (e + d) h)
up-to-rises zero d h = let q : zero + d ≡ d = omega arith in omega (arith, ap (λ j. length (middles_up_to j h)) q)
up-to-rises (suc e) d h =
    let q : suc e + d ≡ suc (e + d) = omega arith in
    let more : length (middles_up_to (suc (e + d)) h) ≡ length (middles_up_to (e + d) h) + length (middles (e + d) h 0) =
    ap length (up-to-next (e + d) h) ∙ length-append (middles_up_to (e + d) h) (middles (e + d) h 0) in
    omega (arith, ap (λ j. length (middles_up_to j h)) q, up-to-rises e d h, more)

-- so those of at most h partings are no more than the list has
pub up-to-least : (d h : ℕ) → d ≤ h → length (middles_up_to d h) ≤ least h
up-to-least d h le =
    let q : (h - d) + d ≡ h = omega arith in
    omega (arith, ap (λ j. length (middles_up_to j h)) q, up-to-rises (h - d) d h, ranks-length (middles_up_to h h), ap length (deepest-ranks h), deepest-words h)
