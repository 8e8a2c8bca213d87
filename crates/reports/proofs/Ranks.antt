-- What lies between two positions, from the ranks of both: the positions and the runs of either value. And the k-th position of a value
-- from a position on, by the rank of the one before. The two ranks differ by what is counted above the first position, and runs of
-- the two values alternate. Assumes nothing.
use Rattle.std.proofs.Common.{◌≡◌, ℕ, zero, suc, ◌+◌, ◌-◌, ◌*◌, ◌%◌, ◌^◌, ◌<◌, ◌≤◌, Bool, true, false, not, ◌&&◌, ltb, ◌⊎◌, List, [], ◌∷◌, length, sym}
use Rattle.std.proofs.Common.{Some, refl, ap, ◌∙◌, subst, ap₂, inl, inr, add-zero, arith, le-ltb, lt-ltb}
use mathlib.Core.Bool.{beq}
use mir.Val.{bool_byte}
use Rattle.pool.proofs.Truths.{byte-one}
use Rattle.model.specs.declared.Run.{Run}
use Rattle.model.specs.declared.Count.{Count}
use Rattle.model.specs.declared.Tally.{Tally}
use Rattle.model.specs.Numbers.{size, worth}
use Rattle.model.proofs.Numbers.{split}
use Rattle.model.specs.Positions.{Positions, one_if, count, select, runs_in, run_count, mem}
use Rattle.model.proofs.Counting.{Place, below, within, above, place, count_cut, count-all, count_none, count-both, count_most}
use Rattle.model.proofs.Runs.{runs_in-length-one, runs_in-length-join}
use Rattle.model.specs.RunList.{Canon, starts_below}
use Rattle.model.proofs.RunList.{mem-in, mem-above, mem-under, mem_below}
use Rattle.model.proofs.Clip.{clip, clip-some, clip-none, clip-runs}
use Rattle.run_index.specs.declared.search.Rank.{Rank}
use Rattle.run_index.specs.Search.{Ranked}
use Rattle.reports.specs.Reports.{Measured}
use Rattle.reports.proofs.Joins.{select-second}

-- ---- the starts of runs
-- there are at most as many as runs
starts-few : (x : ℕ) (rs : List Run) → starts_below x rs ≤ length rs
unfolding starts_below
starts-few x [] = omega arith
starts-few x (r ∷ rs) = go (ltb r.start x) (starts-few x rs)
  where
    go : (b : Bool) → starts_below x rs ≤ length rs → one_if b + starts_below x rs ≤ suc (length rs)
    go true h = omega arith
    go false h = omega arith

-- there are no fewer below a later position
starts-rise : (x y : ℕ) (rs : List Run) → x ≤ y → starts_below x rs ≤ starts_below y rs
unfolding starts_below
starts-rise x y [] h = omega arith
starts-rise x y (r ∷ rs) h = go (split r.start x) (starts-rise x y rs h)
  where
    go : (r.start < x) ⊎ (x ≤ r.start) → starts_below x rs ≤ starts_below y rs
        → one_if (ltb r.start x) + starts_below x rs ≤ one_if (ltb r.start y) + starts_below y rs
    go (inl l) ih = rw (lt-ltb r.start x l, lt-ltb r.start y (omega arith)) (omega arith)
    go (inr l) ih = rw (le-ltb r.start x l) (omega arith)

-- the runs that reach into s .. e: those that start there, and the one that s is in
clip-starts : (total k s e : ℕ) (rs : List Run) → Canon total k rs → s ≤ e
    → length (clip s (suc e - s) rs) + starts_below (s + 1) rs ≡ starts_below (e + 1) rs + one_if (mem rs s)
unfolding starts_below clip mem
clip-starts total k s e [] c h = refl
clip-starts total k s e (r ∷ rs) c h =
    go (place r.start r.«end» s) (split e r.start) (clip-starts total (r.«end» + 2) s e rs c.3 h)
  where
    n : ℕ
    n = suc e - s

    go : Place r.start r.«end» s → (e < r.start) ⊎ (r.start ≤ e)
        → length (clip s n rs) + starts_below (s + 1) rs ≡ starts_below (e + 1) rs + one_if (mem rs s)
        → length (clip s n (r ∷ rs)) + (one_if (ltb r.start (s + 1)) + starts_below (s + 1) rs)
        ≡ one_if (ltb r.start (e + 1)) + starts_below (e + 1) rs + one_if (mem (r ∷ rs) s)
    go (below p q) (inl l) ih =
        rw (clip-none s n r rs (omega (arith, c.1)), le-ltb r.start (s + 1) (omega arith), le-ltb r.start (e + 1) (omega arith), mem-under r rs s p)
        (omega arith)
    go (below p q) (inr l) ih =
        rw (clip-some s n r rs (omega (arith, c.1)), le-ltb r.start (s + 1) (omega arith), lt-ltb r.start (e + 1) (omega arith), mem-under r rs s p)
        (omega arith)
    go (within p u q) l ih =
        let f : mem rs s ≡ false = mem_below total (r.«end» + 2) rs s c.3 (omega arith) in
        let ih' : length (clip s n rs) + starts_below (s + 1) rs ≡ starts_below (e + 1) rs + 0 = ih ∙ ap (λ b. starts_below (e + 1) rs + one_if b) f in
        rw (clip-some s n r rs (omega (arith, c.1)), lt-ltb r.start (s + 1) (omega arith), lt-ltb r.start (e + 1) (omega arith), mem-in r rs s p u)
        (omega arith)
    go (above p q) l ih =
        let g : r.start < s = omega (arith, c.1) in
        rw (clip-none s n r rs (omega arith), lt-ltb r.start (s + 1) (omega arith), lt-ltb r.start (e + 1) (omega arith), mem-above r rs s p)
        (omega arith)

-- ---- one position
-- the count of it
count-one : (P : Positions) (a : ℕ) → count P true a 1 ≡ one_if (P a)
count-one P a = go (P a) refl
  where
    go : (b : Bool) → P a ≡ b → count P true a 1 ≡ one_if b
    go true e = count-all P true a 1 (λ x h l. ap P (omega arith) ∙ e)
    go false e = count_none P true a 1 (λ x h l. ap P (omega arith) ∙ e)

-- ---- the runs of the other value
-- runs of the two values alternate, so the ends tell how many more there are of one
runs-alternate : (P : Positions) (a m : ℕ)
    → length (runs_in P false a (suc m)) + one_if (P a) + one_if (P (a + m)) ≡ length (runs_in P true a (suc m)) + 1
runs-alternate P a zero =
    ap (λ x. length (runs_in P false a 1) + one_if (P a) + one_if (P x)) (add-zero a) ∙ go (P a) (runs_in-length-one P false a) (runs_in-length-one P true a)
  where
    go : (b : Bool) → length (runs_in P false a 1) ≡ one_if (beq b false) → length (runs_in P true a 1) ≡ one_if (beq b true)
        → length (runs_in P false a 1) + one_if b + one_if b ≡ length (runs_in P true a 1) + 1
    go true p q = omega arith
    go false p q = omega arith
runs-alternate P a (suc m) =
    go (P (a + m)) (P (a + suc m)) (runs-alternate P a m) (step false) (step true)
  where
    step : (v : Bool) → length (runs_in P v a (suc (suc m))) + one_if (beq (P (a + m)) v && beq (P (a + suc m)) v)
        ≡ length (runs_in P v a (suc m)) + one_if (beq (P (a + suc m)) v)
    step v =
        let q : suc m + 1 ≡ suc (suc m) = omega arith in
        let p : suc (a + m) ≡ a + suc m = omega arith in
        ap₂ (λ j x. length (runs_in P v a j) + one_if (beq (P (a + m)) v && beq (P x) v)) (sym q) (sym p)
        ∙ runs_in-length-join P v a m 0
        ∙ ap (λ j. length (runs_in P v a (suc m)) + j) (runs_in-length-one P v (suc (a + m)) ∙ ap (λ x. one_if (beq (P x) v)) p)

    go : (b d : Bool) → length (runs_in P false a (suc m)) + one_if (P a) + one_if b ≡ length (runs_in P true a (suc m)) + 1
        → length (runs_in P false a (suc (suc m))) + one_if (beq b false && beq d false) ≡ length (runs_in P false a (suc m)) + one_if (beq d false)
        → length (runs_in P true a (suc (suc m))) + one_if (beq b true && beq d true) ≡ length (runs_in P true a (suc m)) + one_if (beq d true)
        → length (runs_in P false a (suc (suc m))) + one_if (P a) + one_if d ≡ length (runs_in P true a (suc (suc m))) + 1
    go true true ih f t = omega arith
    go true false ih f t = omega arith
    go false true ih f t = omega arith
    go false false ih f t = omega arith

-- the same from s to e
pub ranges-alternate : (P : Positions) (s e : ℕ) → s ≤ e
    → run_count P false s (suc e - s) + one_if (P s) + one_if (P e) ≡ run_count P true s (suc e - s) + 1
unfolding run_count
ranges-alternate P s e h =
    let q : suc (e - s) ≡ suc e - s = omega arith in
    let p : s + (e - s) ≡ e = omega arith in
    subst (λ x. length (runs_in P false s (suc e - s)) + one_if (P s) + one_if (P x) ≡ length (runs_in P true s (suc e - s)) + 1) p
    (subst (λ j. length (runs_in P false s j) + one_if (P s) + one_if (P (s + (e - s))) ≡ length (runs_in P true s j) + 1) q (runs-alternate P s (e - s)))

-- either is one
not-one : (b : Bool) → one_if b + one_if (not b) ≡ 1
not-one true = refl
not-one false = refl

-- ---- the difference of two ranks
-- a wrapped difference is exact where the true one fits
wrapped_exact : (u o a b d : ℕ) → u ≡ a % 2 ^ 64 → o ≡ b % 2 ^ 64 → b ≡ a + d → d < 2 ^ 64 → (o + (2 ^ 64 - u)) % 2 ^ 64 ≡ d
wrapped_exact u o a b d p q e l = omega arith

-- a truth that equals another, and one that does not
same : (b v : Bool) → beq b v ≡ true → b ≡ v
same true true e = refl
same true false e = absurd (cc)
same false true e = absurd (cc)
same false false e = refl

other : (b v : Bool) → beq b v ≡ false → b ≡ not v
other true true e = absurd (cc)
other true false e = refl
other false true e = refl
other false false e = absurd (cc)

-- canonical runs are at least two apart
pub canon-most : (total k : ℕ) (rs : List Run) → Canon total k rs → 2 * length rs ≤ total + 1 - k
canon-most total k [] c = omega arith
canon-most total k (r ∷ rs) c = omega (arith, c.0, c.1, c.2, canon-most total (r.«end» + 2) rs c.3)

-- so the starts up to a position are few
pub starts-small : {y : ℕ} {rs : List Run} {r : Rank} → Ranked y r rs → Canon size 0 rs → r.starts ≤ 2 ^ 63
starts-small {y} {rs} low c = omega (arith, low.starts-are, starts-few (y + 1) rs, canon-most size 0 rs c)

-- ---- the ranks of s and of e
module _ {s e : ℕ} {rs : List Run} {under upto : Rank} (order : Canon size 0 rs) (rise : s ≤ e) (low : Ranked s under rs) (high : Ranked e upto rs) where
  -- the later has no fewer starts
  pub starts-ordered : under.starts ≤ upto.starts
  starts-ordered = omega (arith, low.starts-are, high.starts-are, starts-rise (s + 1) (e + 1) rs (omega arith))

  -- the held positions from s on are s, if it is held, and those above
  held-count : count (mem rs) true s (suc e - s) ≡ one_if under.held + count (mem rs) true (s + 1) (e - s)
  held-count =
      count_cut (mem rs) true s (suc e - s) 1 (s + 1) (e - s) (omega arith) refl
      ∙ ap (λ j. j + count (mem rs) true (s + 1) (e - s)) (count-one (mem rs) s ∙ ap one_if (sym low.held-is))

  -- the runs of them are the one at s, if it is held, and those that start above
  held-runs : run_count (mem rs) true s (suc e - s) ≡ upto.starts - under.starts + one_if under.held
  unfolding run_count
  held-runs =
      ap length (clip-runs size 0 s (suc e - s) rs order)
      ∙ omega (
        arith,
        clip-starts size 0 s e rs order rise,
        low.starts-are,
        high.starts-are,
        starts-ordered,
        ap one_if low.held-is,
      )

  -- the wrapped difference of the two counts is what is held above s
  module _ (fits : e < size) where
    abbrev pub more : ℕ
    more = (upto.ones + (2 ^ 64 - under.ones)) % 2 ^ 64

    more-held : more ≡ count (mem rs) true (s + 1) (e - s)
    more-held =
        let Q : Positions = mem rs in
        wrapped_exact under.ones upto.ones (count Q true 0 (s + 1)) (count Q true 0 (e + 1)) (count Q true (s + 1) (e - s))
        low.ones-are high.ones-are (count_cut Q true 0 (e + 1) (s + 1) (s + 1) (e - s) (omega arith) (omega arith))
        (omega (arith, count-both Q (s + 1) (e - s)))

    -- no more than there are positions
    pub more-fits : more ≤ e - s
    more-fits = omega (arith, more-held, count-both (mem rs) (s + 1) (e - s))

    -- what is told of the held positions
    pub tally-held : {v : Bool} {r : Tally} → v ≡ true → worth r.count ≡ one_if under.held + more
        → r.runs ≡ upto.starts - under.starts + bool_byte under.held → Measured (mem rs) v s (suc e - s) r
    tally-held {r = r} f x y =
        subst (λ a. Measured (mem rs) a s (suc e - s) r) (sym f)
        (record {
          count-is = omega (arith, x, held-count, more-held);
          runs-are = omega (arith, y, byte-one under.held, held-runs);
        })

    -- what is told of the others
    pub tally-free : {v : Bool} {r : Tally} → v ≡ false → worth r.count ≡ one_if (not under.held) + (e - s - more)
        → r.runs ≡ upto.starts - under.starts + bool_byte (not upto.held) → Measured (mem rs) v s (suc e - s) r
    tally-free {r = r} f x y =
        subst (λ a. Measured (mem rs) a s (suc e - s) r) (sym f)
        (record {
          count-is = omega (arith, x, held-count, more-held, more-fits, count-both (mem rs) s (suc e - s), not-one under.held);
          runs-are = omega (
            arith,
            y,
            byte-one (not upto.held),
            held-runs,
            ranges-alternate (mem rs) s e rise,
            ap one_if (sym low.held-is),
            ap one_if (sym high.held-is),
            not-one upto.held,
          );
        })

    -- the positions of the value above s, and its runs
    abbrev pub Above : Bool → ℕ → ℕ → Type 0
    Above v a j =
        ((v ≡ true) × (a ≡ more) × (j ≡ upto.starts - under.starts + bool_byte under.held))
        ⊎ ((v ≡ false) × (a ≡ e - s - more) × (j ≡ upto.starts - under.starts + bool_byte (not upto.held)))

    -- where s has the value, it is one position more
    pub tally-more : {v : Bool} {a j : ℕ} {c : Count} → beq under.held v ≡ true → worth c ≡ a + 1 → Above v a j
        → Measured (mem rs) v s (suc e - s) (record { count = c; runs = j })
    tally-more {v} u x (inl (f, l, y)) = tally-held f (omega (arith, x, l, ap one_if (same under.held v u ∙ f))) y
    tally-more {v} u x (inr (f, l, y)) = tally-free f (omega (arith, x, l, ap (λ b. one_if (not b)) (same under.held v u ∙ f))) y

    -- where it has not, it is none
    pub tally-same : {v : Bool} {a j : ℕ} {c : Count} → beq under.held v ≡ false → worth c ≡ a → Above v a j
        → Measured (mem rs) v s (suc e - s) (record { count = c; runs = j })
    tally-same {v} u x (inl (f, l, y)) = tally-held f (omega (arith, x, l, ap one_if (other under.held v u ∙ ap not f))) y
    tally-same {v} u x (inr (f, l, y)) = tally-free f (omega (arith, x, l, ap (λ b. one_if (not b)) (other under.held v u ∙ ap not f))) y

-- ---- before s lie m positions of a value, so the k-th from s on has the number m + k among all of them
module _ (P : Positions) (v : Bool) {s m : ℕ} (fits : s < size) (under : m ≡ count P v 0 s) where
  -- those before s and those from s on
  whole : count P v 0 size ≡ count P v 0 s + count P v s (size - s)
  whole = count_cut P v 0 size s s (size - s) (omega arith) (omega arith)

  -- there is such a position
  pub chosen-there : {k : ℕ} → k < count P v s (size - s) → m + k < count P v 0 size
  chosen-there h = omega (arith, under, whole)

  -- its number fits
  pub chosen-fits : {k : ℕ} → k < count P v s (size - s) → m + k < size
  chosen-fits h = omega (arith, under, whole, count_most P v 0 size)

  -- it is the one that is found
  pub chosen-told : (k : ℕ) {x : ℕ} → select P v 0 size (m + k) ≡ Some x → select P v s (size - s) k ≡ Some x
  chosen-told k {x} f =
      let a : s + (size - s) ≡ size = omega arith in
      let b : m + k - count P v 0 s ≡ k = omega (arith, under) in
      let z : 0 + s ≡ s = omega arith in
      sym (sym f ∙ ap (λ n. select P v 0 n (m + k)) (sym a) ∙ select-second P v 0 s (size - s) (m + k) (omega (arith, under))
      ∙ ap₂ (λ n i. select P v n (size - s) i) z b)

-- before 0 there are none
pub under-zero : (P : Positions) (v : Bool) {s : ℕ} → (1 ≤ s → ⊥) → 0 ≡ count P v 0 s
under-zero P v {s} z = sym (count_none P v 0 s (λ x h l. absurd (omega arith)))

module _ {s y : ℕ} {rs : List Run} {under : Rank} (last : (1 ≤ s) × (y ≡ s - 1)) (fits : s < size) (low : Ranked y under rs) where
  -- the rank of the position before s is not wrapped
  ones-exact : under.ones ≡ count (mem rs) true 0 s
  ones-exact =
      let q : y + 1 ≡ s = omega (arith, last.0, last.1) in
      low.ones-are ∙ ap (λ x. count (mem rs) true 0 x % 2 ^ 64) q ∙ omega (arith, count-both (mem rs) 0 s)

  -- no more than there are positions
  pub ones-fit : under.ones ≤ s
  ones-fit = omega (arith, ones-exact, count-both (mem rs) 0 s)

  -- the held ones before s
  pub under-held : {v : Bool} → v ≡ true → under.ones ≡ count (mem rs) v 0 s
  under-held f = ones-exact ∙ ap (λ b. count (mem rs) b 0 s) (sym f)

  -- the others before s
  pub under-free : {v : Bool} → v ≡ false → s - under.ones ≡ count (mem rs) v 0 s
  under-free f = omega (arith, ones-exact, count-both (mem rs) 0 s) ∙ ap (λ b. count (mem rs) b 0 s) (sym f)
