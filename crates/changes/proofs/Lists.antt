-- Runs in order around one of them: what the searches tell of them, and what the index makes of them there. By induction on the runs
-- before it. Then canonical runs: parts of them, a run that shrinks. Assumes nothing.
use Rattle.std.specs.Prelude.{Option, None, Some}
use Rattle.std.proofs.Common.{◌≡◌, ℕ, ◌+◌, ◌-◌, ◌<◌, ◌≤◌, Bool, true, false, cond, leb, List, [], ◌∷◌, ◌++◌, sym, refl, ap, inl, inr, append_assoc, arith, le-ltb}
use Rattle.std.proofs.Common.{lt-ltb, eq-eqb, ne_eqb, le-leb, leb-false, leb-true}
use borrow.Author.Tests.{lt-leb}
use Rattle.model.specs.declared.Run.{Run}
use Rattle.model.specs.Positions.{run, first_run}
use Rattle.model.specs.RunList.{Canon, EndBelow, StartFrom, or_else, last_up_to, first_from}
use Rattle.model.proofs.RunList.{canon-weaken}
use Rattle.model.proofs.Search.{canon-ends, canon-split}
use Rattle.run_index.specs.Order.{insert_run, remove_run, replace_run, Before, Starts, Has}

-- ---- what the searches tell
-- the first run from x on is the first of us, where ls start before x and us do not
pub first-after : (x : ℕ) (ls us : List Run) → Before x ls → StartFrom x us → first_from x (ls ++ us) ≡ first_run us
unfolding first_from
first-after x [] [] b s = refl
first-after x [] (r ∷ us) b s = rw (le-leb x r.start s.0)
first-after x (r ∷ ls) us b s = rw (lt-leb x r.start b.0, first-after x ls us b.1 s)

-- the first of some runs is r
pub first_some : (us : List Run) (r : Run) → Some r ≡ first_run us → (vs : List Run) × (us ≡ r ∷ vs)
first_some [] r e = absurd (let z : ◌≡◌ {A = ℕ} 0 1 = cc in omega arith)
first_some (y ∷ us) r e = (us, cc)

-- there is no first
pub first-none : (us : List Run) → None ≡ first_run us → us ≡ []
first-none [] e = refl
first-none (y ∷ us) e = absurd (let z : ◌≡◌ {A = ℕ} 0 1 = cc in omega arith)

-- where no run starts at or before x, all start after it
pub last_none : (x : ℕ) (rs : List Run) → last_up_to x rs ≡ None → StartFrom (x + 1) rs
unfolding last_up_to
last_none x [] e = tt
last_none x (r ∷ rs) e = go (last_up_to x rs) (leb r.start x) refl e (last_none x rs)
  where
    go : (o : Option Run) (b : Bool) → leb r.start x ≡ b → or_else o (cond b (Some r) None) ≡ None → (o ≡ None → StartFrom (x + 1) rs) → StartFrom (x + 1) (r ∷ rs)
    go None false eb q ih = (omega (arith, leb-false r.start x eb), ih refl)
    go None true eb q ih = absurd (let z : ◌≡◌ {A = ℕ} 0 1 = cc in omega arith)
    go (Some p) b eb q ih = absurd (let z : ◌≡◌ {A = ℕ} 0 1 = cc in omega arith)

-- the runs around r, the last that starts at or before x
pub record Around (x : ℕ) (r : Run) (rs : List Run) : Type 0 where
  pub ls : List Run
  pub us : List Run
  pub is : rs ≡ ls ++ (r ∷ us)
  pub at : r.start ≤ x
  pub after : StartFrom (x + 1) us

-- the search finds it so
pub last-around : (x : ℕ) (rs : List Run) (r : Run) → Some r ≡ last_up_to x rs → Around x r rs
unfolding last_up_to
last-around x [] r e = absurd (let z : ◌≡◌ {A = ℕ} 0 1 = cc in omega arith)
last-around x (y ∷ ys) r e = go (last_up_to x ys) refl (leb y.start x) refl e (last-around x ys r)
  where
    go : (o : Option Run) → last_up_to x ys ≡ o → (b : Bool) → leb y.start x ≡ b → Some r ≡ or_else o (cond b (Some y) None) → (Some r ≡ last_up_to x ys → Around x r ys) → Around x r (y ∷ ys)
    go None eo true eb q ih =
        let same : r ≡ y = cc in
        record { ls = []; us = ys; is = ap (λ (z : Run). z ∷ ys) (sym same); at = omega (arith, leb-true y.start x eb, ap (λ (z : Run). z.start) same); after = last_none x ys eo }
    go None eo false eb q ih = absurd (let z : ◌≡◌ {A = ℕ} 0 1 = cc in omega arith)
    go (Some p) eo b eb q ih =
        let a : Around x r ys = ih (cc) in
        record { ls = y ∷ a.ls; us = a.us; is = ap (λ (z : List Run). y ∷ z) a.is; at = a.at; after = a.after }

-- ---- what the index makes of them
module _ (r : Run) (us : List Run) where
  -- r is among them
  pub starts-at : (ls : List Run) → Starts r.start (ls ++ (r ∷ us))
  starts-at [] = inl refl
  starts-at (y ∷ ls) = inr (starts-at ls)

  -- with both its ends
  pub has-at : (ls : List Run) → Has r.start r.«end» (ls ++ (r ∷ us))
  has-at [] = inl (refl, refl)
  has-at (y ∷ ls) = inr (has-at ls)

  -- without r
  pub remove-at : (ls : List Run) → Before r.start ls → remove_run r.start (ls ++ (r ∷ us)) ≡ ls ++ us
  remove-at [] b = rw (eq-eqb r.start r.start refl)
  remove-at (y ∷ ls) b =
      let lt : y.start < r.start = b.0 in
      rw (ne_eqb y.start r.start (λ (q : y.start ≡ r.start). omega arith), remove-at ls b.1)

  -- with q in its place
  pub replace-at : (q : Run) (ls : List Run) → Before r.start ls → replace_run r.start q (ls ++ (r ∷ us)) ≡ ls ++ (q ∷ us)
  replace-at q [] b = rw (eq-eqb r.start r.start refl)
  replace-at q (y ∷ ls) b =
      let lt : y.start < r.start = b.0 in
      rw (ne_eqb y.start r.start (λ (e : y.start ≡ r.start). omega arith), replace-at q ls b.1)

-- with one more
pub insert-at : (q : Run) (ls us : List Run) → Before q.start ls → StartFrom (q.start + 1) us → insert_run q (ls ++ us) ≡ ls ++ (q ∷ us)
insert-at q [] [] b s = refl
insert-at q [] (y ∷ us) b s = rw (lt-ltb q.start y.start (omega (arith, s.0)))
insert-at q (y ∷ ls) us b s = rw (le-ltb q.start y.start (omega (arith, b.0)), insert-at q ls us b.1 s)

-- ---- bounds
-- runs that end before m start before each k that is no less
pub ends-before : (m k : ℕ) (ls : List Run) → m ≤ k → EndBelow m ls → Before k ls
ends-before m k [] le e = tt
ends-before m k (r ∷ ls) le e = (omega (arith, e.0, e.1), ends-before m k ls le e.2)

-- runs that end before m end before each k that is no less
pub ends_more : (m k : ℕ) (ls : List Run) → m ≤ k → EndBelow m ls → EndBelow k ls
ends_more m k [] le e = tt
ends_more m k (r ∷ ls) le e = (e.0, omega (arith, e.1), ends_more m k ls le e.2)

-- the same with one run more
pub ends_last : (m : ℕ) (r : Run) (ls : List Run) → EndBelow m ls → r.start ≤ r.«end» → r.«end» < m → EndBelow m (ls ++ (r ∷ []))
ends_last m r [] e o h = (o, h, tt)
ends_last m r (y ∷ ls) e o h = (e.0, e.1, ends_last m r ls e.2 o h)

-- a run between two lists may stand with either
pub append-one : (ls : List Run) (r : Run) (us : List Run) → (ls ++ (r ∷ [])) ++ us ≡ ls ++ (r ∷ us)
append-one ls r us = append_assoc ls (r ∷ []) us

-- ---- canonical runs
-- with a run that shrinks
pub canon-shrink : (total k : ℕ) (ls : List Run) (a b c d : ℕ) (us : List Run) → a ≤ c → c ≤ d → d ≤ b → Canon total k (ls ++ (run a b ∷ us)) → Canon total k (ls ++ (run c d ∷ us))
canon-shrink total k [] a b c d us p q r h =
    (omega (arith, h.0), q, omega (arith, h.2), canon-weaken total (b + 2) (d + 2) us (omega arith) h.3)
canon-shrink total k (y ∷ ls) a b c d us p q r h = (h.0, h.1, h.2, canon-shrink total (y.«end» + 2) ls a b c d us p q r h.3)

-- what stands before a run of canonical runs ends two before it
pub canon-below : (total k : ℕ) (ls : List Run) (r : Run) (us : List Run) → Canon total k (ls ++ (r ∷ us)) → EndBelow (r.start - 1) ls
canon-below total k ls r us c = canon-ends (r.start - 1) k ls (canon-split total k ls r us c).0

-- and starts before it
pub canon-before : (total k : ℕ) (ls : List Run) (r : Run) (us : List Run) → Canon total k (ls ++ (r ∷ us)) → Before r.start ls
canon-before total k ls r us c = ends-before (r.start - 1) r.start ls (omega arith) (canon-below total k ls r us c)
