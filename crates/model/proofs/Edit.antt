-- A range is set to a value in a canonical list: the result is canonical, and has the positions that it should have.
-- Setting to true joins the range with every run that it touches; to false it cuts every run. Positions are compared test by test.
-- Assumes nothing.
use mathlib.Core.Path.{◌≡◌, refl, sym, ap, ap₂, ◌∙◌}
use mathlib.Core.Logic.{◌⊎◌, inl, inr}
use mathlib.Core.Bool.{Bool, true, false, cond, ◌&&◌, ◌||◌, or_assoc, or_comm, false≢true}
use mathlib.Core.List.{List, [], ◌∷◌}
use Prim.Native.Nat.{ℕ, suc, ◌+◌, ◌-◌, ◌≤◌, ◌<◌, min, max}
use native.Mathlib.Omega.{arith}
use lib.Dec.{leb, ltb}
use borrow.Author.Tests.{lt-ltb, le-ltb, le-leb, lt-leb, leb-true}
use Rattle.model.specs.declared.Run.{Run}
use Rattle.model.proofs.Numbers.{split}
use Rattle.model.specs.Positions.{run, inside, among, set_range, mem}
use Rattle.model.proofs.Counting.{Place, below, within, above, place, inside-yes, inside-below, inside-above, among_below, among-above}
use Rattle.model.specs.RunList.{Canon, insert, cons_if, clear}
use Rattle.model.proofs.RunList.{canon-weaken, mem-past}

-- a .. b to the value v
unfoldable pub set_to : Bool → ℕ → ℕ → List Run → List Run
set_to true = insert
set_to false = clear

-- a change of a closed range, made on the n positions from a as far as they are below total
unfoldable pub on_range : ℕ → ℕ → ℕ → (ℕ → ℕ → List Run → List Run) → List Run → List Run
on_range total a n f rs =
    elim (ltb a (min (a + n) total)) [
      | true ↦ f a (min (a + n) total - 1) rs
      | false ↦ rs
    ]

-- the n positions from a, as far as they are below total, to the value v
unfoldable pub set_runs : ℕ → ℕ → ℕ → Bool → List Run → List Run
set_runs total a n v rs = on_range total a n (set_to v) rs

-- ---- to true: insert keeps a first run that ends before a - 1
pub insert-skip : (a b : ℕ) (r : Run) (rs : List Run) → r.«end» + 1 < a → insert a b (r ∷ rs) ≡ r ∷ insert a b rs
unfolding insert
insert-skip a b r rs h = rw (lt-ltb (r.«end» + 1) a h, insert)

-- insert puts a .. b before a first run that starts after b + 1
pub insert-put : (a b : ℕ) (r : Run) (rs : List Run) → a ≤ r.«end» + 1 → b + 1 < r.start → insert a b (r ∷ rs) ≡ run a b ∷ (r ∷ rs)
unfolding insert
insert-put a b r rs h k = rw (le-ltb (r.«end» + 1) a h, insert, lt-ltb (b + 1) r.start k)

-- insert joins a .. b with a first run that it touches
pub insert-join : (a b : ℕ) (r : Run) (rs : List Run) → a ≤ r.«end» + 1 → r.start ≤ b + 1 → insert a b (r ∷ rs) ≡ insert (min a r.start) (max b r.«end») rs
unfolding insert
insert-join a b r rs h k = rw (le-ltb (r.«end» + 1) a h, insert, le-ltb (b + 1) r.start k)

-- insert keeps a list canonical
pub insert-canon : (total k a b : ℕ) (rs : List Run) → Canon total k rs → k ≤ a → a ≤ b → b < total → Canon total k (insert a b rs)
unfolding insert
insert-canon total k a b [] c h ab bt = (h, ab, bt, tt)
insert-canon total k a b (r ∷ rs) c h ab bt =
    go (λ p. insert-canon total (r.«end» + 2) a b rs c.3 p ab bt)
    (insert-canon total k (min a r.start) (max b r.«end») rs (canon-weaken total (r.«end» + 2) k rs (omega arith) c.3) (omega arith) (omega arith) (omega arith))
    (split (r.«end» + 1) a) (split (b + 1) r.start)
  where
    go : (r.«end» + 2 ≤ a → Canon total (r.«end» + 2) (insert a b rs)) → Canon total k (insert (min a r.start) (max b r.«end») rs)
        → (r.«end» + 1 < a) ⊎ (a ≤ r.«end» + 1) → (b + 1 < r.start) ⊎ (r.start ≤ b + 1) → Canon total k (insert a b (r ∷ rs))
    go skip join (inl p) q = rw (insert-skip a b r rs p) (c.0, c.1, c.2, skip (omega arith))
    go skip join (inr p) (inl q) = rw (insert-put a b r rs p q) (h, ab, bt, (omega arith, c.1, c.2, c.3))
    go skip join (inr p) (inr q) = rw (insert-join a b r rs p q) join

-- two stretches that touch are one
joined-inside : (a b c d x : ℕ) → a ≤ d + 1 → c ≤ b + 1 → a ≤ b → c ≤ d → inside (min a c) (max b d) x ≡ (inside a b x || inside c d x)
joined-inside a b c d x h k ab cd = go (place a b x) (place c d x)
  where
    go : Place a b x → Place c d x → inside (min a c) (max b d) x ≡ (inside a b x || inside c d x)
    go (within p q e) f = inside-yes (min a c) (max b d) x (omega arith) (omega arith) ∙ sym (ap (λ t. t || inside c d x) e)
    go (below p e) (within q s f) = inside-yes (min a c) (max b d) x (omega arith) (omega arith) ∙ sym (ap₂ ◌||◌ e f)
    go (above p e) (within q s f) = inside-yes (min a c) (max b d) x (omega arith) (omega arith) ∙ sym (ap₂ ◌||◌ e f)
    go (below p e) (below q f) = inside-below (min a c) (max b d) x (omega arith) ∙ sym (ap₂ ◌||◌ e f)
    go (above p e) (above q f) = inside-above (min a c) (max b d) x (omega arith) ∙ sym (ap₂ ◌||◌ e f)
    go (below p e) (above q f) = absurd (omega arith)
    go (above p e) (below q f) = absurd (omega arith)

-- the first two of three tests may change places
or_swap : (p q s : Bool) → (p || (q || s)) ≡ (q || (p || s))
or_swap p q s = sym (or_assoc p q s) ∙ ap (λ t. t || s) (or_comm p q) ∙ or_assoc q p s

-- the positions after insert are those before and a .. b
pub insert-mem : (total k a b : ℕ) (rs : List Run) (x : ℕ) → Canon total k rs → a ≤ b → mem (insert a b rs) x ≡ (inside a b x || mem rs x)
unfolding insert mem
insert-mem total k a b [] x c ab = refl
insert-mem total k a b (r ∷ rs) x c ab =
    go (insert-mem total (r.«end» + 2) a b rs x c.3 ab) (insert-mem total (r.«end» + 2) (min a r.start) (max b r.«end») rs x c.3 (omega arith))
    (split (r.«end» + 1) a) (split (b + 1) r.start)
  where
    go : mem (insert a b rs) x ≡ (inside a b x || mem rs x)
        → mem (insert (min a r.start) (max b r.«end») rs) x ≡ (inside (min a r.start) (max b r.«end») x || mem rs x)
        → (r.«end» + 1 < a) ⊎ (a ≤ r.«end» + 1) → (b + 1 < r.start) ⊎ (r.start ≤ b + 1) → mem (insert a b (r ∷ rs)) x ≡ (inside a b x || mem (r ∷ rs) x)
    go skip join (inl p) q =
        ap (λ t. mem t x) (insert-skip a b r rs p) ∙ ap (λ t. inside r.start r.«end» x || t) skip ∙ or_swap (inside r.start r.«end» x) (inside a b x) (mem rs x)
    go skip join (inr p) (inl q) = ap (λ t. mem t x) (insert-put a b r rs p q)
    go skip join (inr p) (inr q) =
        ap (λ t. mem t x) (insert-join a b r rs p q) ∙ join ∙ ap (λ t. t || mem rs x) (joined-inside a b r.start r.«end» x p q ab c.1)
        ∙ or_assoc (inside a b x) (inside r.start r.«end» x) (mem rs x)

-- ---- to false: clear keeps a list canonical
pub clear-canon : (total k a b : ℕ) (rs : List Run) → Canon total k rs → a ≤ b → Canon total k (clear a b rs)
unfolding clear
clear-canon total k a b [] c ab = tt
clear-canon total k a b (r ∷ rs) c ab = go (clear-canon total (r.«end» + 2) a b rs c.3 ab) (split r.start a) (split b r.«end»)
  where
    go : Canon total (r.«end» + 2) (clear a b rs) → (r.start < a) ⊎ (a ≤ r.start) → (b < r.«end») ⊎ (r.«end» ≤ b) → Canon total k (clear a b (r ∷ rs))
    go d (inl p) (inl q) = rw (lt-ltb r.start a p, lt-ltb b r.«end» q) (c.0, omega arith, omega arith, (omega arith, omega arith, c.2, d))
    go d (inl p) (inr q) =
        rw (lt-ltb r.start a p, le-ltb b r.«end» q) (c.0, omega arith, omega arith, canon-weaken total (r.«end» + 2) (min r.«end» (a - 1) + 2) (clear a b rs) (omega arith) d)
    go d (inr p) (inl q) = rw (le-ltb r.start a p, lt-ltb b r.«end» q) (omega arith, omega arith, c.2, d)
    go d (inr p) (inr q) = rw (le-ltb r.start a p, le-ltb b r.«end» q) (canon-weaken total (r.«end» + 2) k (clear a b rs) (omega arith) d)

-- the positions of cons_if are those of the list, and those of the run if the test holds
pub cons_if-mem : (t : Bool) (r : Run) (rs : List Run) (x : ℕ) → mem (cons_if t r rs) x ≡ ((t && inside r.start r.«end» x) || mem rs x)
unfolding mem
cons_if-mem true r rs x = refl
cons_if-mem false r rs x = refl

-- two tests that hold together hold each
pub and-holds : (p q : Bool) → (p && q) ≡ true → (p ≡ true) × (q ≡ true)
and-holds true q e = (refl, e)
and-holds false q e = absurd (false≢true e)

-- where the test for a .. b holds, x is one of them
pub inside-holds : (a b x : ℕ) → inside a b x ≡ true → (a ≤ x) × (x ≤ b)
inside-holds a b x e = let h = and-holds (leb a x) (leb x b) e in (leb-true a x h.0, leb-true x b h.1)

-- a stretch a .. b that is kept if p ≤ q has x exactly if t holds
pub piece_is : (p q a b x : ℕ) (t : Bool) → (p ≤ q → a ≤ x → x ≤ b → t ≡ true) → (t ≡ true → (p ≤ q) × (a ≤ x) × (x ≤ b)) → (leb p q && inside a b x) ≡ t
piece_is p q a b x true f g = let h = g refl in ap₂ ◌&&◌ (le-leb p q h.0) (inside-yes a b x h.1 h.2)
piece_is p q a b x false f g = go (leb p q && inside a b x) refl
  where
    go : (s : Bool) → (leb p q && inside a b x) ≡ s → s ≡ false
    go false e = refl
    go true e =
        let h = and-holds (leb p q) (inside a b x) e in
        let k = inside-holds a b x h.1 in
        sym (f (leb-true p q h.0) k.0 k.1)

-- such a stretch has x exactly if c .. d has
piece_inside : (p q a b c d x : ℕ) → (p ≤ q → a ≤ x → x ≤ b → (c ≤ x) × (x ≤ d)) → (c ≤ x → x ≤ d → (p ≤ q) × (a ≤ x) × (x ≤ b)) → (leb p q && inside a b x) ≡ inside c d x
piece_inside p q a b c d x f g =
    piece_is p q a b x (inside c d x) (λ h k l. let z = f h k l in inside-yes c d x z.0 z.1) (λ e. let z = inside-holds c d x e in g z.0 z.1)

-- such a stretch never has x
piece-none : (p q a b x : ℕ) → (p ≤ q → a ≤ x → x ≤ b → ⊥) → (leb p q && inside a b x) ≡ false
piece-none p q a b x f = piece_is p q a b x false (λ h k l. absurd (f h k l)) (λ e. absurd (false≢true e))

-- the positions after clear are those before without a .. b
pub clear-mem : (a b : ℕ) (rs : List Run) (x : ℕ) → a ≤ b → mem (clear a b rs) x ≡ cond (inside a b x) false (mem rs x)
unfolding clear mem
clear-mem a b [] x ab = go (inside a b x)
  where
    go : (t : Bool) → false ≡ cond t false false
    go true = refl
    go false = refl
clear-mem a b (r ∷ rs) x ab =
    cons_if-mem (ltb r.start a) (run r.start (min r.«end» (a - 1))) (cons_if (ltb b r.«end») (run (max r.start (b + 1)) r.«end») (clear a b rs)) x
    ∙ ap (λ t. low || t) (cons_if-mem (ltb b r.«end») (run (max r.start (b + 1)) r.«end») (clear a b rs) x)
    ∙ go (clear-mem a b rs x ab) (place a b x)
  where
    low : Bool
    low = ltb r.start a && inside r.start (min r.«end» (a - 1)) x

    high : Bool
    high = ltb b r.«end» && inside (max r.start (b + 1)) r.«end» x

    low-none : a ≤ x → low ≡ false
    low-none h = piece-none (suc r.start) a r.start (min r.«end» (a - 1)) x (omega arith)

    high-none : x ≤ b → high ≡ false
    high-none h = piece-none (suc b) r.«end» (max r.start (b + 1)) r.«end» x (omega arith)

    go : mem (clear a b rs) x ≡ cond (inside a b x) false (mem rs x) → Place a b x
        → (low || (high || mem (clear a b rs) x)) ≡ cond (inside a b x) false (inside r.start r.«end» x || mem rs x)
    go ih (within p q e) = rw (ih, e, low-none p, high-none q)
    go ih (below p e) = rw (ih, e, piece_inside (suc r.start) a r.start (min r.«end» (a - 1)) r.start r.«end» x (omega arith) (omega arith), high-none (omega arith))
    go ih (above p e) = rw (ih, e, low-none (omega arith), piece_inside (suc b) r.«end» (max r.start (b + 1)) r.«end» r.start r.«end» x (omega arith) (omega arith))

-- ---- to either: set_to keeps a list canonical
pub set_to-canon : (total a b : ℕ) (v : Bool) (rs : List Run) → Canon total 0 rs → a ≤ b → b < total → Canon total 0 (set_to v a b rs)
unfolding set_to
set_to-canon total a b true rs c ab bt = insert-canon total 0 a b rs c (omega arith) ab bt
set_to-canon total a b false rs c ab bt = clear-canon total 0 a b rs c ab

-- after set_to the positions a .. b have the value v, and the others the one that they had
pub set_to-mem : (total a b : ℕ) (v : Bool) (rs : List Run) (x : ℕ) → Canon total 0 rs → a ≤ b → mem (set_to v a b rs) x ≡ cond (inside a b x) v (mem rs x)
unfolding set_to
set_to-mem total a b true rs x c ab = insert-mem total 0 a b rs x c ab ∙ go (inside a b x)
  where
    go : (t : Bool) → (t || mem rs x) ≡ cond t true (mem rs x)
    go true = refl
    go false = refl
set_to-mem total a b false rs x c ab = clear-mem a b rs x ab

-- ---- a change of the n positions from a, by one of closed ranges that keeps the list canonical
module _ (total a n : ℕ) (f : ℕ → ℕ → List Run → List Run) (rs : List Run) (c : Canon total 0 rs)
    (canon : (b : ℕ) → a ≤ b → b < total → Canon total 0 (f a b rs)) where
  -- it keeps the list canonical too
  pub on_range-canon : Canon total 0 (on_range total a n f rs)
  unfolding on_range
  on_range-canon = go (split a (min (a + n) total))
    where
      go : (a < min (a + n) total) ⊎ (min (a + n) total ≤ a) → Canon total 0 (on_range total a n f rs)
      go (inl h) = rw (lt-ltb a (min (a + n) total) h, Canon) (canon (min (a + n) total - 1) (omega arith) (omega arith))
      go (inr h) = rw (le-ltb a (min (a + n) total) h, Canon) c

  -- if the change makes g of the value of each position of a closed range, it does so of the n positions from a
  pub on_range-mem : (g : Bool → Bool) (x : ℕ) → ((b : ℕ) → a ≤ b → b < total → mem (f a b rs) x ≡ cond (inside a b x) (g (mem rs x)) (mem rs x))
      → mem (on_range total a n f rs) x ≡ (ltb x total && cond (among a n x) (g (mem rs x)) (mem rs x))
  unfolding on_range
  on_range-mem g x p = go (split x total) (split a (min (a + n) total))
    where
      cut : x < total → a < min (a + n) total → leb x (min (a + n) total - 1) ≡ ltb x (a + n)
      cut k h = test (split x (a + n))
        where
          test : (x < a + n) ⊎ (a + n ≤ x) → leb x (min (a + n) total - 1) ≡ ltb x (a + n)
          test (inl l) = le-leb x (min (a + n) total - 1) (omega arith) ∙ sym (lt-ltb x (a + n) l)
          test (inr l) = lt-leb x (min (a + n) total - 1) (omega arith) ∙ sym (le-ltb x (a + n) l)

      none : x < total → min (a + n) total ≤ a → among a n x ≡ false
      none k h = test (split x a)
        where
          test : (x < a) ⊎ (a ≤ x) → among a n x ≡ false
          test (inl l) = among_below a n x l
          test (inr l) = among-above a n x (omega arith)

      go : (x < total) ⊎ (total ≤ x) → (a < min (a + n) total) ⊎ (min (a + n) total ≤ a)
          → mem (on_range total a n f rs) x ≡ (ltb x total && cond (among a n x) (g (mem rs x)) (mem rs x))
      go (inr k) s = mem-past total 0 (on_range total a n f rs) x on_range-canon k ∙ sym (rw (le-ltb x total k))
      go (inl k) (inl h) =
          rw (lt-ltb a (min (a + n) total) h, on_range, lt-ltb x total k) (p (min (a + n) total - 1) (omega arith) (omega arith)
          ∙ ap (λ t. cond (leb a x && t) (g (mem rs x)) (mem rs x)) (cut k h))
      go (inl k) (inr h) = rw (le-ltb a (min (a + n) total) h, on_range, lt-ltb x total k, none k h)

-- set_runs keeps a list canonical
pub set_runs-canon : (total a n : ℕ) (v : Bool) (rs : List Run) → Canon total 0 rs → Canon total 0 (set_runs total a n v rs)
unfolding set_runs
set_runs-canon total a n v rs c = on_range-canon total a n (set_to v) rs c (λ b h k. set_to-canon total a b v rs c h k)

-- after set_runs the positions are those of set_range, cut at total
pub set_runs-mem : (total a n : ℕ) (v : Bool) (rs : List Run) → Canon total 0 rs → (x : ℕ) → mem (set_runs total a n v rs) x ≡ (ltb x total && set_range a n v (mem rs) x)
unfolding set_runs set_range
set_runs-mem total a n v rs c x =
    on_range-mem total a n (set_to v) rs c (λ b h k. set_to-canon total a b v rs c h k) (λ _. v) x (λ b h k. set_to-mem total a b v rs x c h)
