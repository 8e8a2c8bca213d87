-- What the plain searches find, for any positions: from the facts that a search ends with, from the runs of the range,
-- and the other way, what a found position is. Assumes nothing.
use Rattle.std.specs.Prelude.{Option, None, Some}
use mathlib.Core.Path.{◌≡◌, refl, sym, ap, ap₂, ◌∙◌}
use mathlib.Core.Logic.{◌⊎◌, inl, inr}
use mathlib.Core.Bool.{Bool, true, false, cond, not, beq}
use mathlib.Core.List.{List, [], ◌∷◌}
use Prim.Native.Nat.{ℕ, zero, suc, ◌+◌, ◌-◌, ◌≤◌, ◌<◌}
use native.Mathlib.Nat.{add-suc, suc-add, add-zero}
use native.Mathlib.Omega.{arith}
use lib.Dec.{ltb, eqb}
use borrow.Author.Tests.{lt-ltb, le-ltb, eqb-true}
use Rattle.model.specs.declared.Run.{Run}
use Rattle.model.proofs.Numbers.{split}
use Rattle.model.specs.Positions.{Positions, run, one_if, count, find, select, put_first, runs_in, first_run}
use Rattle.model.proofs.Counting.{beq-self, beq-not, beq-is}
use Rattle.model.proofs.Runs.{runs_in-canon}
use Rattle.model.specs.RunList.{Canon}
use Rattle.model.proofs.RunList.{widths}

-- ---- find
pub find_none : (P : Positions) (v : Bool) (a n : ℕ) → ((y : ℕ) → a ≤ y → y < a + n → P y ≡ not v) → find P v a n ≡ None
unfolding find
find_none P v a zero h = refl
find_none P v a (suc n) h =
    rw (h a (omega arith) (omega arith), beq-not v) (find_none P v (suc a) n (λ y k l. h y (omega arith) (omega arith)))

pub find-is : (P : Positions) (v : Bool) (a n x : ℕ) → a ≤ x → x < a + n → P x ≡ v → ((y : ℕ) → a ≤ y → y < x → P y ≡ not v) → find P v a n ≡ Some x
unfolding find
find-is P v a zero x ax xn e h = absurd (omega arith)
find-is P v a (suc n) x ax xn e h = go (λ l. find-is P v (suc a) n x l (omega arith) e (λ y k m. h y (omega arith) m)) (split a x)
  where
    go : (suc a ≤ x → find P v (suc a) n ≡ Some x) → (a < x) ⊎ (x ≤ a) → cond (beq (P a) v) (Some a) (find P v (suc a) n) ≡ Some x
    go ih (inl l) = rw (h a (omega arith) l, beq-not v) (ih l)
    go ih (inr l) = let q : a ≡ x = omega arith in rw (ap P q ∙ e, beq-self v) (ap Some q)

-- where none of the first m has the value, it is that of the rest
pub find_past : (P : Positions) (v : Bool) (a n m : ℕ) → ((y : ℕ) → a ≤ y → y < a + m → y < a + n → P y ≡ not v) → find P v a n ≡ find P v (a + m) (n - m)
unfolding find
find_past P v a n zero h = let e : n ≡ n - 0 = omega arith in ap₂ (find P v) (sym (add-zero a)) e
find_past P v a zero (suc m) h = sym (find_none P v (a + suc m) (zero - suc m) (λ y k l. absurd (omega arith)))
find_past P v a (suc n) (suc m) h =
    let e : suc a + m ≡ a + suc m = omega arith in
    let d : n - m ≡ suc n - suc m = omega arith in
    rw (h a (omega arith) (omega arith) (omega arith), beq-not v)
    (find_past P v (suc a) n m (λ y k l i. h y (omega arith) (omega arith) (omega arith)) ∙ ap₂ (find P v) e d)

-- ---- select, by the place m of the position in the range
pub select-is : (P : Positions) (v : Bool) (a n m k : ℕ) → m < n → P (a + m) ≡ v → count P v a m ≡ k → select P v a n k ≡ Some (a + m)
unfolding select count
select-is P v a zero m k mn e c = absurd (omega arith)
select-is P v a (suc n) zero zero mn e c = rw (ap P (sym (add-zero a)) ∙ e, beq-self v) (ap Some (sym (add-zero a)))
select-is P v a (suc n) zero (suc k) mn e c = absurd (omega arith)
select-is P v a (suc n) (suc m) k mn e c =
    go k (beq (P a) v) refl c (λ j d. select-is P v (suc a) n m j (omega arith) (ap P (suc-add a m ∙ sym (add-suc a m)) ∙ e) d)
  where
    move : Some (suc a + m) ≡ Some (a + suc m)
    move = ap Some (suc-add a m ∙ sym (add-suc a m))

    go : (k : ℕ) (b : Bool) → beq (P a) v ≡ b → one_if (beq (P a) v) + count P v (suc a) m ≡ k
        → ((j : ℕ) → count P v (suc a) m ≡ j → select P v (suc a) n j ≡ Some (suc a + m)) → select P v a (suc n) k ≡ Some (a + suc m)
    go zero true q d ih = absurd (omega (arith, rw q at d))
    go zero false q d ih = rw q (ih 0 (omega (arith, rw q at d)) ∙ move)
    go (suc k) true q d ih = rw q (ih k (omega (arith, rw q at d)) ∙ move)
    go (suc k) false q d ih = rw q (ih (suc k) (omega (arith, rw q at d)) ∙ move)

-- no more than k positions of the value: nothing to select
pub select-none : (P : Positions) (v : Bool) (a n k : ℕ) → count P v a n ≤ k → select P v a n k ≡ None
unfolding select count
select-none P v a zero k c = refl
select-none P v a (suc n) k c = go k (beq (P a) v) refl c (λ j d. select-none P v (suc a) n j d)
  where
    go : (k : ℕ) (b : Bool) → beq (P a) v ≡ b → one_if (beq (P a) v) + count P v (suc a) n ≤ k
        → ((j : ℕ) → count P v (suc a) n ≤ j → select P v (suc a) n j ≡ None) → select P v a (suc n) k ≡ None
    go zero true q d ih = absurd (omega (arith, rw q at d))
    go zero false q d ih = rw q (ih 0 (omega (arith, rw q at d)))
    go (suc k) true q d ih = rw q (ih k (omega (arith, rw q at d)))
    go (suc k) false q d ih = rw q (ih (suc k) (omega (arith, rw q at d)))

-- the other way: a selected position is in the range, has the value, and exactly k such positions precede it there
pub record Selected (P : Positions) (v : Bool) (a n k x : ℕ) : Type 0 where
  pub from : a ≤ x
  pub past : x < a + n
  pub has : P x ≡ v
  pub before : count P v a (x - a) ≡ k

selected-later : (P : Positions) (v : Bool) (a n j k x : ℕ) → one_if (beq (P a) v) + j ≡ k → Selected P v (suc a) n j x → Selected P v a (suc n) k x
unfolding count
selected-later P v a n j k x e s =
    let q : x - a ≡ suc (x - suc a) = omega (arith, s.from) in
    record {
      from = omega (arith, s.from);
      past = omega (arith, s.past);
      has = s.has;
      before = rw (q, s.before) e;
    }

pub select-only : (P : Positions) (v : Bool) (a n k x : ℕ) → select P v a n k ≡ Some x → Selected P v a n k x
unfolding select count
select-only P v a zero k x e = absurd (no e)
  where
    no : None ≡ Some x → ⊥
    no q = let z : ◌≡◌ {A = ℕ} 0 1 = cc in omega arith
select-only P v a (suc n) zero x e = go (beq (P a) v) refl e (λ q. select-only P v (suc a) n zero x q)
  where
    go : (b : Bool) → beq (P a) v ≡ b → cond b (Some a) (select P v (suc a) n zero) ≡ Some x
        → (select P v (suc a) n zero ≡ Some x → Selected P v (suc a) n zero x) → Selected P v a (suc n) zero x
    go true q f ih =
        let y : a ≡ x = cc in
        let z : x - a ≡ 0 = omega arith in
        record { from = omega arith; past = omega arith; has = ap P (sym y) ∙ beq-is (P a) v q; before = rw z }
    go false q f ih = selected-later P v a n zero zero x (ap (λ b. one_if b + 0) q) (ih f)
select-only P v a (suc n) (suc k) x e = go (beq (P a) v) refl e (λ q. select-only P v (suc a) n k x q) (λ q. select-only P v (suc a) n (suc k) x q)
  where
    go : (b : Bool) → beq (P a) v ≡ b → cond b (select P v (suc a) n k) (select P v (suc a) n (suc k)) ≡ Some x
        → (select P v (suc a) n k ≡ Some x → Selected P v (suc a) n k x) → (select P v (suc a) n (suc k) ≡ Some x → Selected P v (suc a) n (suc k) x)
        → Selected P v a (suc n) (suc k) x
    go true q f ih jh = selected-later P v a n k (suc k) x (ap (λ b. one_if b + k) q ∙ omega arith) (ih f)
    go false q f ih jh = selected-later P v a n (suc k) (suc k) x (ap (λ b. one_if b + suc k) q ∙ omega arith) (jh f)

-- ---- the reports, computed on the runs of the range
abbrev pub start_of : Option Run → Option ℕ
start_of None = None
start_of (Some r) = Some r.start

-- find is the start of the first run
put-start : (a : ℕ) (rs : List Run) → start_of (first_run (put_first a rs)) ≡ Some a
put-start a [] = refl
put-start a (r ∷ rs) = go (eqb r.start (suc a))
  where
    go : (b : Bool) → start_of (first_run (cond b (run a r.«end» ∷ rs) (run a a ∷ (r ∷ rs)))) ≡ Some a
    go true = refl
    go false = refl

pub find_runs : (P : Positions) (v : Bool) (a n : ℕ) → find P v a n ≡ start_of (first_run (runs_in P v a n))
unfolding find runs_in
find_runs P v a zero = refl
find_runs P v a (suc n) = go (beq (P a) v) (find_runs P v (suc a) n)
  where
    go : (b : Bool) → find P v (suc a) n ≡ start_of (first_run (runs_in P v (suc a) n))
        → cond b (Some a) (find P v (suc a) n) ≡ start_of (first_run (cond b (put_first a (runs_in P v (suc a) n)) (runs_in P v (suc a) n)))
    go true ih = sym (put-start a (runs_in P v (suc a) n))
    go false ih = ih

-- count is the sum of the widths
put-widths : (total a : ℕ) (rs : List Run) → Canon total (suc a) rs → widths (put_first a rs) ≡ 1 + widths rs
unfolding widths
put-widths total a [] c = omega arith
put-widths total a (r ∷ rs) c = go (eqb r.start (suc a)) refl
  where
    go : (b : Bool) → eqb r.start (suc a) ≡ b → widths (cond b (run a r.«end» ∷ rs) (run a a ∷ (r ∷ rs))) ≡ 1 + ((r.«end» + 1 - r.start) + widths rs)
    go true e = omega (arith, eqb-true r.start (suc a) e, c.1)
    go false e = omega arith

pub count_runs : (P : Positions) (v : Bool) (a n : ℕ) → count P v a n ≡ widths (runs_in P v a n)
unfolding count runs_in widths
count_runs P v a zero = refl
count_runs P v a (suc n) = go (beq (P a) v) (count_runs P v (suc a) n)
  where
    go : (b : Bool) → count P v (suc a) n ≡ widths (runs_in P v (suc a) n)
        → one_if b + count P v (suc a) n ≡ widths (cond b (put_first a (runs_in P v (suc a) n)) (runs_in P v (suc a) n))
    go true ih = omega (arith, put-widths (suc a + n) a (runs_in P v (suc a) n) (runs_in-canon P v (suc a + n) (suc a) n (omega arith)))
    go false ih = omega arith

-- select goes through the runs by their widths
unfoldable pub select_runs : List Run → ℕ → Option ℕ
select_runs [] k = None
select_runs (r ∷ rs) k = elim (ltb k (r.«end» + 1 - r.start)) [ true ↦ Some (r.start + k) | false ↦ select_runs rs (k - (r.«end» + 1 - r.start)) ]

select_runs-nil : (k : ℕ) → select_runs [] k ≡ None
unfolding select_runs
select_runs-nil k = refl

pub select_runs-in : (r : Run) (rs : List Run) (k : ℕ) → k < r.«end» + 1 - r.start → select_runs (r ∷ rs) k ≡ Some (r.start + k)
unfolding select_runs
select_runs-in r rs k h = rw (lt-ltb k (r.«end» + 1 - r.start) h, select_runs)

pub select_runs-past : (r : Run) (rs : List Run) (k : ℕ) → r.«end» + 1 - r.start ≤ k → select_runs (r ∷ rs) k ≡ select_runs rs (k - (r.«end» + 1 - r.start))
unfolding select_runs
select_runs-past r rs k h = rw (le-ltb k (r.«end» + 1 - r.start) h, select_runs)

put-select-zero : (total a : ℕ) (rs : List Run) → Canon total (suc a) rs → select_runs (put_first a rs) 0 ≡ Some a
put-select-zero total a [] c = select_runs-in (run a a) [] 0 (omega arith) ∙ ap Some (add-zero a)
put-select-zero total a (r ∷ rs) c = go (eqb r.start (suc a)) refl
  where
    go : (b : Bool) → eqb r.start (suc a) ≡ b → select_runs (cond b (run a r.«end» ∷ rs) (run a a ∷ (r ∷ rs))) 0 ≡ Some a
    go true e = select_runs-in (run a r.«end») rs 0 (omega (arith, eqb-true r.start (suc a) e, c.1)) ∙ ap Some (add-zero a)
    go false e = select_runs-in (run a a) (r ∷ rs) 0 (omega arith) ∙ ap Some (add-zero a)

put-select-suc : (total a : ℕ) (rs : List Run) (k : ℕ) → Canon total (suc a) rs → select_runs (put_first a rs) (suc k) ≡ select_runs rs k
put-select-suc total a [] k c = select_runs-past (run a a) [] (suc k) (omega arith) ∙ ap (select_runs []) (omega arith)
put-select-suc total a (r ∷ rs) k c = go (eqb r.start (suc a)) refl (split k (r.«end» + 1 - r.start))
  where
    go : (b : Bool) → eqb r.start (suc a) ≡ b → (k < r.«end» + 1 - r.start) ⊎ (r.«end» + 1 - r.start ≤ k)
        → select_runs (cond b (run a r.«end» ∷ rs) (run a a ∷ (r ∷ rs))) (suc k) ≡ select_runs (r ∷ rs) k
    go true e (inl h) =
        let q = eqb-true r.start (suc a) e in
        select_runs-in (run a r.«end») rs (suc k) (omega (arith, q)) ∙ ap Some (omega (arith, q)) ∙ sym (select_runs-in r rs k h)
    go true e (inr h) =
        let q = eqb-true r.start (suc a) e in
        select_runs-past (run a r.«end») rs (suc k) (omega (arith, q, c.1)) ∙ ap (select_runs rs) (omega (arith, q, c.1)) ∙ sym (select_runs-past r rs k h)
    go false e h = select_runs-past (run a a) (r ∷ rs) (suc k) (omega arith) ∙ ap (select_runs (r ∷ rs)) (omega arith)

pub select-runs : (P : Positions) (v : Bool) (a n k : ℕ) → select P v a n k ≡ select_runs (runs_in P v a n) k
unfolding select runs_in
select-runs P v a zero k = sym (select_runs-nil k)
select-runs P v a (suc n) zero = go (beq (P a) v) (select-runs P v (suc a) n zero)
  where
    go : (b : Bool) → select P v (suc a) n zero ≡ select_runs (runs_in P v (suc a) n) 0
        → cond b (Some a) (select P v (suc a) n zero) ≡ select_runs (cond b (put_first a (runs_in P v (suc a) n)) (runs_in P v (suc a) n)) 0
    go true ih = sym (put-select-zero (suc a + n) a (runs_in P v (suc a) n) (runs_in-canon P v (suc a + n) (suc a) n (omega arith)))
    go false ih = ih
select-runs P v a (suc n) (suc k) = go (beq (P a) v) (select-runs P v (suc a) n k) (select-runs P v (suc a) n (suc k))
  where
    go : (b : Bool) → select P v (suc a) n k ≡ select_runs (runs_in P v (suc a) n) k → select P v (suc a) n (suc k) ≡ select_runs (runs_in P v (suc a) n) (suc k)
        → cond b (select P v (suc a) n k) (select P v (suc a) n (suc k)) ≡ select_runs (cond b (put_first a (runs_in P v (suc a) n)) (runs_in P v (suc a) n)) (suc k)
    go true ih jh = ih ∙ sym (put-select-suc (suc a + n) a (runs_in P v (suc a) n) k (runs_in-canon P v (suc a + n) (suc a) n (omega arith)))
    go false ih jh = jh
