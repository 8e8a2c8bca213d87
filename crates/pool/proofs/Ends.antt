-- The first and the last held position: of a canonical list, of a set, and of a set turned by an offset. Each is pinned down by what
-- is held and by what is not, so that code shows just these. Assumes nothing.
use Rattle.pool.proofs.Base.{◌≡◌, ℕ, ◌+◌, ◌<◌, ◌≤◌, Bool, true, false, ◌⊎◌, List, [], ◌∷◌, sym, refl, ◌∙◌, subst, inl, inr, arith, Run, size, split, Positions, held_runs, mem, held_runs-is}
use Rattle.pool.proofs.Base.{Canon, mem-in, mem-above, mem-before, physical_of, logical_of, turned, first_of, last_of}
use Rattle.std.proofs.Common.{true≢false}
use Rattle.model.proofs.Runs.{held_runs-canon, mem-held_runs}
use Rattle.pool.proofs.Conversions.{logical-physical}
use Rattle.pool.proofs.Turn.{turned-at, turned-logical}

-- what is and is not
pub clash : {A : Type 0} {b : Bool} → b ≡ true → b ≡ false → A
clash p q = absurd (true≢false (sym p ∙ q))

-- nothing is in no runs
pub empty-mem : (x : ℕ) → mem [] x ≡ false
unfolding mem
empty-mem x = refl

-- ---- of a canonical list
-- what is held, with nothing held below it, is first
pub first_of-is : (total k : ℕ) (rs : List Run) (x : ℕ) → Canon total k rs → mem rs x ≡ true → ((y : ℕ) → y < x → mem rs y ≡ false) → first_of rs ≡ x
first_of-is total k [] x c h f = clash h (empty-mem x)
first_of-is total k (r ∷ rs) x c h f = go (split x r.start) (split r.start x)
  where
    go : (x < r.start) ⊎ (r.start ≤ x) → (r.start < x) ⊎ (x ≤ r.start) → r.start ≡ x
    go (inl p) q = clash h (mem-before total k r rs x c p)
    go (inr p) (inl q) = clash (mem-in r rs r.start (omega arith) c.1) (f r.start q)
    go (inr p) (inr q) = omega arith

-- what is held, with nothing held above it, is last
pub last_of-is : (total k : ℕ) (rs : List Run) (x : ℕ) → Canon total k rs → mem rs x ≡ true → ((y : ℕ) → x < y → y < total → mem rs y ≡ false) → last_of rs ≡ x
last_of-is total k [] x c h f = clash h (empty-mem x)
last_of-is total k (r ∷ []) x c h f = go (split x r.«end») (split r.«end» x)
  where
    go : (x < r.«end») ⊎ (r.«end» ≤ x) → (r.«end» < x) ⊎ (x ≤ r.«end») → r.«end» ≡ x
    go (inl p) q = clash (mem-in r [] r.«end» c.1 (omega arith)) (f r.«end» p c.2)
    go (inr p) (inl q) = clash h (mem-above r [] x q ∙ empty-mem x)
    go (inr p) (inr q) = omega arith
last_of-is total k (r ∷ (s ∷ rs)) x c h f = go (split r.«end» x) (λ p g. last_of-is total (r.«end» + 2) (s ∷ rs) x c.3 p g)
  where
    go : (r.«end» < x) ⊎ (x ≤ r.«end») → (mem (s ∷ rs) x ≡ true → ((y : ℕ) → x < y → y < total → mem (s ∷ rs) y ≡ false) → last_of (s ∷ rs) ≡ x)
        → last_of (s ∷ rs) ≡ x
    go (inl p) ih = ih (sym (mem-above r (s ∷ rs) x p) ∙ h) (λ y l t. sym (mem-above r (s ∷ rs) y (omega arith)) ∙ f y l t)
    go (inr p) ih =
        let l : r.«end» < s.start = omega (arith, c.3.0) in
        clash (mem-in s rs s.start (omega arith) c.3.1) (sym (mem-above r (s ∷ rs) s.start l) ∙ f s.start (omega arith) (omega (arith, c.3.1, c.3.2)))

-- the last position of a canonical list is not below the first, small, and held
last_of-held : (total k : ℕ) (r : Run) (rs : List Run) → Canon total k (r ∷ rs)
    → (r.start ≤ last_of (r ∷ rs)) × (last_of (r ∷ rs) < total) × (mem (r ∷ rs) (last_of (r ∷ rs)) ≡ true)
last_of-held total k r [] c = (c.1, c.2, mem-in r [] r.«end» c.1 (omega arith))
last_of-held total k r (s ∷ rs) c =
    let i = last_of-held total (r.«end» + 2) s rs c.3 in
    let l : r.«end» < last_of (s ∷ rs) = omega (arith, c.3.0, i.0) in
    (omega (arith, c.1), i.1, mem-above r (s ∷ rs) (last_of (s ∷ rs)) l ∙ i.2)

-- nothing is held above it
last_of-over : (total k : ℕ) (rs : List Run) (y : ℕ) → Canon total k rs → last_of rs < y → mem rs y ≡ false
last_of-over total k [] y c l = empty-mem y
last_of-over total k (r ∷ []) y c l = mem-above r [] y l ∙ empty-mem y
last_of-over total k (r ∷ (s ∷ rs)) y c l =
    let i = last_of-held total (r.«end» + 2) s rs c.3 in
    mem-above r (s ∷ rs) y (omega (arith, c.3.0, i.0)) ∙ last_of-over total (r.«end» + 2) (s ∷ rs) y c.3 l

-- ---- of a set
-- the first held position
pub held_first : (P : Positions) (x : ℕ) → x < size → P x ≡ true → ((y : ℕ) → y < x → P y ≡ false) → first_of (held_runs P) ≡ x
held_first P x h p f =
    first_of-is size 0 (held_runs P) x (held_runs-canon P) (mem-held_runs P x h ∙ p) (λ y l. mem-held_runs P y (omega arith) ∙ f y l)

-- the last held position
pub held-last : (P : Positions) (x : ℕ) → x < size → P x ≡ true → ((y : ℕ) → x < y → y < size → P y ≡ false) → last_of (held_runs P) ≡ x
held-last P x h p f =
    last_of-is size 0 (held_runs P) x (held_runs-canon P) (mem-held_runs P x h ∙ p) (λ y l t. mem-held_runs P y t ∙ f y l t)

-- none is held: no runs, and so 0 for both
pub held_none : (P : Positions) → ((y : ℕ) → y < size → P y ≡ false) → held_runs P ≡ []
held_none P f = held_runs-is P [] tt (λ x h. empty-mem x ∙ sym (f x h))

-- a is the first position of P, and b the last
pub record Ends (P : Positions) (a b : ℕ) : Type 0 where
  pub order : a ≤ b
  pub small : b < size
  pub first : P a ≡ true
  pub last : P b ≡ true
  pub under : (y : ℕ) → y < a → P y ≡ false
  pub over : (y : ℕ) → b < y → y < size → P y ≡ false

-- so of runs that hold what P holds, if they hold something
list-ends : (P : Positions) (rs : List Run) (x : ℕ) → Canon size 0 rs → ((y : ℕ) → y < size → mem rs y ≡ P y) → mem rs x ≡ true → Ends P (first_of rs) (last_of rs)
list-ends P [] x c f e = clash e (empty-mem x)
list-ends P (r ∷ rs) x c f e =
    let i = last_of-held size 0 r rs c in
    record {
      order = i.0;
      small = i.1;
      first = sym (f r.start (omega (arith, c.1, c.2))) ∙ mem-in r rs r.start (omega arith) c.1;
      last = sym (f (last_of (r ∷ rs)) i.1) ∙ i.2;
      under = λ y l. sym (f y (omega (arith, c.1, c.2))) ∙ mem-before size 0 r rs y c l;
      over = λ y l t. sym (f y t) ∙ last_of-over size 0 (r ∷ rs) y c l;
    }

-- the first and the last position of the runs of a set that holds x
pub held-ends : (P : Positions) (x : ℕ) → x < size → P x ≡ true → Ends P (first_of (held_runs P)) (last_of (held_runs P))
held-ends P x h p = list-ends P (held_runs P) x (held_runs-canon P) (mem-held_runs P) (mem-held_runs P x h ∙ p)

-- ---- of a turned set, by what is physically held
module _ (o : ℕ) (Q : Positions) (small : o < size) where
  -- nothing that comes logically before x is held
  pub turned-first : (x : ℕ) → x < size → Q x ≡ true → ((y : ℕ) → y < size → logical_of y o < logical_of x o → Q y ≡ false)
      → first_of (held_runs (turned o Q)) ≡ logical_of x o
  turned-first x h p f =
      held_first (turned o Q) (logical_of x o) (omega arith) (turned-logical o Q x h small ∙ p)
      (λ y l. turned-at o Q y (omega arith) ∙ f (physical_of y o) (omega arith) (subst (λ z. z < logical_of x o) (sym (logical-physical y o (omega arith) small)) l))

  -- nothing that comes logically after x is held
  pub turned-last : (x : ℕ) → x < size → Q x ≡ true → ((y : ℕ) → y < size → logical_of x o < logical_of y o → Q y ≡ false)
      → last_of (held_runs (turned o Q)) ≡ logical_of x o
  turned-last x h p f =
      held-last (turned o Q) (logical_of x o) (omega arith) (turned-logical o Q x h small ∙ p)
      (λ y l t. turned-at o Q y t ∙ f (physical_of y o) (omega arith) (subst (λ z. logical_of x o < z) (sym (logical-physical y o t small)) l))

  -- nothing is held
  pub turned_none : ((y : ℕ) → y < size → Q y ≡ false) → held_runs (turned o Q) ≡ []
  turned_none f = held_none (turned o Q) (λ y h. turned-at o Q y h ∙ f (physical_of y o) (omega arith))
