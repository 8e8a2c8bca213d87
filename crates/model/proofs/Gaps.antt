-- The lowest gap, for any positions: what is passed over has no gap, n free positions are one, and on the runs of the free positions the lowest
-- gap is the start of the first run that is long enough. By the laws of find. Assumes nothing.
use Rattle.std.specs.Prelude.{Option, None, Some}
use mathlib.Core.Path.{◌≡◌, refl, sym, ap, ap₂, ◌∙◌}
use mathlib.Core.Logic.{◌⊎◌, inl, inr}
use mathlib.Core.Bool.{Bool, true, false, not, ◌&&◌, beq}
use mathlib.Core.List.{List, [], ◌∷◌}
use Prim.Native.Nat.{ℕ, suc, ◌+◌, ◌-◌, ◌≤◌, ◌<◌}
use native.Mathlib.Omega.{arith}
use lib.Dec.{leb, eqb}
use borrow.Author.Tests.{le-leb, lt-leb, eq-eqb, ne_eqb}
use Rattle.model.specs.declared.Run.{Run}
use Rattle.model.proofs.Numbers.{split}
use Rattle.model.specs.Positions.{Positions, count, find, runs_in, mem, gap}
use Rattle.model.proofs.Counting.{among-yes, count_cut, count-first, count_none}
use Rattle.model.proofs.Finds.{find-is, find_none, find_past}
use Rattle.model.proofs.Runs.{runs_in-canon, runs_in-mem}
use Rattle.model.specs.RunList.{Canon}
use Rattle.model.proofs.RunList.{mem-in, mem-above, mem_below, mem-before, canon-weaken}

-- one of the n positions from x on is held
abbrev pub Taken : Positions → ℕ → ℕ → Type 0
Taken P x n = (z : ℕ) × (x ≤ z) × (z < x + n) × (P z ≡ true)

-- the first of them is
held-here : (P : Positions) (x n : ℕ) → 1 ≤ n → P x ≡ true → Taken P x n
held-here P x n h e = (x, omega arith, omega arith, e)

-- a held position is counted
held-counted : (P : Positions) (x n z : ℕ) → x ≤ z → z < x + n → P z ≡ true → 1 ≤ count P true x n
held-counted P x n z l h e =
    omega (arith, count_cut P true x n (z - x) z (suc (x + n - suc z)) (omega arith) (omega arith), count-first P true z (x + n - suc z), one)
  where
    one : 1 ≤ count P true z (suc (x + n - suc z))
    one = rw (count-first P true z (x + n - suc z), e) (omega arith)

-- so a gap does not start where one of the n is held
taken-no : (P : Positions) (x n : ℕ) → Taken P x n → eqb (count P true x n) 0 ≡ false
taken-no P x n t = ne_eqb (count P true x n) 0 (λ e. omega (arith, held-counted P x n t.0 t.1 t.2 t.3))

module _ (P : Positions) (a k n : ℕ) where
  -- n free positions at the front are the lowest gap
  pub gap_here : n ≤ k → ((z : ℕ) → a ≤ z → z < a + n → P z ≡ false) → gap P a k n ≡ Some a
  unfolding gap
  gap_here h f =
      find-is (λ x. eqb (count P true x n) 0) true a (suc k - n) a (omega arith) (omega arith) (eq-eqb (count P true a n) 0 (count_none P true a n f))
      (λ y l m. absurd (omega arith))

  -- where none of the first m positions starts one, it is that of the rest
  gap-past : (m : ℕ) → m ≤ k → 1 ≤ n → ((y : ℕ) → a ≤ y → y < a + m → y + n ≤ a + k → Taken P y n) → gap P a k n ≡ gap P (a + m) (k - m) n
  unfolding gap
  gap-past m h one t =
      find_past (λ x. eqb (count P true x n) 0) true a (suc k - n) m (λ y i j l. taken-no P y n (t y i j (omega arith)))
      ∙ ap (find (λ x. eqb (count P true x n) 0) true (a + m)) (omega arith)

  -- where too few positions are left there is none
  pub gap-none : k < n → gap P a k n ≡ None
  unfolding gap
  gap-none h = find_none (λ x. eqb (count P true x n) 0) true a (suc k - n) (λ y i j. absurd (omega arith))

-- of the positions before e: where no gap starts from a to before b, the lowest from a on is the lowest from b on
pub gap_from : (P : Positions) (a b e n : ℕ) → a ≤ b → b ≤ e → 1 ≤ n → ((y : ℕ) → a ≤ y → y < b → y + n ≤ e → Taken P y n) → gap P a (e - a) n ≡ gap P b (e - b) n
gap_from P a b e n h l one t =
    let p : a + (b - a) ≡ b = omega arith in
    let q : e - a - (b - a) ≡ e - b = omega arith in
    gap-past P a (e - a) n (b - a) (omega arith) one (λ y i j m. t y i (omega arith) (omega arith)) ∙ ap₂ (λ x j. gap P x j n) p q

-- ---- on the runs of the free positions
-- the start of the first run that has at least n positions
unfoldable pub first_long : ℕ → List Run → Option ℕ
first_long n [] = None
first_long n (r ∷ rs) = elim (leb n (r.«end» + 1 - r.start)) [ true ↦ Some r.start | false ↦ first_long n rs ]

-- of no run there is none
first-nil : (n : ℕ) → first_long n [] ≡ None
unfolding first_long
first-nil n = refl

-- a first run that is long enough is it
first-long : (n : ℕ) (r : Run) (rs : List Run) → n ≤ r.«end» + 1 - r.start → first_long n (r ∷ rs) ≡ Some r.start
unfolding first_long
first-long n r rs h = rw (le-leb n (r.«end» + 1 - r.start) h, first_long)

-- a shorter one is passed over
first_short : (n : ℕ) (r : Run) (rs : List Run) → r.«end» + 1 - r.start < n → first_long n (r ∷ rs) ≡ first_long n rs
unfolding first_long
first_short n r rs h = rw (lt-leb n (r.«end» + 1 - r.start) h, first_long)

-- the runs of a list are the free positions from a to before e
abbrev Frees : Positions → ℕ → ℕ → List Run → Type 0
Frees P a e rs = (x : ℕ) → a ≤ x → x < e → P x ≡ not (mem rs x)

-- the lowest gap from a to before e: what lies before the first run is held, and what follows it too
gap-canon : (P : Positions) (a e n : ℕ) (rs : List Run) → a ≤ e → 1 ≤ n → Canon e a rs → Frees P a e rs → gap P a (e - a) n ≡ first_long n rs
gap-canon P a e n [] h one c f =
    gap_from P a e e n h (omega arith) one (λ y i j l. held-here P y n one (f y i j ∙ ap not (mem_below 0 (suc y) [] y tt (omega arith))))
    ∙ gap-none P e (e - e) n (omega arith) ∙ sym (first-nil n)
gap-canon P a e n (r ∷ rs) h one c f =
    gap_from P a r.start e n c.0 (omega (arith, c.1, c.2)) one
    (λ y i j l. held-here P y n one (f y i (omega arith) ∙ ap not (mem-before e a r rs y c j)))
    ∙ go (split (r.«end» + 1 - r.start) n)
    (gap-canon P (r.«end» + 1) e n rs (omega (arith, c.2)) one (canon-weaken e (r.«end» + 2) (r.«end» + 1) rs (omega arith) c.3)
    (λ x i j. f x (omega (arith, c.0, c.1)) j ∙ ap not (mem-above r rs x (omega arith))))
  where
    after : (y : ℕ) → r.start ≤ y → y < r.«end» + 1 → y + n ≤ e → r.«end» + 1 - r.start < n → Taken P y n
    after y i j l g = (
      r.«end» + 1,
      omega arith,
      omega arith,
      f (r.«end» + 1) (omega (arith, c.0)) (omega arith)
          ∙ ap not (mem-above r rs (r.«end» + 1) (omega arith) ∙ mem_below e (r.«end» + 2) rs (r.«end» + 1) c.3 (omega arith)),
    )

    go : (r.«end» + 1 - r.start < n) ⊎ (n ≤ r.«end» + 1 - r.start) → gap P (r.«end» + 1) (e - (r.«end» + 1)) n ≡ first_long n rs
        → gap P r.start (e - r.start) n ≡ first_long n (r ∷ rs)
    go (inl g) ih =
        gap_from P r.start (r.«end» + 1) e n (omega (arith, c.1)) (omega (arith, c.2)) one (λ y i j l. after y i j l g) ∙ ih ∙ sym (first_short n r rs g)
    go (inr g) ih =
        gap_here P r.start (e - r.start) n (omega (arith, c.1, c.2))
        (λ z i j. f z (omega (arith, c.0)) (omega (arith, c.1, c.2)) ∙ ap not (mem-in r rs z i (omega (arith, c.1))))
        ∙ sym (first-long n r rs g)

-- so it is the start of the first free run that is long enough
pub gap_runs : (P : Positions) (a k n : ℕ) → 1 ≤ n → gap P a k n ≡ first_long n (runs_in P false a k)
gap_runs P a k n one =
    ap (λ j. gap P a j n) (omega arith)
    ∙ gap-canon P a (a + k) n (runs_in P false a k) (omega arith) one (runs_in-canon P false (a + k) a k (omega arith))
    (λ x i j. twice (P x) ∙ ap not (sym (runs_in-mem P false a k x ∙ ap (λ t. t && beq (P x) false) (among-yes a k x i j))))
  where
    twice : (b : Bool) → b ≡ not (true && beq b false)
    twice true = refl
    twice false = refl
