-- The next and the previous logical position of a value, from the physical ones. Logical positions from a to b lie at one physical range,
-- or at two; each of them is looked up where it lies, and the nearest one found is the one sought. Assumes nothing.
use Rattle.std.specs.Prelude.{Option, None, Some}
use Rattle.std.proofs.Common.{◌≡◌, ℕ, suc, ◌+◌, ◌-◌, ◌<◌, ◌≤◌, Bool, not, ◌⊎◌, sym, ◌∙◌, subst, inl, inr, arith}
use Rattle.model.specs.Numbers.{size}
use Rattle.model.proofs.Numbers.{split}
use Rattle.model.specs.Positions.{Positions}
use Rattle.pool.specs.Places.{physical_of, logical_of}
use Rattle.pool.specs.Layout.{turned}
use Rattle.reports.specs.Reports.{Next, Previous}
use Rattle.pool.proofs.Turn.{
  Lies,
  lies-from-to,
  turned-at,
  turned-logical,
  whole-move,
  parted-move-first,
  parted-move-second,
  parted-middle,
  parted-length,
  whole-last,
}

-- ---- turned positions
module _ {o a n s e : ℕ} (lies : Lies o a n s e) (Q : Positions) (v : Bool) where
  -- a whole range has no position of the value if its place has none
  none-whole : s ≤ e → ((y : ℕ) → s ≤ y → y ≤ e → Q y ≡ not v) → (z : ℕ) → a ≤ z → z < a + n → turned o Q z ≡ not v
  none-whole h f z l u = turned-at o Q z (omega arith) ∙ f (physical_of z o) (omega arith) (omega arith)

  -- a parted one if its two places have none
  none-parted : e < s → ((y : ℕ) → s ≤ y → y < size → Q y ≡ not v) → ((y : ℕ) → y ≤ e → Q y ≡ not v) → (z : ℕ) → a ≤ z → z < a + n
      → turned o Q z ≡ not v
  none-parted h f g z l u = turned-at o Q z (omega arith) ∙ go (split z o)
    where
      go : (z < o) ⊎ (o ≤ z) → Q (physical_of z o) ≡ not v
      go (inl k) = f (physical_of z o) (omega arith) (omega arith)
      go (inr k) = g (physical_of z o) (omega arith)

-- the logical position of p, from the first one's place on
near_first : {o a n s e : ℕ} → Lies o a n s e → (p : ℕ) → s ≤ p → p < size → (s ≤ e → p ≤ e) → logical_of p o ≡ a + (p - s)
near_first {o} {a} {n} {s} {e} lies p h l u = go (split e s)
  where
    go : (e < s) ⊎ (s ≤ e) → logical_of p o ≡ a + (p - s)
    go (inl k) = omega (arith, parted-move-first lies k p h l)
    go (inr k) = omega (arith, whole-move lies k p h (u k))

-- the sums of that, from the last one's place back, in a whole range
back_whole : (a n s e p y : ℕ) → s ≤ p → p ≤ e → 0 < n → p - s + a ≡ y → e ≡ s + n - 1 → y + (e - p) ≡ a + n - 1
back_whole a n s e p y h k l q r = omega arith

-- in a parted one
back-parted : (a n s e p y : ℕ) → p ≤ e → p - 0 + (a + (size - s)) ≡ y → n ≡ size - s + (e + 1) → y + (e - p) ≡ a + n - 1
back-parted a n s e p y h q r = omega arith

-- from the last one's place back
near_last : {o a n s e : ℕ} → Lies o a n s e → (p : ℕ) → p ≤ e → (s ≤ e → s ≤ p) → logical_of p o + (e - p) ≡ a + n - 1
near_last {o} {a} {n} {s} {e} lies p h u = go (split e s)
  where
    go : (e < s) ⊎ (s ≤ e) → logical_of p o + (e - p) ≡ a + n - 1
    go (inl k) = back-parted a n s e p (logical_of p o) h (parted-move-second lies k p h) (parted-length lies k)
    go (inr k) = back_whole a n s e p (logical_of p o) (u k) h lies.some (whole-move lies k p (u k) h) (whole-last lies k)

-- the place of a position past the first one
place-first : {o a n s e : ℕ} → Lies o a n s e → (z : ℕ) → a ≤ z → s + (z - a) < size → physical_of z o ≡ s + (z - a)
place-first lies z l u = omega arith

-- and of one before the last one
place-last : {o a n s e : ℕ} → Lies o a n s e → (z : ℕ) → z < a + n → a + n - 1 - z ≤ e → physical_of z o + (a + n - 1 - z) ≡ e
place-last lies z l u = omega arith

module _ {o a n s e : ℕ} (lies : Lies o a n s e) (Q : Positions) (v : Bool) where
  -- the next one is in the first place
  next-near : (p : ℕ) → Next Q v s (Some p) → (s ≤ e → p ≤ e) → Next (turned o Q) v a (Some (logical_of p o))
  next-near p m u =
      let q = near_first lies p m.0 m.1 u in (
        omega arith,
        omega arith,
        turned-logical o Q p m.1 lies.small ∙ m.2,
        λ z l k. let j = place-first lies z l (omega (arith, m.0, m.1)) in
            turned-at o Q z (omega arith) ∙ m.3 (physical_of z o) (omega arith) (omega (arith, m.0)),
      )

  -- or in the second place, and there is none in the first
  next-far : e < s → ((y : ℕ) → s ≤ y → y < size → Q y ≡ not v) → (p : ℕ) → Next Q v 0 (Some p) → p ≤ e → Next (turned o Q) v a (Some (logical_of p o))
  next-far h f p m u =
      let x = parted-middle lies h in
      let q : logical_of p o ≡ o + p = omega (arith, parted-length lies h) in (
        omega arith,
        omega arith,
        turned-logical o Q p m.1 lies.small ∙ m.2,
        λ z l k. turned-at o Q z (omega arith) ∙ go z l (omega arith) (split z o),
      )
    where
      go : (z : ℕ) → a ≤ z → z < o + p → (z < o) ⊎ (o ≤ z) → Q (physical_of z o) ≡ not v
      go z l k (inl i) = f (physical_of z o) (omega (arith, parted-middle lies h)) (omega arith)
      go z l k (inr i) = m.3 (physical_of z o) (omega arith) (omega (arith, lies.small, m.1))

  -- the previous one is in the last place
  previous-near : (p : ℕ) → Previous Q v e (Some p) → (s ≤ e → s ≤ p) → Previous (turned o Q) v (a + n - 1) (Some (logical_of p o))
  previous-near p m u =
      let q = near_last lies p m.0 u in (
        omega arith,
        turned-logical o Q p (omega (arith, m.0)) lies.small ∙ m.1,
        λ z l k. let j = place-last lies z (omega arith) (omega (arith, m.0)) in
            turned-at o Q z (omega arith) ∙ m.2 (physical_of z o) (omega (arith, m.0)) (omega arith),
      )

  -- or in the first place, and there is none in the last
  previous-far : e < s → ((y : ℕ) → y ≤ e → Q y ≡ not v) → (p : ℕ) → Previous Q v (size - 1) (Some p) → s ≤ p
      → Previous (turned o Q) v (a + n - 1) (Some (logical_of p o))
  previous-far h f p m u =
      let q = near_first lies p u (omega (arith, m.0)) (λ i. absurd (omega arith)) in (
        omega (arith, m.0, parted-middle lies h, parted-length lies h),
        turned-logical o Q p (omega (arith, m.0)) lies.small ∙ m.1,
        λ z l k. turned-at o Q z (omega arith) ∙ go z (omega arith) k (split z o),
      )
    where
      go : (z : ℕ) → a + (p - s) < z → z ≤ a + n - 1 → (z < o) ⊎ (o ≤ z) → Q (physical_of z o) ≡ not v
      go z l k (inl i) =
          let j = place-first lies z (omega arith) (omega (arith, parted-middle lies h)) in
          m.2 (physical_of z o) (omega arith) (omega arith)
      go z l k (inr i) = f (physical_of z o) (omega (arith, parted-middle lies h, parted-length lies h))

-- a search upwards found nothing up to e
abbrev pub Past : ℕ → Option ℕ → Type 0
Past e n = (n ≡ None) ⊎ ((p : ℕ) × (n ≡ Some p) × (e < p))

-- a search downwards found nothing down to s
abbrev pub Short : ℕ → Option ℕ → Type 0
Short s n = (n ≡ None) ⊎ ((p : ℕ) × (n ≡ Some p) × (p < s))

module _ (P : Positions) (v : Bool) where
  -- nothing of the value before what the search for it upwards finds
  pub none-next : {x e : ℕ} (n : Option ℕ) → Next P v x n → Past e n → (y : ℕ) → x ≤ y → y ≤ e → y < size → P y ≡ not v
  none-next {x} n m (inl q) y i j k = subst (Next P v x) q m y i k
  none-next {x} n m (inr u) y i j k = (subst (Next P v x) u.1 m).3 y i (omega (arith, u.2))

  -- nor behind what the search downwards finds
  pub none-previous : {x s : ℕ} (n : Option ℕ) → Previous P v x n → Short s n → (y : ℕ) → s ≤ y → y ≤ x → P y ≡ not v
  none-previous {x} n m (inl q) y i j = subst (Previous P v x) q m y j
  none-previous {x} n m (inr u) y i j = (subst (Previous P v x) u.1 m).2 y (omega (arith, u.2)) j

-- where the positions from x on lie
pub lies-from : {o x s e : ℕ} → x < size → o < size → s ≡ physical_of x o → e ≡ physical_of (size - 1) o → Lies o x (size - x) s e
lies-from {o} {x} {s} {e} l small es ee =
    subst (λ n. Lies o x n s e) (omega arith) (lies-from-to {b = size - 1} (omega arith) (omega arith) small es ee)

-- where the positions up to x lie
pub lies-upto : {o x s e : ℕ} → x < size → o < size → s ≡ physical_of 0 o → e ≡ physical_of x o → Lies o 0 (suc x) s e
lies-upto {o} {x} {s} {e} l small es ee = subst (λ n. Lies o 0 n s e) (omega arith) (lies-from-to {b = x} (omega arith) l small es ee)

-- a next position, as the code has it
next-is : (P : Positions) {x y z : ℕ} {v : Bool} → y ≡ z → Next P v x (Some z) → Next P v x (Some y)
next-is P {x} {y} {z} {v} d m = subst (λ j. Next P v x (Some j)) (sym d) m

-- a previous one
previous-is : (P : Positions) {x k y z : ℕ} {v : Bool} → k ≡ x → y ≡ z → Previous P v k (Some z) → Previous P v x (Some y)
previous-is P {x} {k} {y} {z} {v} c d m = subst (λ j. Previous P v j (Some y)) c (subst (λ j. Previous P v k (Some j)) (sym d) m)

-- ---- of the positions Q, turned by o
module _ (Q : Positions) {o : ℕ} where
  module _ {a n s e : ℕ} (v : Bool) (lies : Lies o a n s e) where
    -- no position of the value in a range, if there is none where it lies
    nowhere-whole : s ≤ e → ((y : ℕ) → s ≤ y → y ≤ e → Q y ≡ not v) → (z : ℕ) → a ≤ z → z < a + n → turned o Q z ≡ not v
    nowhere-whole i f = none-whole lies Q v i f

    -- the same where it lies at two ranges
    nowhere-parted : e < s → ((y : ℕ) → s ≤ y → y < size → Q y ≡ not v) → ((y : ℕ) → y ≤ e → Q y ≡ not v)
        → (z : ℕ) → a ≤ z → z < a + n → turned o Q z ≡ not v
    nowhere-parted i f g = none-parted lies Q v i f g

  -- ---- upwards
  module _ {x s e : ℕ} (v : Bool) (lies : Lies o x (size - x) s e) where
    -- found from x's place on
    pub next-first : {n : Option ℕ} {p y : ℕ} → Next Q v s n → n ≡ Some p → (s ≤ e → p ≤ e) → y ≡ logical_of p o
        → Next (turned o Q) v x (Some y)
    next-first {n} {p} t q u d = next-is (turned o Q) d (next-near lies Q v p (subst (Next Q v s) q t) u)

    -- not there, but found from 0 on
    pub next-second : {n m : Option ℕ} {p y : ℕ} → e < s → Next Q v s n → n ≡ None → Next Q v 0 m → m ≡ Some p → p ≤ e
        → y ≡ logical_of p o → Next (turned o Q) v x (Some y)
    next-second {n} {m} {p} i t q t' q' u d =
        next-is (turned o Q) d (next-far lies Q v i (subst (Next Q v s) q t) p (subst (Next Q v 0) q' t') u)

    -- not found, where the positions from x on lie at one range
    pub next-nowhere : {n : Option ℕ} → s ≤ e → Next Q v s n → Past e n → Next (turned o Q) v x None
    next-nowhere {n} i t u z j k =
        nowhere-whole v lies i (λ y b c. none-next Q v n t u y b c (omega arith))
        z j (omega arith)

    -- not found, where they lie at two
    pub next-nowhere-parted : {n m : Option ℕ} → e < s → Next Q v s n → n ≡ None → Next Q v 0 m → Past e m
        → Next (turned o Q) v x None
    next-nowhere-parted {n} {m} i t q t' u z j k =
        nowhere-parted v lies i (subst (Next Q v s) q t)
        (λ y b. none-next Q v m t' u y (omega arith) b (omega arith)) z j (omega arith)

  -- ---- downwards
  module _ {x s e : ℕ} (v : Bool) (lies : Lies o 0 (suc x) s e) where
    -- found from x's place back
    pub previous-first : {n : Option ℕ} {p y : ℕ} → Previous Q v e n → n ≡ Some p → (s ≤ e → s ≤ p) → y ≡ logical_of p o
        → Previous (turned o Q) v x (Some y)
    previous-first {n} {p} t q u d = previous-is (turned o Q) (omega arith) d (previous-near lies Q v p (subst (Previous Q v e) q t) u)

    -- not there, but found from M back
    pub previous-second : {n m : Option ℕ} {p y : ℕ} → e < s → Previous Q v e n → n ≡ None → Previous Q v (size - 1) m
        → m ≡ Some p → s ≤ p → y ≡ logical_of p o → Previous (turned o Q) v x (Some y)
    previous-second {n} {m} {p} i t q t' q' u d =
        previous-is (turned o Q) (omega arith) d (previous-far lies Q v i (subst (Previous Q v e) q t) p (subst (Previous Q v (size - 1)) q' t') u)

    -- not found, where the positions up to x lie at one range
    pub previous-nowhere : {n : Option ℕ} → s ≤ e → Previous Q v e n → Short s n → Previous (turned o Q) v x None
    previous-nowhere {n} i t u z k =
        nowhere-whole v lies i (none-previous Q v n t u) z (omega arith) (omega arith)

    -- not found, where they lie at two
    pub previous-nowhere-parted : {n m : Option ℕ} → e < s → Previous Q v e n → n ≡ None → Previous Q v (size - 1) m
        → Short s m → Previous (turned o Q) v x None
    previous-nowhere-parted {n} {m} i t q t' u z k =
        nowhere-parted v lies i
        (λ y b c. none-previous Q v m t' u y b (omega arith)) (subst (Previous Q v e) q t)
        z (omega arith) (omega arith)
