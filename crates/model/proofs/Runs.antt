-- The runs of a value in a range: the list is canonical and has exactly the positions of that value there, so whatever else is
-- canonical with these positions is that list. From it: ranges joined and cut, the first and last run, how many there are,
-- and the run around a position. Assumes nothing.
use Rattle.std.specs.Prelude.{Some}
use mathlib.Core.Path.{◌≡◌, refl, sym, ap, ap₂, ◌∙◌, subst}
use mathlib.Core.Logic.{◌⊎◌, inl, inr}
use mathlib.Core.Bool.{Bool, true, false, cond, not, ◌&&◌, ◌||◌, beq, or-false, true≢false}
use mathlib.Core.List.{List, [], ◌∷◌, ◌++◌}
use Prim.Native.Nat.{ℕ, zero, suc, ◌+◌, ◌-◌, ◌≤◌, ◌<◌}
use native.Mathlib.Nat.{add-zero, add-suc, suc-add}
use native.Mathlib.Omega.{arith}
use lib.Dec.{ltb, eqb}
use lib.ListN.{length}
use borrow.Author.Tests.{eqb-true, eqb-false, eq-eqb, ne_eqb}
use Rattle.model.specs.declared.Run.{Run}
use Rattle.model.specs.Numbers.{size}
use Rattle.model.proofs.Numbers.{split}
use Rattle.model.specs.Positions.{
  Positions,
  run,
  inside,
  among,
  one_if,
  put_first,
  runs_in,
  held_runs,
  stretches,
  first_run,
  last_after,
  last_run,
  run_with,
  run_at,
  mem,
}
use Rattle.model.proofs.Counting.{
  Place,
  below,
  within,
  above,
  place,
  inside-yes,
  inside-below,
  inside-above,
  among-yes,
  among_below,
  among-above,
  beq-self,
  beq-true,
  beq-not,
}
use Rattle.model.specs.RunList.{Canon}
use Rattle.model.proofs.RunList.{canon-weaken, mem_below, unique}

-- ---- the list is canonical
put-canon : (total k a : ℕ) (rs : List Run) → Canon total (suc a) rs → k ≤ a → a < total → Canon total k (put_first a rs)
put-canon total k a [] c h t = (h, omega arith, t, tt)
put-canon total k a (r ∷ rs) c h t = go (eqb r.start (suc a)) refl
  where
    go : (b : Bool) → eqb r.start (suc a) ≡ b → Canon total k (cond b (run a r.«end» ∷ rs) (run a a ∷ (r ∷ rs)))
    go true e = (h, omega (arith, c.0, c.1), c.2, c.3)
    go false e = (h, omega arith, t, (apart (split (suc a) r.start), c.1, c.2, c.3))
      where
        apart : (suc a < r.start) ⊎ (r.start ≤ suc a) → a + 2 ≤ r.start
        apart (inl g) = omega arith
        apart (inr g) = absurd (eqb-false r.start (suc a) e (omega (arith, c.0)))

pub runs_in-canon : (P : Positions) (v : Bool) (total a n : ℕ) → a + n ≤ total → Canon total a (runs_in P v a n)
unfolding runs_in
runs_in-canon P v total a zero h = tt
runs_in-canon P v total a (suc n) h = go (beq (P a) v) (runs_in-canon P v total (suc a) n (omega arith))
  where
    go : (b : Bool) → Canon total (suc a) (runs_in P v (suc a) n) → Canon total a (cond b (put_first a (runs_in P v (suc a) n)) (runs_in P v (suc a) n))
    go true c = put-canon total a a (runs_in P v (suc a) n) c (omega arith) (omega arith)
    go false c = canon-weaken total (suc a) a (runs_in P v (suc a) n) (omega arith) c

-- where the first position has the other value, the runs start after it; where the last one has, they end before it
pub runs_in-canon-after : (P : Positions) (v : Bool) (total a n : ℕ) → a + n ≤ total → P a ≡ not v → Canon total (suc a) (runs_in P v a n)
unfolding runs_in
runs_in-canon-after P v total a zero h e = tt
runs_in-canon-after P v total a (suc n) h e = rw (e, beq-not v) (runs_in-canon P v total (suc a) n (omega arith))

pub runs_in-canon-before : (P : Positions) (v : Bool) (a m : ℕ) → P (a + m) ≡ not v → Canon (a + m) a (runs_in P v a (suc m))
unfolding runs_in
runs_in-canon-before P v a zero e = rw (ap P (sym (add-zero a)) ∙ e, beq-not v) tt
runs_in-canon-before P v a (suc m) e =
    go (beq (P a) v)
    (subst (λ t. Canon t (suc a) (runs_in P v (suc a) (suc m))) (suc-add a m ∙ sym (add-suc a m)) (runs_in-canon-before P v (suc a) m (ap P (suc-add a m ∙ sym (add-suc a m)) ∙ e)))
  where
    go : (b : Bool) → Canon (a + suc m) (suc a) (runs_in P v (suc a) (suc m))
        → Canon (a + suc m) a (cond b (put_first a (runs_in P v (suc a) (suc m))) (runs_in P v (suc a) (suc m)))
    go true c = put-canon (a + suc m) a a (runs_in P v (suc a) (suc m)) c (omega arith) (omega arith)
    go false c = canon-weaken (a + suc m) (suc a) a (runs_in P v (suc a) (suc m)) (omega arith) c

-- ---- its positions
front-inside : (a b x : ℕ) → a < b → inside a b x ≡ (inside a a x || inside (suc a) b x)
front-inside a b x h = go (place a b x) (split a x)
  where
    go : Place a b x → (a < x) ⊎ (x ≤ a) → inside a b x ≡ (inside a a x || inside (suc a) b x)
    go (below p e) s = e ∙ sym (ap₂ ◌||◌ (inside-below a a x p) (inside-below (suc a) b x (omega arith)))
    go (above p e) s = e ∙ sym (ap₂ ◌||◌ (inside-above a a x (omega arith)) (inside-above (suc a) b x p))
    go (within p q e) (inl s) = e ∙ sym (ap₂ ◌||◌ (inside-above a a x s) (inside-yes (suc a) b x s q))
    go (within p q e) (inr s) = e ∙ sym (ap (λ t. t || inside (suc a) b x) (inside-yes a a x p s))

or_assoc : (p q s : Bool) → ((p || q) || s) ≡ (p || (q || s))
or_assoc true q s = refl
or_assoc false q s = refl

put-mem : (total a : ℕ) (rs : List Run) (x : ℕ) → Canon total (suc a) rs → mem (put_first a rs) x ≡ (inside a a x || mem rs x)
unfolding mem
put-mem total a [] x c = refl
put-mem total a (r ∷ rs) x c = go (eqb r.start (suc a)) refl
  where
    go : (b : Bool) → eqb r.start (suc a) ≡ b
        → mem (cond b (run a r.«end» ∷ rs) (run a a ∷ (r ∷ rs))) x ≡ (inside a a x || (inside r.start r.«end» x || mem rs x))
    go true e =
        let q : r.start ≡ suc a = eqb-true r.start (suc a) e in
        ap (λ t. t || mem rs x) (front-inside a r.«end» x (omega (arith, c.0, c.1)) ∙ ap (λ s. inside a a x || inside s r.«end» x) (sym q))
        ∙ or_assoc (inside a a x) (inside r.start r.«end» x) (mem rs x)
    go false e = refl

pub runs_in-mem : (P : Positions) (v : Bool) (a n x : ℕ) → mem (runs_in P v a n) x ≡ (among a n x && beq (P x) v)
unfolding runs_in mem
runs_in-mem P v a zero x = sym (ap (λ t. t && beq (P x) v) (go (split x a)))
  where
    go : (x < a) ⊎ (a ≤ x) → among a 0 x ≡ false
    go (inl h) = among_below a 0 x h
    go (inr h) = among-above a 0 x (omega arith)
runs_in-mem P v a (suc n) x = go (beq (P a) v) refl (split x a) (split a x) (runs_in-mem P v (suc a) n x)
  where
    rs : List Run
    rs = runs_in P v (suc a) n

    canonical : Canon (suc a + n) (suc a) rs
    canonical = runs_in-canon P v (suc a + n) (suc a) n (omega arith)

    off : x < a → mem rs x ≡ false
    off h = mem_below (suc a + n) (suc a) rs x canonical (omega arith)

    later : a < x → among (suc a) n x ≡ among a (suc n) x
    later h = ap₂ ◌&&◌ (borrow.Author.Tests.le-leb (suc a) x h ∙ sym (borrow.Author.Tests.le-leb a x (omega arith))) (ap (ltb x) (suc-add a n ∙ sym (add-suc a n)))

    go : (b : Bool) → beq (P a) v ≡ b → (x < a) ⊎ (a ≤ x) → (a < x) ⊎ (x ≤ a) → mem rs x ≡ (among (suc a) n x && beq (P x) v)
        → mem (cond b (put_first a rs) rs) x ≡ (among a (suc n) x && beq (P x) v)
    go true e (inl h) s ih =
        put-mem (suc a + n) a rs x canonical ∙ ap₂ ◌||◌ (inside-below a a x h) (off h) ∙ sym (ap (λ t. t && beq (P x) v) (among_below a (suc n) x h))
    go true e (inr h) (inl s) ih =
        put-mem (suc a + n) a rs x canonical ∙ ap (λ t. t || mem rs x) (inside-above a a x s) ∙ ih ∙ ap (λ t. t && beq (P x) v) (later s)
    go true e (inr h) (inr s) ih =
        put-mem (suc a + n) a rs x canonical ∙ ap (λ t. t || mem rs x) (inside-yes a a x h s)
        ∙ sym (ap₂ ◌&&◌ (among-yes a (suc n) x h (omega arith)) (ap (λ y. beq (P y) v) (omega arith) ∙ e))
    go false e (inl h) s ih = off h ∙ sym (ap (λ t. t && beq (P x) v) (among_below a (suc n) x h))
    go false e (inr h) (inl s) ih = ih ∙ ap (λ t. t && beq (P x) v) (later s)
    go false e (inr h) (inr s) ih =
        mem_below (suc a + n) (suc a) rs x canonical (omega arith)
        ∙ sym (ap₂ ◌&&◌ (among-yes a (suc n) x h (omega arith)) (ap (λ y. beq (P y) v) (omega arith) ∙ e))

-- ---- the key: a canonical list with the positions of the value v in the range is the list of its runs
pub runs_in-is : (P : Positions) (v : Bool) (a n : ℕ) (rs : List Run) → Canon (a + n) a rs
    → ((x : ℕ) → a ≤ x → x < a + n → mem rs x ≡ beq (P x) v) → runs_in P v a n ≡ rs
runs_in-is P v a n rs c f = unique (a + n) a a (runs_in P v a n) rs canonical c (λ x h. go x h (split x a))
  where
    canonical : Canon (a + n) a (runs_in P v a n)
    canonical = runs_in-canon P v (a + n) a n (omega arith)

    go : (x : ℕ) → x < a + n → (x < a) ⊎ (a ≤ x) → mem (runs_in P v a n) x ≡ mem rs x
    go x h (inl k) = mem_below (a + n) a (runs_in P v a n) x canonical k ∙ sym (mem_below (a + n) a rs x c k)
    go x h (inr k) = runs_in-mem P v a n x ∙ ap (λ t. t && beq (P x) v) (among-yes a n x k h) ∙ sym (f x k h)

-- where two sets agree, they have the same runs
pub runs_in-cong : (P Q : Positions) (v : Bool) (a n : ℕ) → ((x : ℕ) → a ≤ x → x < a + n → P x ≡ Q x) → runs_in P v a n ≡ runs_in Q v a n
runs_in-cong P Q v a n h =
    runs_in-is P v a n (runs_in Q v a n) (runs_in-canon Q v (a + n) a n (omega arith))
    (λ x k l. runs_in-mem Q v a n x ∙ ap (λ t. t && beq (Q x) v) (among-yes a n x k l) ∙ ap (λ t. beq t v) (sym (h x k l)))

-- no position of the value, no run
pub runs_in-none : (P : Positions) (v : Bool) (a n : ℕ) → ((x : ℕ) → a ≤ x → x < a + n → P x ≡ not v) → runs_in P v a n ≡ []
unfolding mem
runs_in-none P v a n h = runs_in-is P v a n [] tt (λ x k l. sym (ap (λ t. beq t v) (h x k l) ∙ beq-not v))

-- ---- ranges joined
pub canon-append : (t total k j : ℕ) (rs ss : List Run) → Canon t k rs → Canon total j ss → t < j → t ≤ total → k ≤ j → Canon total k (rs ++ ss)
canon-append t total k j [] ss c d h l m = canon-weaken total j k ss m d
canon-append t total k j (r ∷ rs) ss c d h l m =
    (c.0, c.1, omega (arith, c.2), canon-append t total (r.«end» + 2) j rs ss c.3 d h l (omega (arith, c.2)))

pub mem-append : (rs ss : List Run) (x : ℕ) → mem (rs ++ ss) x ≡ (mem rs x || mem ss x)
unfolding mem
mem-append [] ss x = refl
mem-append (r ∷ rs) ss x = ap (λ t. inside r.start r.«end» x || t) (mem-append rs ss x) ∙ sym (or_assoc (inside r.start r.«end» x) (mem rs x) (mem ss x))

among-left : (a m k x : ℕ) → a ≤ x → x < a + m → (b : Bool) → ((among a m x && b) || (among (a + m) k x && b)) ≡ b
among-left a m k x h l b = ap₂ (λ s t. (s && b) || (t && b)) (among-yes a m x h l) (among_below (a + m) k x l) ∙ or-false b

among-right : (a m k x : ℕ) → a + m ≤ x → x < a + m + k → (b : Bool) → ((among a m x && b) || (among (a + m) k x && b)) ≡ b
among-right a m k x h l b = ap₂ (λ s t. (s && b) || (t && b)) (among-above a m x h) (among-yes (a + m) k x h l)

-- two ranges side by side, where no run goes on from one into the other
pub runs_in-join : (P : Positions) (v : Bool) (a m k : ℕ) → (P (a + m) ≡ not v) ⊎ ((y : ℕ) → suc y ≡ a + m → a ≤ y → P y ≡ not v)
    → runs_in P v a (m + k) ≡ runs_in P v a m ++ runs_in P v (a + m) k
runs_in-join P v a m k seam =
    runs_in-is P v a (m + k) (runs_in P v a m ++ runs_in P v (a + m) k)
    (subst (λ t. Canon t a (runs_in P v a m ++ runs_in P v (a + m) k)) (omega arith) (canonical m seam))
    (λ x h l. mem-append (runs_in P v a m) (runs_in P v (a + m) k) x ∙ ap₂ ◌||◌ (runs_in-mem P v a m x) (runs_in-mem P v (a + m) k x)
    ∙ go x h l (split x (a + m)))
  where
    canonical : (m : ℕ) → (P (a + m) ≡ not v) ⊎ ((y : ℕ) → suc y ≡ a + m → a ≤ y → P y ≡ not v) → Canon (a + m + k) a (runs_in P v a m ++ runs_in P v (a + m) k)
    canonical m (inl e) =
        canon-append (a + m) (a + m + k) a (suc (a + m)) (runs_in P v a m) (runs_in P v (a + m) k) (runs_in-canon P v (a + m) a m (omega arith))
        (runs_in-canon-after P v (a + m + k) (a + m) k (omega arith) e) (omega arith) (omega arith) (omega arith)
    canonical zero (inr e) =
        subst (λ rs. Canon (a + 0 + k) a (rs ++ runs_in P v (a + 0) k)) (sym (runs_in-none P v a 0 (λ x h l. absurd (omega arith))))
        (canon-weaken (a + 0 + k) (a + 0) a (runs_in P v (a + 0) k) (omega arith) (runs_in-canon P v (a + 0 + k) (a + 0) k (omega arith)))
    canonical (suc m) (inr e) =
        canon-append (a + m) (a + suc m + k) a (a + suc m) (runs_in P v a (suc m)) (runs_in P v (a + suc m) k)
        (runs_in-canon-before P v a m (e (a + m) (omega arith) (omega arith)))
        (runs_in-canon P v (a + suc m + k) (a + suc m) k (omega arith)) (omega arith) (omega arith) (omega arith)

    go : (x : ℕ) → a ≤ x → x < a + (m + k) → (x < a + m) ⊎ (a + m ≤ x)
        → ((among a m x && beq (P x) v) || (among (a + m) k x && beq (P x) v)) ≡ beq (P x) v
    go x h l (inl g) = among-left a m k x h g (beq (P x) v)
    go x h l (inr g) = among-right a m k x g (omega arith) (beq (P x) v)

-- a range that is one run
pub runs_in-all : (P : Positions) (v : Bool) (a n : ℕ) → ((x : ℕ) → a ≤ x → x < a + suc n → P x ≡ v) → runs_in P v a (suc n) ≡ run a (a + n) ∷ []
unfolding mem
runs_in-all P v a n h =
    runs_in-is P v a (suc n) (run a (a + n) ∷ []) (omega arith, omega arith, omega arith, tt)
    (λ x k l. ap (λ t. t || false) (inside-yes a (a + n) x k (omega arith)) ∙ sym (ap (λ t. beq t v) (h x k l) ∙ beq-self v))

-- the first run: l .. h has the value, what is before it has not, and what follows it, if anything, has not
pub runs_in-first : (P : Positions) (v : Bool) (a n l h : ℕ) → a ≤ l → l ≤ h → h < a + n → ((y : ℕ) → a ≤ y → y < l → P y ≡ not v)
    → ((y : ℕ) → l ≤ y → y ≤ h → P y ≡ v) → (suc h < a + n → P (suc h) ≡ not v) → runs_in P v a n ≡ run l h ∷ runs_in P v (suc h) (a + n - suc h)
unfolding mem
runs_in-first P v a n l h al lh hn under same stop =
    runs_in-is P v a n (run l h ∷ rest) (al, lh, hn, canonical (split (suc h) (a + n))) (λ x s t. go x s t (place l h x))
  where
    k : ℕ
    k = a + n - suc h

    rest : List Run
    rest = runs_in P v (suc h) k

    canonical : (suc h < a + n) ⊎ (a + n ≤ suc h) → Canon (a + n) (h + 2) rest
    canonical (inl g) = subst (λ j. Canon (a + n) j rest) (omega arith) (runs_in-canon-after P v (a + n) (suc h) k (omega arith) (stop g))
    canonical (inr g) =
        subst (λ rs. Canon (a + n) (h + 2) rs) (sym (runs_in-none P v (suc h) k (λ x s t. absurd (omega arith)))) tt

    go : (x : ℕ) → a ≤ x → x < a + n → Place l h x → (inside l h x || mem rest x) ≡ beq (P x) v
    go x s t (below p e) =
        ap₂ ◌||◌ e (mem_below (a + n) (suc h) rest x (runs_in-canon P v (a + n) (suc h) k (omega arith)) (omega arith))
        ∙ sym (ap (λ b. beq b v) (under x s p) ∙ beq-not v)
    go x s t (within p q e) = ap (λ b. b || mem rest x) e ∙ sym (ap (λ b. beq b v) (same x p q) ∙ beq-self v)
    go x s t (above p e) =
        ap (λ b. b || mem rest x) e ∙ runs_in-mem P v (suc h) k x ∙ ap (λ b. b && beq (P x) v) (among-yes (suc h) k x p (omega arith))

pub first_run-is : (P : Positions) (v : Bool) (a n l h : ℕ) → a ≤ l → l ≤ h → h < a + n → ((y : ℕ) → a ≤ y → y < l → P y ≡ not v)
    → ((y : ℕ) → l ≤ y → y ≤ h → P y ≡ v) → (suc h < a + n → P (suc h) ≡ not v) → first_run (runs_in P v a n) ≡ Some (run l h)
first_run-is P v a n l h al lh hn under same stop = ap first_run (runs_in-first P v a n l h al lh hn under same stop)

-- the last run: the same from the other end
last_snoc : (rs : List Run) (r : Run) → last_run (rs ++ (r ∷ [])) ≡ Some r
last_snoc [] r = refl
last_snoc (s ∷ rs) r = ap Some (go s rs)
  where
    go : (s : Run) (rs : List Run) → last_after s (rs ++ (r ∷ [])) ≡ r
    go s [] = refl
    go s (t ∷ rs) = go t rs

pub runs_in-last : (P : Positions) (v : Bool) (a n l h : ℕ) → a ≤ l → l ≤ h → h < a + n → ((y : ℕ) → h < y → y < a + n → P y ≡ not v)
    → ((y : ℕ) → l ≤ y → y ≤ h → P y ≡ v) → ((y : ℕ) → a ≤ y → suc y ≡ l → P y ≡ not v) → runs_in P v a n ≡ runs_in P v a (l - a) ++ (run l h ∷ [])
runs_in-last P v a n l h al lh hn over same stop =
    let m : ℕ = l - a in
    let k : ℕ = a + n - l in
    let q : a + m ≡ l = omega arith in
    ap (runs_in P v a) (omega arith) ∙ runs_in-join P v a m k (inr (λ y e g. stop y g (omega arith)))
    ∙ ap (λ rs. runs_in P v a m ++ rs)
    (ap (λ j. runs_in P v j k) q
    ∙ runs_in-first P v l k l h (omega arith) lh (omega arith) (λ y s t. absurd (omega arith)) same (λ g. over (suc h) (omega arith) (omega arith))
    ∙ ap (λ rs. run l h ∷ rs) (runs_in-none P v (suc h) (l + k - suc h) (λ y s t. over y s (omega arith))))

pub last_run-is : (P : Positions) (v : Bool) (a n l h : ℕ) → a ≤ l → l ≤ h → h < a + n → ((y : ℕ) → h < y → y < a + n → P y ≡ not v)
    → ((y : ℕ) → l ≤ y → y ≤ h → P y ≡ v) → ((y : ℕ) → a ≤ y → suc y ≡ l → P y ≡ not v) → last_run (runs_in P v a n) ≡ Some (run l h)
last_run-is P v a n l h al lh hn over same stop =
    ap last_run (runs_in-last P v a n l h al lh hn over same stop) ∙ last_snoc (runs_in P v a (l - a)) (run l h)

-- ---- how many runs there are. A position that has the value and no such neighbour behind it in the range adds one
adds : Bool → Bool → ℕ
adds true true = 0
adds true false = 1
adds false t = 0

runs_in-length-step : (P : Positions) (v : Bool) (a n : ℕ)
    → length (runs_in P v a (suc (suc n))) ≡ adds (beq (P a) v) (beq (P (suc a)) v) + length (runs_in P v (suc a) (suc n))
unfolding runs_in adds
runs_in-length-step P v a n = go (beq (P a) v) (beq (P (suc a)) v) refl
  where
    rs : List Run
    rs = runs_in P v (suc (suc a)) n

    canonical : Canon (suc (suc a) + n) (suc (suc a)) rs
    canonical = runs_in-canon P v (suc (suc a) + n) (suc (suc a)) n (omega arith)

    joined : (rs : List Run) → length (put_first a (put_first (suc a) rs)) ≡ length (put_first (suc a) rs)
    joined [] = ap (λ b. length (cond b (run a (suc a) ∷ []) (run a a ∷ (run (suc a) (suc a) ∷ [])))) (eq-eqb (suc a) (suc a) refl)
    joined (r ∷ rs) = sub (eqb r.start (suc (suc a)))
      where
        sub : (b : Bool) → length (put_first a (cond b (run (suc a) r.«end» ∷ rs) (run (suc a) (suc a) ∷ (r ∷ rs)))) ≡ length (cond b (run (suc a) r.«end» ∷ rs) (run (suc a) (suc a) ∷ (r ∷ rs)))
        sub true = ap (λ b. length (cond b (run a r.«end» ∷ rs) (run a a ∷ (run (suc a) r.«end» ∷ rs)))) (eq-eqb (suc a) (suc a) refl)
        sub false = ap (λ b. length (cond b (run a (suc a) ∷ (r ∷ rs)) (run a a ∷ (run (suc a) (suc a) ∷ (r ∷ rs))))) (eq-eqb (suc a) (suc a) refl)

    alone : (rs : List Run) → Canon (suc (suc a) + n) (suc (suc a)) rs → length (put_first a rs) ≡ suc (length rs)
    alone [] c = refl
    alone (r ∷ rs) c = ap (λ b. length (cond b (run a r.«end» ∷ rs) (run a a ∷ (r ∷ rs)))) (ne_eqb r.start (suc a) (λ e. omega (arith, c.0)))

    go : (b d : Bool) → beq (P (suc a)) v ≡ d
        → length (cond b (put_first a (cond d (put_first (suc a) rs) rs)) (cond d (put_first (suc a) rs) rs)) ≡ adds b d + length (cond d (put_first (suc a) rs) rs)
    go true true e = joined rs ∙ omega arith
    go true false e = alone rs canonical ∙ omega arith
    go false true e = omega arith
    go false false e = omega arith

-- one position has a run or none
pub runs_in-length-one : (P : Positions) (v : Bool) (a : ℕ) → length (runs_in P v a 1) ≡ one_if (beq (P a) v)
unfolding runs_in
runs_in-length-one P v a = go (beq (P a) v)
  where
    go : (b : Bool) → length (cond b (run a a ∷ []) []) ≡ one_if b
    go true = refl
    go false = refl

adds-both : (b d : Bool) → adds b d + one_if (b && d) ≡ one_if b
unfolding adds
adds-both true true = refl
adds-both true false = refl
adds-both false d = refl

pub runs_in-length-join : (P : Positions) (v : Bool) (a m k : ℕ)
    → length (runs_in P v a (suc m + suc k)) + one_if (beq (P (a + m)) v && beq (P (suc (a + m))) v)
    ≡ length (runs_in P v a (suc m)) + length (runs_in P v (suc (a + m)) (suc k))
runs_in-length-join P v a zero k =
    let q : 1 + suc k ≡ suc (suc k) = omega arith in
    rw (q, add-zero a, runs_in-length-step P v a k, runs_in-length-one P v a) (omega (arith, adds-both (beq (P a) v) (beq (P (suc a)) v)))
runs_in-length-join P v a (suc m) k =
    let ih = runs_in-length-join P v (suc a) m k in
    let q : suc a + m ≡ a + suc m = omega arith in
    let ih' : length (runs_in P v (suc a) (suc m + suc k)) + one_if (beq (P (a + suc m)) v && beq (P (suc (a + suc m))) v)
    ≡ length (runs_in P v (suc a) (suc m)) + length (runs_in P v (suc (a + suc m)) (suc k)) =
    subst (λ x. length (runs_in P v (suc a) (suc m + suc k)) + one_if (beq (P x) v && beq (P (suc x)) v)
    ≡ length (runs_in P v (suc a) (suc m)) + length (runs_in P v (suc x) (suc k))) q ih in
    let one : length (runs_in P v a (suc (suc m) + suc k)) ≡ adds (beq (P a) v) (beq (P (suc a)) v) + length (runs_in P v (suc a) (suc m + suc k)) =
    ap (λ j. length (runs_in P v a j)) (omega arith) ∙ runs_in-length-step P v a (m + suc k)
    ∙ ap (λ j. adds (beq (P a) v) (beq (P (suc a)) v) + length (runs_in P v (suc a) j)) (omega arith) in
    let two = runs_in-length-step P v a m in
    omega (arith, ih', one, two)

-- ---- all held positions
pub held_runs-is : (P : Positions) (rs : List Run) → Canon size 0 rs → ((x : ℕ) → x < size → mem rs x ≡ P x) → held_runs P ≡ rs
unfolding held_runs
held_runs-is P rs c f =
    runs_in-is P true 0 size rs (subst (λ t. Canon t 0 rs) (omega arith) c) (λ x h l. f x (omega arith) ∙ sym (beq-true (P x)))

pub held_runs-mem : (rs : List Run) → Canon size 0 rs → held_runs (mem rs) ≡ rs
held_runs-mem rs c = held_runs-is (mem rs) rs c (λ x h. refl)

pub held_runs-canon : (P : Positions) → Canon size 0 (held_runs P)
unfolding held_runs
held_runs-canon P = runs_in-canon P true size 0 size (omega arith)

pub mem-held_runs : (P : Positions) (x : ℕ) → x < size → mem (held_runs P) x ≡ P x
unfolding held_runs
mem-held_runs P x h = runs_in-mem P true 0 size x ∙ ap (λ t. t && beq (P x) true) (among-yes 0 size x (omega arith) (omega arith)) ∙ beq-true (P x)

pub held_runs-cong : (P Q : Positions) → ((x : ℕ) → x < size → P x ≡ Q x) → held_runs P ≡ held_runs Q
unfolding held_runs
held_runs-cong P Q h = runs_in-cong P Q true 0 size (λ x k l. h x (omega arith))

pub stretches-cong : (P Q : Positions) → ((x : ℕ) → x < size → P x ≡ Q x) → stretches P ≡ stretches Q
unfolding stretches
stretches-cong P Q h = ap length (held_runs-cong P Q h)

pub stretches-is : (P : Positions) (rs : List Run) → Canon size 0 rs → ((x : ℕ) → x < size → mem rs x ≡ P x) → stretches P ≡ length rs
unfolding stretches
stretches-is P rs c f = ap length (held_runs-is P rs c f)

-- ---- the run around a position
run_with-join : (x : ℕ) (rs : List Run) (r : Run) (ss : List Run) → mem rs x ≡ false → inside r.start r.«end» x ≡ true → run_with x (rs ++ (r ∷ ss)) ≡ r
unfolding mem
run_with-join x [] r ss e f = ap (λ b. cond b r (run_with x ss)) f
run_with-join x (s ∷ rs) r ss e f = go (inside s.start s.«end» x) refl (λ g. run_with-join x rs r ss g f)
  where
    go : (b : Bool) → inside s.start s.«end» x ≡ b → (mem rs x ≡ false → run_with x (rs ++ (r ∷ ss)) ≡ r) → run_with x (s ∷ (rs ++ (r ∷ ss))) ≡ r
    go true q ih = absurd (true≢false (sym (ap (λ b. b || mem rs x) q) ∙ e))
    go false q ih = ap (λ b. cond b s (run_with x (rs ++ (r ∷ ss)))) q ∙ ih (sym (ap (λ b. b || mem rs x) q) ∙ e)

pub run_at-is : (P : Positions) (x l h : ℕ) → l ≤ x → x ≤ h → h < size → ((y : ℕ) → l ≤ y → y ≤ h → P y ≡ P x)
    → ((y : ℕ) → suc y ≡ l → P y ≡ not (P x)) → (suc h < size → P (suc h) ≡ not (P x)) → run_at P x ≡ run l h
unfolding run_at
run_at-is P x l h lx xh ht same low high =
    let v : Bool = P x in
    let whole : runs_in P v 0 size ≡ runs_in P v 0 l ++ (run l h ∷ runs_in P v (suc h) (0 + l + (size - l) - suc h)) =
    ap (runs_in P v 0) (omega arith) ∙ runs_in-join P v 0 l (size - l) (inr (λ y e g. low y (omega arith)))
    ∙ ap (λ rs. runs_in P v 0 l ++ rs) (runs_in-first P v (0 + l) (size - l) l h (omega arith) (omega arith) (omega arith) (λ y s t. absurd (omega arith)) same (λ g. high (omega arith))) in
    ap (run_with x) whole
    ∙ run_with-join x (runs_in P v 0 l) (run l h) (runs_in P v (suc h) (0 + l + (size - l) - suc h))
    (runs_in-mem P v 0 l x ∙ ap (λ t. t && beq (P x) v) (among-above 0 l x (omega arith))) (inside-yes l h x lx xh)
