-- Canonical run lists: their positions, and that equal positions mean equal lists. Assumes nothing.
use mathlib.Core.Path.{◌≡◌, refl, sym, ap, ap₂, ◌∙◌}
use mathlib.Core.Logic.{◌⊎◌, inl, inr}
use mathlib.Core.Bool.{true, false, ◌||◌, true≢false, false≢true}
use mathlib.Core.List.{List, [], ◌∷◌, ◌++◌}
use Prim.Native.Nat.{ℕ, suc, ◌+◌, ◌-◌, ◌≤◌, ◌<◌}
use native.Mathlib.Nat.{le_antisymm}
use native.Mathlib.Omega.{arith}
use Rattle.model.specs.declared.Run.{Run}
use Rattle.model.proofs.Numbers.{split}
use Rattle.model.specs.Positions.{Positions, count, mem}
use Rattle.model.proofs.Counting.{inside-yes, inside-below, inside-above, count_cut, count-all, count_none, count-cong}
use Rattle.model.specs.RunList.{Canon, TouchesNone}

pub mem-in : (r : Run) (rs : List Run) (x : ℕ) → r.start ≤ x → x ≤ r.«end» → mem (r ∷ rs) x ≡ true
unfolding mem
mem-in r rs x h k = rw (inside-yes r.start r.«end» x)

pub mem-above : (r : Run) (rs : List Run) (x : ℕ) → r.«end» < x → mem (r ∷ rs) x ≡ mem rs x
unfolding mem
mem-above r rs x h = ap (λ t. t || mem rs x) (inside-above r.start r.«end» x h)

pub mem-under : (r : Run) (rs : List Run) (x : ℕ) → x < r.start → mem (r ∷ rs) x ≡ mem rs x
unfolding mem
mem-under r rs x h = ap (λ t. t || mem rs x) (inside-below r.start r.«end» x h)

pub mem_below : (total k : ℕ) (rs : List Run) (x : ℕ) → Canon total k rs → x < k → mem rs x ≡ false
unfolding mem
mem_below total k [] x c h = refl
mem_below total k (r ∷ rs) x c h =
    mem-under r rs x (omega arith) ∙ mem_below total (r.«end» + 2) rs x c.3 (omega arith)

pub mem-before : (total k : ℕ) (r : Run) (rs : List Run) (x : ℕ) → Canon total k (r ∷ rs) → x < r.start → mem (r ∷ rs) x ≡ false
mem-before total k r rs x c h = mem-under r rs x h ∙ mem_below total (r.«end» + 2) rs x c.3 (omega arith)

pub mem-past : (total k : ℕ) (rs : List Run) (x : ℕ) → Canon total k rs → total ≤ x → mem rs x ≡ false
unfolding mem
mem-past total k [] x c h = refl
mem-past total k (r ∷ rs) x c h = mem-above r rs x (omega arith) ∙ mem-past total (r.«end» + 2) rs x c.3 h

pub canon-weaken : (total k l : ℕ) (rs : List Run) → l ≤ k → Canon total k rs → Canon total l rs
canon-weaken total k l [] h c = tt
canon-weaken total k l (r ∷ rs) h c = (omega arith, c.1, c.2, c.3)

pub canon-wider : (t total k : ℕ) (rs : List Run) → t ≤ total → Canon t k rs → Canon total k rs
canon-wider t total k [] h c = tt
canon-wider t total k (r ∷ rs) h c = (c.0, c.1, omega (arith, c.2), canon-wider t total (r.«end» + 2) rs h c.3)

-- ---- runs that a range does not touch
-- where none of a list is touched, the one in its midst is not
pub touch-within : (s e : ℕ) (xs : List Run) (r : Run) (ys : List Run) → TouchesNone s e (xs ++ r ∷ ys) → (r.«end» + 1 < s) ⊎ (e + 1 < r.start)
touch-within s e [] r ys t = t.0
touch-within s e (x ∷ xs) r ys t = touch-within s e xs r ys t.1

-- none is of two lists, where none is of either
pub touch-both : (s e : ℕ) (xs ys : List Run) → TouchesNone s e xs → TouchesNone s e ys → TouchesNone s e (xs ++ ys)
touch-both s e [] ys p q = q
touch-both s e (x ∷ xs) ys p q = (p.0, touch-both s e xs ys p.1 q)

-- and none of either, where none is of both
pub touch-parts : (s e : ℕ) (xs ys : List Run) → TouchesNone s e (xs ++ ys) → TouchesNone s e xs × TouchesNone s e ys
touch-parts s e [] ys p = (tt, p)
touch-parts s e (x ∷ xs) ys p = let q = touch-parts s e xs ys p.1 in ((p.0, q.0), q.1)

-- ---- one canonical list for one set of positions
run-path : (r s : Run) → r.start ≡ s.start → r.«end» ≡ s.«end» → r ≡ s
run-path r s p q = λ i. record { start = p i; «end» = q i }

Agree : ℕ → List Run → List Run → Type 0
Agree total rs ss = (x : ℕ) → x < total → mem rs x ≡ mem ss x

lo-le : (total k l : ℕ) (r s : Run) (rs ss : List Run) → Canon total k (r ∷ rs) → Canon total l (s ∷ ss)
    → ((x : ℕ) → x < total → mem (r ∷ rs) x ≡ mem (s ∷ ss) x) → s.start ≤ r.start
lo-le total k l r s rs ss c d e = go (split r.start s.start)
  where
    go : (r.start < s.start) ⊎ (s.start ≤ r.start) → s.start ≤ r.start
    go (inl h) = absurd (true≢false (sym (mem-in r rs r.start (omega arith) (omega arith)) ∙ e r.start (omega arith) ∙ mem-before total l s ss r.start d h))
    go (inr h) = h

hi-le : (total k l : ℕ) (r s : Run) (rs ss : List Run) → Canon total k (r ∷ rs) → Canon total l (s ∷ ss)
    → ((x : ℕ) → x < total → mem (r ∷ rs) x ≡ mem (s ∷ ss) x) → r.start ≡ s.start → s.«end» ≤ r.«end»
hi-le total k l r s rs ss c d e q = go (split r.«end» s.«end»)
  where
    go : (r.«end» < s.«end») ⊎ (s.«end» ≤ r.«end») → s.«end» ≤ r.«end»
    go (inl h) =
        absurd (false≢true (sym (mem-above r rs (suc r.«end») (omega arith) ∙ mem_below total (r.«end» + 2) rs (suc r.«end») c.3 (omega arith))
        ∙ e (suc r.«end») (omega arith) ∙ mem-in s ss (suc r.«end») (omega arith) (omega arith)))
    go (inr h) = h

pub unique : (total k l : ℕ) (rs ss : List Run) → Canon total k rs → Canon total l ss → ((x : ℕ) → x < total → mem rs x ≡ mem ss x) → rs ≡ ss
unfolding mem
unique total k l [] [] c d e = refl
unique total k l [] (s ∷ ss) c d e = absurd (false≢true (e s.start (omega arith) ∙ mem-in s ss s.start (omega arith) (omega arith)))
unique total k l (r ∷ rs) [] c d e = absurd (true≢false (sym (mem-in r rs r.start (omega arith) (omega arith)) ∙ e r.start (omega arith)))
unique total k l (r ∷ rs) (s ∷ ss) c d e =
    let e' : (x : ℕ) → x < total → mem (s ∷ ss) x ≡ mem (r ∷ rs) x = λ x h. sym (e x h) in
    let p : r.start ≡ s.start = le_antisymm (lo-le total l k s r ss rs d c e') (lo-le total k l r s rs ss c d e) in
    let q : r.«end» ≡ s.«end» = le_antisymm (hi-le total l k s r ss rs d c e' (sym p)) (hi-le total k l r s rs ss c d e p) in
    ap₂ {C = List Run} (λ t ts. t ∷ ts) (run-path r s p q) (unique total (r.«end» + 2) (s.«end» + 2) rs ss c.3 d.3 (λ x h. go x h q (split r.«end» x)))
  where
    go : (x : ℕ) → x < total → r.«end» ≡ s.«end» → (r.«end» < x) ⊎ (x ≤ r.«end») → mem rs x ≡ mem ss x
    go x h q (inl g) = sym (mem-above r rs x g) ∙ e x h ∙ mem-above s ss x (omega arith)
    go x h q (inr g) = mem_below total (r.«end» + 2) rs x c.3 (omega arith) ∙ sym (mem_below total (s.«end» + 2) ss x d.3 (omega arith))

-- ---- the count of all held positions
unfoldable pub widths : List Run → ℕ
widths [] = 0
widths (r ∷ rs) = (r.«end» + 1 - r.start) + widths rs

pub count-mem : (total k : ℕ) (rs : List Run) (a n : ℕ) → Canon total k rs → a ≤ k → a + n ≡ total → count (mem rs) true a n ≡ widths rs
unfolding widths mem
count-mem total k [] a n c h e = count_none (mem []) true a n (λ x _ _. refl)
count-mem total k (r ∷ rs) a n c h e =
    let P : Positions = mem (r ∷ rs) in
    let w : ℕ = r.«end» + 1 - r.start in
    let q : ℕ = total - (r.«end» + 1) in
    let one : count P true a n ≡ count P true a (r.start - a) + count P true r.start (w + q) = count_cut P true a n (r.start - a) r.start (w + q) (omega arith) (omega arith) in
    let two : count P true r.start (w + q) ≡ count P true r.start w + count P true (r.«end» + 1) q = count_cut P true r.start (w + q) w (r.«end» + 1) q refl (omega arith) in
    let under : count P true a (r.start - a) ≡ 0 = count_none P true a (r.start - a) (λ x _ l. mem-before total k r rs x c (omega arith)) in
    let within : count P true r.start w ≡ w = count-all P true r.start w (λ x g l. mem-in r rs x g (omega arith)) in
    let tail : count P true (r.«end» + 1) q ≡ count (mem rs) true (r.«end» + 1) q = count-cong P (mem rs) true (r.«end» + 1) q (λ x g _. mem-above r rs x (omega arith)) in
    let rest = count-mem total (r.«end» + 2) rs (r.«end» + 1) q c.3 (omega arith) (omega arith) in
    one ∙ rw (under, two, within, tail, rest) (omega arith)
