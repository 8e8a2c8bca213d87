-- The runs of a value in a range, computed on a canonical list: its runs clipped to the range, and for the other value the gaps.
-- By uniqueness: the clipped list is canonical and has the same positions in the range. Assumes nothing.
use mathlib.Core.Path.{◌≡◌, refl, sym, ap, ap₂, ◌∙◌, subst}
use mathlib.Core.Logic.{◌⊎◌, inl, inr}
use mathlib.Core.Bool.{true, false, ◌||◌}
use mathlib.Core.List.{List, [], ◌∷◌}
use Prim.Native.Nat.{ℕ, ◌+◌, ◌-◌, ◌≤◌, ◌<◌, min, max}
use native.Mathlib.Omega.{arith}
use lib.Dec.{ltb}
use borrow.Author.Tests.{lt-ltb, le-ltb}
use Rattle.model.specs.declared.Run.{Run}
use Rattle.model.proofs.Numbers.{split}
use Rattle.model.specs.Positions.{run, inside, runs_in, mem}
use Rattle.model.proofs.Counting.{Place, below, within, above, place, inside-yes, inside-below, inside-above, beq-true}
use Rattle.model.proofs.Runs.{runs_in-is}
use Rattle.model.specs.RunList.{Canon}
use Rattle.model.proofs.RunList.{canon-weaken}

-- what is left of each run in the n positions from a
unfoldable pub clip : ℕ → ℕ → List Run → List Run
clip a n [] = []
clip a n (r ∷ rs) =
    elim (ltb (max r.start a) (min (r.«end» + 1) (a + n))) [
      | true ↦ run (max r.start a) (min (r.«end» + 1) (a + n) - 1) ∷ clip a n rs
      | false ↦ clip a n rs
    ]

pub clip-some : (a n : ℕ) (r : Run) (rs : List Run) → max r.start a < min (r.«end» + 1) (a + n)
    → clip a n (r ∷ rs) ≡ run (max r.start a) (min (r.«end» + 1) (a + n) - 1) ∷ clip a n rs
unfolding clip
clip-some a n r rs h = rw (lt-ltb (max r.start a) (min (r.«end» + 1) (a + n)) h, clip)

pub clip-none : (a n : ℕ) (r : Run) (rs : List Run) → min (r.«end» + 1) (a + n) ≤ max r.start a → clip a n (r ∷ rs) ≡ clip a n rs
unfolding clip
clip-none a n r rs h = rw (le-ltb (max r.start a) (min (r.«end» + 1) (a + n)) h, clip)

pub clip-canon : (total k a n : ℕ) (rs : List Run) → Canon total k rs → Canon (a + n) (max k a) (clip a n rs)
unfolding clip
clip-canon total k a n [] c = tt
clip-canon total k a n (r ∷ rs) c =
    go (clip-canon total (r.«end» + 2) a n rs c.3) (split (max r.start a) (min (r.«end» + 1) (a + n)))
  where
    go : Canon (a + n) (max (r.«end» + 2) a) (clip a n rs) → (max r.start a < min (r.«end» + 1) (a + n)) ⊎ (min (r.«end» + 1) (a + n) ≤ max r.start a)
        → Canon (a + n) (max k a) (clip a n (r ∷ rs))
    go d (inl h) =
        subst (Canon (a + n) (max k a)) (sym (clip-some a n r rs h)) (
          omega (arith, c.0),
          omega arith,
          omega arith,
          canon-weaken (a + n) (max (r.«end» + 2) a) (min (r.«end» + 1) (a + n) - 1 + 2) (clip a n rs) (omega arith) d,
        )
    go d (inr h) =
        subst (Canon (a + n) (max k a)) (sym (clip-none a n r rs h)) (canon-weaken (a + n) (max (r.«end» + 2) a) (max k a) (clip a n rs) (omega (arith, c.0, c.1)) d)

clip-inside : (a n s e x : ℕ) → a ≤ x → x < a + n → max s a < min (e + 1) (a + n) → inside (max s a) (min (e + 1) (a + n) - 1) x ≡ inside s e x
clip-inside a n s e x h l k = go (place s e x)
  where
    go : Place s e x → inside (max s a) (min (e + 1) (a + n) - 1) x ≡ inside s e x
    go (below p q) = inside-below (max s a) (min (e + 1) (a + n) - 1) x (omega arith) ∙ sym q
    go (above p q) = inside-above (max s a) (min (e + 1) (a + n) - 1) x (omega arith) ∙ sym q
    go (within p t q) = inside-yes (max s a) (min (e + 1) (a + n) - 1) x (omega arith) (omega arith) ∙ sym q

clip-outside : (a n s e x : ℕ) → a ≤ x → x < a + n → min (e + 1) (a + n) ≤ max s a → inside s e x ≡ false
clip-outside a n s e x h l k = go (place s e x)
  where
    go : Place s e x → inside s e x ≡ false
    go (below p q) = q
    go (above p q) = q
    go (within p t q) = absurd (omega arith)

pub clip-mem : (a n : ℕ) (rs : List Run) (x : ℕ) → a ≤ x → x < a + n → mem (clip a n rs) x ≡ mem rs x
unfolding clip mem
clip-mem a n [] x h l = refl
clip-mem a n (r ∷ rs) x h l = go (clip-mem a n rs x h l) (split (max r.start a) (min (r.«end» + 1) (a + n)))
  where
    go : mem (clip a n rs) x ≡ mem rs x → (max r.start a < min (r.«end» + 1) (a + n)) ⊎ (min (r.«end» + 1) (a + n) ≤ max r.start a)
        → mem (clip a n (r ∷ rs)) x ≡ (inside r.start r.«end» x || mem rs x)
    go ih (inl k) = ap (λ ss. mem ss x) (clip-some a n r rs k) ∙ ap₂ ◌||◌ (clip-inside a n r.start r.«end» x h l k) ih
    go ih (inr k) = ap (λ ss. mem ss x) (clip-none a n r rs k) ∙ ih ∙ sym (ap (λ t. t || mem rs x) (clip-outside a n r.start r.«end» x h l k))

-- the held runs in a range
pub clip-runs : (total k a n : ℕ) (rs : List Run) → Canon total k rs → runs_in (mem rs) true a n ≡ clip a n rs
clip-runs total k a n rs c =
    runs_in-is (mem rs) true a n (clip a n rs) (canon-weaken (a + n) (max k a) a (clip a n rs) (omega arith) (clip-canon total k a n rs c))
    (λ x h l. clip-mem a n rs x h l ∙ sym (beq-true (mem rs x)))
