-- Ranges: which positions are in them, by what their bounds allow, and what the steps of `normalize` tell. Assumes nothing.
use Rattle.std.specs.Prelude.{Option, None, Some}
use Prim.Native.Nat.{ℕ, ◌+◌, ◌-◌, ◌≤◌, ◌<◌}
use mathlib.Core.Path.{◌≡◌, refl, ap, ap₂, sym, ◌∙◌}
use mathlib.Core.Bool.{Bool, true, false, cond, ◌&&◌}
use native.Mathlib.Omega.{arith}
use lib.Dec.{leb, ltb}
use borrow.Author.Tests.{lt-ltb, le-ltb, ltb-true, ltb-false, le-leb, lt-leb}
use mathlib.Core.Logic.{◌⊎◌, inl, inr}
use Rattle.model.specs.Numbers.{size}
use Rattle.model.proofs.Numbers.{split}
use Rattle.model.specs.Ends.{Bound}
use Rattle.std.specs.declared.ops.Bound.TheVariants.{Included, Excluded, Unbounded}
use Rattle.model.specs.declared.Span.{Span}
use Rattle.model.specs.declared.Span.TheVariants.{Empty, Reversed, Closed}
use Rattle.model.specs.Range.{first_allowed, past_allowed, extent, edge_at, first_edge, edge_before, last_edge, reversed, span_of, First, Last}

-- which positions satisfy a lower and an upper bound
abbrev pub lower_allows : Bound → ℕ → Bool
lower_allows (Included v) x = leb v x
lower_allows (Excluded v) x = ltb v x
lower_allows Unbounded x = true

abbrev pub upper_allows : Bound → ℕ → Bool
upper_allows (Included v) x = leb x v
upper_allows (Excluded v) x = ltb x v
upper_allows Unbounded x = true

edge_in : (x : ℕ) → x < size → edge_at x ≡ Some x
edge_in x h = rw (lt-ltb x size h)

edge-out : (x : ℕ) → size ≤ x → edge_at x ≡ None
edge-out x h = rw (le-ltb x size h)

before-some : (x : ℕ) → 0 < x → edge_before x ≡ Some (x - 1)
before-some x h = rw (lt-ltb 0 x h)

-- what `first_of` and `last_of` promise
pub first-included : (l : Bound) (v : ℕ) → l ≡ Included v → v < size → First l (Some v)
first-included l v e h = record { edge = sym (ap first_edge e ∙ edge_in v h); within = omega (arith, ap first_allowed e) }

pub first-excluded : (l : Bound) (v : ℕ) → l ≡ Excluded v → v + 1 < size → First l (Some (v + 1))
first-excluded l v e h = record { edge = sym (ap first_edge e ∙ edge_in (v + 1) h); within = omega (arith, ap first_allowed e) }

pub first-nowhere : (l : Bound) (v : ℕ) → l ≡ Excluded v → v + 1 ≡ size → First l None
first-nowhere l v e h = record { edge = sym (ap first_edge e ∙ edge-out (v + 1) (omega arith)); within = omega (arith, ap first_allowed e) }

pub first-unbounded : (l : Bound) → l ≡ Unbounded → First l (Some 0)
first-unbounded l e = record { edge = sym (ap first_edge e); within = omega (arith, ap first_allowed e) }

pub last-included : (u : Bound) (v : ℕ) → u ≡ Included v → v < size → Last u (Some v)
last-included u v e h = record {
  edge = sym (ap last_edge e ∙ before-some (v + 1) (omega arith) ∙ ap Some (omega arith));
  within = omega (arith, ap past_allowed e);
}

pub last-excluded : (u : Bound) (v : ℕ) → u ≡ Excluded v → 0 < v → v < size → Last u (Some (v - 1))
last-excluded u v e h k = record { edge = sym (ap last_edge e ∙ before-some v h); within = omega (arith, ap past_allowed e) }

pub last-nowhere : (u : Bound) (v : ℕ) → u ≡ Excluded v → v ≡ 0 → Last u None
last-nowhere u v e h = record { edge = sym (ap last_edge (e ∙ ap Excluded h)); within = omega (arith, ap past_allowed e) }

pub last-unbounded : (u : Bound) → u ≡ Unbounded → Last u (Some (size - 1))
last-unbounded u e = record { edge = sym (ap last_edge e); within = omega (arith, ap past_allowed e) }

-- what the edges tell of the range
edge-at : (x a : ℕ) → edge_at x ≡ Some a → x ≡ a
edge-at x a e = go (ltb x size) e
  where
    go : (t : Bool) → cond t (Some x) None ≡ Some a → x ≡ a
    go true q = cc
    go false q = let z : ◌≡◌ {A = ℕ} 0 1 = cc in absurd (omega arith)

edge-nowhere : (x : ℕ) → edge_at x ≡ None → size ≤ x
edge-nowhere x e = go (ltb x size) refl e
  where
    go : (t : Bool) → ltb x size ≡ t → cond t (Some x) None ≡ None → size ≤ x
    go true p q = let z : ◌≡◌ {A = ℕ} 0 1 = cc in absurd (omega arith)
    go false p q = ltb-false x size p

before_at : (x b : ℕ) → edge_before x ≡ Some b → x ≡ b + 1
before_at x b e = go (ltb 0 x) refl e
  where
    go : (t : Bool) → ltb 0 x ≡ t → cond t (Some (x - 1)) None ≡ Some b → x ≡ b + 1
    go true p q = let y : x - 1 ≡ b = cc in omega (arith, ltb-true 0 x p)
    go false p q = let z : ◌≡◌ {A = ℕ} 0 1 = cc in absurd (omega arith)

before-nowhere : (x : ℕ) → edge_before x ≡ None → x ≡ 0
before-nowhere x e = go (ltb 0 x) refl e
  where
    go : (t : Bool) → ltb 0 x ≡ t → cond t (Some (x - 1)) None ≡ None → x ≡ 0
    go true p q = let z : ◌≡◌ {A = ℕ} 0 1 = cc in absurd (omega arith)
    go false p q = omega (arith, ltb-false 0 x p)

pub first-at : (l : Bound) (r : Option ℕ) (a : ℕ) → First l r → r ≡ Some a → first_allowed l ≡ a
first-at l r a f e = edge-at (first_allowed l) a (sym f.edge ∙ e)

pub first_past : (l : Bound) (r : Option ℕ) → First l r → r ≡ None → first_allowed l ≡ size
first_past l r f e = omega (arith, edge-nowhere (first_allowed l) (sym f.edge ∙ e), f.within)

pub last-at : (u : Bound) (r : Option ℕ) (b : ℕ) → Last u r → r ≡ Some b → past_allowed u ≡ b + 1
last-at u r b f e = before_at (past_allowed u) b (sym f.edge ∙ e)

pub last_none : (u : Bound) (r : Option ℕ) → Last u r → r ≡ None → past_allowed u ≡ 0
last_none u r f e = before-nowhere (past_allowed u) (sym f.edge ∙ e)

-- what the range then is
pub span-reversed : (l u : Bound) → past_allowed u < first_allowed l → Reversed ≡ span_of l u
span-reversed l u h = sym (rw (lt-ltb (past_allowed u) (first_allowed l) h))

pub span-empty : (l u : Bound) → first_allowed l ≡ past_allowed u → Empty ≡ span_of l u
span-empty l u h =
    sym (rw (le-ltb (first_allowed l) (past_allowed u) (omega arith), le-ltb (past_allowed u) (first_allowed l) (omega arith)))

pub span-closed : (l u : Bound) (a b : ℕ) → first_allowed l ≡ a → past_allowed u ≡ b + 1 → a ≤ b → Closed a b ≡ span_of l u
span-closed l u a b p q h =
    sym
    (rw (le-ltb (past_allowed u) (first_allowed l) (omega arith), lt-ltb (first_allowed l) (past_allowed u) (omega arith)) (ap₂ Closed p (omega arith)))

-- whether a range as it is answered is a reversed one
abbrev pub is_reversed : Span → Bool
is_reversed Empty = false
is_reversed Reversed = true
is_reversed (Closed a b) = false

pub span-tells : (l u : Bound) → is_reversed (span_of l u) ≡ reversed l u
span-tells l u = go (reversed l u) (ltb (first_allowed l) (past_allowed u))
  where
    go : (r c : Bool) → is_reversed (cond r Reversed (cond c (Closed (first_allowed l) (past_allowed u - 1)) Empty)) ≡ r
    go true c = refl
    go false true = refl
    go false false = refl

-- the `extent` positions from `first_allowed` on are those that satisfy both bounds
first-allows : (l : Bound) (x : ℕ) → leb (first_allowed l) x ≡ lower_allows l x
first-allows (Included v) x = refl
first-allows (Excluded v) x = go (split v x)
  where
    go : (v < x) ⊎ (x ≤ v) → leb (v + 1) x ≡ ltb v x
    go (inl h) = le-leb (v + 1) x (omega arith) ∙ sym (lt-ltb v x h)
    go (inr h) = lt-leb (v + 1) x (omega arith) ∙ sym (le-ltb v x h)
first-allows Unbounded x = le-leb 0 x (omega arith)

past-allows : (u : Bound) (x : ℕ) → x < size → ltb x (past_allowed u) ≡ upper_allows u x
past-allows (Included v) x k = go (split v x)
  where
    go : (v < x) ⊎ (x ≤ v) → ltb x (v + 1) ≡ leb x v
    go (inl h) = le-ltb x (v + 1) (omega arith) ∙ sym (lt-leb x v h)
    go (inr h) = lt-ltb x (v + 1) (omega arith) ∙ sym (le-leb x v h)
past-allows (Excluded v) x k = refl
past-allows Unbounded x k = lt-ltb x size k

extent-past : (f p x : ℕ) → (leb f x && ltb x (f + (p - f))) ≡ (leb f x && ltb x p)
extent-past f p x = go (split x f) (split x p)
  where
    go : (x < f) ⊎ (f ≤ x) → (x < p) ⊎ (p ≤ x) → (leb f x && ltb x (f + (p - f))) ≡ (leb f x && ltb x p)
    go (inl h) k = rw (lt-leb f x h)
    go (inr h) (inl k) = ap (λ t. leb f x && t) (lt-ltb x (f + (p - f)) (omega arith) ∙ sym (lt-ltb x p k))
    go (inr h) (inr k) = ap (λ t. leb f x && t) (le-ltb x (f + (p - f)) (omega arith) ∙ sym (le-ltb x p k))

pub range-allows : (l u : Bound) (x : ℕ) → x < size
    → (leb (first_allowed l) x && ltb x (first_allowed l + extent l u)) ≡ (lower_allows l x && upper_allows u x)
range-allows l u x h = extent-past (first_allowed l) (past_allowed u) x ∙ ap₂ ◌&&◌ (first-allows l x) (past-allows u x h)
