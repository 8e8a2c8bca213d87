-- The positions next to a range: a run goes on over an end of the range where the neighbour there and the end are both held.
-- So the runs that a change leaves are told by the neighbours and by the two ends. Assumes nothing.
use Rattle.std.specs.Prelude.{Option, None, Some, SomeIff, MatchOption}
use Rattle.std.proofs.Common.{◌≡◌, ℕ, zero, suc, ◌+◌, ◌-◌, ◌*◌, ◌<◌, ◌≤◌, Bool, true, false, not, ◌&&◌, ltb, List, [], ◌∷◌, length, sym, refl, ap, ◌∙◌, ap₂, arith, lt-ltb, le-ltb}
use mathlib.Core.Bool.{beq, and_comm}
use Rattle.model.specs.declared.Run.{Run}
use Rattle.model.specs.Numbers.{size}
use Rattle.model.specs.Positions.{Positions, one_if, runs_in, run_count, mem}
use Rattle.model.proofs.Counting.{among-yes}
use Rattle.model.proofs.Runs.{runs_in-mem}
use Rattle.model.specs.Neighbours.{goes_on, held_below, held_above}
use Rattle.pool.proofs.Ends.{clash, empty-mem}

-- ---- truth values as numbers
-- both hold at most as often as the second
pub both-second : (b d : Bool) → one_if (b && d) ≤ one_if d
both-second true d = omega arith
both-second false d = omega arith

-- twice as often is at most as often as the two are
pub both-bound : (b d : Bool) → 2 * one_if (b && d) ≤ one_if b + one_if d
both-bound true true = omega arith
both-bound true false = omega arith
both-bound false d = omega arith

-- one holds together with the other, or without it
pub with-without : (b d : Bool) → one_if (b && d) + one_if (b && not d) ≡ one_if b
with-without true true = refl
with-without true false = refl
with-without false d = refl

-- two tests inside a third change places
and-inner : (b d f : Bool) → (b && (d && f)) ≡ (d && (b && f))
and-inner true d f = refl
and-inner false true f = refl
and-inner false false f = refl

-- a test of two truths, where the first holds
pub both-yes : {b d p q : Bool} → b ≡ true → b ≡ p → d ≡ q → d ≡ (p && q)
both-yes {q = q} e f g = g ∙ ap (λ t. t && q) (sym e ∙ f)

-- where it does not
pub both-no : {b p : Bool} (q : Bool) → b ≡ false → b ≡ p → b ≡ (p && q)
both-no q e f = e ∙ ap (λ t. t && q) (sym e ∙ f)

-- ---- runs over an end
-- over the lower end: the neighbour and the end are held
pub goes_on-below : (P : Positions) (x : ℕ) → x < size → goes_on P x ≡ (held_below P x && P x)
unfolding goes_on
goes_on-below P zero h = refl
goes_on-below P (suc x) h = ap (λ t. t && (P x && P (suc x))) (lt-ltb (suc x) size h)

-- over the upper end: the end and the neighbour are held
pub goes_on-above : (P : Positions) (x : ℕ) → goes_on P (suc x) ≡ (held_above P x && P x)
unfolding goes_on
goes_on-above P x = and-inner (ltb (suc x) size) (P x) (P (suc x)) ∙ and_comm (P x) (held_above P x)

-- sets that agree below x have the same neighbour there
pub held_below-cong : (P R : Positions) (x : ℕ) → ((y : ℕ) → y < x → R y ≡ P y) → held_below R x ≡ held_below P x
held_below-cong P R zero f = refl
held_below-cong P R (suc x) f = f x (omega arith)

-- after a change from x on, the run over it is told by the neighbour before the change and by the new value
pub goes_on-changed-above : (P R : Positions) (x : ℕ) (v : Bool) → x < size → ((y : ℕ) → y < x → R y ≡ P y) → R x ≡ v → goes_on R x ≡ (held_below P x && v)
goes_on-changed-above P R x v h f e = goes_on-below R x h ∙ ap₂ ◌&&◌ (held_below-cong P R x f) e

-- and so after a change up to x
pub goes_on-changed-below : (P R : Positions) (x : ℕ) (v : Bool) → ((y : ℕ) → x < y → R y ≡ P y) → R x ≡ v → goes_on R (suc x) ≡ (held_above P x && v)
goes_on-changed-below P R x v f e = goes_on-above R x ∙ ap₂ (λ b d. (ltb (suc x) size && b) && d) (f (suc x) (omega arith)) e

-- ---- the neighbours, looked at where they are there
module _ (P : Positions) {b : Bool} where
  -- the lower one
  pub looked_below : (x : ℕ) (q : Option ℕ) → SomeIff q (1 ≤ x) (x - 1) → MatchOption q (b ≡ false) (λ y. b ≡ P y) → b ≡ held_below P x
  looked_below zero None s m = m
  looked_below zero (Some y) s m = absurd (omega (arith, s.0))
  looked_below (suc x) None s m = absurd (s (omega arith))
  looked_below (suc x) (Some y) s m = m ∙ ap P (omega (arith, s.1))

  -- the upper one
  pub looked_above : (x : ℕ) (q : Option ℕ) → SomeIff q (x + 1 < size) (x + 1) → MatchOption q (b ≡ false) (λ y. b ≡ P y) → b ≡ held_above P x
  looked_above x None s m = m ∙ ap (λ t. t && P (suc x)) (sym (le-ltb (suc x) size (omega (arith, s))))
  looked_above x (Some y) s m = m ∙ ap P (omega (arith, s.1)) ∙ ap (λ t. t && P (suc x)) (sym (lt-ltb (suc x) size (omega (arith, s.0))))

-- ---- how many runs
-- a range with a held position has a run
pub ranges-some : (P : Positions) (a n x : ℕ) → a ≤ x → x < a + n → one_if (P x) ≤ run_count P true a n
unfolding run_count
ranges-some P a n x h l = go (P x) refl (runs_in P true a n) (runs_in-mem P true a n x ∙ ap (λ t. t && beq (P x) true) (among-yes a n x h l))
  where
    go : (b : Bool) → P x ≡ b → (rs : List Run) → mem rs x ≡ beq (P x) true → one_if b ≤ length rs
    go true e [] m = clash (m ∙ ap (λ b. beq b true) e) (empty-mem x)
    go true e (r ∷ rs) m = omega arith
    go false e rs m = omega arith
