-- The lowest gap: that of no position is refused, and no position has one. Assumes nothing.
use Rattle.std.specs.Prelude.{None, Some}
use Rattle.std.specs.Prelude.{◌≡◌, ℕ, ◌≤◌, [], ◌∷◌}
use mathlib.Core.Path.{sym}
use native.Mathlib.Omega.{arith}
use borrow.Author.Tests.{eq-eqb, ne_eqb}
use Rattle.model.specs.Positions.{Positions, gap}
use Rattle.model.specs.Refusals.{gap_length, ◌when◌, refusal, bad_gap}
use Rattle.model.proofs.Gaps.{gap-none}

module _ (n : ℕ) where
  -- it is refused where n is 0
  pub gap-refused : n ≡ 0 → refusal (gap_length when bad_gap n ∷ []) ≡ Some 9
  gap-refused e = rw (eq-eqb n 0 e)

  module _ (Some : 1 ≤ n) where
    -- and else is not
    pub gap-passes : refusal (gap_length when bad_gap n ∷ []) ≡ None
    gap-passes = rw (ne_eqb n 0 (λ e. omega arith))

    -- an empty range has none
    pub gap-nothing : (P : Positions) (a k : ℕ) → k ≡ 0 → None ≡ gap P a k n
    gap-nothing P a k e = sym (gap-none P a k n (omega arith))
