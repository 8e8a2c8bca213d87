-- `eq`: pools of which one fails the check are refused; of others the method answers. Assumes nothing.
use Rattle.std.proofs.Common.{refl, [], ◌∷◌}
use Rattle.interval_bit_set.specs.Met.{site}
use Rattle.interval_bit_set.proofs.Looking.{fault-of}
use Rattle.interval_bit_set.proofs.join.eq.Goals as goal

pub returns-in_err-check_two : goal.returns-in_err-check_two
returns-in_err-check_two c = fault-of _ (site c.args.b.now c.args.j ∷ []) _ c.from_residual.ensures.1 (λ e p. p) refl c.in_err-check_two.ensures

pub invariant_of-x : goal.invariant_of-x
invariant_of-x c = record { checked = c.in_ok-check_two.ensures.0.0 }

pub invariant_of-y : goal.invariant_of-y
invariant_of-y c = record { checked = c.in_ok-check_two.ensures.0.1.0 }
