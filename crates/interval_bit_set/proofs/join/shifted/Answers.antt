-- `shifted`: pools of which one fails the check are refused; of others the method answers, and putting the free chain in order leaves every world. Assumes nothing.
use Rattle.std.proofs.Common.{refl, rules, [], ◌∷◌}
use Rattle.model.specs.Call.{done}
use Rattle.interval_bit_set.specs.Met.{site}
use Rattle.interval_bit_set.proofs.Looking.{fault-of}
use Rattle.interval_bit_set.proofs.Tidying.{met-after}
use Rattle.interval_bit_set.proofs.join.shifted.Goals as goal

pub returns-in_err-worn : goal.returns-in_err-worn
returns-in_err-worn c = fault-of _ (site c.args.a.now c.args.i ∷ []) _ c.from_residual.ensures.1 (λ e p. p) refl c.in_err-worn.ensures

pub invariant_of-pool : goal.invariant_of-pool
invariant_of-pool c = record { checked = c.in_ok-worn.ensures.0.0 }

pub invariant_of-x : goal.invariant_of-x
invariant_of-x c = record { checked = c.in_ok-worn.ensures.0.1.0 }

pub returns : goal.returns
returns c = search (rules, met-after (λ _. done) _ c.in_ok-worn.ensures.0.0 c.shifted-answer.ensures.met c.end.ensures.ended)
