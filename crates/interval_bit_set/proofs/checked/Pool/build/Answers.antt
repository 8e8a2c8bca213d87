-- `build`: runs out of order are refused before more runs than the world may have, and else it is given them. Assumes nothing.
use Rattle.std.proofs.Common.{ap, not, refl}
use Rattle.interval_bit_set.proofs.Changing.{refused-first}
use Rattle.interval_bit_set.proofs.Looking.{found, shut-out}
use Rattle.interval_bit_set.proofs.Overwriting.{carried, carried-kept, makes}
use Rattle.interval_bit_set.proofs.Receiving.{order-refused, order-passes}
use Rattle.interval_bit_set.proofs.checked.Pool.build.Goals as goal

pub returns-in_err-opened-clause-met : goal.returns-in_err-opened-clause-met
returns-in_err-opened-clause-met g c = shut-out _ _ c.from_residual.ensures.1 (λ e p. p) refl c.args.self.now.checked c.in_err-opened.ensures

pub returns-then-not-in_order-clause-met : goal.returns-then-not-in_order-clause-met
returns-then-not-in_order-clause-met g c = refused-first (makes refl refl) (found c.args.self.now.checked c.in_ok-opened.ensures.0) (order-refused _ c.in_order.ensures.value (ap not c.if-not-in_order.true))

pub put-requires-clause-readable : goal.put-requires-clause-readable
put-requires-clause-readable g c = found c.args.self.now.checked c.in_ok-opened.ensures.0

pub returns-clause-met : goal.returns-clause-met
returns-clause-met g c = carried (makes refl refl) (found c.args.self.now.checked c.in_ok-opened.ensures.0) _ (order-passes _ c.in_order.ensures.value (ap not c.if-not-in_order.false)) (λ x h. refl) _ c.put.ensures

pub invariant_of-self : goal.invariant_of-self
invariant_of-self g c = record { checked = carried-kept _ _ _ c.args.self.now.checked c.put.ensures }
