-- `next` meets its contract: a run begins where the join is first held, and ends before the first position after that at which it is
-- not, or at the last position. Assumes nothing.
use native.Mathlib.Omega.{arith}
use Rattle.streams.proofs.Sweeps.{joint-none, joint-last, joint-past, joint-ends, joins-goes}
use Rattle.streams.proofs.sweep.JointIterator.next.Goals as goal

pub returns-in_err-start-clause-steps : goal.returns-in_err-start-clause-steps
returns-in_err-start-clause-steps c =
    rw c.from_residual-in_err-start.ensures
    (joint-none _ _ _ _ c.in_ok-from.ensures.value c.in_ok-from.ensures.after c.in_err-start.ensures.0 c.in_err-start.ensures.1)

pub returns-in_default-clause-steps : goal.returns-in_default-clause-steps
returns-in_default-clause-steps c =
    joint-last _ _ _ _ _ _ c.in_ok-from.ensures.value c.in_ok-start.ensures.1 c.in_ok-from.ensures.after c.in_ok-start.ensures.0
    c.in_default.ensures.0 c.in_default.ensures.1

pub returns-in_default-clause-goes : goal.returns-in_default-clause-goes
returns-in_default-clause-goes c = joins-goes _ _ _ c.requires (returns-in_default-clause-steps c)

pub overflow_sub-result : goal.overflow_sub-result
overflow_sub-result c =
    omega (arith, joint-past _ _ _ _ _ _ c.in_ok-from.ensures.value c.in_ok-start.ensures.1 c.in-Some.ensures.1 c.requires)

pub returns-clause-steps : goal.returns-clause-steps
returns-clause-steps c = joint-ends _ _ _ _ _ _ c.in_ok-from.ensures.value c.in_ok-start.ensures.1 c.in-Some.ensures.1

pub returns-clause-goes : goal.returns-clause-goes
returns-clause-goes c = joins-goes _ _ _ c.requires (returns-clause-steps c)
