-- `unopened_fit` meets its contract. The loop's invariant: the records that are left decide for all. Assumes nothing.
use Rattle.pool.proofs.Base.{arith, nat_tests, nothing_b}
use Rattle.pool.proofs.Records.{unopened-first}
use Rattle.pool.proofs.soundness.unopened_fit.Goals as goal

pub returns-then-ne : goal.returns-then-ne
unfolding nothing_b
returns-then-ne c = let e = unopened-first c.args.words.now c.loop-k.k c.loop-k-test.true in grind (arith, nat_tests)

pub loop-k-preserved : goal.loop-k-preserved
unfolding nothing_b
loop-k-preserved c = let e = unopened-first c.args.words.now c.loop-k.k c.loop-k-test.true in grind (arith, nat_tests)
