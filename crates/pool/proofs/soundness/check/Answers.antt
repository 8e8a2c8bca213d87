-- `check` meets its contract: the tests are the definition's, in another order. Assumes nothing.
use Rattle.pool.proofs.Base.{arith, nat_tests, worlds_of, sound_b, runs_of}
use Rattle.pool.specs.Decision.{checked, rest_of}
use Rattle.pool.proofs.Parts.{lent-nodes}
use Rattle.pool.proofs.soundness.check.Goals as goal

pub returns : goal.returns
unfolding checked sound_b runs_of worlds_of rest_of
returns c = let e = rw (lent-nodes c.args.words.now) at c.rest_fits.ensures in grind (arith, nat_tests)
