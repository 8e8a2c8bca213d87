-- `chain_fits` meets its contract. The loop's invariant: what is left of the chain decides for the whole. Assumes nothing.
use Rattle.pool.proofs.Strides.{Following}
use Rattle.pool.proofs.soundness.chain_fits.Given as goal

abbrev pub invariant-loop : goal.invariant-loop
invariant-loop l = Following l.words l.count l.head l.counter l.link l.back
