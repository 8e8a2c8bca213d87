-- The loop's invariant: the pool is what the sets made so far left, as the model has it. Assumes nothing.
use Rattle.bench_store.proofs.Growths.{Growing}
use Rattle.bench_store.proofs.vizturel_bench_grow.Given as goal

abbrev pub invariant-loop : goal.invariant-loop
invariant-loop l = Growing l.initial.words l.words l.initial.z l.counter l.z l.admitted
