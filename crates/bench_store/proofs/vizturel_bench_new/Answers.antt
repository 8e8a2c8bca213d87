-- `vizturel_bench_new` meets its contract: what is made is one empty world. Assumes nothing.
use Rattle.bench_store.proofs.Grown.{renewed}
use Rattle.bench_store.proofs.vizturel_bench_new.Goals as goal

pub returns-clause-left : goal.returns-clause-left
returns-clause-left c = renewed _ _ _ c.of_length-s.ensures c.make.ensures
