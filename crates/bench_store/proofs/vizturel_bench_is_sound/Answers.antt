-- `vizturel_bench_is_sound` meets its contract: the length is tested, then the pool. Assumes nothing.
use Rattle.std.proofs.Common.{◌∙◌, rules}
use Rattle.bench_store.proofs.Grown.{has-length}
use Rattle.bench_store.proofs.vizturel_bench_is_sound.Goals as goal

pub returns-then-of_length-ne0 : goal.returns-then-of_length-ne0
returns-then-of_length-ne0 c = c.is_sound.ensures ∙ has-length _ (search rules)
