-- `vizturel_bench_grow` meets its contract: words that pass the check are a sound pool, which grows set by set. Assumes nothing.
use Rattle.std.proofs.Common.{sym, ◌∙◌, ◌+◌, ap}
use Rattle.bench_store.proofs.Grown.{found-sound}
use Rattle.bench_store.proofs.Growths.{growing-none, growing-more}
use Rattle.bench_store.proofs.vizturel_bench_grow.Goals as goal

pub loop-init : goal.loop-init
loop-init c = growing-none (found-sound _ (sym c.vizturel_bench_is_sound.ensures ∙ c.if-not-vizturel_bench_is_sound.false))

pub loop-preserved : goal.loop-preserved
loop-preserved c =
    growing-more c.loop.invariant c.some_from.result c.next_random-z.ensures c.next_random-z-in-loop.ensures c.some_from.ensures.first
    c.some_from.ensures.last c.put.result c.put.ensures (ap (λ k. c.loop.admitted + k) c.from-admitted.ensures)
