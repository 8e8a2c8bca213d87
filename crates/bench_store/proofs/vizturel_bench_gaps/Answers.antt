-- `vizturel_bench_gaps` meets its contract: words that pass the check are a sound pool, and all searches find a gap, or none does.
-- Assumes nothing.
use Rattle.std.proofs.Common.{Bool, sym, ◌∙◌, arith, ap, ◌+◌, ◌-◌, suc, cond, ◌≡◌}
use Rattle.model.specs.Positions.{one_if}
use Rattle.bench_store.specs.Growing.{has_gap}
use Rattle.bench_store.proofs.Grown.{found-sound}
use Rattle.bench_store.proofs.Growths.{none-found, more-found, found-few, found-all}
use Rattle.bench_store.proofs.vizturel_bench_gaps.Goals as goal

pub loop-init : goal.loop-init
loop-init c =
    let pool = sym c.vizturel_bench_is_sound.ensures ∙ c.if-not-vizturel_bench_is_sound.false in
    (found-sound _ pool, omega (arith, c.if-n-lt1.false), none-found _, omega arith)

pub loop-preserved : goal.loop-preserved
loop-preserved c =
    let gap : Bool = has_gap c.args.words.now c.args.first (suc c.args.last - c.args.first) c.args.n in
    let told : c.from-found.result ≡ one_if gap = c.from-found.ensures ∙ ap one_if c.look_for.ensures in
    let found : c.loop.found + c.from-found.result ≡ cond gap (c.loop.counter + 1) 0 =
    ap (λ k. c.loop.found + k) told ∙ more-found gap c.loop.found c.loop.counter c.loop.invariant.2 in
    (c.loop.invariant.0, c.loop.invariant.1, found, found-few gap (c.loop.found + c.from-found.result) (c.loop.counter + 1) found)

pub returns : goal.returns
returns c =
    let gap : Bool = has_gap c.args.words.now c.args.first (suc c.args.last - c.args.first) c.args.n in
    let pool = sym c.vizturel_bench_is_sound.ensures ∙ c.if-not-vizturel_bench_is_sound.false in
    let all : c.loop.counter ≡ c.args.searches = omega (arith, c.loop.auto.counter-end, c.loop-test.false) in
    found-all c.args.words.now c.args.first c.args.last c.args.n c.args.searches pool
    c.if-last-first.false c.if-n-lt1.false (c.loop.invariant.2 ∙ ap (λ k. cond gap k 0) all)
