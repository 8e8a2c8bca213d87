-- `chain_fits` meets its contract. The loop's invariant: what is left of the chain decides for the whole. Assumes nothing.
use Rattle.pool.proofs.Base.{sym, ◌∙◌, arith, nat_tests}
use Rattle.pool.specs.Decision.{chain_of}
use Rattle.pool.proofs.Tests.{free-out}
use Rattle.pool.proofs.Strides.{following-more, chain-broken, chain-last, all-counted}
use Rattle.pool.proofs.soundness.chain_fits.Goals as goal

pub loop-preserved : goal.loop-preserved
loop-preserved c = following-more c.loop.invariant c.loop-test.true c.along-last.ensures c.along-link.ensures c.from-back.ensures

pub returns-then-link-last : goal.returns-then-link-last
unfolding chain_of
returns-then-link-last c =
    let e = chain-broken c.loop.invariant c.loop-test.true c.along-last.ensures c.along-link.ensures (omega (arith, c.if-link-last.true)) in
    grind (arith, nat_tests)

pub read_node-requires : goal.read_node-requires
read_node-requires c = (free-out _ _ (sym c.node_is_free.ensures ∙ c.if-not-node_is_free.false)).room

pub returns-then-not-node_is_free : goal.returns-then-not-node_is_free
unfolding chain_of
returns-then-not-node_is_free c =
    let e = chain-last c.loop.invariant (omega (arith, c.loop-test.false)) (omega (arith, c.if-count-eq0.false)) c.along-last-2.ensures in
    grind (arith, nat_tests)

pub returns : goal.returns
unfolding chain_of
returns c =
    let e = chain-last c.loop.invariant (omega (arith, c.loop-test.false)) (omega (arith, c.if-count-eq0.false)) c.along-last-2.ensures in
    let n = all-counted c.loop.invariant (omega (arith, c.loop-test.false)) in
    grind (arith, nat_tests)
