-- `descend` meets its contract: what is to come is the same all along the walk (`Lead`).
-- The measure is the height of the tree at hand. Assumes nothing.
use mathlib.Core.Path.{refl}
use native.Mathlib.Omega.{arith}
use Rattle.streams.proofs.Paths.{lead-end, lead-room, lead-deep, lead-left-falls, lead-right-falls, lead-left, lead-right}
use Rattle.streams.proofs.source.Path.descend.Goals as goal

pub read_node-v-requires : goal.read_node-v-requires
read_node-v-requires c = lead-room c.loop-k.invariant _ c.loop-k-test.true refl c.requires.2

pub loop-k-smaller-then-v-p : goal.loop-k-smaller-then-v-p
loop-k-smaller-then-v-p c =
    lead-right-falls c.loop-k.invariant _ c.loop-k-test.true c.read_node-v.ensures c.requires.2

pub loop-k-preserved-then-v-p : goal.loop-k-preserved-then-v-p
loop-k-preserved-then-v-p c =
    lead-right c.loop-k.invariant _ c.loop-k-test.true c.read_node-v.ensures c.if-v-p.true

pub push-requires : goal.push-requires
push-requires c = (omega arith, lead-deep c.loop-k.invariant _ c.loop-k-test.true c.read_node-v.ensures c.requires.2)

pub loop-k-smaller : goal.loop-k-smaller
loop-k-smaller c =
    lead-left-falls c.loop-k.invariant _ c.loop-k-test.true c.read_node-v.ensures c.requires.2

pub loop-k-preserved : goal.loop-k-preserved
loop-k-preserved c = lead-left c.loop-k.invariant _ c.loop-k-test.true c.read_node-v.ensures c.if-v-p.false c.push.ensures.items c.push.ensures.len

pub returns : goal.returns
returns c = lead-end c.loop-k.invariant c.loop-k-test.false
