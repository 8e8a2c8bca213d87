-- `build_chain` meets its contract: it makes a tree of the first half, reads the node after it, makes a tree of those after that, and links
-- both to the node. The measure is the number of nodes. Assumes nothing.
use Rattle.std.proofs.Common.{refl, arith}
use Rattle.run_index.proofs.Growing.{grew_none, left-supply, mid-room, right-supply, mid-pullable, grew-all}
use Rattle.run_index.proofs.chains.+build_chain.Goals as goal

pub returns-then-k-eq0 : goal.returns-then-k-eq0
returns-then-k-eq0 t c = λ ns r sp. grew_none ns r c.if-k-eq0.true sp

pub build_chain-l-requires : goal.build_chain-l-requires
build_chain-l-requires t c =
    (omega (arith, c.if-k-eq0.false, c.decreases), (_, _, left-supply c.requires.2 c.if-k-eq0.false refl))

pub read_node-v-requires : goal.read_node-v-requires
read_node-v-requires t c =
    let sp = c.requires.2 in
    let so = c.if-k-eq0.false in
    mid-room sp so refl (c.build_chain-l.ensures _ _ (left-supply sp so refl))

pub build_chain-r-requires : goal.build_chain-r-requires
build_chain-r-requires t c =
    let sp = c.requires.2 in
    let so = c.if-k-eq0.false in (
      omega (arith, so, c.decreases),
      (
        _,
        _,
        right-supply sp so refl (c.build_chain-l.ensures _ _ (left-supply sp so refl))
            c.read_node-v.ensures,
      ),
    )

pub pull-requires : goal.pull-requires
pull-requires t c =
    let sp = c.requires.2 in
    let so = c.if-k-eq0.false in
    let g₁ = c.build_chain-l.ensures _ _ (left-supply sp so refl) in
    let e = c.read_node-v.ensures in
    mid-pullable sp so refl g₁ e (c.build_chain-r.ensures _ _ (right-supply sp so refl g₁ e))

pub returns : goal.returns
returns t c =
    λ ns r sp.
    let so = c.if-k-eq0.false in
    let g₁ = c.build_chain-l.ensures _ _ (left-supply sp so refl) in
    let e = c.read_node-v.ensures in
    grew-all sp so refl g₁ e (c.build_chain-r.ensures _ _ (right-supply sp so refl g₁ e)) c.pull.ensures
