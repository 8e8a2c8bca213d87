-- `world_fits` meets its contract: the positions of a world are those of the tree at its root, so what `bounds` returns of the tree is what
-- the world has to say of the positions held. Assumes nothing.
use Rattle.pool.proofs.Base.{sym, ◌∙◌, arith, nat_tests, size, Room}
use Rattle.pool.proofs.Hanging.{Hangs}
use Rattle.pool.proofs.Tests.{inside-out}
use Rattle.pool.proofs.Decided.{tree-yes}
use Rattle.pool.proofs.Bounded.{root-walked, indexed, world-is}
use Rattle.pool.proofs.soundness.world_fits.Goals as goal
use Rattle.pool.proofs.soundness.world_fits.Goals.{Else-not-inside, Else-not-tree_fits}

-- the root names a node, or none
root-room : (c : Else-not-inside) → Room c.args.words.now c.args.h.root
root-room c = inside-out _ _ (sym c.inside.ensures ∙ c.if-not-inside.false)

-- the tree that the walk has accepted
tree : (c : Else-not-tree_fits) → Hangs 22 c.args.words.now c.args.h.tag c.args.h.root 0 size
tree c = tree-yes 22 _ _ _ _ _ (sym (root-walked _ c.args.h c.below-v.ensures c.if-v-gt-MAX_HEIGHT.false c.tree_fits.ensures) ∙ c.if-not-tree_fits.false)

pub below-v-requires : goal.below-v-requires
below-v-requires c = root-room c

pub tree_fits-requires : goal.tree_fits-requires
tree_fits-requires c = root-room (goal.at.tree_fits-requires c).Else-not-inside

pub of-set-requires : goal.of-set-requires
of-set-requires c = indexed _ c.args.h (tree c)

pub returns-then-h-ne0 : goal.returns-then-h-ne0
returns-then-h-ne0 c =
    let e = world-is _ c.args.h (tree (goal.at.returns-then-h-ne0 c).Else-not-tree_fits) _ c.below-v.ensures _ c.of-set.ensures _ c.first_held-first.ensures _ c.last_held-last.ensures in
    grind (arith, nat_tests)

pub returns-else-h-ne0 : goal.returns-else-h-ne0
returns-else-h-ne0 c =
    let e = world-is _ c.args.h (tree (goal.at.returns-else-h-ne0 c).Else-not-tree_fits) _ c.below-v.ensures _ c.of-set.ensures _ c.first_held-first.ensures _ c.last_held-last.ensures in
    grind (arith, nat_tests)

pub returns-else-h-last : goal.returns-else-h-last
returns-else-h-last c =
    let e = world-is _ c.args.h (tree (goal.at.returns-else-h-last c).Else-not-tree_fits) _ c.below-v.ensures _ c.of-set.ensures _ c.first_held-first.ensures _ c.last_held-last.ensures in
    grind (arith, nat_tests)
