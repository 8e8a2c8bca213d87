-- `link` meets its contract: the filled nodes become the tree, and `refresh` tells the rest. Assumes nothing.
use Rattle.pool.proofs.Settling.{link-supply, link-kept, link-links}
use Rattle.pool.proofs.refresh.link.Goals as goal

pub build_chain-g-requires : goal.build_chain-g-requires
build_chain-g-requires c = (_, _, link-supply c.requires.5)

pub refresh-requires : goal.refresh-requires
refresh-requires c =
    (_, _, _, link-kept c.requires.5 (c.build_chain-g.ensures _ _ (link-supply c.requires.5)))

pub returns : goal.returns
returns c = link-links c.build_chain-g.ensures c.refresh.ensures
