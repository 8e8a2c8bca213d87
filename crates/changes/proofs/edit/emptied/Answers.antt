-- `emptied` meets its contract: the tree's nodes are given back, and no tree is an empty world. Assumes nothing.
use Rattle.changes.proofs.Shifting.{given-keepable, given-empties}
use Rattle.changes.proofs.edit.emptied.Goals as goal

pub refresh-requires : goal.refresh-requires
refresh-requires c = given-keepable c.links_of.ensures c.give_back-x.ensures c.requires.1

pub returns : goal.returns
returns c = given-empties c.links_of.ensures c.give_back-x.ensures c.refresh.ensures
