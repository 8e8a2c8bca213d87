-- `pop` meets its contract: the nearest node has the first run to come, and its right side goes on the path in its place.
-- Assumes nothing.
use mathlib.Core.Path.{refl}
use Rattle.streams.proofs.Tops.{pop-below, pop-taken}
use Rattle.streams.proofs.source.Path.pop.Goals as goal

pub descend-requires : goal.descend-requires
descend-requires c = (_, _, pop-below _ _ c.in_ok-pop.ensures.items c.requires.1 c.read_node-v.ensures refl)

pub returns : goal.returns
returns c = λ rs h. pop-taken _ _ c.in_ok-pop.ensures.items h c.read_node-v.ensures refl c.descend.ensures
