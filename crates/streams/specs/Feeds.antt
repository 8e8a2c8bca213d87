-- What two feeds give, and what reading them asks. Assumes nothing: these are definitions.
use Rattle.std.specs.Prelude.{⊤, [], ◌∷◌}
use Rattle.model.specs.declared.Operation.{Operation}
use Rattle.model.specs.Positions.{Positions, run, mem, combined}
use Rattle.pool.specs.Layout.{held_from}
use Rattle.streams.specs.declared.feed.Feed.{Feed}
use Rattle.streams.specs.Reading.{Rooted}

-- the positions that a feed gives
abbrev pub fed_by : Feed → Positions
fed_by (Feed.Held w v) = held_from w.now v.root v.offset
fed_by (Feed.Only r) = mem (run r.first.0 r.last.0 ∷ [])

-- it can be read: there is a tree at its root, or it is one run
abbrev pub Fed : Feed → Type 0
Fed (Feed.Held w v) = Rooted w.now v.root
Fed (Feed.Only r) = ⊤

-- both can
pub record Sources (x y : Feed) : Type 0 where
  pub left : Fed x
  pub right : Fed y

-- the positions of two feeds, joined
abbrev pub joined : Operation → Feed → Feed → Positions
joined op x y = combined op (fed_by x) (fed_by y)
