-- What overwriting a world by runs asks and promises: by those that an iterator yields, whatever it is, by those of a list, and by those of two
-- feeds joined. Assumes nothing: these are definitions.
use Rattle.std.specs.Prelude.{ℕ, ◌≤◌, Option, List, length}
use Rattle.std.specs.Iterator.{AlwaysYields}
use Rattle.model.specs.declared.Run.{Run}
use Rattle.model.specs.declared.Operation.{Operation}
use Rattle.model.specs.Numbers.{size}
use Rattle.model.specs.Positions.{Positions, mem, stretches}
use Rattle.model.specs.RunList.{AllWords, Canon}
use Rattle.pool.specs.declared.World.{World}
use Rattle.pool.specs.Soundness.{Footprint, Standing}
use Rattle.pool.specs.Settle.{Became}
use Rattle.streams.specs.declared.feed.Feed.{Feed}
use Rattle.streams.specs.Feeds.{Sources, joined}

-- ---- a list
-- a world that n runs can be given to: it has the nodes
abbrev pub Receives : List ℕ → World → ℕ → Type 0
Receives w h n = (s : Footprint) × Standing w s h × (n ≤ s.own)

-- it is r now, and has the runs rs
abbrev pub Received : List ℕ → List ℕ → World → ℕ → World → List Run → Type 0
Received w w' h n r rs = (s : Footprint) → Standing w s h → n ≤ s.own → Became w w' s r (mem rs)

-- ---- whatever yields them
-- WHAT OVERWRITING ASKS: the runs rs come, which are canonical if their ends are words, and the world has nodes for them
pub record Overwritable {I : Type 0} (gives : I → Option Run → I → Type 0) (w : List ℕ) (h : World) (i : I) (rs : List Run) : Type 0 where
  pub yields : AlwaysYields gives (λ r. r) i rs
  pub canonical : AllWords rs → Canon size 0 rs
  pub receives : Receives w h (length rs)

abbrev pub MayOverwrite : {I : Type 0} → (I → Option Run → I → Type 0) → List ℕ → World → I → Type 0
MayOverwrite gives w h i = (rs : List Run) × Overwritable gives w h i rs

-- WHAT IT PROMISES: the world has them
abbrev pub Overwrites : {I : Type 0} → (I → Option Run → I → Type 0) → List ℕ → List ℕ → World → World → I → Type 0
Overwrites gives w w' h r i = (rs : List Run) → Overwritable gives w h i rs → Received w w' h (length rs) r rs

-- ---- two feeds joined
-- the world h stands in the nodes w, and its share has nodes for the runs of Q
pub record Roomy (w : List ℕ) (s : Footprint) (h : World) (Q : Positions) : Type 0 where
  pub standing : Standing w s h
  pub enough : stretches Q ≤ s.own

-- both feeds can be read, and some share of the world has nodes for their join
pub record Gatherable (w : List ℕ) (h : World) (op : Operation) (x y : Feed) : Type 0 where
  pub sources : Sources x y
  pub share : Footprint
  pub roomy : Roomy w share h (joined op x y)

-- the world r stands in its place and holds Q; others stand still
abbrev pub Gathers : List ℕ → List ℕ → World → World → Positions → Type 0
Gathers w w' h r Q = (s : Footprint) → Roomy w s h Q → Became w w' s r Q
