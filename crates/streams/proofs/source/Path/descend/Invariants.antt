-- `descend` meets its contract: what is to come is the same all along the walk (`Lead`).
-- The measure is the height of the tree at hand. Assumes nothing.
use Rattle.run_index.proofs.Heap.{height_at}
use Rattle.streams.proofs.Paths.{Lead}
use Rattle.streams.proofs.source.Path.descend.Given as goal

abbrev pub invariant-loop-k : goal.invariant-loop-k
invariant-loop-k l = Lead l.words l.initial.self l.self l.link l.p.0 l.k

abbrev pub decreases-loop-k : goal.decreases-loop-k
decreases-loop-k l = height_at l.words l.k
