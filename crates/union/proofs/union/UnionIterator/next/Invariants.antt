-- `next` meets its contract. The loop's invariant: the union goes on, the same runs are handed out, and no more are pending. The measure is what is ahead of its places.
-- Assumes nothing.
use Rattle.std.proofs.Common.{◌≡◌, ◌≤◌, List}
use Rattle.union.specs.declared.Group.{Group}
use Rattle.union.specs.Bands.{ahead}
use Rattle.union.specs.Joins.{Joining, pending}
use Rattle.union.proofs.union.UnionIterator.next.Given as goal

abbrev pub invariant-loop-place : goal.invariant-loop-place
invariant-loop-place g l =
    let es = g.L.RunList.runs l.initial.self.places.list in
    record {
      list : l.self.places.list ≡ l.initial.self.places.list;
      goes : (done : List Group) → Joining es done l.initial.self → Joining es done l.self;
      less : pending l.self ≤ pending l.initial.self;
    }

abbrev pub decreases-loop-place : goal.decreases-loop-place
decreases-loop-place g l = ahead l.self.places
