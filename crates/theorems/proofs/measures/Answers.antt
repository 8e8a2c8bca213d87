use Rattle.theorems.proofs.Theorems.{deepest-height, deepest-room, deepest-shortest, why-smallest, why-none, why-exact}
use Rattle.theorems.proofs.measures.Goals as goal

pub returns : goal.returns
returns c = record {
  deepest_height = deepest-height;
  deepest_room = deepest-room;
  deepest_shortest = deepest-shortest;
  why_smallest = why-smallest;
  why_none = why-none;
  why_exact = why-exact;
}
