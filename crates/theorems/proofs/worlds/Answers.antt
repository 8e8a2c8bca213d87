use Rattle.theorems.proofs.Theorems.{floor-reached, sum-alone, sum-alone-lists}
use Rattle.theorems.proofs.worlds.Goals as goal

pub returns : goal.returns
returns c = record {
  floor_reached = floor-reached;
  sum_alone = sum-alone;
  sum_alone_lists = sum-alone-lists;
}
