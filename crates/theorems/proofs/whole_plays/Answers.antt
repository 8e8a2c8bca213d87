use Rattle.theorems.proofs.Determinism.{determinism}
use Rattle.theorems.proofs.Theorems.{equal-pools, framed-wrote}
use Rattle.theorems.proofs.whole_plays.Goals as goal

pub returns : goal.returns
returns c = record {
  determinism = determinism;
  equal_pools = equal-pools;
  framed_wrote = framed-wrote;
}
