-- `write_map` meets its contract: the map is written into a part of its length in front of the slice. Assumes nothing.
use Rattle.std.proofs.Common.{arith}
use Rattle.maps.proofs.Storing.{map-front}
use Rattle.maps.proofs.write.write_map.Goals as goal

pub returns : goal.returns
returns c = map-front _ _ _ _ (omega (arith, c.div_ceil-due.ensures)) c.fill_map.ensures
