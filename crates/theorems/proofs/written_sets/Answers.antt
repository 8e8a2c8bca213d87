use Rattle.theorems.proofs.Theorems.{equal-bytes, room-suffices, converted-back, converted-loads, loads-converts}
use Rattle.theorems.proofs.Theorems.{old-reader, mended-right, mended-loads, mended-floor}
use Rattle.theorems.proofs.written_sets.Goals as goal

pub returns : goal.returns
returns c = record {
  equal_bytes = equal-bytes;
  room_suffices = room-suffices;
  converted_back = converted-back;
  converted_loads = converted-loads;
  loads_converts = loads-converts;
  old_reader = old-reader;
  mended_right = mended-right;
  mended_loads = mended-loads;
  mended_floor = mended-floor;
}
