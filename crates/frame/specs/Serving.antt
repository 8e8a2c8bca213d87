-- What serving one record, and a list of them, asks and promises. Assumes nothing: these are definitions.
use Rattle.std.specs.Prelude.{◌≡◌, ℕ, ◌*◌, ◌≤◌, List, length}
use Rattle.model.specs.Bytes.{into_front}
use Rattle.model.specs.Call.{Answer}
use Rattle.model.specs.Pools.{answers, after}
use Rattle.pool.specs.Layout.{capacity, worlds_of}
use Rattle.pool.specs.Free.{Pooled}
use Rattle.interval_bit_set.specs.Met.{Met}
use Rattle.frame.specs.declared.entry.Entry.{Entry}
use Rattle.flat.specs.declared.Reply.{Reply}
use Rattle.flat.specs.Flat.{reply_of}
use Rattle.frame.specs.Records.{call_of, world_by, calls_from}
use Rattle.flat.specs.Records.{records_of}

-- the record e was answered r, as its call promises on the world that it asks at, and left w'
abbrev pub Serves : List ℕ → Entry → Reply → List ℕ → Type 0
Serves w e r w' = (a : Answer) × Met w (world_by e) (call_of e) a w' × (r ≡ reply_of a)

-- n records are given, and their answers fit
pub record Playable (cs out : List ℕ) (n : ℕ) : Type 0 where
  pub given : 8 * n ≤ length cs
  pub room : 8 * n ≤ length out

-- they were: the answers and the worlds are the model's
pub record Plays (w cs out : List ℕ) (n : ℕ) (w' out' : List ℕ) : Type 0 where
  pub pooled : Pooled w w' (after (capacity w) (worlds_of w) (calls_from cs 0 n))
  pub wrote : out' ≡ into_front (records_of (answers (capacity w) (worlds_of w) (calls_from cs 0 n))) out
