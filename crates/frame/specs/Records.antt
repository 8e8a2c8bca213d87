-- Calls as records of eight words, each of which means one. Assumes nothing: these are definitions.
use Rattle.std.specs.Prelude.{ℕ, zero, suc, ◌+◌, ◌-◌, ◌*◌, ◌/◌, Bool, cond, if◌then◌else◌, Option, Some, None, ◌||◌, List, [], ◌∷◌, length, ◌==◌, slice_index}
use Rattle.model.specs.Ends.{Bound}
use Rattle.model.specs.declared.Listing.{Listing}
use Rattle.model.specs.declared.between.Range.{Range}
use Rattle.model.specs.declared.Rect.{Rect}
use Rattle.model.specs.Numbers.{size}
use Rattle.model.specs.Call.{Call, PoolCall, at}
use Rattle.model.specs.Model.{Plan, plan}
use Rattle.interval_bit_set.specs.Met.{fed_at}
use Rattle.frame.specs.declared.entry.Kind.{Kind}
use Rattle.frame.specs.declared.entry.Entry.{Entry}
use Rattle.model.specs.Range.{range_by}
use Rattle.flat.specs.Flat.{truth}

-- the words of record i
unfoldable pub entry_at : List ℕ → ℕ → Entry
entry_at ws i = record {
  call = slice_index ws (8 * i);
  lower = slice_index ws (8 * i + 1);
  from = slice_index ws (8 * i + 2);
  upper = slice_index ws (8 * i + 3);
  upto = slice_index ws (8 * i + 4);
  value = slice_index ws (8 * i + 5);
  k = slice_index ws (8 * i + 6);
  world = slice_index ws (8 * i + 7);
}

-- the call that a number names: 1 to 6, 8, 10 to 20, and any other is a get
unfoldable pub kind_of : ℕ → Kind
kind_of n =
    cond (n == 1) Kind.Empty
    (cond (n == 2) Kind.Set
    (cond (n == 3) Kind.Flip
    (cond (n == 4) Kind.Shift
    (cond (n == 5) Kind.RunAt
    (cond (n == 6) Kind.Find
    (cond (n == 8) Kind.Select
    (cond (n == 10) Kind.Ranges
    (cond (n == 11) Kind.DrawFront
    (cond (n == 12) Kind.DrawBack
    (cond (n == 13) Kind.Fill
    (cond (n == 14) Kind.Gap
    (cond (n == 15) Kind.Tally
    (cond (n == 16) Kind.SetStrict
    (cond (n == 17) Kind.FlipStrict
    (cond (n == 18) Kind.TallyStrict
    (cond (n == 19) Kind.SetRect
    (cond (n == 20) Kind.CountRect Kind.Get)))))))))))))))))

abbrev pub range_of : Entry → Range
range_of e = range_by e.lower e.from e.upper e.upto

abbrev pub lower_of : Entry → Bound
lower_of e = (range_of e).lower

abbrev pub upper_of : Entry → Bound
upper_of e = (range_of e).upper

abbrev pub listing_by : Entry → Listing
listing_by e = record { first = e.from; last = e.upto; value = truth e.value }

-- the first corner in the words of the lower bound, the last one in those of the upper
abbrev pub rect_by : Entry → Rect
rect_by e = record { top = e.lower; left = e.from; bottom = e.upper; right = e.upto }

-- the call of each kind, with its arguments
abbrev pub call_by : {S : Type 0} → Kind → Entry → Call S
call_by Kind.Empty e = Call.build []
call_by Kind.Set e = Call.set (lower_of e) (upper_of e) (truth e.value)
call_by Kind.Flip e = Call.flip (lower_of e) (upper_of e)
call_by Kind.Shift e = Call.shift e.from (truth e.value)
call_by Kind.RunAt e = Call.run_at e.from
call_by Kind.Find e = Call.find (lower_of e) (upper_of e) (truth e.value)
call_by Kind.Select e = Call.select (lower_of e) (upper_of e) (truth e.value) e.k
call_by Kind.Ranges e = Call.ranges (lower_of e) (upper_of e) (truth e.value)
call_by Kind.DrawFront e = Call.draw_front (listing_by e)
call_by Kind.DrawBack e = Call.draw_back (listing_by e)
call_by Kind.Fill e = Call.fill e.from e.upto
call_by Kind.Gap e = Call.gap (lower_of e) (upper_of e) e.k
call_by Kind.Tally e = Call.tally (lower_of e) (upper_of e) (truth e.value)
call_by Kind.SetStrict e = Call.set_strict (lower_of e) (upper_of e) (truth e.value)
call_by Kind.FlipStrict e = Call.flip_strict (lower_of e) (upper_of e)
call_by Kind.TallyStrict e = Call.tally_strict (lower_of e) (upper_of e) (truth e.value)
call_by Kind.SetRect e = Call.set_rect (rect_by e) (truth e.value)
call_by Kind.CountRect e = Call.count_rect (rect_by e)
call_by Kind.Get e = Call.get e.from

abbrev pub call_of : {S : Type 0} → Entry → Call S
call_of e = call_by (kind_of e.call) e

-- the withdrawn numbers
unfoldable pub withdrawn : ℕ → Bool
withdrawn n = n == 7 || n == 9

-- the world that the record asks at; one of 7 or 9 asks at none
unfoldable pub asked_at : Entry → Option ℕ
asked_at e = if withdrawn e.call then None else Some e.world

-- none is a world that no pool has: the record is refused with 12, and not answered as another call
abbrev pub numbered : Option ℕ → ℕ
numbered None = size - 1
numbered (Some i) = i

abbrev pub world_by : Entry → ℕ
world_by e = numbered (asked_at e)

-- what it does, on the world that the record names, or on that one; it reads no further world
abbrev pub pool_call_of : Entry → PoolCall Plan
pool_call_of e = at (world_by e) (plan fed_at (call_of e))

-- n records from record i on
unfoldable pub calls_from : List ℕ → ℕ → ℕ → List (PoolCall Plan)
calls_from ws i zero = []
calls_from ws i (suc n) = pool_call_of (entry_at ws i) ∷ calls_from ws (suc i) n

-- all whole records
unfoldable pub calls_of : List ℕ → List (PoolCall Plan)
calls_of ws = calls_from ws 0 (length ws / 8)
