-- The reading of two feeds joined: where it begins, and what passing over some of its runs finds. Assumes nothing.
use Rattle.std.specs.Prelude.{Option, None, Some}
use Rattle.std.specs.Option.{is_none}
use Rattle.std.specs.Iterator.{SkipsThenYields}
use Prim.Native.Nat.{ℕ, ◌≤◌, ◌<◌}
use mathlib.Core.Logic.{◌⊎◌}
use mathlib.Core.Path.{◌≡◌, refl}
use native.Mathlib.Omega.{arith}
use lib.Dec.{leb}
use lib.ListN.{length, get_or}
use Rattle.std.specs.List.{slice_get}
use Rattle.std.proofs.lemmas.Bool.Decides.{nat_tests}
use Rattle.std.specs.Option.{option_map}
use Rattle.std.proofs.lemmas.Option.{slice_get_cases}
use Rattle.std.proofs.lemmas.Iterator.Consumers.{nth_from_yields_List}
use Rattle.model.specs.declared.Run.{Run}
use Rattle.model.specs.declared.Operation.{Operation}
use Rattle.model.specs.Positions.{Positions, held_runs, stretches}
use Rattle.streams.specs.declared.sweep.Joint.{Joint}
use Rattle.streams.specs.declared.sweep.Cursor.{Cursor}
use Rattle.streams.specs.declared.feed.Feed.{Feed}
use Rattle.streams.specs.Reading.{Draws}
use Rattle.streams.specs.Sweeping.{Points, Joins}
use Rattle.streams.specs.Feeds.{fed_by, joined}
use Rattle.streams.proofs.Streamed.{draws-list}

-- ---- the two feeds
-- both cursors stand at 0
pub begun : (op : Operation) (x y : Feed) (l r : Cursor) → Points l 0 (fed_by x) → Points r 0 (fed_by y)
    → Joins (record { op = op; left = l; right = r; from = Some (record { 0 = 0 }) }) 0 (joined op x y)
begun op x y l r h k = record { rest = (refl, record { first = fed_by x; second = fed_by y; left = h; right = k; is = refl }) }

-- ---- counting
-- with n runs passed over, none comes if there are no more
pub none-fits : {j : Joint} (j' : Joint) (J : Positions) (n : ℕ) (r : Option Run) → Joins j 0 J → SkipsThenYields (Draws Joins) j n r j' → is_none r ≡ leb (stretches J) n
unfolding stretches
none-fits {j} j' J n r h d =
    go r (slice_get_cases (held_runs J) n).1
    (nth_from_yields_List {steps = Draws Joins} {v = λ u. u} {s = j} {all = held_runs J} r j' n d (record { runs = draws-list Joins J j h }))
  where
    go : (r : Option Run)
        → ((x : Run) × (n < length (held_runs J)) × (slice_get (held_runs J) n ≡ Some x) × (get_or (held_runs J) n x ≡ x))
        ⊎ ((length (held_runs J) ≤ n) × (slice_get (held_runs J) n ≡ None))
        → option_map (λ u. u) r ≡ slice_get (held_runs J) n → is_none r ≡ leb (length (held_runs J)) n
    go r c e = grind (arith, nat_tests)
