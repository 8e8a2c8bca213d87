-- The worked cases hold: every row is computed on run lists, and the computed model is the plain one. Assumes nothing.
use mathlib.Core.Path.{◌≡◌, refl, ap, ◌∙◌}
use mathlib.Core.Bool.{true, false}
use mathlib.Core.List.{List, [], ◌∷◌, ◌++◌, map}
use Prim.Native.Nat.{ℕ}
use native.Mathlib.Omega.{arith}
use lib.ListN.{length}
use borrow.Author.Tests.{le-ltb}
use Rattle.model.specs.Positions.{count, find, past_first, past_last, mem}
use Rattle.model.proofs.Finds.{select_runs}
use Rattle.model.proofs.Gaps.{first_long}
use Rattle.model.specs.RunList.{insert, clear}
use Rattle.model.proofs.RunList.{widths}
use Rattle.model.proofs.Clip.{clip}
use Rattle.model.proofs.Edit.{set_to, on_range, set_runs}
use Rattle.model.proofs.Ops.{set_all, or_runs, minus_runs, and_runs, xor_runs, combine_runs, inverted, flip_runs}
use Rattle.model.proofs.Ops.{complement_runs, shift_left_runs, shift_right_runs, shift_runs}
use Rattle.model.specs.Model.{drawn_first, drawn_last}
use Rattle.model.specs.Bytes.{
  big_endian,
  value_from,
  value_of,
  encode_runs,
  column,
  columns_from,
  columns,
  encode,
  runs_due,
  edition_of,
  decode_runs,
  runs_told,
  decode,
  bits,
  bytes_from,
  map_of,
  map_bit,
  stray_bits,
  cleared,
  into_front,
}
use Rattle.model.specs.Mending.{another}
use Rattle.model.specs.Refusals.{bad_limits}
use Rattle.model.specs.Refusals.{bad_rect, bad_square, bad_window, bad_map, too_short, bad_length, bad_version}
use Rattle.model.specs.Refusals.{ordered_from, disordered, no_room}
use Rattle.model.specs.Cases.{fed_as}
use Rattle.model.specs.Worked.{cells, others, pools, measures, Highest, Length-first, HandledCase, AllHandled, handled}
use Rattle.model.specs.Worked.{Worked-cases}
use Rattle.model.specs.Clearing.{clear_map}
use Rattle.model.specs.Converting.{converted, convert}
use Rattle.model.specs.Handled.{Handled}
use Rattle.model.specs.Deepest.{least, middles, middles_up_to, runs_at, deepest_runs, words_of, deepest_words}
use Rattle.model.specs.Spawning.{ranges_from, ranges_of, entry_of, entries_of, meets}
use Rattle.model.specs.Range.{named, bound_by, range_by}
use Rattle.model.specs.Call.{deepest, measure, written, refused, gave}
use Rattle.model.specs.Pools.{PlainWorld, make_by, measure_by, step}
use Rattle.model.proofs.Deepest.{least-22, deepest-words}
use Rattle.model.proofs.Calc.{union, map_runs, some_bit, clipped, runs_of, union_at, fates_runs, plan_runs, serve_runs}
use Rattle.model.proofs.WorkedPools.{due-short, due-room, measured-answer, opened_at, put_runs, claims_runs}
use Rattle.model.proofs.WorkedPools.{others_runs, first_refused_runs, places_runs}
use Rattle.model.proofs.WorkedPools.{stopped_by, due_answer, stopped_answer, measure_runs, at_by, new_worlds, make_runs}
use Rattle.model.proofs.WorkedPools.{step_runs, pool_shown, pool_left, fits, PoolShown, pool-computed, pool-expected}
use Rattle.model.proofs.WorkedPools.{pools-hold}
use Rattle.model.proofs.Cases.{Shown, shown, left, computed, expected, rows-hold}
use Rattle.model.proofs.Cells.{set_rows, rect_runs, count_rect_runs, row_halves, column_halves, survey_runs}

-- ---- the tables, computed
-- a call on a lent slice alone, and what it is to come to
abbrev call_of : HandledCase → Handled
call_of c = c.call

abbrev told_of : HandledCase → Handled
told_of c = c.is

-- the rows of worlds, of pools and of lent slices
record Tables : Type 0 where
  worlds : List Shown
  pooled : List PoolShown
  slices : List Handled

-- what they come to, and what they are to come to
abbrev come-to : Tables
come-to = record {
  worlds = map computed (cells ++ others);
  pooled = map pool-computed (pools ++ measures);
  slices = map call_of handled;
}

abbrev due : Tables
due = record {
  worlds = map expected (cells ++ others);
  pooled = map pool-expected (pools ++ measures);
  slices = map told_of handled;
}

tables-compute : come-to ≡ due
unfolding cells others pools measures handled shown left pool_shown pool_left fits step_runs make_runs new_worlds at_by
    opened_at put_runs claims_runs others_runs bad_limits measure_runs due_answer stopped_answer stopped_by
    first_refused_runs places_runs meets find ranges_of ranges_from entries_of entry_of named bound_by range_by least middles
    middles_up_to runs_at deepest_runs words_of deepest_words clear_map convert converted stray_bits cleared count serve_runs
    plan_runs union_at fates_runs another fed_as runs_of union map_runs some_bit clipped clip set_runs on_range set_to insert clear combine_runs
    and_runs or_runs xor_runs minus_runs set_all flip_runs inverted complement_runs shift_runs shift_left_runs
    shift_right_runs drawn_first drawn_last past_first past_last widths mem select_runs first_long set_rows
    rect_runs count_rect_runs row_halves column_halves survey_runs big_endian value_from value_of encode_runs column
    columns_from columns encode runs_due edition_of decode_runs runs_told decode bits bytes_from map_of map_bit
    into_front bad_rect bad_square bad_window bad_map too_short bad_length bad_version ordered_from disordered no_room
tables-compute = refl

-- rows of lent slices hold as they compute
all-handled : (cs : List HandledCase) → map call_of cs ≡ map told_of cs → AllHandled cs
all-handled [] e = tt
all-handled (c ∷ cs) e = (cc, all-handled cs (cc))

-- ---- the list for height 22
-- how many words it has
words-22 : length (deepest_words 22) ≡ 92734
words-22 = omega (arith, deepest-words 22, least-22)

-- neither 13 nor 8 is due
answer-22 : (ws : List PlainWorld) (out : List ℕ)
    → (step 46367 ws (measure (deepest 22) out)).answer ≡ due_answer (deepest_words 22) out
unfolding step measure_runs
answer-22 ws out =
    measured-answer 46367 ws out (deepest 22)
    ∙ ap (λ b. elim b [ true ↦ refused 8 | false ↦ due_answer (deepest_words 22) out ])
    (le-ltb 46367 (least 22) (omega (arith, least-22)))

highest : Highest
highest = (
  words-22,
  λ ws out h. answer-22 ws out ∙ due-short (deepest_words 22) out (omega (arith, words-22)),
  λ ws out h. answer-22 ws out ∙ due-room (deepest_words 22) out (omega (arith, words-22))
      ∙ ap (λ n. gave (written n (into_front (deepest_words 22) out))) words-22,
)

-- ---- 1 comes first
length-first : Length-first
unfolding make_by measure_by
length-first C ws ls q out = (refl, refl)

-- THE WORKED CASES
pub worked-cases : Worked-cases
worked-cases = (
  rows-hold (cells ++ others) (ap (λ (t : Tables). t.worlds) tables-compute),
  pools-hold (pools ++ measures) (ap (λ (t : Tables). t.pooled) tables-compute),
  all-handled handled (ap (λ (t : Tables). t.slices) tables-compute),
  highest,
  length-first,
)
