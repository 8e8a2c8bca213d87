-- A second table of worked cases, beside that of Cases.antt: cells of a grid, pools of several worlds, measured pools,
-- and more rows for calls of the first table, where wrong models slip through it. Its numbers are worked out by hand
-- from what each call is to do. Assumes nothing: these are definitions.
use Rattle.std.specs.Prelude.{None, Some}
use Rattle.std.specs.Prelude.{◌≡◌, true, false, List, [], ◌∷◌, ◌++◌, map, length}
use Rattle.std.specs.Prelude.{ℕ, zero, suc, ◌-◌, ◌^◌, ◌≤◌, ◌<◌}
use Rattle.std.specs.declared.ops.Bound.TheVariants.{Included, Excluded, Unbounded}
use Rattle.model.specs.declared.Run.{Run}
use Rattle.model.specs.declared.Rect.{Rect}
use Rattle.model.specs.declared.Limits.{Limits}
use Rattle.model.specs.declared.Operation.TheVariants.{And, Or}
use Rattle.model.specs.declared.Edition.TheVariants.{Rows, Columns}
use Rattle.model.specs.Positions.{run, mem}
use Rattle.model.specs.Bytes.{encode, into_front}
use Rattle.model.specs.Deepest.{deepest_words}
use Rattle.model.specs.Call.{Call, set, flip, get, run_at, tally, select, gap, draw_front, draw_back, shift, shifted}
use Rattle.model.specs.Call.{combine, complement, equal, load, mend, build, write_set}
use Rattle.model.specs.Call.{read_map, write_map, fill, set_strict, flip_strict, tally_strict}
use Rattle.model.specs.Call.{set_rect, count_rect, survey}
use Rattle.model.specs.Call.{Measure, deepest, why_full, PoolCall, make, measure, at, told_as}
use Rattle.model.specs.Call.{Result, done, number, tallied, value, around, position, drawn, written, mended}
use Rattle.model.specs.Call.{Answer, refused, gave}
use Rattle.model.specs.Model.{plan}
use Rattle.model.specs.Pools.{PlainWorld, make_by, measure_by, step, answers, after}
use Rattle.model.specs.Handled.{Handled}
use Rattle.model.specs.Clearing.{clear_map}
use Rattle.model.specs.Converting.{convert}
use Rattle.model.specs.Cases.{Given, no_store, broken, shut, having, fed_as, Case, AllHold, mixed}
use Rattle.model.specs.Cases.{M, from, upto, left-of, case-16-set, blank}

-- ---- rows of a table: a call and its answer
pub record Said (S : Type 0) : Type 0 where
  pub call : S
  pub answer : Answer

-- the call gives this
infix 90 ◌gives◌
abbrev pub ◌gives◌ : {S : Type 0} → S → Result → Said S
c gives a = record { call = c; answer = gave a }

-- it earns the refusal of this number
infix 90 ◌earns◌
abbrev pub ◌earns◌ : {S : Type 0} → S → ℕ → Said S
c earns n = record { call = c; answer = refused n }

-- the calls of a row
abbrev pub calls_of : {S : Type 0} → List (Said S) → List S
calls_of [] = []
calls_of (s ∷ ss) = s.call ∷ calls_of ss

-- and their answers
abbrev pub answers_of : {S : Type 0} → List (Said S) → List Answer
answers_of [] = []
answers_of (s ∷ ss) = s.answer ∷ answers_of ss

-- a row of calls on one world, and the runs that it holds afterwards
abbrev pub says : ℕ → List (Said (Call Given)) → List Run → Case
says C ss left = mixed C (calls_of ss) (answers_of ss) left

-- ---- cells of a grid: the cell at a row and a column is the position row × 65,536 + column
-- the rectangle of two corners, which belong to it: row and column of each
abbrev pub corners : ℕ → ℕ → ℕ → ℕ → Rect
corners r c r' c' = record { top = r; left = c; bottom = r'; right = c' }

-- rows on cells
unfoldable pub cells : List Case
cells =
    -- a rectangle of two rows: how many cells changed, and which positions they are; half of the next one was held
    says 4 (
    set_rect (corners 1 2 2 4) true gives number 6
    ∷ set_rect (corners 2 3 3 3) false gives number 1
    ∷ count_rect (corners 1 3 2 4) gives number 3
    ∷ count_rect (corners 0 0 3 65535) gives number 5
    ∷ [])
    (run 65538 65540 ∷ run 131074 131074 ∷ run 131076 131076 ∷ [])
    -- the last row and column are on the plane, no further one is, of either corner; a first corner beyond the second
    ∷ says 4 (
    set_rect (corners 65535 65535 65535 65535) true gives number 1
    ∷ set_rect (corners 65535 65536 65535 65536) true earns 15
    ∷ set_rect (corners 65536 0 65536 0) true earns 15
    ∷ set_rect (corners 65535 0 65536 0) true earns 15
    ∷ set_rect (corners 0 65535 0 65536) true earns 15
    ∷ set_rect (corners 2 5 1 5) true earns 15
    ∷ set_rect (corners 1 5 1 4) true earns 15
    ∷ count_rect (corners 65535 65535 65535 65535) gives number 1
    ∷ count_rect (corners 65535 65535 65535 65536) earns 15
    ∷ count_rect (corners 1 5 1 4) earns 15
    ∷ count_rect (corners 1 5 1 5) gives number 0
    ∷ [])
    (run 4294967295 4294967295 ∷ [])
    -- whole rows are one run
    ∷ says 1 (
    set_rect (corners 3 0 4 65535) true gives number 131072
    ∷ [])
    (run 196608 327679 ∷ [])
    -- 8 by the runs after the whole rectangle: the first row alone would part the run; two rows of cells are two runs
    ∷ says 1 (
    build (run 0 196607 ∷ []) gives done
    ∷ set_rect (corners 1 0 2 65535) false gives number 131072
    ∷ set_rect (corners 1 2 2 4) true earns 8
    ∷ [])
    (run 0 65535 ∷ [])
    -- a square whose left column is held is halved once, by column: halved by row first it would come in four pieces
    ∷ says 4 (
    build (run 0 0 ∷ run 65536 65536 ∷ []) gives done
    ∷ survey 0 0 1 (blank 11) gives written 10 (
    0 ∷ 0 ∷ 2 ∷ 1 ∷ 1
    ∷ 0 ∷ 1 ∷ 2 ∷ 1 ∷ 0
    ∷ 0xEE ∷ [])
    ∷ [])
    (run 0 0 ∷ run 65536 65536 ∷ [])
    -- one whose upper row is held comes in four: the left half before the right, in each the upper before the lower
    ∷ says 4 (
    build (run 0 1 ∷ []) gives done
    ∷ survey 0 0 1 (blank 20) gives written 20 (
    0 ∷ 0 ∷ 1 ∷ 1 ∷ 1
    ∷ 1 ∷ 0 ∷ 1 ∷ 1 ∷ 0
    ∷ 0 ∷ 1 ∷ 1 ∷ 1 ∷ 1
    ∷ 1 ∷ 1 ∷ 1 ∷ 1 ∷ 0 ∷ [])
    ∷ [])
    (run 0 1 ∷ [])
    -- side 4: the left half is held; of the right one the upper half is not, and the lower one's left column is
    ∷ says 4 (
    set_rect (corners 4 8 7 9) true gives number 8
    ∷ set_rect (corners 6 10 7 10) true gives number 2
    ∷ survey 4 8 2 (blank 20) gives written 20 (
    4 ∷ 8 ∷ 4 ∷ 2 ∷ 1
    ∷ 4 ∷ 10 ∷ 2 ∷ 2 ∷ 0
    ∷ 6 ∷ 10 ∷ 2 ∷ 1 ∷ 1
    ∷ 6 ∷ 11 ∷ 2 ∷ 1 ∷ 0 ∷ [])
    ∷ survey 4 8 1 (blank 5) gives written 5 (4 ∷ 8 ∷ 2 ∷ 2 ∷ 1 ∷ [])
    ∷ survey 6 10 1 (blank 10) gives written 10 (
    6 ∷ 10 ∷ 2 ∷ 1 ∷ 1
    ∷ 6 ∷ 11 ∷ 2 ∷ 1 ∷ 0 ∷ [])
    ∷ survey 6 10 0 (blank 5) gives written 5 (6 ∷ 10 ∷ 1 ∷ 1 ∷ 1 ∷ [])
    ∷ survey 4 8 2 (blank 19) earns 2
    ∷ [])
    (run 262152 262153 ∷ run 327688 327689 ∷ run 393224 393226 ∷ run 458760 458762 ∷ [])
    -- one value, one piece; up to the plane's edge and not beyond it; no side above 2^8; and 15 comes before 2
    ∷ says 4 (
    survey 65280 65280 8 (blank 5) gives written 5 (65280 ∷ 65280 ∷ 256 ∷ 256 ∷ 0 ∷ [])
    ∷ survey 65281 0 8 (blank 5) earns 15
    ∷ survey 0 65281 8 (blank 5) earns 15
    ∷ survey 65535 65535 0 (blank 5) gives written 5 (65535 ∷ 65535 ∷ 1 ∷ 1 ∷ 0 ∷ [])
    ∷ survey 65535 0 1 (blank 5) earns 15
    ∷ survey 65536 0 0 (blank 5) earns 15
    ∷ survey 0 0 9 (blank 5) earns 15
    ∷ survey 0 0 9 [] earns 15
    ∷ survey 0 0 8 [] earns 2
    ∷ [])
    []
    ∷ []

-- ---- what wrong models of the other calls get wrong
-- a written set of the runs 258 .. 772, 66051 .. 66052 and M − 1 .. M, run by run
abbrev pub three-rows : List ℕ
three-rows =
    0x01 ∷ 0x00 ∷ 0x00 ∷ 0x00 ∷ 0x03
    ∷ 0x00 ∷ 0x00 ∷ 0x00 ∷ 0x00 ∷ 0x00 ∷ 0x00 ∷ 0x01 ∷ 0x02
    ∷ 0x00 ∷ 0x00 ∷ 0x00 ∷ 0x00 ∷ 0x00 ∷ 0x00 ∷ 0x03 ∷ 0x04
    ∷ 0x00 ∷ 0x00 ∷ 0x00 ∷ 0x00 ∷ 0x00 ∷ 0x01 ∷ 0x02 ∷ 0x03
    ∷ 0x00 ∷ 0x00 ∷ 0x00 ∷ 0x00 ∷ 0x00 ∷ 0x01 ∷ 0x02 ∷ 0x04
    ∷ 0xFF ∷ 0xFF ∷ 0xFF ∷ 0xFF ∷ 0xFF ∷ 0xFF ∷ 0xFF ∷ 0xFE
    ∷ 0xFF ∷ 0xFF ∷ 0xFF ∷ 0xFF ∷ 0xFF ∷ 0xFF ∷ 0xFF ∷ 0xFF ∷ []

-- and column by column: the eight of the starts, four on a line, and the eight of the ends
abbrev pub three-columns : List ℕ
three-columns =
    0x02 ∷ 0x00 ∷ 0x00 ∷ 0x00 ∷ 0x03
    ∷ 0x00 ∷ 0x00 ∷ 0xFF ∷ 0x00 ∷ 0x00 ∷ 0xFF ∷ 0x00 ∷ 0x00 ∷ 0xFF ∷ 0x00 ∷ 0x00 ∷ 0xFF
    ∷ 0x00 ∷ 0x00 ∷ 0xFF ∷ 0x00 ∷ 0x01 ∷ 0xFF ∷ 0x01 ∷ 0x02 ∷ 0xFF ∷ 0x02 ∷ 0x03 ∷ 0xFE
    ∷ 0x00 ∷ 0x00 ∷ 0xFF ∷ 0x00 ∷ 0x00 ∷ 0xFF ∷ 0x00 ∷ 0x00 ∷ 0xFF ∷ 0x00 ∷ 0x00 ∷ 0xFF
    ∷ 0x00 ∷ 0x00 ∷ 0xFF ∷ 0x00 ∷ 0x01 ∷ 0xFF ∷ 0x03 ∷ 0x02 ∷ 0xFF ∷ 0x04 ∷ 0x04 ∷ 0xFF ∷ []

-- these runs
abbrev pub three-runs : List Run
three-runs = run 258 772 ∷ run 66051 66052 ∷ run (M - 1) M ∷ []

-- runs in any order, which overlap, touch, are equal, lie in another one, are dropped or stand alone
abbrev pub tangled : List Run
tangled =
    run 20 30 ∷ run 5 4 ∷ run 8 9 ∷ run 25 35 ∷ run 50 50 ∷ run 4 7 ∷ run 50 50 ∷ run 100 101
    ∷ run 22 23 ∷ []

-- and their union
abbrev pub untangled : List Run
untangled = run 4 9 ∷ run 20 35 ∷ run 50 50 ∷ run 100 101 ∷ []

-- rows on gaps, strict forms, fill, maps, written and mended sets
unfoldable pub others : List Case
others =
    -- two worlds are the same where they hold the same positions, and not where they hold as many
    says 4 (
    build (run 5 7 ∷ []) gives done
    ∷ equal (having (run 5 7 ∷ [])) gives value true
    ∷ equal (having (run 4 6 ∷ [])) gives value false
    ∷ [])
    (run 5 7 ∷ [])
    -- draws from the back where more than one run is left, one that begins with its range, and one that finds no run
    ∷ says 4 (
    build (run 2 7 ∷ run 10 14 ∷ run 20 20 ∷ []) gives done
    ∷ draw_back (left-of 4 11 true) gives drawn (Some (run 10 11)) (left-of 4 9 true)
    ∷ draw_back (left-of 0 30 true) gives drawn (Some (run 20 20)) (left-of 0 19 true)
    ∷ draw_back (left-of 4 8 true) gives drawn (Some (run 4 7)) (left-of 1 0 true)
    ∷ draw_front (left-of 8 9 true) gives drawn None (left-of 1 0 true)
    ∷ [])
    (run 2 7 ∷ run 10 14 ∷ run 20 20 ∷ [])
    -- a left shift frees what it leaves behind, and one to the right goes by more than 63 too
    ∷ says 4 (build (run 0 3 ∷ []) gives done ∷ shift 2 true gives done ∷ run_at 0 gives around (run 0 1) ∷ [])
    (run 2 5 ∷ [])
    ∷ says 4 (build (run 66 71 ∷ []) gives done ∷ shift 64 false gives done ∷ []) (run 2 7 ∷ [])
    -- what two sets share, in place of what they do not; a copy of another world, shifted; one of an unsound pool
    ∷ says 4 (
    combine And (having (run 2 7 ∷ [])) (having (run 5 9 ∷ [])) gives done
    ∷ run_at 5 gives around (run 5 7)
    ∷ shifted 1 true (having (run 3 4 ∷ [])) gives done
    ∷ shifted 1 true broken earns 7
    ∷ [])
    (run 4 5 ∷ [])
    -- a map begins with its window; windows and lengths that are refused; two spare bits that are one
    ∷ says 4 (
    build (run 8 9 ∷ []) gives done
    ∷ write_map 8 8 (blank 1) gives written 1 (0x03 ∷ [])
    ∷ read_map 0 0 [] earns 6
    ∷ read_map M 2 (0x00 ∷ []) earns 6
    ∷ read_map 0 9 (0xFF ∷ 0xFE ∷ []) earns 10
    ∷ [])
    (run 8 9 ∷ [])
    -- a set that is too short for its runs or too long, before their order; touching runs; a reversed range is flipped as an empty one
    ∷ says 4 (
    load (0x01 ∷ 0x00 ∷ 0x00 ∷ 0x00 ∷ 0x02 ∷ []) earns 3
    ∷ load (0x01 ∷ 0x00 ∷ 0x00 ∷ 0x00 ∷ 0x00 ∷ 0x00 ∷ []) earns 3
    ∷ build (run 2 3 ∷ run 4 5 ∷ []) earns 5
    ∷ flip (from 8) (upto 2) gives done
    ∷ [])
    []
    -- the lowest gap: at the ends of the range and of all positions, in cut stretches; in an empty and a reversed range
    ∷ says 4 (
    build (run 3 5 ∷ run 8 (M - 2) ∷ []) gives done
    ∷ gap Unbounded Unbounded 3 gives position (Some 0)
    ∷ gap (from 1) Unbounded 3 gives position None
    ∷ gap (from 1) Unbounded 2 gives position (Some 1)
    ∷ gap (from 2) Unbounded 2 gives position (Some 6)
    ∷ gap (from 2) (upto 3) 1 gives position (Some 2)
    ∷ gap (from 2) (upto 4) 2 gives position None
    ∷ gap (Excluded 6) Unbounded 2 gives position (Some (M - 1))
    ∷ gap (Excluded 6) (Included M) 1 gives position (Some 7)
    ∷ gap (from 7) (upto M) 2 gives position None
    ∷ gap (Excluded (M - 1)) Unbounded 1 gives position (Some M)
    ∷ gap (Excluded M) Unbounded 1 gives position None
    ∷ gap (from 7) (upto 2) 1 gives position None
    ∷ gap (from 7) (upto 2) 0 earns 9
    ∷ gap Unbounded Unbounded M gives position None
    ∷ [])
    (run 3 5 ∷ run 8 (M - 2) ∷ [])
    -- strict forms by bounds that exclude their value, up to 0 and from 2^64 on: only a reversed range earns 14
    ∷ says 4 (
    build (run 2 3 ∷ run 8 9 ∷ []) gives done
    ∷ tally_strict (Excluded 5) (upto 5) true earns 14
    ∷ tally_strict (Excluded 5) (upto 6) true gives tallied 0 0
    ∷ tally_strict (from 5) (upto 5) true gives tallied 0 0
    ∷ tally_strict Unbounded (upto 0) false gives tallied 0 0
    ∷ tally_strict (Excluded 0) (upto 0) false earns 14
    ∷ tally_strict (Excluded M) Unbounded false gives tallied 0 0
    ∷ tally_strict (Excluded M) (Included M) false gives tallied 0 0
    ∷ tally_strict (Excluded M) (upto M) false earns 14
    ∷ tally (Excluded M) (upto M) false gives tallied 0 0
    ∷ tally_strict (Excluded 2) (Included 8) true gives tallied 2 2
    ∷ tally_strict (Excluded 2) (Included 8) false gives tallied 4 1
    ∷ set_strict (Excluded 9) (Included 9) false gives number 0
    ∷ flip_strict (Excluded 9) (upto 9) earns 14
    ∷ flip_strict (Excluded 2) (upto 8) gives done
    ∷ [])
    (run 2 2 ∷ run 4 9 ∷ [])
    -- fill is rounded up: one, two and three of three
    ∷ says 4 (
    set (from 0) (upto 1) true gives number 1
    ∷ fill 0 3 gives number 334
    ∷ set (from 1) (upto 2) true gives number 1
    ∷ fill 0 3 gives number 667
    ∷ set (from 2) (upto 3) true gives number 1
    ∷ fill 0 3 gives number 1000
    ∷ [])
    (run 0 2 ∷ [])
    -- 999 of 1000, of 1001 and of 2000; one of 1000, and none; the windows that are refused, and the last position
    ∷ says 4 (
    build (run 0 998 ∷ []) gives done
    ∷ fill 0 1000 gives number 999
    ∷ fill 0 1001 gives number 999
    ∷ fill 0 2000 gives number 500
    ∷ fill 998 1000 gives number 1
    ∷ fill 999 1000 gives number 0
    ∷ fill 0 999 gives number 1000
    ∷ fill 0 0 earns 6
    ∷ fill 0 524289 earns 6
    ∷ fill M 1 gives number 0
    ∷ fill M 2 earns 6
    ∷ [])
    (run 0 998 ∷ [])
    -- windows of 9, 10, 15 and 16 positions have seven, six, one and no spare bit; 6 comes first; they are written as 0
    ∷ says 4 (
    read_map 0 9 (0xFF ∷ 0x02 ∷ []) earns 10
    ∷ read_map 0 9 (0xFF ∷ 0x80 ∷ []) earns 10
    ∷ read_map 0 9 (0xFF ∷ []) earns 6
    ∷ read_map 0 9 (0xFF ∷ 0x01 ∷ []) gives number 9
    ∷ read_map 0 10 (0x00 ∷ 0x04 ∷ []) earns 10
    ∷ read_map 0 10 (0x00 ∷ 0x03 ∷ []) gives number 9
    ∷ read_map 0 15 (0x00 ∷ 0x80 ∷ []) earns 10
    ∷ read_map 0 15 (0x00 ∷ 0x7F ∷ []) gives number 5
    ∷ read_map 0 16 (0x00 ∷ 0xFF ∷ []) gives number 1
    ∷ write_map 0 9 (blank 3) gives written 2 (0x00 ∷ 0x01 ∷ 0xEE ∷ [])
    ∷ write_map 0 15 (blank 2) gives written 2 (0x00 ∷ 0x7F ∷ [])
    ∷ write_map 0 16 (blank 2) gives written 2 (0x00 ∷ 0xFF ∷ [])
    ∷ write_map 0 17 (blank 2) earns 2
    ∷ [])
    (run 8 15 ∷ [])
    -- three runs in both editions, each loaded and written; the empty set in edition 2; a slice that is a byte short
    ∷ says 3 (
    write_set Columns (blank 6) gives written 5 (0x02 ∷ 0x00 ∷ 0x00 ∷ 0x00 ∷ 0x00 ∷ 0xEE ∷ [])
    ∷ load three-columns gives done
    ∷ write_set Columns (blank 54) gives written 53 (three-columns ++ 0xEE ∷ [])
    ∷ write_set Rows (blank 54) gives written 53 (three-rows ++ 0xEE ∷ [])
    ∷ load three-rows gives done
    ∷ write_set Columns (blank 53) gives written 53 three-columns
    ∷ write_set Columns (blank 52) earns 2
    ∷ [])
    three-runs
    -- mending in both editions; sets that are right come back; a run with the start of a dropped one alone is kept
    ∷ says 4 (
    mend (encode Rows tangled) (blank 70) (blank 10) gives
    mended 69 (encode Rows untangled ++ 0xEE ∷ []) 9
    (1 ∷ 0 ∷ 1 ∷ 1 ∷ 1 ∷ 1 ∷ 1 ∷ 2 ∷ 1 ∷ 0xEE ∷ [])
    ∷ mend (encode Columns tangled) (blank 69) (blank 9) gives
    mended 69 (encode Columns untangled) 9 (1 ∷ 0 ∷ 1 ∷ 1 ∷ 1 ∷ 1 ∷ 1 ∷ 2 ∷ 1 ∷ [])
    ∷ mend (encode Columns untangled) (blank 69) (blank 4) gives
    mended 69 (encode Columns untangled) 4 (2 ∷ 2 ∷ 2 ∷ 2 ∷ [])
    ∷ mend three-rows (blank 53) (blank 3) gives mended 53 three-rows 3 (2 ∷ 2 ∷ 2 ∷ [])
    ∷ mend three-columns (blank 53) (blank 3) gives mended 53 three-columns 3 (2 ∷ 2 ∷ 2 ∷ [])
    ∷ mend (encode Rows (run 4 3 ∷ run 2 5 ∷ [])) (blank 21) (blank 2) gives
    mended 21 (encode Rows (run 2 5 ∷ [])) 2 (0 ∷ 2 ∷ [])
    ∷ [])
    (run 2 5 ∷ [])
    -- a reversed range selects nothing and earns nothing; a strict set frees too; a build keeps nothing; a copy is shifted to the right
    ∷ says 4 (
    build (run 2 3 ∷ run 8 8 ∷ []) gives done
    ∷ select (from 8) (upto 2) true 0 gives position None
    ∷ set_strict (from 8) (upto 9) false gives number 1
    ∷ build (run 5 6 ∷ []) gives done
    ∷ tally Unbounded Unbounded true gives tallied 2 1
    ∷ shifted 2 false (having (run 4 7 ∷ [])) gives done
    ∷ [])
    (run 2 5 ∷ [])
    ∷ []

-- ---- pools of several worlds
-- a world that is told by its runs
pub record Opened : Type 0 where
  pub runs : List Run
  pub floor : ℕ
  pub ceiling : ℕ

-- as the model keeps it
abbrev pub opened_as : Opened → PlainWorld
opened_as x = record { positions = mem x.runs; floor = x.floor; ceiling = x.ceiling }

-- a capacity C, calls on a pool that has no world yet, their answers, and the worlds afterwards
pub record PoolCase : Type 0 where
  pub capacity : ℕ
  pub calls : List (PoolCall (Call Given))
  pub answers-are : List Answer
  pub worlds-are : List Opened

-- what a row says of the plain model
pub record PoolHolds (c : PoolCase) : Type 0 where
  pub answered : answers c.capacity [] (map (told_as (plan fed_as)) c.calls) ≡ c.answers-are
  pub held : after c.capacity [] (map (told_as (plan fed_as)) c.calls) ≡ map opened_as c.worlds-are

-- and what a table says
abbrev pub AllPoolsHold : List PoolCase → Type 0
AllPoolsHold [] = Unit
AllPoolsHold (c ∷ cs) = PoolHolds c × AllPoolsHold cs

-- a row of calls on a pool, and its worlds afterwards
abbrev pub pool_says : ℕ → List (Said (PoolCall (Call Given))) → List Opened → PoolCase
pool_says C ss left = record { capacity = C; calls = calls_of ss; answers-are = answers_of ss; worlds-are = left }

-- a world's floor and ceiling
abbrev pub limits : ℕ → ℕ → Limits
limits f c = record { floor = f; ceiling = c }

-- a world of such limits, and the runs that it holds
abbrev pub opened : ℕ → ℕ → List Run → Opened
opened f c rs = record { runs = rs; floor = f; ceiling = c }

-- n worlds of the same limits
abbrev pub alike : ℕ → Limits → List Limits
alike zero l = []
alike (suc n) l = l ∷ alike n l

-- the position x is set to true in world i
abbrev pub hold : ℕ → ℕ → PoolCall (Call Given)
hold i x = at i (set (from x) (Included x) true)

-- and to false
abbrev pub free : ℕ → ℕ → PoolCall (Call Given)
free i x = at i (set (from x) (Included x) false)

-- rows on several worlds
unfoldable pub pools : List PoolCase
pools =
    -- 8 by the ceiling alone: world 0 may have one run though the pool has room for four, and world 1 three
    pool_says 4 (
    make (limits 0 1 ∷ limits 0 3 ∷ []) gives done
    ∷ hold 0 1 gives number 1
    ∷ hold 0 5 earns 8
    ∷ hold 0 2 gives number 1
    ∷ hold 1 5 gives number 1
    ∷ hold 1 7 gives number 1
    ∷ hold 1 9 gives number 1
    ∷ hold 1 11 earns 8
    ∷ [])
    (opened 0 1 (run 1 2 ∷ []) ∷ opened 0 3 (run 5 5 ∷ run 7 7 ∷ run 9 9 ∷ []) ∷ [])
    -- 8 by the sum of the larger of runs and floor: a floor of 2 is kept for an empty world, which then takes one more
    ∷ pool_says 4 (
    make (limits 2 4 ∷ limits 0 4 ∷ []) gives done
    ∷ hold 1 1 gives number 1
    ∷ hold 1 3 gives number 1
    ∷ hold 1 5 earns 8
    ∷ at 1 (build (run 1 1 ∷ run 3 3 ∷ run 5 5 ∷ [])) earns 8
    ∷ at 1 (combine Or (having (run 1 1 ∷ [])) (having (run 3 3 ∷ []))) gives done
    ∷ hold 0 1 gives number 1
    ∷ hold 0 3 gives number 1
    ∷ hold 0 5 earns 8
    ∷ free 1 3 gives number 1
    ∷ hold 0 5 gives number 1
    ∷ hold 1 3 earns 8
    ∷ free 0 3 gives number 1
    ∷ hold 1 3 gives number 1
    ∷ [])
    (opened 2 4 (run 1 1 ∷ run 5 5 ∷ []) ∷ opened 0 4 (run 1 1 ∷ run 3 3 ∷ []) ∷ [])
    -- a floor is reached however full the pool is: world 0 has all that floors leave it; a run that grows needs no room
    ∷ pool_says 5 (
    make (limits 0 5 ∷ limits 2 2 ∷ limits 1 3 ∷ []) gives done
    ∷ hold 0 1 gives number 1
    ∷ hold 0 3 gives number 1
    ∷ hold 0 5 earns 8
    ∷ hold 1 1 gives number 1
    ∷ hold 1 3 gives number 1
    ∷ hold 1 5 earns 8
    ∷ hold 2 1 gives number 1
    ∷ hold 2 3 earns 8
    ∷ hold 2 2 gives number 1
    ∷ at 2 (load case-16-set) earns 5
    ∷ at 0 (tally Unbounded Unbounded true) gives tallied 2 2
    ∷ [])
    (opened 0 5 (run 1 1 ∷ run 3 3 ∷ []) ∷ opened 2 2 (run 1 1 ∷ run 3 3 ∷ [])
    ∷ opened 1 3 (run 1 2 ∷ []) ∷ [])
    -- 11: worlds not 1 to 16, a floor above its ceiling, floors above C, though their sum may wrap; the worlds stay
    ∷ pool_says 4 (
    make [] earns 11
    ∷ make (alike 17 (limits 0 4)) earns 11
    ∷ make (alike 16 (limits 0 4)) gives done
    ∷ hold 15 7 gives number 1
    ∷ make [] earns 11
    ∷ make (limits 3 2 ∷ []) earns 11
    ∷ make (limits 0 4 ∷ limits 1 0 ∷ []) earns 11
    ∷ make (limits 3 4 ∷ limits 2 4 ∷ []) earns 11
    ∷ make (limits (2 ^ 63) M ∷ limits (2 ^ 63) M ∷ []) earns 11
    ∷ at 15 (get 7) gives value true
    ∷ make (limits 3 M ∷ limits 1 1 ∷ []) gives done
    ∷ at 15 (get 7) earns 12
    ∷ hold 1 7 gives number 1
    ∷ make (limits 4 4 ∷ []) gives done
    ∷ at 0 (get 7) gives value false
    ∷ [])
    (opened 4 4 [] ∷ [])
    -- 12 comes after 1 and 7 of any pool, and before every other refusal; of the worlds of further pools too
    ∷ pool_says 4 (
    make (limits 0 4 ∷ []) gives done
    ∷ hold 1 0 earns 12
    ∷ at 1 (gap Unbounded Unbounded 0) earns 12
    ∷ at 1 (set_strict (from 8) (upto 2) true) earns 12
    ∷ at 1 (set_rect (corners 65536 0 65536 0) true) earns 12
    ∷ at 1 (fill 0 0) earns 12
    ∷ at 1 (read_map 0 9 (0xFF ∷ 0xFF ∷ [])) earns 12
    ∷ at 1 (load []) earns 12
    ∷ at 1 (load case-16-set) earns 12
    ∷ at 1 (write_set Rows []) earns 12
    ∷ at 16 (get 0) earns 12
    ∷ at 1 (combine Or broken (having [])) earns 7
    ∷ at 1 (combine Or broken no_store) earns 1
    ∷ at 1 (equal no_store) earns 1
    ∷ at 0 (combine Or (having []) shut) earns 12
    ∷ at 0 (combine Or shut broken) earns 7
    ∷ at 0 (get 0) gives value false
    ∷ at 0 (gap Unbounded Unbounded 0) earns 9
    ∷ [])
    (opened 0 4 [] ∷ [])
    -- also where the pool has no room for any run
    ∷ pool_says 0 (
    make (limits 0 0 ∷ []) gives done
    ∷ hold 0 1 earns 8
    ∷ hold 1 1 earns 12
    ∷ at 1 (complement (having [])) earns 12
    ∷ at 0 (complement (having [])) earns 8
    ∷ at 0 (complement shut) earns 12
    ∷ [])
    (opened 0 0 [] ∷ [])
    ∷ []

-- ---- measured pools
-- a pool of one world, which may have all of it, is measured; its world stays empty
abbrev pub measured : ℕ → List (Said (PoolCall (Call Given))) → PoolCase
measured C ss = pool_says C (make (limits 0 C ∷ []) gives done ∷ ss) (opened 0 C [] ∷ [])

-- the question q, with a slice of n words
abbrev pub ask : Measure → ℕ → PoolCall (Call Given)
ask q n = measure q (blank n)

-- the words of a range before those of others: from a to b
abbrev pub closed : ℕ → ℕ → List ℕ → List ℕ
closed a b ws = 1 ∷ a ∷ 1 ∷ b ∷ ws

-- from a to b, without b
abbrev pub half-open : ℕ → ℕ → List ℕ → List ℕ
half-open a b ws = 1 ∷ a ∷ 2 ∷ b ∷ ws

-- from a to b, without a
abbrev pub past : ℕ → ℕ → List ℕ → List ℕ
past a b ws = 2 ∷ a ∷ 1 ∷ b ∷ ws

-- all positions below b
abbrev pub below : ℕ → List ℕ → List ℕ
below b ws = 3 ∷ 0 ∷ 2 ∷ b ∷ ws

-- 12 .. 13 and then 10 .. 11, which touch, an empty and a reversed range after them, one apart, and one more
abbrev pub spawned : List ℕ
spawned = closed 12 13 (half-open 5 5 (closed 10 11 (closed 8 2 (closed 20 20 (closed 0 0 [])))))

-- one range, one below it, one within the first, and one between
abbrev pub led-late : List ℕ
led-late = closed 20 29 (closed 5 5 (closed 20 20 (closed 7 7 [])))

-- two ranges, one that joins them, and two more
abbrev pub joining : List ℕ
joining = closed 1 1 (closed 5 5 (closed 2 4 (closed 9 9 (closed 20 20 []))))

-- rows on the deepest tree and on why a list stops
unfoldable pub measures : List PoolCase
measures =
    -- heights 1 to 5: of 1, 2, 4, 7, 12 ranks the middle one, then those of both parts, and so on; rank k is 2k .. 2k
    measured 12 (
    ask (deepest 1) 3 gives written 2 (0 ∷ 0 ∷ 0xEE ∷ [])
    ∷ ask (deepest 2) 4 gives written 4 (2 ∷ 2 ∷ 0 ∷ 0 ∷ [])
    ∷ ask (deepest 3) 8 gives written 8 (4 ∷ 4 ∷ 2 ∷ 2 ∷ 6 ∷ 6 ∷ 0 ∷ 0 ∷ [])
    ∷ ask (deepest 4) 14 gives
    written 14 (8 ∷ 8 ∷ 4 ∷ 4 ∷ 12 ∷ 12 ∷ 2 ∷ 2 ∷ 6 ∷ 6 ∷ 10 ∷ 10 ∷ 0 ∷ 0 ∷ [])
    ∷ ask (deepest 5) 24 gives written 24 (
    14 ∷ 14 ∷ 8 ∷ 8 ∷ 20 ∷ 20 ∷ 4 ∷ 4 ∷ 12 ∷ 12 ∷ 18 ∷ 18 ∷ 22 ∷ 22
    ∷ 2 ∷ 2 ∷ 6 ∷ 6 ∷ 10 ∷ 10 ∷ 16 ∷ 16 ∷ 0 ∷ 0 ∷ [])
    ∷ ask (deepest 5) 23 earns 2
    ∷ [])
    -- 13, 8 and 2, in this order
    ∷ measured 11 (
    ask (deepest 5) 24 earns 8
    ∷ ask (deepest 5) 0 earns 8
    ∷ ask (deepest 4) 13 earns 2
    ∷ ask (deepest 0) 0 earns 13
    ∷ ask (deepest 23) 0 earns 13
    ∷ [])
    ∷ measured 0 (
    ask (deepest 0) 0 earns 13
    ∷ ask (deepest 1) 2 earns 8
    ∷ [])
    -- the list for height 22 has 46,367 runs, and there is none for 23
    ∷ measured 46366 (
    ask (deepest 22) 0 earns 8
    ∷ [])
    ∷ measured 46367 (
    ask (deepest 23) 0 earns 13
    ∷ [])
    -- why a list stops: at C = 1 its fifth call is refused; the first listed in each run; no room for their places
    ∷ measured 1 (
    ask (why_full spawned) 3 gives written 2 (0 ∷ 4 ∷ 0xEE ∷ [])
    ∷ ask (why_full spawned) 1 earns 2
    ∷ [])
    -- places rise as in the list, and not as their runs do; a range of an earlier one's run is left out
    ∷ measured 2 (
    ask (why_full led-late) 3 gives written 3 (0 ∷ 1 ∷ 3 ∷ [])
    ∷ [])
    -- a range that led a run of its own leads none where a later one joined it to another
    ∷ measured 2 (
    ask (why_full joining) 3 gives written 3 (0 ∷ 3 ∷ 4 ∷ [])
    ∷ ask (why_full spawned) 3 gives written 3 (0 ∷ 4 ∷ 5 ∷ [])
    ∷ [])
    -- bounds that exclude their value, and none at all; words after the last whole four are no range
    ∷ measured 1 (
    ask (why_full (past 9 10 (below 1 (1 ∷ 5 ∷ 1 ∷ [])))) 2 gives written 2 (0 ∷ 1 ∷ [])
    ∷ [])
    -- 16 where every call is done, before the room is looked at; so of an empty list, and of one without a position
    ∷ measured 3 (
    ask (why_full joining) 0 earns 16
    ∷ ask (why_full []) 0 earns 16
    ∷ [])
    -- of a range without a bound its value is not read; words that are no whole range are no range, and a range that no position satisfies is
    -- none
    ∷ measured 1 (
    ask (why_full (closed 4 4 (3 ∷ 2 ∷ 2 ∷ 2 ∷ []))) 2 gives written 2 (0 ∷ 1 ∷ [])
    ∷ ask (why_full (closed 5 5 (1 ∷ 0 ∷ 1 ∷ []))) 0 earns 16
    ∷ [])
    ∷ measured 0 (
    ask (why_full (below 0 [])) 0 earns 16
    ∷ ask (why_full (half-open 5 5 (closed 0 1 []))) 1 gives written 1 (1 ∷ [])
    ∷ [])
    ∷ measured 0 (
    ask (why_full (half-open 5 5 (closed 8 2 []))) 0 earns 16
    ∷ ask (why_full (half-open 5 5 (closed 3 3 (closed 1 1 [])))) 1 gives written 1 (1 ∷ [])
    ∷ [])
    -- a range with a bound of a kind that is not named holds no position, whichever of its bounds that is, and whatever the other
    ∷ measured 0 (
    ask (why_full (0 ∷ 0 ∷ 0 ∷ 0 ∷ 0 ∷ 2 ∷ 1 ∷ 8 ∷ 1 ∷ 2 ∷ 0 ∷ 8 ∷ [])) 0 earns 16
    ∷ ask (why_full (4 ∷ 0 ∷ 3 ∷ 0 ∷ 3 ∷ 0 ∷ 4 ∷ 0 ∷ M ∷ 2 ∷ 2 ∷ 8 ∷ 2 ∷ 2 ∷ M ∷ 8 ∷ [])) 0 earns 16
    ∷ ask (why_full (0 ∷ 0 ∷ 3 ∷ 0 ∷ 3 ∷ 0 ∷ 0 ∷ 0 ∷ 3 ∷ 0 ∷ 3 ∷ 0 ∷ [])) 1 gives written 1 (2 ∷ [])
    ∷ [])
    ∷ []

-- the list for height 22 has 46,367 runs, two words each: a slice of fewer words is short, and any other gets them
abbrev pub Highest : Type 0
Highest =
    (length (deepest_words 22) ≡ 92734)
    × ((ws : List PlainWorld) (out : List ℕ) → length out < 92734
    → (step 46367 ws (measure (deepest 22) out)).answer ≡ refused 2)
    × ((ws : List PlainWorld) (out : List ℕ) → 92734 ≤ length out
    → (step 46367 ws (measure (deepest 22) out)).answer ≡ gave (written 92734 (into_front (deepest_words 22) out)))

-- a store of a wrong length is refused first: where a pool is made, and where it is measured
abbrev pub Length-first : Type 0
Length-first =
    (C : ℕ) (ws : List PlainWorld) (ls : List Limits) (q : Measure) (out : List ℕ)
    → ((make_by true C ws ls).answer ≡ refused 1) × ((measure_by true C ws q out).answer ≡ refused 1)

-- ---- calls on a lent slice alone
-- what a call comes to, and what it is to come to
pub record HandledCase : Type 0 where
  pub call : Handled
  pub is : Handled

-- and what a table says
abbrev pub AllHandled : List HandledCase → Type 0
AllHandled [] = Unit
AllHandled (c ∷ cs) = (c.call ≡ c.is) × AllHandled cs

-- a call, its answer, and the whole slice after it
abbrev pub handles : Handled → Answer → List ℕ → HandledCase
handles h a bs = record { call = h; is = record { answer = a; slice = bs } }

-- the empty set in edition 1
abbrev pub none-rows : List ℕ
none-rows = 0x01 ∷ 0x00 ∷ 0x00 ∷ 0x00 ∷ 0x00 ∷ []

-- and in edition 2
abbrev pub none-columns : List ℕ
none-columns = 0x02 ∷ 0x00 ∷ 0x00 ∷ 0x00 ∷ 0x00 ∷ []

-- rows on maps that are cleared, and on sets that are turned into the other edition
unfoldable pub handled : List HandledCase
handled =
    -- clearing a map: windows of 9, 10, 15, 16, 8 and 1 positions; the bits that are used stay
    handles (clear_map 0 9 (0xFF ∷ 0xFF ∷ [])) (gave (number 7)) (0xFF ∷ 0x01 ∷ [])
    ∷ handles (clear_map 0 10 (0x0C ∷ 0x83 ∷ [])) (gave (number 1)) (0x0C ∷ 0x03 ∷ [])
    ∷ handles (clear_map 0 15 (0x00 ∷ 0x80 ∷ [])) (gave (number 1)) (0x00 ∷ 0x00 ∷ [])
    ∷ handles (clear_map 0 16 (0xFF ∷ 0xFF ∷ [])) (gave (number 0)) (0xFF ∷ 0xFF ∷ [])
    ∷ handles (clear_map 0 8 (0xAA ∷ [])) (gave (number 0)) (0xAA ∷ [])
    ∷ handles (clear_map 0 1 (0xFE ∷ [])) (gave (number 7)) (0x00 ∷ [])
    -- 6, by the window or by the map's length, and the slice stays; a window that ends with the last position
    ∷ handles (clear_map 0 9 (0xFF ∷ [])) (refused 6) (0xFF ∷ [])
    ∷ handles (clear_map 0 9 (0xFF ∷ 0xFF ∷ 0xFF ∷ [])) (refused 6) (0xFF ∷ 0xFF ∷ 0xFF ∷ [])
    ∷ handles (clear_map 0 0 []) (refused 6) []
    ∷ handles (clear_map (M - 7) 9 (0xFF ∷ 0xFF ∷ [])) (refused 6) (0xFF ∷ 0xFF ∷ [])
    ∷ handles (clear_map (M - 8) 9 (0xFF ∷ 0xFF ∷ [])) (gave (number 7)) (0xFF ∷ 0x01 ∷ [])
    -- converting a set of either edition into the other; the empty set; room to spare
    ∷ handles (convert three-rows (blank 54))
    (gave (written 53 (three-columns ++ 0xEE ∷ []))) (three-columns ++ 0xEE ∷ [])
    ∷ handles (convert three-columns (blank 53)) (gave (written 53 three-rows)) three-rows
    ∷ handles (convert none-rows (blank 5)) (gave (written 5 none-columns)) none-columns
    -- 3 for fewer than five bytes, 4, 3 for the length, 5 in either edition, and 2, in this order; the slice stays
    ∷ handles (convert [] (blank 1)) (refused 3) (0xEE ∷ [])
    ∷ handles (convert (0x03 ∷ 0x00 ∷ 0x00 ∷ 0x00 ∷ []) []) (refused 3) []
    ∷ handles (convert (0x03 ∷ 0x00 ∷ 0x00 ∷ 0x00 ∷ 0x01 ∷ []) []) (refused 4) []
    ∷ handles (convert (0x00 ∷ 0x00 ∷ 0x00 ∷ 0x00 ∷ 0x00 ∷ []) []) (refused 4) []
    ∷ handles (convert (0x02 ∷ 0x00 ∷ 0x00 ∷ 0x00 ∷ 0x01 ∷ []) []) (refused 3) []
    ∷ handles (convert case-16-set []) (refused 5) []
    ∷ handles (convert (encode Columns (run 2 3 ∷ run 4 5 ∷ [])) (blank 40)) (refused 5) (blank 40)
    ∷ handles (convert (encode Columns (run 3 2 ∷ [])) []) (refused 5) []
    ∷ handles (convert three-rows (blank 52)) (refused 2) (blank 52)
    ∷ []

-- THE WORKED CASES
abbrev pub Worked-cases : Type 0
Worked-cases =
    AllHold (cells ++ others) × AllPoolsHold (pools ++ measures) × AllHandled handled × Highest × Length-first
