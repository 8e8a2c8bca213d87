-- The cases hold: every row of the table is computed on run lists, and the computed model is the plain one. Assumes nothing.
use mathlib.Core.Path.{◌≡◌, refl, sym, ap, ap₂, ◌∙◌}
use mathlib.Core.List.{List, [], ◌∷◌, map}
use Prim.Native.Nat.{ℕ}
use Rattle.model.specs.declared.Run.{Run}
use Rattle.model.specs.Numbers.{size}
use Rattle.model.specs.Positions.{mem, past_first, past_last}
use Rattle.model.proofs.Finds.{select_runs}
use Rattle.model.proofs.Gaps.{first_long}
use Rattle.model.specs.RunList.{Canon, insert, clear}
use Rattle.model.proofs.RunList.{widths}
use Rattle.model.proofs.Clip.{clip}
use Rattle.model.proofs.Edit.{set_to, on_range, set_runs}
use Rattle.model.proofs.Ops.{
  set_all,
  or_runs,
  minus_runs,
  and_runs,
  xor_runs,
  combine_runs,
  inverted,
  flip_runs,
  complement_runs,
  shift_left_runs,
  shift_right_runs,
  shift_runs,
  bounded-mem,
}
use Rattle.model.specs.Bytes.{
  big_endian,
  value_from,
  value_of,
  encode_runs,
  column,
  columns_from,
  columns,
  encode,
  runs_due,
  edition_of,
  decode_runs,
  runs_told,
  decode,
  bits,
  bytes_from,
  map_of,
  map_bit,
  into_front,
}
use Rattle.model.specs.Mending.{another}
use Rattle.model.specs.Refusals.{bad_window, bad_map, too_short, bad_length, bad_version, ordered_from, disordered, no_room}
use lib.Dec.{ltb}
use Rattle.model.specs.Call.{Call, holding, Answer}
use Rattle.model.specs.Model.{drawn_first, drawn_last, plan, serve}
use Rattle.model.specs.Pools.{PoolOutcome, step, answers, after, alone}
use Rattle.model.specs.Cases.{Given, having, fed_as, on_first, Case, Holds, AllHold, table}
use Rattle.model.proofs.Pools.{step-alone}
use Rattle.model.proofs.Calc.{union, map_runs, some_bit, clipped, runs_of, union_at, fates_runs, plan_runs, serve_runs, mem-empty, calc, calc-tied}

-- ---- the rows, computed on run lists
pub record Shown : Type 0 where
  pub answers-are : List Answer
  pub runs-are : List Run

unfoldable pub shown : ℕ → List Run → List (Call Given) → List Answer
shown C rs [] = []
shown C rs (c ∷ cs) = (calc C (having rs) c).answer ∷ shown C (calc C (having rs) c).runs cs

unfoldable pub left : ℕ → List Run → List (Call Given) → List Run
left C rs [] = rs
left C rs (c ∷ cs) = left C (calc C (having rs) c).runs cs

-- one call on a world alone is the one computed
module _ (C : ℕ) (rs : List Run) (c : Canon size 0 rs) (k : Call Given) where
  same : {T : Type 0} (f : PoolOutcome → T) → f (step C (alone C (mem rs)) (on_first k)) ≡ f (record {
    answer = (serve (ltb C) (fed_as (having rs)) (plan fed_as k)).answer;
    worlds = alone C (serve (ltb C) (fed_as (having rs)) (plan fed_as k)).positions;
  })
  unfolding fed_as
  same f = ap f (step-alone C (mem rs) (plan fed_as k) ∙ ap (λ P. record { answer = (serve (ltb C) (holding P) (plan fed_as k)).answer; worlds = alone C (serve (ltb C) (holding P) (plan fed_as k)).positions }) (sym (bounded-mem rs c)))

  one_answer : (step C (alone C (mem rs)) (on_first k)).answer ≡ (calc C (having rs) k).answer
  one_answer = same (λ o. o.answer) ∙ (calc-tied C (having rs) k).answer

  one_left : (step C (alone C (mem rs)) (on_first k)).worlds ≡ alone C (mem (calc C (having rs) k).runs)
  one_left = same (λ o. o.worlds) ∙ ap (alone C) (calc-tied C (having rs) k).positions

shown-answers : (C : ℕ) (rs : List Run) (cs : List (Call Given)) → Canon size 0 rs → answers C (alone C (mem rs)) (map on_first cs) ≡ shown C rs cs
unfolding answers shown
shown-answers C rs [] c = refl
shown-answers C rs (k ∷ cs) c =
    ap₂ {C = List Answer} (λ a as'. a ∷ as') (one_answer C rs c k)
    (ap (λ ws. answers C ws (map on_first cs)) (one_left C rs c k) ∙ shown-answers C (calc C (having rs) k).runs cs (calc-tied C (having rs) k).canonical)

left_after : (C : ℕ) (rs : List Run) (cs : List (Call Given)) → Canon size 0 rs → after C (alone C (mem rs)) (map on_first cs) ≡ alone C (mem (left C rs cs))
unfolding after left
left_after C rs [] c = refl
left_after C rs (k ∷ cs) c =
    ap (λ ws. after C ws (map on_first cs)) (one_left C rs c k) ∙ left_after C (calc C (having rs) k).runs cs (calc-tied C (having rs) k).canonical

abbrev pub computed : Case → Shown
computed c = record { answers-are = shown c.capacity [] c.calls; runs-are = left c.capacity [] c.calls }

abbrev pub expected : Case → Shown
expected c = record { answers-are = c.answers-are; runs-are = c.runs-are }

row-holds : (c : Case) → computed c ≡ expected c → Holds c
row-holds c e = record {
  answered =
      ap (λ P. answers c.capacity (alone c.capacity P) (map on_first c.calls)) (sym mem-empty) ∙ shown-answers c.capacity [] c.calls tt
      ∙ ap (λ (s : Shown). s.answers-are) e;
  held =
      ap (λ P. after c.capacity (alone c.capacity P) (map on_first c.calls)) (sym mem-empty) ∙ left_after c.capacity [] c.calls tt
      ∙ ap (λ (s : Shown). alone c.capacity (mem s.runs-are)) e;
}

first : Shown → List Shown → Shown
first d [] = d
first d (s ∷ ss) = s

rest : List Shown → List Shown
rest [] = []
rest (s ∷ ss) = ss

pub rows-hold : (cs : List Case) → map computed cs ≡ map expected cs → AllHold cs
unfolding first rest
rows-hold [] e = tt
rows-hold (c ∷ cs) e = (row-holds c (ap (first (computed c)) e), rows-hold cs (ap rest e))

table-computes : map computed table ≡ map expected table
unfolding table shown left serve_runs plan_runs union_at fates_runs another fed_as runs_of union map_runs some_bit clipped clip
    set_runs on_range set_to insert clear combine_runs and_runs or_runs xor_runs minus_runs set_all flip_runs inverted complement_runs shift_runs shift_left_runs
    shift_right_runs widths mem select_runs first_long drawn_first drawn_last past_first past_last big_endian value_from value_of encode_runs column columns_from columns encode
    runs_due edition_of decode_runs runs_told decode bits bytes_from map_of map_bit into_front bad_window bad_map too_short bad_length bad_version ordered_from disordered no_room
table-computes = refl

-- THE CASES
pub cases-hold : AllHold table
cases-hold = rows-hold table table-computes
