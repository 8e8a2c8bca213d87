-- Pools of several worlds, computed on run lists: a call on a world by its allowance, a pool that is made, and one that
-- is measured. Where the limits are kept, which is computed too, refusal 8 is given above the allowance; a world that
-- is not open answers alike whatever the limits. Assumes nothing.
use Rattle.std.specs.Prelude.{Option, None, Some}
use mathlib.Core.Path.{◌≡◌, refl, sym, ap, ap₂, ◌∙◌, fun_ext}
use mathlib.Core.Bool.{Bool, true, false, not, ◌&&◌, cond}
use mathlib.Core.List.{List, [], ◌∷◌, map}
use Prim.Native.Nat.{ℕ, zero, suc, ◌+◌, ◌-◌, ◌≤◌, ◌<◌, min, max}
use native.Mathlib.Omega.{arith}
use lib.Dec.{ltb, leb}
use lib.ListN.{length, take}
use borrow.Author.Tests.{leb-true, lt-ltb, le-ltb}
use Rattle.model.specs.declared.Run.{Run}
use Rattle.model.specs.declared.Limits.{Limits}
use Rattle.model.specs.Numbers.{size}
use Rattle.model.specs.Positions.{Positions, find, stretches, mem}
use Rattle.model.specs.Bytes.{into_front}
use Rattle.model.specs.RunList.{Canon}
use Rattle.model.specs.Deepest.{least, deepest_words}
use Rattle.model.specs.Spawning.{none_refused, places_told, ranges_of, entries_of, first_refused, meets, leads}
use Rattle.model.specs.Spawning.{places_from, places, why_full_up_to, why_full}
use Rattle.model.specs.Refusals.{Condition, earns_length, earns_unsound, store_length, world_limits, tree_height, not_refused, capacity}
use Rattle.model.specs.Refusals.{output_short}
use Rattle.model.specs.Refusals.{◌when◌, refusal, bad_limits, bad_height, no_room}
use Rattle.model.specs.Call
use Rattle.model.specs.Call.{Fed, unopened, holding, Call, Measure, PoolCall, told_as, make, measure, at}
use Rattle.model.specs.Call.{Result, done, written, Answer, refused, gave}
use Rattle.model.specs.Model.{Plan, any_earns, look, plan, serve}
use Rattle.model.specs.Pools.{PlainWorld, PoolOutcome, world_of, fed_by, claims, other_claims, full, holding_at}
use Rattle.model.specs.Pools.{serve_at, settle_make, make_by, empty_worlds, settle_measured, measure_by, step, answers}
use Rattle.model.specs.Pools.{after, allowance_of, allowance}
use Rattle.model.specs.Cases.{Given, shut, having, fed_as}
use Rattle.model.specs.Worked.{Opened, opened_as, PoolCase, PoolHolds, AllPoolsHold}
use Rattle.model.proofs.Edit.{and-holds}
use Rattle.model.proofs.Runs.{held_runs-mem, stretches-is}
use Rattle.model.proofs.Ops.{bounded-mem, bounded-below}
use Rattle.model.proofs.Pools.{full-allowance}
use Rattle.model.proofs.Calc.{Tied, union, union-canon, union-positions, union_at, union-around, calc, calc-tied}
use Rattle.model.proofs.Calc.{mem-empty}

-- ---- a world that is not open
-- a look at it refuses, whatever other worlds earn
shut-refused : (ss : List Fed) → (n : ℕ) × (look (unopened ∷ ss) ≡ Some n)
shut-refused ss = go (any_earns earns_length ss) (any_earns earns_unsound ss)
  where
    go : (x y : Bool) → (n : ℕ) × (cond x (Some 1) (cond y (Some 7) (Some 12)) ≡ Some n)
    go true y = (1, refl)
    go false true = (7, refl)
    go false false = (12, refl)

-- so it answers alike, whatever numbers of runs are too many
any-full : (f g : ℕ → Bool) (p : Plan) → serve f unopened p ≡ serve g unopened p
unfolding serve
any-full f g p =
    let e = (shut-refused p.further).1 in
    rw e

-- and no world changes
holding-none : (ws : List PlainWorld) (i : ℕ) (P : Positions) → world_of ws i ≡ None → holding_at i P ws ≡ ws
unfolding holding_at
holding-none [] i P e = refl
holding-none (x ∷ ws) zero P e = let z : ◌≡◌ {A = ℕ} 0 1 = cc in absurd (omega arith)
holding-none (x ∷ ws) (suc i) P e = ap (λ l. x ∷ l) (holding-none ws i P e)

-- ---- the worlds by their runs
abbrev pub Canonical : List Opened → Type 0
Canonical [] = Unit {0}
Canonical (x ∷ ws) = Canon size 0 x.runs × Canonical ws

unfoldable pub opened_at : List Opened → ℕ → Option Opened
opened_at [] i = None
opened_at (x ∷ ws) zero = Some x
opened_at (x ∷ ws) (suc i) = opened_at ws i

unfoldable pub put_runs : ℕ → List Run → List Opened → List Opened
put_runs i rs [] = []
put_runs zero rs (x ∷ ws) = record { runs = rs; floor = x.floor; ceiling = x.ceiling } ∷ ws
put_runs (suc i) rs (x ∷ ws) = x ∷ put_runs i rs ws

unfoldable pub claims_runs : List Opened → ℕ
claims_runs [] = 0
claims_runs (x ∷ ws) = max (length x.runs) x.floor + claims_runs ws

unfoldable pub others_runs : List Opened → ℕ → ℕ
others_runs [] i = 0
others_runs (x ∷ ws) zero = claims_runs ws
others_runs (x ∷ ws) (suc i) = max (length x.runs) x.floor + others_runs ws i

abbrev pub as_opened : Option Opened → Option PlainWorld
as_opened None = None
as_opened (Some x) = Some (opened_as x)

world-is : (ws : List Opened) (i : ℕ) → world_of (map opened_as ws) i ≡ as_opened (opened_at ws i)
unfolding opened_at
world-is [] i = refl
world-is (x ∷ ws) zero = refl
world-is (x ∷ ws) (suc i) = world-is ws i

counted : (rs : List Run) → Canon size 0 rs → stretches (mem rs) ≡ length rs
unfolding stretches
counted rs c = ap length (held_runs-mem rs c)

claims-are : (ws : List Opened) → Canonical ws → claims (map opened_as ws) ≡ claims_runs ws
unfolding claims claims_runs
claims-are [] c = refl
claims-are (x ∷ ws) c = ap₂ (λ a b. max a x.floor + b) (counted x.runs c.0) (claims-are ws c.1)

others-are : (ws : List Opened) (i : ℕ) → Canonical ws → other_claims (map opened_as ws) i ≡ others_runs ws i
unfolding other_claims others_runs
others-are [] i c = refl
others-are (x ∷ ws) zero c = claims-are ws c.1
others-are (x ∷ ws) (suc i) c = ap₂ (λ a b. max a x.floor + b) (counted x.runs c.0) (others-are ws i c.1)

put-held : (i : ℕ) (rs : List Run) (ws : List Opened) → holding_at i (mem rs) (map opened_as ws)
    ≡ map opened_as (put_runs i rs ws)
unfolding holding_at put_runs
put-held i rs [] = refl
put-held zero rs (x ∷ ws) = refl
put-held (suc i) rs (x ∷ ws) = ap (λ l. opened_as x ∷ l) (put-held i rs ws)

put-canon : (i : ℕ) (rs : List Run) (ws : List Opened) → Canon size 0 rs → Canonical ws
    → Canonical (put_runs i rs ws)
unfolding put_runs
put-canon i rs [] k c = tt
put-canon zero rs (x ∷ ws) k c = (k, c.1)
put-canon (suc i) rs (x ∷ ws) k c = (c.0, put-canon i rs ws k c.1)

at-canon : (ws : List Opened) (i : ℕ) (x : Opened) → opened_at ws i ≡ Some x → Canonical ws
    → Canon size 0 x.runs
unfolding opened_at
at-canon [] i x e c = let z : ◌≡◌ {A = ℕ} 0 1 = cc in absurd (omega arith)
at-canon (y ∷ ws) zero x e c = let f : y ≡ x = cc in rw (← f) c.0
at-canon (y ∷ ws) (suc i) x e c = at-canon ws i x e c.1

-- ---- why a list of ranges stops, by the runs of its unions
-- how many runs the union of any runs has
union-counted : (es : List Run) → stretches (mem es) ≡ length (union es)
union-counted es =
    stretches-is (mem es) (union es) (union-canon es)
    (λ x h. ap (λ (P : Positions). P x) (union-positions es) ∙ bounded-below (mem es) x h)

unfoldable pub first_refused_runs : ℕ → List Run → Option ℕ
first_refused_runs C es = find (λ n. ltb C (length (union (take (suc n) es)))) true 0 (length es)

first-refused : (C : ℕ) (es : List Run) → first_refused C es ≡ first_refused_runs C es
unfolding first_refused first_refused_runs
first-refused C es = ap (λ P. find P true 0 (length es)) (fun_ext (λ n. ap (ltb C) (union-counted (take (suc n) es))))

unfoldable pub places_runs : List Run → ℕ → List Run → List ℕ
places_runs es p [] = []
places_runs es p (r ∷ rs) =
    cond (leb r.start r.«end» && not (meets (union_at es r.start) (take p es))) (p ∷ places_runs es (suc p) rs)
    (places_runs es (suc p) rs)

places-are : (es : List Run) (p : ℕ) (rs : List Run) → places_from es p rs ≡ places_runs es p rs
unfolding places_from places_runs leads
places-are es p [] = refl
places-are es p (r ∷ rs) =
    ap₂ (λ q ps. cond (leb r.start r.«end» && not (meets q (take p es))) (p ∷ ps) ps) (union-around es r.start)
    (places-are es (suc p) rs)

unfoldable pub stopped_by : List Run → Option ℕ → Option (List ℕ)
stopped_by es None = None
stopped_by es (Some f) = Some (places_runs (take (suc f) es) 0 (take (suc f) es))

stopped-is : (C : ℕ) (es : List Run) → why_full C es ≡ stopped_by es (first_refused_runs C es)
unfolding why_full stopped_by places
stopped-is C es = ap (why_full_up_to es) (first-refused C es) ∙ go (first_refused_runs C es)
  where
    go : (o : Option ℕ) → why_full_up_to es o ≡ stopped_by es o
    go None = refl
    go (Some f) = ap Some (places-are (take (suc f) es) 0 (take (suc f) es))

-- ---- measuring
-- words that are due, where there is room for them
unfoldable pub due_answer : List ℕ → List ℕ → Answer
due_answer due out = cond (no_room out due) (refused 2) (gave (written (length due) (into_front due out)))

-- a slice that is short
pub due-short : (due out : List ℕ) → length out < length due → due_answer due out ≡ refused 2
unfolding due_answer no_room
due-short due out h = rw (lt-ltb (length out) (length due) h)

-- and any other
pub due-room : (due out : List ℕ) → length due ≤ length out
    → due_answer due out ≡ gave (written (length due) (into_front due out))
unfolding due_answer no_room
due-room due out h = rw (le-ltb (length out) (length due) h)

unfoldable pub stopped_answer : Option (List ℕ) → List ℕ → Answer
stopped_answer None out = refused 16
stopped_answer (Some ps) out = due_answer ps out

-- the list is made only where neither 13 nor 8 is due
unfoldable pub measure_runs : ℕ → Measure → List ℕ → Answer
measure_runs C (Call.deepest h) out =
    elim (bad_height h) [
      | true ↦ refused 13
      | false ↦ elim (ltb C (least h)) [
        | true ↦ refused 8
        | false ↦ due_answer (deepest_words h) out
      ]
    ]
measure_runs C (Call.why_full rs) out =
    stopped_answer (stopped_by (entries_of (ranges_of rs)) (first_refused_runs C (entries_of (ranges_of rs)))) out

measured-stays : (o : Option ℕ) (ws : List PlainWorld) (a : Result) → (settle_measured o ws a).worlds ≡ ws
measured-stays None ws a = refl
measured-stays (Some n) ws a = refl

module _ (C : ℕ) (ws : List PlainWorld) (out : List ℕ) where
  -- what is answered where words are due and conditions may hold
  abbrev answer_under : List Condition → List ℕ → Answer
  answer_under cs due = (settle_measured (refusal cs) ws (written (length due) (into_front due out))).answer

  -- which of 13, 8 and 2 is due, by whether each holds
  by_tests : (due : List ℕ) (b c o : Bool)
      → answer_under (store_length when false ∷ output_short when o ∷ tree_height when b ∷ capacity when c
      ∷ []) due
      ≡ elim b [
        | true ↦ refused 13
        | false ↦ elim c [
          | true ↦ refused 8
          | false ↦ cond o (refused 2) (gave (written (length due) (into_front due out)))
        ]
      ]
  by_tests due true c o = refl
  by_tests due false true o = refl
  by_tests due false false true = refl
  by_tests due false false false = refl

  -- the conditions of a list of ranges, by the places that are told
  abbrev conditions_of : Option (List ℕ) → List Condition
  conditions_of o =
      store_length when false ∷ output_short when no_room out (places_told o) ∷ not_refused when none_refused o
      ∷ []

  -- of 16 and 2, by the places
  by_places : (o : Option (List ℕ)) → answer_under (conditions_of o) (places_told o) ≡ stopped_answer o out
  unfolding stopped_answer due_answer
  by_places None = refl
  by_places (Some ps) = go (no_room out ps)
    where
      go : (b : Bool) → answer_under (store_length when false ∷ output_short when b ∷ not_refused when false
          ∷ []) ps
          ≡ cond b (refused 2) (gave (written (length ps) (into_front ps out)))
      go true = refl
      go false = refl

  pub measured-answer : (q : Measure) → (measure_by false C ws q out).answer ≡ measure_runs C q out
  unfolding measure_by measure_runs due_answer
  measured-answer (Call.deepest h) =
      by_tests (deepest_words h) (bad_height h) (ltb C (least h)) (no_room out (deepest_words h))
  measured-answer (Call.why_full rs) =
      ap (λ o. answer_under (conditions_of o) (places_told o)) (stopped-is C (entries_of (ranges_of rs)))
      ∙ by_places (stopped_by (entries_of (ranges_of rs)) (first_refused_runs C (entries_of (ranges_of rs))))

-- ---- one call
pub record PoolRuns : Type 0 where
  pub answer : Answer
  pub worlds : List Opened

pub record PoolTied (o : PoolOutcome) (r : PoolRuns) : Type 0 where
  pub answer : o.answer ≡ r.answer
  pub worlds : o.worlds ≡ map opened_as r.worlds
  pub canonical : Canonical r.worlds

-- a call on a world, by its allowance
unfoldable pub at_by : ℕ → List Opened → ℕ → Call Given → Option Opened → PoolRuns
at_by C ws i c None = record { answer = (calc 0 shut c).answer; worlds = ws }
at_by C ws i c (Some x) = record {
  answer = (calc (min x.ceiling (C - others_runs ws i)) (having x.runs) c).answer;
  worlds = put_runs i (calc (min x.ceiling (C - others_runs ws i)) (having x.runs) c).runs ws;
}

unfoldable pub new_worlds : List Limits → List Opened
new_worlds [] = []
new_worlds (l ∷ ls) = record { runs = []; floor = l.floor; ceiling = l.ceiling } ∷ new_worlds ls

unfoldable pub make_runs : Bool → List Opened → List Limits → PoolRuns
make_runs true ws ls = record { answer = refused 11; worlds = ws }
make_runs false ws ls = record { answer = gave done; worlds = new_worlds ls }

unfoldable pub step_runs : ℕ → List Opened → PoolCall (Call Given) → PoolRuns
step_runs C ws (make ls) = make_runs (bad_limits C ls) ws ls
step_runs C ws (measure q out) = record { answer = measure_runs C q out; worlds = ws }
step_runs C ws (at i c) = at_by C ws i c (opened_at ws i)

new-held : (ls : List Limits) → empty_worlds ls ≡ map opened_as (new_worlds ls)
unfolding empty_worlds new_worlds
new-held [] = refl
new-held (l ∷ ls) = ap₂ {C = List PlainWorld}
    (λ P ws. record { positions = P; floor = l.floor; ceiling = l.ceiling } ∷ ws) (sym mem-empty) (new-held ls)

new-canon : (ls : List Limits) → Canonical (new_worlds ls)
unfolding new_worlds
new-canon [] = tt
new-canon (l ∷ ls) = (tt, new-canon ls)

made : (b : Bool) (ws : List Opened) (ls : List Limits) → Canonical ws
    → PoolTied (settle_make (refusal (store_length when false ∷ world_limits when b ∷ [])) (map opened_as ws)
    (empty_worlds ls)) (make_runs b ws ls)
unfolding make_runs
made true ws ls c = record { answer = refl; worlds = refl; canonical = c }
made false ws ls c = record { answer = refl; worlds = new-held ls; canonical = new-canon ls }

-- a call on a world that is not open
shut-tied : (C : ℕ) (ws : List Opened) (i : ℕ) (k : Call Given) → Canonical ws → opened_at ws i ≡ None
    → PoolTied (step C (map opened_as ws) (at i (plan fed_as k))) (at_by C ws i k None)
unfolding step serve_at at_by fed_as
shut-tied C ws i k c e = record {
  answer = ap (λ o. o.answer) same ∙ (calc-tied 0 shut k).answer;
  worlds = holding-none (map opened_as ws) i
      (serve (full C (map opened_as ws) i) (fed_by (world_of (map opened_as ws) i)) (plan fed_as k)).positions none;
  canonical = c;
}
  where
    none : world_of (map opened_as ws) i ≡ None
    none = world-is ws i ∙ ap as_opened e

    same : serve (full C (map opened_as ws) i) (fed_by (world_of (map opened_as ws) i)) (plan fed_as k)
        ≡ serve (ltb 0) unopened (plan fed_as k)
    same = ap (λ o. serve (full C (map opened_as ws) i) (fed_by o) (plan fed_as k)) none
        ∙ any-full (full C (map opened_as ws) i) (ltb 0) (plan fed_as k)

-- and on one that is, where the limits are kept
open-tied : (C : ℕ) (ws : List Opened) (i : ℕ) (k : Call Given) (x : Opened) → Canonical ws
    → claims_runs ws ≤ C → opened_at ws i ≡ Some x
    → PoolTied (step C (map opened_as ws) (at i (plan fed_as k))) (at_by C ws i k (Some x))
unfolding step serve_at at_by allowance fed_as
open-tied C ws i k x c h e = record {
  answer = ap (λ o. o.answer) same ∙ t.answer;
  worlds = ap (λ P. holding_at i P (map opened_as ws)) (ap (λ o. o.positions) same ∙ t.positions)
      ∙ put-held i (calc room (having x.runs) k).runs ws;
  canonical = put-canon i (calc room (having x.runs) k).runs ws t.canonical c;
}
  where
    room : ℕ
    room = min x.ceiling (C - others_runs ws i)

    t : Tied (serve (ltb room) (fed_as (having x.runs)) (plan fed_as k)) (calc room (having x.runs) k)
    t = calc-tied room (having x.runs) k

    is : world_of (map opened_as ws) i ≡ Some (opened_as x)
    is = world-is ws i ∙ ap as_opened e

    allowed : full C (map opened_as ws) i ≡ ltb room
    allowed =
        full-allowance C (map opened_as ws) i (opened_as x) is (omega (arith, claims-are ws c))
        ∙ ap₂ (λ o n. ltb (allowance_of C n o)) is (others-are ws i c)

    fed : holding (mem x.runs) ≡ fed_as (having x.runs)
    fed = ap holding (sym (bounded-mem x.runs (at-canon ws i x e c)))

    same : serve (full C (map opened_as ws) i) (fed_by (world_of (map opened_as ws) i)) (plan fed_as k)
        ≡ serve (ltb room) (fed_as (having x.runs)) (plan fed_as k)
    same = ap₂ (λ f s. serve f s (plan fed_as k)) allowed (ap fed_by is ∙ fed)

step-tied : (C : ℕ) (ws : List Opened) (k : PoolCall (Call Given)) → Canonical ws → claims_runs ws ≤ C
    → PoolTied (step C (map opened_as ws) (told_as (plan fed_as) k)) (step_runs C ws k)
unfolding step step_runs make_by measure_by
step-tied C ws (make ls) c h = made (bad_limits C ls) ws ls c
step-tied C ws (measure q out) c h = record {
  answer = measured-answer C (map opened_as ws) out q;
  worlds = stays;
  canonical = c;
}
  where
    stays : (measure_by false C (map opened_as ws) q out).worlds ≡ map opened_as ws
    stays = measured-stays _ (map opened_as ws) _
step-tied C ws (at i k) c h = go (opened_at ws i) refl
  where
    go : (o : Option Opened) → opened_at ws i ≡ o
        → PoolTied (step C (map opened_as ws) (at i (plan fed_as k))) (at_by C ws i k o)
    go None e = shut-tied C ws i k c e
    go (Some x) e = open-tied C ws i k x c h e

-- ---- the rows
unfoldable pub pool_shown : ℕ → List Opened → List (PoolCall (Call Given)) → List Answer
pool_shown C ws [] = []
pool_shown C ws (k ∷ ks) = (step_runs C ws k).answer ∷ pool_shown C (step_runs C ws k).worlds ks

unfoldable pub pool_left : ℕ → List Opened → List (PoolCall (Call Given)) → List Opened
pool_left C ws [] = ws
pool_left C ws (k ∷ ks) = pool_left C (step_runs C ws k).worlds ks

-- before every call the claims are within C
unfoldable pub fits : ℕ → List Opened → List (PoolCall (Call Given)) → Bool
fits C ws [] = true
fits C ws (k ∷ ks) = leb (claims_runs ws) C && fits C (step_runs C ws k).worlds ks

shown-answers : (C : ℕ) (ws : List Opened) (ks : List (PoolCall (Call Given))) → Canonical ws → fits C ws ks ≡ true
    → answers C (map opened_as ws) (map (told_as (plan fed_as)) ks) ≡ pool_shown C ws ks
unfolding answers pool_shown fits
shown-answers C ws [] c h = refl
shown-answers C ws (k ∷ ks) c h =
    let b = and-holds (leb (claims_runs ws) C) (fits C (step_runs C ws k).worlds ks) h in
    let t = step-tied C ws k c (leb-true (claims_runs ws) C b.0) in
    ap₂ {C = List Answer} (λ a as'. a ∷ as') t.answer
    (ap (λ vs. answers C vs (map (told_as (plan fed_as)) ks)) t.worlds
    ∙ shown-answers C (step_runs C ws k).worlds ks t.canonical b.1)

left-after : (C : ℕ) (ws : List Opened) (ks : List (PoolCall (Call Given))) → Canonical ws → fits C ws ks ≡ true
    → after C (map opened_as ws) (map (told_as (plan fed_as)) ks) ≡ map opened_as (pool_left C ws ks)
unfolding after pool_left fits
left-after C ws [] c h = refl
left-after C ws (k ∷ ks) c h =
    let b = and-holds (leb (claims_runs ws) C) (fits C (step_runs C ws k).worlds ks) h in
    let t = step-tied C ws k c (leb-true (claims_runs ws) C b.0) in
    ap (λ vs. after C vs (map (told_as (plan fed_as)) ks)) t.worlds
    ∙ left-after C (step_runs C ws k).worlds ks t.canonical b.1

pub record PoolShown : Type 0 where
  pub answers-are : List Answer
  pub worlds-are : List Opened
  pub within : Bool

abbrev pub pool-computed : PoolCase → PoolShown
pool-computed c = record {
  answers-are = pool_shown c.capacity [] c.calls;
  worlds-are = pool_left c.capacity [] c.calls;
  within = fits c.capacity [] c.calls;
}

abbrev pub pool-expected : PoolCase → PoolShown
pool-expected c = record { answers-are = c.answers-are; worlds-are = c.worlds-are; within = true }

row-holds : (c : PoolCase) → pool-computed c ≡ pool-expected c → PoolHolds c
row-holds c e =
    let h : fits c.capacity [] c.calls ≡ true = ap (λ (s : PoolShown). s.within) e in
    record {
      answered = shown-answers c.capacity [] c.calls tt h ∙ ap (λ (s : PoolShown). s.answers-are) e;
      held = left-after c.capacity [] c.calls tt h ∙ ap (λ (s : PoolShown). map opened_as s.worlds-are) e;
    }

-- rows hold as they compute
pub pools-hold : (cs : List PoolCase) → map pool-computed cs ≡ map pool-expected cs → AllPoolsHold cs
pools-hold [] e = tt
pools-hold (c ∷ cs) e =
    let here : pool-computed c ≡ pool-expected c = cc in
    let later : map pool-computed cs ≡ map pool-expected cs = cc in
    (row-holds c here, pools-hold cs later)
