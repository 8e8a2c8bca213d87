-- The plain model computed on run lists: each report and change of part 5 on canonical lists, and that it is the plain model's.
-- By the laws of each definition; a world that holds a run list is fed as that list. Assumes nothing.
use Rattle.std.specs.Prelude.{Option, None, Some}
use mathlib.Core.Path.{◌≡◌, refl, sym, ap, ap₂, ◌∙◌, fun_ext}
use mathlib.Core.Logic.{◌⊎◌, inl, inr}
use mathlib.Core.Bool.{Bool, true, false, cond, not, ◌&&◌, ◌||◌, beq}
use mathlib.Core.List.{List, [], ◌∷◌, ◌++◌, map}
use Prim.Native.Nat.{ℕ, zero, suc, ◌+◌, ◌-◌, ◌*◌, ◌/◌, ◌≤◌, ◌<◌, max}
use native.Mathlib.Nat.{zero-add}
use native.Mathlib.Omega.{arith}
use lib.Dec.{ltb, eqb}
use lib.ListN.{length}
use borrow.Author.Tests.{lt-ltb, le-ltb}
use Rattle.model.specs.Ends.{Bound}
use Rattle.model.specs.declared.Run.{Run}
use Rattle.model.specs.declared.Listing.{Listing}
use Rattle.model.specs.declared.Operation.{Operation}
use Rattle.model.specs.declared.Operation.TheVariants.{Xor}
use Rattle.model.specs.Numbers.{size}
use Rattle.model.proofs.Numbers.{split}
use Rattle.model.specs.Range.{first_allowed, extent}
use Rattle.model.specs.Positions
use Rattle.model.specs.Positions.{
  Positions,
  inside,
  among,
  one_if,
  runs_in,
  held_runs,
  first_run,
  last_run,
  run_with,
  listed,
  remaining,
  empty,
  set_range,
  flip_range,
  shift_by,
  combined,
  complemented,
  mem,
  bounded,
  changes,
  same,
}
use Rattle.model.proofs.Counting.{among-yes, among_below, among-above, count-cong, count-first, count_most}
use Rattle.model.proofs.Runs.{runs_in-is, runs_in-cong, held_runs-mem, held_runs-cong, stretches-is}
use Rattle.model.proofs.Finds.{start_of, find_runs, count_runs, select_runs, select-runs}
use Rattle.model.proofs.Gaps.{first_long, gap_runs}
use Rattle.model.specs.RunList.{Canon}
use Rattle.model.proofs.RunList.{canon-weaken, canon-wider, widths}
use Rattle.model.proofs.Cells.{among-run, cut-cond, rect_runs, rect-canon, rect-positions, count_rect_runs, rect-count}
use Rattle.model.proofs.Cells.{survey_runs, surveyed}
use Rattle.model.proofs.Clip.{clip, clip-canon, clip-mem, clip-runs}
use Rattle.model.proofs.Edit.{set_runs, set_runs-canon, set_runs-mem}
use Rattle.model.proofs.Ops.{
  combine_runs,
  combine-canon,
  combine-positions,
  flip_runs,
  flip-canon,
  flip-positions,
  complement_runs,
  complement-canon,
  complement-mem,
  complement-positions,
  shift_runs,
  shift-canon,
  shift-positions,
  set-positions,
  bounded-mem,
  changes-runs,
  same_runs,
  bounded-below,
}
use Rattle.model.specs.Bytes.{encode, edition_of, decode, map_length, map_of, map_bit, stray_bits, mapped, fill_of, into_front}
use Rattle.model.specs.Mending.{mended_set, another, fate, fates_from, mend_report}
use Rattle.model.specs.Refusals.{
  gap_length,
  off_plane,
  window,
  stray_bit,
  run_order,
  capacity,
  output_short,
  order,
  Condition,
  ◌when◌,
  refusal,
  bad_gap,
  bad_rect,
  bad_square,
  bad_window,
  bad_map,
  stray,
  disordered,
  shape_conditions,
  set_conditions,
  too_many,
  no_room,
}
use Rattle.model.proofs.Refused.{first-last}
use Rattle.model.specs.Call.{
  Call,
  set,
  flip,
  get,
  run_at,
  find,
  tally,
  select,
  gap,
  ranges,
  draw_front,
  draw_back,
  shift,
  shifted,
  combine,
  complement,
  equal,
  load,
  mend,
  build,
  write_set,
  read_map,
  write_map,
  fill,
  set_strict,
  flip_strict,
  tally_strict,
  set_rect,
  count_rect,
  survey,
  Result,
  done,
  number,
  tallied,
  value,
  around,
  position,
  listing,
  written,
  mended,
  Answer,
  refused,
  gave,
}
use Rattle.model.specs.Model.{
  Effect,
  Plan,
  positions_of,
  asking,
  writing,
  changing,
  counting,
  overwriting,
  mending,
  tally_of,
  strict,
  drawn_first,
  drawn_last,
  plan,
  Outcome,
  settle,
  or_else,
  first_refusal,
  room,
  left_by,
  serve,
}
use Rattle.model.specs.Cases.{Given, no_store, broken, shut, having, fed_as}

-- ---- lists of any runs, and maps, as canonical lists
unfoldable pub union : List Run → List Run
union [] = []
union (r ∷ rs) = set_runs size r.start (suc r.«end» - r.start) true (union rs)

pub union-canon : (rs : List Run) → Canon size 0 (union rs)
unfolding union
union-canon [] = tt
union-canon (r ∷ rs) = set_runs-canon size r.start (suc r.«end» - r.start) true (union rs) (union-canon rs)

cut_or : (t i p : Bool) → (t && cond i true (t && p)) ≡ (t && (i || p))
cut_or true true p = refl
cut_or true false p = refl
cut_or false i p = refl

union-mem : (rs : List Run) (x : ℕ) → mem (union rs) x ≡ (ltb x size && mem rs x)
unfolding union mem set_range
union-mem [] x = sym (no (ltb x size))
  where
    no : (t : Bool) → (t && false) ≡ false
    no true = refl
    no false = refl
union-mem (r ∷ rs) x =
    set_runs-mem size r.start (suc r.«end» - r.start) true (union rs) (union-canon rs) x
    ∙ ap₂ (λ i p. ltb x size && cond i true p) (among-run r.start r.«end» x) (union-mem rs x)
    ∙ cut_or (ltb x size) (inside r.start r.«end» x) (mem rs x)

pub union-positions : (rs : List Run) → mem (union rs) ≡ bounded (mem rs)
unfolding bounded
union-positions rs = fun_ext (union-mem rs)

-- the window's positions, one by one
unfoldable pub map_runs : ℕ → ℕ → List ℕ → List Run → List Run
map_runs base zero bs rs = rs
map_runs base (suc n) bs rs = set_runs size (base + n) 1 (map_bit bs n) (map_runs base n bs rs)

pub map-canon : (base n : ℕ) (bs : List ℕ) (rs : List Run) → Canon size 0 rs → Canon size 0 (map_runs base n bs rs)
unfolding map_runs
map-canon base zero bs rs c = c
map-canon base (suc n) bs rs c = set_runs-canon size (base + n) 1 (map_bit bs n) (map_runs base n bs rs) (map-canon base n bs rs c)

map-step : (base n : ℕ) (bs : List ℕ) (P : Positions) (x : ℕ) → cond (among (base + n) 1 x) (map_bit bs n) (mapped base n bs P x) ≡ mapped base (suc n) bs P x
unfolding mapped
map-step base n bs P x = go (split x base) (split x (base + n)) (split (base + n) x)
  where
    go : (x < base) ⊎ (base ≤ x) → (x < base + n) ⊎ (base + n ≤ x) → (base + n < x) ⊎ (x ≤ base + n)
        → cond (among (base + n) 1 x) (map_bit bs n) (cond (among base n x) (map_bit bs (x - base)) (P x)) ≡ cond (among base (suc n) x) (map_bit bs (x - base)) (P x)
    go (inl h) k l = rw (among_below (base + n) 1 x (omega arith), among_below base n x h, among_below base (suc n) x h)
    go (inr h) (inl k) l = rw (among_below (base + n) 1 x k, among-yes base n x h k, among-yes base (suc n) x h (omega arith))
    go (inr h) (inr k) (inl l) = rw (among-above (base + n) 1 x (omega arith), among-above base n x k, among-above base (suc n) x (omega arith))
    go (inr h) (inr k) (inr l) = rw (among-yes (base + n) 1 x k (omega arith), among-yes base (suc n) x h (omega arith)) (at (omega arith))
      where
        at : n ≡ x - base → map_bit bs n ≡ map_bit bs (x - base)
        at e = ap (map_bit bs) e

map-start : (P : Positions) (base : ℕ) (bs : List ℕ) (x : ℕ) → P x ≡ mapped base 0 bs P x
unfolding mapped
map-start P base bs x = go (split x base)
  where
    go : (x < base) ⊎ (base ≤ x) → P x ≡ cond (among base 0 x) (map_bit bs (x - base)) (P x)
    go (inl h) = rw (among_below base 0 x h)
    go (inr h) = rw (among-above base 0 x (omega arith))

map-mem : (base n : ℕ) (bs : List ℕ) (rs : List Run) (x : ℕ) → Canon size 0 rs → mem (map_runs base n bs rs) x ≡ (ltb x size && mapped base n bs (mem rs) x)
unfolding map_runs set_range bounded
map-mem base zero bs rs x c = ap (λ (P : Positions). P x) (sym (bounded-mem rs c)) ∙ ap (λ p. ltb x size && p) (map-start (mem rs) base bs x)
map-mem base (suc n) bs rs x c =
    set_runs-mem size (base + n) 1 (map_bit bs n) (map_runs base n bs rs) (map-canon base n bs rs c) x
    ∙ ap (λ p. ltb x size && cond (among (base + n) 1 x) (map_bit bs n) p) (map-mem base n bs rs x c)
    ∙ cut-cond (ltb x size) (among (base + n) 1 x) (map_bit bs n) (mapped base n bs (mem rs) x)
    ∙ ap (λ p. ltb x size && p) (map-step base n bs (mem rs) x)

pub map-positions : (base n : ℕ) (bs : List ℕ) (rs : List Run) → Canon size 0 rs → mem (map_runs base n bs rs) ≡ bounded (mapped base n bs (mem rs))
unfolding bounded
map-positions base n bs rs c = fun_ext (λ x. map-mem base n bs rs x c)

-- one of k bits from i on is one
unfoldable pub some_bit : List ℕ → ℕ → ℕ → Bool
some_bit bs i zero = false
some_bit bs i (suc k) = map_bit bs i || some_bit bs (suc i) k

-- as their count tells it
counted-some : (bs : List ℕ) (i k : ℕ) → ltb 0 (Positions.count (map_bit bs) true i k) ≡ some_bit bs i k
unfolding some_bit
counted-some bs i zero = le-ltb 0 (Positions.count (map_bit bs) true i 0) (count_most (map_bit bs) true i 0)
counted-some bs i (suc k) = ap (ltb 0) (count-first (map_bit bs) true i k) ∙ go (map_bit bs i) (counted-some bs (suc i) k)
  where
    go : (b : Bool) → ltb 0 (Positions.count (map_bit bs) true (suc i) k) ≡ some_bit bs (suc i) k
        → ltb 0 (one_if (beq b true) + Positions.count (map_bit bs) true (suc i) k) ≡ (b || some_bit bs (suc i) k)
    go true e = lt-ltb 0 (1 + Positions.count (map_bit bs) true (suc i) k) (omega arith)
    go false e = ap (ltb 0) (zero-add (Positions.count (map_bit bs) true (suc i) k)) ∙ e

-- so 10 is due where one of the bits from n on is one
stray-some : (n : ℕ) (bs : List ℕ) → stray n bs ≡ some_bit bs n (8 * map_length n - n)
unfolding stray stray_bits
stray-some n bs = counted-some bs n (8 * map_length n - n)

-- ---- the runs of either value in a range
unfoldable pub clipped : Bool → ℕ → ℕ → List Run → List Run
clipped true a n rs = clip a n rs
clipped false a n rs = clip a n (complement_runs (max size (a + n)) rs)

pub clipped-runs : (v : Bool) (a n : ℕ) (rs : List Run) → Canon size 0 rs → runs_in (mem rs) v a n ≡ clipped v a n rs
unfolding clipped complemented
clipped-runs true a n rs c = clip-runs size 0 a n rs c
clipped-runs false a n rs c =
    runs_in-is (mem rs) false a n (clip a n gaps) (canon-weaken (a + n) (max 0 a) a (clip a n gaps) (omega arith) (clip-canon total 0 a n gaps (complement-canon total rs wide)))
    (λ x h l. clip-mem a n gaps x h l ∙ complement-mem total rs wide x ∙ ap (λ t. t && not (mem rs x)) (lt-ltb x total (omega arith)) ∙ free (mem rs x))
  where
    total : ℕ
    total = max size (a + n)

    wide : Canon total 0 rs
    wide = canon-wider size total 0 rs (omega arith) c

    gaps : List Run
    gaps = complement_runs total rs

    free : (b : Bool) → not b ≡ beq b false
    free true = refl
    free false = refl

unfoldable pub runs_of : Given → List Run
runs_of no_store = []
runs_of broken = []
runs_of shut = []
runs_of (having rs) = union rs

runs_of-canon : (s : Given) → Canon size 0 (runs_of s)
unfolding runs_of
runs_of-canon no_store = tt
runs_of-canon broken = tt
runs_of-canon shut = tt
runs_of-canon (having rs) = union-canon rs

pub mem-empty : mem [] ≡ empty
unfolding mem empty
mem-empty = refl

runs_of-positions : (s : Given) → positions_of (fed_as s) ≡ mem (runs_of s)
unfolding fed_as runs_of
runs_of-positions no_store = sym mem-empty
runs_of-positions broken = sym mem-empty
runs_of-positions shut = sym mem-empty
runs_of-positions (having rs) = sym (union-positions rs)

-- ---- mending
-- the run around x in the union of a list
unfoldable pub union_at : List Run → ℕ → Run
union_at rs x = run_with x (clipped (mem rs x) 0 size (union rs))

pub union-around : (rs : List Run) (x : ℕ) → Positions.run_at (mem rs) x ≡ union_at rs x
unfolding Positions.run_at union_at bounded
union-around rs x =
    ap (run_with x)
    (runs_in-cong (mem rs) (mem (union rs)) (mem rs x) 0 size (λ y _ h. sym (ap (λ (P : Positions). P y) (union-positions rs) ∙ bounded-below (mem rs) y (omega arith)))
    ∙ clipped-runs (mem rs x) 0 size (union rs) (union-canon rs))

-- what became of each run, by it
unfoldable pub fates_runs : List Run → ℕ → List Run → List ℕ
fates_runs rs p [] = []
fates_runs rs p (q ∷ qs) = cond (ltb q.«end» q.start) 0 (cond (another (union_at rs q.start) p 0 rs) 1 2) ∷ fates_runs rs (suc p) qs

fates-runs : (rs : List Run) (p : ℕ) (qs : List Run) → fates_from rs p qs ≡ fates_runs rs p qs
unfolding fates_from fates_runs fate
fates-runs rs p [] = refl
fates-runs rs p (q ∷ qs) = rw (union-around rs q.start, fates-runs rs (suc p) qs)

-- ---- what a call does, on run lists
pub data RunEffect : Type 0 where
  stays : RunEffect
  becomes : (List Run → List Run) → RunEffect
  overwritten : List Run → RunEffect

pub record RunPlan : Type 0 where
  pub further : List Given
  pub earns : List Run → List Condition
  pub effect : RunEffect
  pub gives : List Run → Result

abbrev pub asking_runs : List Condition → (List Run → Result) → RunPlan
asking_runs cs A = record { further = []; earns = λ rs. cs; effect = RunEffect.stays; gives = A }

abbrev pub writing_runs : List Condition → (List Run → List ℕ) → List ℕ → RunPlan
writing_runs cs B out = record {
  further = [];
  earns = λ rs. output_short when no_room out (B rs) ∷ cs;
  effect = RunEffect.stays;
  gives = λ rs. written (length (B rs)) (into_front (B rs) out);
}

abbrev pub changing_runs : List Condition → (List Run → List Run) → RunPlan
changing_runs cs Q = record { further = []; earns = λ rs. cs; effect = RunEffect.becomes Q; gives = λ rs. done }

abbrev pub counting_runs : List Condition → (List Run → List Run) → RunPlan
counting_runs cs Q = record {
  further = [];
  earns = λ rs. cs;
  effect = RunEffect.becomes Q;
  gives = λ rs. number (widths (combine_runs Xor rs (Q rs)));
}

abbrev pub overwriting_runs : List Given → List Condition → List Run → RunPlan
overwriting_runs fs cs qs = record { further = fs; earns = λ rs. cs; effect = RunEffect.overwritten qs; gives = λ rs. done }

-- due and told are the set mended and the report
abbrev pub mending_runs : List ℕ → List ℕ → List ℕ → List ℕ → List ℕ → RunPlan
mending_runs bs due told out report = record {
  further = [];
  earns = λ rs. output_short when no_room out due ∷ output_short when no_room report told ∷ shape_conditions bs;
  effect = RunEffect.overwritten (union (decode bs));
  gives = λ rs. mended (length due) (into_front due out) (length told) (into_front told report);
}

-- the runs of a value in a range; in what is left of a listing; their tally
abbrev pub within_runs : Bound → Bound → Bool → List Run → List Run
within_runs l u v rs = clipped v (first_allowed l) (extent l u) rs

abbrev pub remaining_runs : Listing → List Run → List Run
remaining_runs l rs = clipped l.value l.first (suc l.last - l.first) rs

abbrev pub tally_runs : Bound → Bound → Bool → List Run → Result
tally_runs l u v rs = tallied (widths (within_runs l u v rs)) (length (within_runs l u v rs))

-- THE CALLS, a line for each, as in the model
unfoldable pub plan_runs : Call Given → RunPlan
plan_runs (set l u v) = counting_runs [] (set_runs size (first_allowed l) (extent l u) v)
plan_runs (flip l u) = changing_runs [] (flip_runs size (first_allowed l) (extent l u))
plan_runs (get x) = asking_runs [] (λ rs. value (mem rs x))
plan_runs (run_at x) = asking_runs [] (λ rs. around (run_with x (clipped (mem rs x) 0 size rs)))
plan_runs (find l u v) = asking_runs [] (λ rs. position (start_of (first_run (within_runs l u v rs))))
plan_runs (tally l u v) = asking_runs [] (tally_runs l u v)
plan_runs (select l u v k) = asking_runs [] (λ rs. position (select_runs (within_runs l u v rs) k))
plan_runs (gap l u n) = asking_runs (gap_length when bad_gap n ∷ []) (λ rs. position (first_long n (within_runs l u false rs)))
plan_runs (ranges l u v) = asking_runs [] (λ rs. listing (listed (first_allowed l) (extent l u) v))
plan_runs (draw_front l) = asking_runs [] (λ rs. drawn_first l (first_run (remaining_runs l rs)))
plan_runs (draw_back l) = asking_runs [] (λ rs. drawn_last l (last_run (remaining_runs l rs)))
plan_runs (shift d left) = changing_runs [] (shift_runs size d left)
plan_runs (shifted d left t) = overwriting_runs (t ∷ []) [] (shift_runs size d left (runs_of t))
plan_runs (combine op t u) = overwriting_runs (t ∷ u ∷ []) [] (combine_runs op (runs_of t) (runs_of u))
plan_runs (complement t) = overwriting_runs (t ∷ []) [] (complement_runs size (runs_of t))
plan_runs (equal t) = record { further = t ∷ []; earns = λ rs. []; effect = RunEffect.stays; gives = λ rs. value (eqb (widths (combine_runs Xor rs (runs_of t))) 0) }
plan_runs (load bs) = overwriting_runs [] (set_conditions bs) (union (decode bs))
plan_runs (mend bs out report) = mending_runs bs (encode (edition_of bs) (union (decode bs))) (fates_runs (decode bs) 0 (decode bs)) out report
plan_runs (build rs) = overwriting_runs [] (run_order when disordered rs ∷ []) (union rs)
plan_runs (write_set e out) = writing_runs [] (encode e) out
plan_runs (read_map base n bs) =
    counting_runs (window when bad_window base n ∷ window when bad_map n bs ∷ stray_bit when some_bit bs n (8 * map_length n - n) ∷ []) (map_runs base n bs)
plan_runs (write_map base n out) = writing_runs (window when bad_window base n ∷ []) (λ rs. map_of (mem rs) base n) out
plan_runs (fill base n) = asking_runs (window when bad_window base n ∷ []) (λ rs. number ((1000 * widths (clipped true base n rs) + (n - 1)) / n))
plan_runs (set_strict l u v) = counting_runs (strict l u) (set_runs size (first_allowed l) (extent l u) v)
plan_runs (flip_strict l u) = changing_runs (strict l u) (flip_runs size (first_allowed l) (extent l u))
plan_runs (tally_strict l u v) = asking_runs (strict l u) (tally_runs l u v)
plan_runs (set_rect q v) = counting_runs (off_plane when bad_rect q ∷ []) (rect_runs q v)
plan_runs (count_rect q) = asking_runs (off_plane when bad_rect q ∷ []) (λ rs. number (count_rect_runs q rs))
plan_runs (survey r c k out) = writing_runs (off_plane when bad_square r c k ∷ []) (λ rs. survey_runs rs k r c) out

-- ---- whether it is done
-- what a call answers, and the runs held after it
pub record RunOutcome : Type 0 where
  pub answer : Answer
  pub runs : List Run

abbrev pub settle_runs : Option ℕ → List Run → Result → List Run → RunOutcome
settle_runs None rs a qs = record { answer = gave a; runs = qs }
settle_runs (Some n) rs a qs = record { answer = refused n; runs = rs }

abbrev pub room_runs : ℕ → RunEffect → List Run → List Condition
room_runs C RunEffect.stays rs = []
room_runs C (RunEffect.becomes Q) rs = capacity when ltb C (length (Q rs)) ∷ []
room_runs C (RunEffect.overwritten qs) rs = capacity when ltb C (length qs) ∷ []

abbrev pub runs_left : RunEffect → List Run → List Run
runs_left RunEffect.stays rs = rs
runs_left (RunEffect.becomes Q) rs = Q rs
runs_left (RunEffect.overwritten qs) rs = qs

unfoldable pub serve_runs : ℕ → Given → RunPlan → RunOutcome
serve_runs C s p =
    settle_runs (first_refusal (map fed_as (s ∷ p.further)) (room_runs C p.effect (runs_of s) ++ p.earns (runs_of s)))
    (runs_of s) (p.gives (runs_of s)) (runs_left p.effect (runs_of s))

abbrev pub calc : ℕ → Given → Call Given → RunOutcome
calc C s c = serve_runs C s (plan_runs c)

-- ---- what ties what the model does to what is done on run lists
-- the same becomes of the positions of a run list
pub data TiedEffect : Effect → RunEffect → Type 0 where
  none : TiedEffect Effect.stays RunEffect.stays
  change : {Q : Positions → Positions} {qs : List Run → List Run} → ((rs : List Run) → Canon size 0 rs → mem (qs rs) ≡ bounded (Q (mem rs)))
      → ((rs : List Run) → Canon size 0 rs → Canon size 0 (qs rs)) → TiedEffect (Effect.becomes Q) (RunEffect.becomes qs)
  fresh : {Q : Positions} {qs : List Run} → mem qs ≡ bounded Q → Canon size 0 qs → TiedEffect (Effect.overwritten Q) (RunEffect.overwritten qs)

-- the same worlds are read, the same is earned, the same becomes of the positions, and where what is earned refuses nothing, the same is given
pub record TiedPlan (p : Plan) (q : RunPlan) : Type 0 where
  pub further : p.further ≡ map fed_as q.further
  pub earns : (rs : List Run) → Canon size 0 rs → p.earns (mem rs) ≡ q.earns rs
  pub effect : TiedEffect p.effect q.effect
  pub gives : (rs : List Run) → Canon size 0 rs → refusal (q.earns rs) ≡ None → p.gives (mem rs) ≡ q.gives rs

changes-bounded : (P Q : Positions) → changes P (bounded Q) ≡ changes P Q
unfolding changes combined
changes-bounded P Q =
    count-cong (combined Xor P (bounded Q)) (combined Xor P Q) true 0 size (λ x _ h. ap (λ t. not (beq (P x) t)) (bounded-below Q x (omega arith)))

asks : (cs : List Condition) (A : Positions → Result) (B : List Run → Result) → ((rs : List Run) → Canon size 0 rs → A (mem rs) ≡ B rs)
    → TiedPlan (asking cs A) (asking_runs cs B)
asks cs A B e = record { further = refl; earns = λ rs c. refl; effect = none; gives = λ rs c _. e rs c }

writes : (cs : List Condition) (A : Positions → List ℕ) (B : List Run → List ℕ) (out : List ℕ) → ((rs : List Run) → Canon size 0 rs → A (mem rs) ≡ B rs)
    → TiedPlan (writing cs A out) (writing_runs cs B out)
writes cs A B out e = record {
  further = refl;
  earns = λ rs c. ap (λ bs. output_short when no_room out bs ∷ cs) (e rs c);
  effect = none;
  gives = λ rs c _. ap (λ bs. written (length bs) (into_front bs out)) (e rs c);
}

alters : (cs : List Condition) (Q : Positions → Positions) (qs : List Run → List Run) → ((rs : List Run) → Canon size 0 rs → mem (qs rs) ≡ bounded (Q (mem rs)))
    → ((rs : List Run) → Canon size 0 rs → Canon size 0 (qs rs)) → TiedPlan (changing cs Q) (changing_runs cs qs)
alters cs Q qs e d = record { further = refl; earns = λ rs c. refl; effect = change e d; gives = λ rs c _. refl }

counts : (cs ds : List Condition) (Q : Positions → Positions) (qs : List Run → List Run) → cs ≡ ds → ((rs : List Run) → Canon size 0 rs → mem (qs rs) ≡ bounded (Q (mem rs)))
    → ((rs : List Run) → Canon size 0 rs → Canon size 0 (qs rs)) → TiedPlan (counting cs Q) (counting_runs ds qs)
counts cs ds Q qs f e d = record {
  further = refl;
  earns = λ rs c. f;
  effect = change e d;
  gives = λ rs c _. ap number (sym (changes-bounded (mem rs) (Q (mem rs))) ∙ ap (changes (mem rs)) (sym (e rs c)) ∙ changes-runs rs (qs rs) c (d rs c));
}

makes : (ss : List Given) (cs : List Condition) (Q : Positions) (qs : List Run) → mem qs ≡ bounded Q → Canon size 0 qs
    → TiedPlan (overwriting (map fed_as ss) cs Q) (overwriting_runs ss cs qs)
makes ss cs Q qs e d = record { further = refl; earns = λ rs c. refl; effect = fresh e d; gives = λ rs c _. refl }

-- the tally of a range
tallies : (l u : Bound) (v : Bool) (rs : List Run) → Canon size 0 rs → tally_of l u v (mem rs) ≡ tally_runs l u v rs
unfolding Positions.run_count
tallies l u v rs c =
    let e = clipped-runs v (first_allowed l) (extent l u) rs c in
    ap₂ tallied (count_runs (mem rs) v (first_allowed l) (extent l u) ∙ ap widths e) (ap length e)

-- a gap has a length, where that is not refused
some-length : (n : ℕ) → refusal (gap_length when bad_gap n ∷ []) ≡ None → 1 ≤ n
some-length zero e = let z : ◌≡◌ {A = ℕ} 0 1 = cc in absurd (omega arith)
some-length (suc n) e = omega arith

mend-tied : (bs out report : List ℕ) → TiedPlan (mending bs out report) (mending_runs bs (encode (edition_of bs) (union (decode bs))) (fates_runs (decode bs) 0 (decode bs)) out report)
unfolding mended_set mend_report
mend-tied bs out report =
    rw (runs-are, fates-runs (decode bs) 0 (decode bs))
    (record { further = refl; earns = λ rs c. refl; effect = fresh (union-positions (decode bs)) (union-canon (decode bs)); gives = λ rs c _. refl })
  where
    runs-are : held_runs (mem (decode bs)) ≡ union (decode bs)
    runs-are =
        held_runs-cong (mem (decode bs)) (mem (union (decode bs)))
        (λ x h. sym (ap (λ (P : Positions). P x) (union-positions (decode bs)) ∙ bounded-below (mem (decode bs)) x h))
        ∙ held_runs-mem (union (decode bs)) (union-canon (decode bs))

setting : (cs : List Condition) (l u : Bound) (v : Bool) → TiedPlan (counting cs (set_range (first_allowed l) (extent l u) v)) (counting_runs cs (set_runs size (first_allowed l) (extent l u) v))
setting cs l u v = counts cs cs _ _ refl (λ rs c. set-positions (first_allowed l) (extent l u) v rs c) (λ rs c. set_runs-canon size (first_allowed l) (extent l u) v rs c)

flipping : (cs : List Condition) (l u : Bound) → TiedPlan (changing cs (flip_range (first_allowed l) (extent l u))) (changing_runs cs (flip_runs size (first_allowed l) (extent l u)))
flipping cs l u = alters cs _ _ (λ rs c. flip-positions (first_allowed l) (extent l u) rs c) (λ rs c. flip-canon size (first_allowed l) (extent l u) rs c)

-- what a further world holds
read_runs : (op : Operation) (t u : Given) → bounded (combined op (mem (runs_of t)) (mem (runs_of u))) ≡ bounded (combined op (positions_of (fed_as t)) (positions_of (fed_as u)))
read_runs op t u = ap₂ (λ Q R. bounded (combined op Q R)) (sym (runs_of-positions t)) (sym (runs_of-positions u))

-- each line is tied to the model's
tied : (c : Call Given) → TiedPlan (plan fed_as c) (plan_runs c)
unfolding plan_runs remaining Positions.run_at fill_of
tied (set l u v) = setting [] l u v
tied (flip l u) = flipping [] l u
tied (get x) = asks _ _ _ (λ rs c. refl)
tied (run_at x) = asks _ _ _ (λ rs c. ap (λ ss. around (run_with x ss)) (clipped-runs (mem rs x) 0 size rs c))
tied (find l u v) =
    asks _ _ _ (λ rs c. ap position (find_runs (mem rs) v (first_allowed l) (extent l u) ∙ ap (λ ss. start_of (first_run ss)) (clipped-runs v (first_allowed l) (extent l u) rs c)))
tied (tally l u v) = asks _ _ _ (tallies l u v)
tied (select l u v k) =
    asks _ _ _ (λ rs c. ap position (select-runs (mem rs) v (first_allowed l) (extent l u) k ∙ ap (λ ss. select_runs ss k) (clipped-runs v (first_allowed l) (extent l u) rs c)))
tied (gap l u n) = record {
  further = refl;
  earns = λ rs c. refl;
  effect = none;
  gives = λ rs c e. ap position (gap_runs (mem rs) (first_allowed l) (extent l u) n (some-length n e) ∙ ap (first_long n) (clipped-runs false (first_allowed l) (extent l u) rs c));
}
tied (ranges l u v) = asks _ _ _ (λ rs c. refl)
tied (draw_front l) = asks _ _ _ (λ rs c. ap (λ ss. drawn_first l (first_run ss)) (clipped-runs l.value l.first (suc l.last - l.first) rs c))
tied (draw_back l) = asks _ _ _ (λ rs c. ap (λ ss. drawn_last l (last_run ss)) (clipped-runs l.value l.first (suc l.last - l.first) rs c))
tied (shift d left) = alters _ _ _ (λ rs c. shift-positions d left rs c) (λ rs c. shift-canon size d left rs c)
tied (shifted d left t) =
    makes (t ∷ []) _ _ _ (shift-positions d left (runs_of t) (runs_of-canon t) ∙ ap (λ Q. bounded (shift_by d left Q)) (sym (runs_of-positions t))) (shift-canon size d left (runs_of t) (runs_of-canon t))
tied (combine op t u) =
    makes (t ∷ u ∷ []) _ _ _ (combine-positions op (runs_of t) (runs_of u) (runs_of-canon t) (runs_of-canon u) ∙ read_runs op t u)
    (combine-canon size op (runs_of t) (runs_of u) (runs_of-canon t) (runs_of-canon u))
tied (complement t) =
    makes (t ∷ []) _ _ _ (complement-positions (runs_of t) (runs_of-canon t) ∙ ap (λ Q. bounded (complemented Q)) (sym (runs_of-positions t))) (complement-canon size (runs_of t) (runs_of-canon t))
tied (equal t) = record {
  further = refl;
  earns = λ rs c. refl;
  effect = none;
  gives = λ rs c _. ap value (ap (same (mem rs)) (runs_of-positions t) ∙ same_runs rs (runs_of t) c (runs_of-canon t));
}
tied (load bs) = makes [] _ _ _ (union-positions (decode bs)) (union-canon (decode bs))
tied (mend bs out report) = mend-tied bs out report
tied (build rs') = makes [] _ _ _ (union-positions rs') (union-canon rs')
tied (write_set e out) = writes _ _ _ _ (λ rs c. ap (encode e) (held_runs-mem rs c))
tied (read_map base n bs) =
    counts _ _ _ _ (ap (λ t. window when bad_window base n ∷ window when bad_map n bs ∷ stray_bit when t ∷ []) (stray-some n bs))
    (λ rs c. map-positions base n bs rs c) (λ rs c. map-canon base n bs rs c)
tied (write_map base n out) = writes _ _ _ _ (λ rs c. refl)
tied (fill base n) = asks _ _ _ (λ rs c. ap (λ k. number ((1000 * k + (n - 1)) / n)) (count_runs (mem rs) true base n ∙ ap widths (clipped-runs true base n rs c)))
tied (set_strict l u v) = setting (strict l u) l u v
tied (flip_strict l u) = flipping (strict l u) l u
tied (tally_strict l u v) = asks _ _ _ (tallies l u v)
tied (set_rect q v) = counts _ _ _ _ refl (λ rs c. rect-positions q v rs c) (λ rs c. rect-canon q v rs c)
tied (count_rect q) = asks _ _ _ (λ rs c. ap number (rect-count q rs c))
tied (survey r c k out) = writes _ _ _ _ (λ rs d. surveyed rs d k r c)

-- ---- so the outcomes are tied
pub record Tied (o : Outcome) (r : RunOutcome) : Type 0 where
  pub answer : o.answer ≡ r.answer
  pub positions : o.positions ≡ mem r.runs
  pub canonical : Canon size 0 r.runs

tied-settle : (o : Option ℕ) {P Q : Positions} {a b : Result} (rs qs : List Run) → (o ≡ None → a ≡ b) → P ≡ mem rs → Q ≡ mem qs → Canon size 0 rs → Canon size 0 qs
    → Tied (settle o P a Q) (settle_runs o rs b qs)
tied-settle None rs qs e p q c d = record { answer = ap gave (e refl); positions = q; canonical = d }
tied-settle (Some n) rs qs e p q c d = record { answer = refl; positions = p; canonical = c }

-- what comes last is given where nothing before it is
refusal-last : (o : Option ℕ) (cs ds : List Condition) → or_else o (refusal (cs ++ ds)) ≡ None → refusal ds ≡ None
refusal-last (Some n) cs ds e = let z : ◌≡◌ {A = ℕ} 0 1 = cc in absurd (omega arith)
refusal-last None cs ds e = first-last order cs ds e

-- positions have as many runs as a canonical list that tells them
as-many : (C : ℕ) (Q : Positions) (qs : List Run) → Canon size 0 qs → mem qs ≡ bounded Q → too_many (ltb C) Q ≡ ltb C (length qs)
unfolding too_many
as-many C Q qs c e = ap (ltb C) (stretches-is Q qs c (λ x h. ap (λ P. P x) e ∙ bounded-below Q x h))

module _ (C : ℕ) (rs : List Run) (c : Canon size 0 rs) where
  room-tied : {e : Effect} {f : RunEffect} → TiedEffect e f → room (ltb C) e (mem rs) ≡ room_runs C f rs
  room-tied none = refl
  room-tied (change {Q} {qs} q d) = ap (λ t. capacity when t ∷ []) (as-many C (Q (mem rs)) (qs rs) (d rs c) (q rs c))
  room-tied (fresh {Q} {qs} q d) = ap (λ t. capacity when t ∷ []) (as-many C Q qs d q)

  left-tied : {e : Effect} {f : RunEffect} → TiedEffect e f → (left_by e (mem rs) ≡ mem (runs_left f rs)) × Canon size 0 (runs_left f rs)
  left-tied none = (refl, c)
  left-tied (change q d) = (sym (q rs c), d rs c)
  left-tied (fresh q d) = (sym q, d)

-- every call, computed on run lists, is the plain model's
pub calc-tied : (C : ℕ) (s : Given) (c : Call Given) → Tied (serve (ltb C) (fed_as s) (plan fed_as c)) (calc C s c)
unfolding serve serve_runs
calc-tied C s c =
    let t = tied c in
    let d = runs_of-canon s in
    let p = plan fed_as c in
    let q = plan_runs c in
    let rs = runs_of s in
    let l = left-tied C rs d t.effect in
    rw (runs_of-positions s, t.further, room-tied C rs d t.effect, t.earns rs d)
    (tied-settle (first_refusal (map fed_as (s ∷ q.further)) (room_runs C q.effect rs ++ q.earns rs)) rs (runs_left q.effect rs)
    (λ e. t.gives rs d (refusal-last _ (room_runs C q.effect rs) (q.earns rs) e)) refl l.0 d l.1)
