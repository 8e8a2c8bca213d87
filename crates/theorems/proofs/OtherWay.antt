-- The other way of the refusal law fails: in pools of capacity 1, {M} OR {5} has two runs and is refused with 8; a left shift by 1 drops M, so the OR of
-- the shifted sets has one run and is done. The sets are computed as run lists. Assumes nothing.
use Rattle.std.specs.Prelude.{Option, None, Some}
use Prim.Native.Nat.{ℕ, ◌-◌, ◌≤◌, ◌<◌}
use mathlib.Core.Path.{◌≡◌, refl, sym, ap, ap₂, ◌∙◌, subst, fun_ext}
use mathlib.Core.Bool.{true}
use mathlib.Core.List.{List, [], ◌∷◌}
use native.Mathlib.Omega.{arith}
use lib.Dec.{eqb}
use lib.ListN.{length}
use Rattle.std.specs.declared.ops.Bound.TheVariants.{Included}
use Rattle.model.specs.declared.Operation.TheVariants.{Or}
use Rattle.model.specs.declared.Run.{Run}
use Rattle.model.specs.Numbers.{size}
use Rattle.model.specs.Range.{first_allowed, extent}
use Rattle.model.specs.Positions.{Positions, run, empty, stretches, set_range, combined, bounded, mem}
use Rattle.model.specs.RunList.{Canon, insert}
use Rattle.model.proofs.Runs.{stretches-is}
use Rattle.model.proofs.Edit.{set_to, on_range, set_runs}
use Rattle.model.proofs.Ops.{set_all, or_runs, combine_runs, shift_left_runs, shift_runs, combine-canon, combine-positions, shift-canon, shift-positions, set-positions, bounded-below}
use Rattle.model.specs.Refusals.{bad_limits}
use Rattle.model.specs.Call.{Call, done, Answer, refused, gave}
use Rattle.model.specs.Model.{positions_of}
use Rattle.model.specs.Pools
use Rattle.model.specs.Pools.{PlainWorld, world_of, claims, other_claims, empty_worlds, make_by}
use Rattle.pool.specs.Layout.{capacity_of, capacity, allowance, held_by, worlds_of}
use Rattle.pool.specs.Settle.{Openable}
use Rattle.pool.proofs.WorldLists.{opened-world}
use Rattle.interval_bit_set.specs.Met.{site, fed_of, outcome_of, Leaves, Readable, Met, made_of, MakeLeaves, Made}
use Rattle.interval_bit_set.proofs.Meeting.{readable}
use Rattle.interval_bit_set.proofs.Changing.{full-before}
use Rattle.interval_bit_set.proofs.Overwriting.{makes}
use Rattle.interval_bit_set.proofs.Giving.{given-settled}
use Rattle.theorems.specs.Pairs.{Did}
use Rattle.theorems.specs.Laws.{one_run}
use Rattle.theorems.proofs.Moving.{moved}
use Rattle.theorems.proofs.Doing.{readable-now, given-gets}
use Rattle.theorems.proofs.Calls.{shift-done, both-quiet, combine-done, set-done}

-- the last position
abbrev last : ℕ
last = size - 1

-- ---- worlds told by run lists
-- world 0 of w can be read, and holds the runs rs
record Holding (w : List ℕ) (rs : List Run) : Type 0 where
  can-read : Readable w 0
  canonical : Canon size 0 rs
  holds-runs : held_by w 0 ≡ mem rs

-- how many runs a set has
runs_of : (Q : Positions) (rs : List Run) → Canon size 0 rs → mem rs ≡ bounded Q → stretches Q ≡ length rs
runs_of Q rs c e = stretches-is Q rs c (λ x h. ap (λ P. P x) e ∙ bounded-below Q x h)

-- after a shift
shift_runs_lem : {w w' : List ℕ} {rs : List Run} {a : Answer} → Holding w rs → Met w 0 (Call.shift 1 true) a w' → Holding w' (shift_runs size 1 true rs)
shift_runs_lem {w} {w'} {rs} H m =
    let k : Did w 0 (Call.shift 1 true) w' = subst (λ b. Met w 0 (Call.shift 1 true) b w') (shift-done 1 true H.can-read m) m in
    record {
      can-read = readable-now H.can-read (given-settled k) 0 H.can-read;
      canonical = shift-canon size 1 true rs H.canonical;
      holds-runs = (given-gets k).held ∙ ap (moved 1 true) H.holds-runs ∙ sym (shift-positions 1 true rs H.canonical);
    }

-- the OR of two worlds
or-runs : {u v : List ℕ} {rs ss : List Run} → Holding u rs → Holding v ss → mem (combine_runs Or rs ss) ≡ bounded (combined Or (held_by u 0) (held_by v 0))
or-runs {rs = rs} {ss} H K =
    combine-positions Or rs ss H.canonical K.canonical ∙ sym (ap₂ (λ P Q. bounded (combined Or P Q)) H.holds-runs K.holds-runs)

or-many : {u v : List ℕ} {rs ss : List Run} → Holding u rs → Holding v ss → stretches (combined Or (held_by u 0) (held_by v 0)) ≡ length (combine_runs Or rs ss)
or-many {u} {v} {rs} {ss} H K =
    runs_of (combined Or (held_by u 0) (held_by v 0)) (combine_runs Or rs ss) (combine-canon size Or rs ss H.canonical K.canonical) (or-runs H K)

-- ---- a new pool of capacity 1
-- making it is not refused
made-done : {w w' : List ℕ} {a : Answer} → capacity w ≡ 1 → Made w one_run a w' → a ≡ gave done
unfolding made_of make_by bad_limits
made-done {w} e m = m.answered ∙ ap (λ C. (make_by (eqb C 0) C (worlds_of w) one_run).answer) e

-- and leaves one world, which holds nothing and may have one run
record New (w : List ℕ) : Type 0 where
  holding : Holding w []
  may-have : allowance w 0 ≡ 1

-- the positions of a world, if there is one
abbrev positions_in : Option PlainWorld → Positions
positions_in None = empty
positions_in (Some x) = x.positions

nothing : empty ≡ mem []
unfolding empty mem
nothing = fun_ext (λ x. refl)

new-pool : {w w' : List ℕ} {a : Answer} → capacity w ≡ 1 → Made w one_run a w' → New w'
unfolding allowance Pools.allowance other_claims claims empty_worlds
new-pool {w} {w'} e m =
    let E = subst (MakeLeaves w w' one_run) (made-done e m) m.left in
    let f : capacity w' ≡ 1 = ap capacity_of E.long ∙ e in
    let o : Openable w' 0 = record { sound = E.sound; named = E.sound.some } in
    record {
      holding = record {
        can-read = readable o;
        canonical = tt;
        holds-runs = ap positions_in (sym (opened-world w' 0 o.named) ∙ ap (λ ws. world_of ws 0) E.worlds) ∙ nothing;
      };
      may-have = ap₂ (λ C ws. Pools.allowance C ws 0) f E.worlds;
    }

-- one position of it, set
module _ (y : ℕ) (computed : set_runs size (first_allowed (Included y)) (extent (Included y) (Included y)) true [] ≡ run y y ∷ []) where
  abbrev became : Positions → Positions
  became P = set_range (first_allowed (Included y)) (extent (Included y) (Included y)) true P

  set-run : {w : List ℕ} → New w → mem (run y y ∷ []) ≡ bounded (became (held_by w 0))
  set-run N =
      ap mem (sym computed) ∙ set-positions (first_allowed (Included y)) (extent (Included y) (Included y)) true [] tt
      ∙ ap (λ P. bounded (became P)) (sym N.holding.holds-runs)

  set-one : {w w' : List ℕ} {a : Answer} → y < size → New w → Met w 0 (Call.set (Included y) (Included y) true) a w' → Holding w' (run y y ∷ [])
  set-one {w} {w'} l N m =
      let c : Canon size 0 (run y y ∷ []) = (omega arith, omega arith, l, tt) in
      let R = N.holding.can-read in
      let few : stretches (became (held_by w 0)) ≤ allowance w 0 = omega (arith, runs_of (became (held_by w 0)) (run y y ∷ []) c (set-run N), N.may-have) in
      let k = subst (λ b. Met w 0 (Call.set (Included y) (Included y) true) b w') (set-done (Included y) (Included y) true R few m).1 m in
      record {
        can-read = readable-now R (given-settled k) 0 R;
        canonical = c;
        holds-runs = (given-gets k).held ∙ sym (set-run N);
      }

-- ---- the case
-- what is set, and shifted, and joined, computed
last_set : set_runs size (first_allowed (Included last)) (extent (Included last) (Included last)) true [] ≡ run last last ∷ []
unfolding set_runs on_range set_to insert
last_set = refl

five-set : set_runs size (first_allowed (Included 5)) (extent (Included 5) (Included 5)) true [] ≡ run 5 5 ∷ []
unfolding set_runs on_range set_to insert
five-set = refl

two_runs : length (combine_runs Or (run last last ∷ []) (run 5 5 ∷ [])) ≡ 2
unfolding combine_runs or_runs set_all set_to insert
two_runs = refl

one_left : length (combine_runs Or (shift_runs size 1 true (run last last ∷ [])) (shift_runs size 1 true (run 5 5 ∷ []))) ≡ 1
unfolding combine_runs or_runs set_all set_to insert shift_runs shift_left_runs
one_left = refl

module _ {w : List ℕ} (N : New w) {u v : List ℕ} {rs ss : List Run} (H : Holding u rs) (K : Holding v ss) where
  -- an OR of two runs is refused
  or-refused : {w' : List ℕ} {a : Answer} → length (combine_runs Or rs ss) ≡ 2 → Met w 0 (Call.combine Or (site u 0) (site v 0)) a w' → (a ≡ refused 8) × (w' ≡ w)
  or-refused {w'} e m =
      let quiet = both-quiet (site u 0) (site v 0) H.can-read K.can-read in
      let over : allowance w 0 < stretches (combined Or (positions_of (fed_of u 0)) (positions_of (fed_of v 0))) =
      subst (λ P. allowance w 0 < stretches P) (sym (ap₂ (λ f g. combined Or (positions_of f) (positions_of g)) H.can-read.fed K.can-read.fed))
      (omega (arith, or-many H K, e, N.may-have)) in
      let f = m.answered ∙ sym (full-before (makes {w = w} {i = 0} {c = Call.combine Or (site u 0) (site v 0)} refl quiet) N.holding.can-read refl (over, refl)).answered in
      (f, subst (λ b. Leaves w w' 0 (outcome_of w 0 (Call.combine Or (site u 0) (site v 0))).positions b) f m.left)

  -- and one of one run is done
  or-done : {w' : List ℕ} {a : Answer} → length (combine_runs Or rs ss) ≡ 1 → Met w 0 (Call.combine Or (site u 0) (site v 0)) a w' → a ≡ gave done
  or-done e m =
      combine-done Or (site u 0) (site v 0) N.holding.can-read H.can-read K.can-read (omega (arith, or-many H K, e, N.may-have)) m

pub other_way : {u u₁ u₂ u₃ v v₁ v₂ v₃ w w₁ w₂ w₃ : List ℕ} {a b c d e f g h k : Answer}
    → capacity u ≡ 1 → Made u one_run a u₁ → Met u₁ 0 (Call.set (Included (size - 1)) (Included (size - 1)) true) b u₂ → Met u₂ 0 (Call.shift 1 true) c u₃
    → capacity v ≡ 1 → Made v one_run d v₁ → Met v₁ 0 (Call.set (Included 5) (Included 5) true) e v₂ → Met v₂ 0 (Call.shift 1 true) f v₃
    → capacity w ≡ 1 → Made w one_run g w₁
    → Met w₁ 0 (Call.combine Or (site u₂ 0) (site v₂ 0)) h w₂ → Met w₂ 0 (Call.combine Or (site u₃ 0) (site v₃ 0)) k w₃
    → (h ≡ refused 8) × (k ≡ gave done)
other_way {u₃ = u₃} {v₃ = v₃} {w₃ = w₃} {k = k} eu mu su tu ev mv sv tv ew mw x y =
    let H = set-one last last_set (omega arith) (new-pool eu mu) su in
    let K = set-one 5 five-set (omega arith) (new-pool ev mv) sv in
    let N = new-pool ew mw in
    let r = or-refused N H K two_runs x in
    (r.0, or-done N (shift_runs_lem H tu) (shift_runs_lem K tv) one_left (subst (λ z. Met z 0 (Call.combine Or (site u₃ 0) (site v₃ 0)) k w₃) r.1 y))
