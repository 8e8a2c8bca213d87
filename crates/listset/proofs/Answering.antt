-- The answer to an input: too long, refused, or the lines of the set that it loads. Assumes nothing.
use Rattle.std.specs.Prelude.{None, Some, Ok, Err, IsOk, IfOk, IfErr}
use Rattle.model.specs.Answers.{OrRefusal}
use Prim.Native.Nat.{ℕ, ◌≤◌, ◌<◌}
use mathlib.Core.Path.{◌≡◌, refl, sym, ap, ◌∙◌, subst}
use mathlib.Core.Bool.{cond}
use mathlib.Core.List.{List, [], ◌∷◌}
use lib.Dec.{eqb}
use lib.ListN.{length}
use borrow.Author.Tests.{lt-ltb, le-ltb}
use Rattle.model.specs.declared.Refusal.{Refusal}
use Rattle.model.specs.Numbers.{refusal_number}
use Rattle.model.specs.Positions.{Positions, empty}
use Rattle.model.specs.Refusals.{bad_limits}
use Rattle.model.specs.Call.{Call, Result, done, Answer, refused, gave}
use Rattle.model.specs.Answers.{completed_answer}
use Rattle.model.specs.Model.{Outcome, positions_of}
use Rattle.model.specs.Pools.{world_of, fed_by, holding_at, limits_from, limits_of, empty_worlds, make_by, step, alone}
use Rattle.pool.specs.Layout.{capacity_of, capacity, held_by, plain_at, worlds_of}
use Rattle.pool.specs.Soundness.{Sound}
use Rattle.pool.specs.Settle.{Openable}
use Rattle.pool.proofs.WorldLists.{opened-world}
use Rattle.pool.proofs.Whole.{sound_b-no}
use Rattle.interval_bit_set.specs.declared.checked.PoolRef.{PoolRef}
use Rattle.interval_bit_set.specs.Met.{faults, Met, made_of, MakeLeaves, Made}
use Rattle.interval_bit_set.proofs.Looking.{short-no}
use Rattle.interval_bit_set.proofs.Simulation.{Holds, outcome-is, step-holds}
use Rattle.listset.proofs.Drawing.{granted}
use Rattle.listset.specs.Text.{too_long_line, refused_line, set_lines, outcome_lines, loaded, printed}

-- an outcome's lines
abbrev lines : Outcome → List ℕ
lines o = outcome_lines o.answer o.positions

module _ (bs : List ℕ) where
  -- of more bytes than a set of 950 runs has
  pub too_long : 15205 < length bs → printed bs ≡ too_long_line
  unfolding printed
  too_long h = ap (λ t. cond t too_long_line (lines (loaded bs))) (lt-ltb 15205 (length bs) h)

  -- else
  pub short-enough : length bs ≤ 15205 → printed bs ≡ lines (loaded bs)
  unfolding printed
  short-enough h = ap (λ t. cond t too_long_line (lines (loaded bs))) (le-ltb 15205 (length bs) h)

  -- a refusal and a result, as lines
  lines-refused : {n : ℕ} → refused n ≡ (loaded bs).answer → lines (loaded bs) ≡ refused_line n
  lines-refused e = ap (λ a. outcome_lines a (loaded bs).positions) (sym e)

  lines-done : {r : Result} {P : Positions} → gave r ≡ (loaded bs).answer → P ≡ (loaded bs).positions → lines (loaded bs) ≡ set_lines P
  lines-done e f = ap (λ a. outcome_lines a (loaded bs).positions) (sym e) ∙ ap set_lines (sym f)

-- ---- the pool that is made
-- its limits are not refused, so it has one world, which is empty
made-answer : (w : List ℕ) → capacity w ≡ 950 → (made_of w (limits_of (0 ∷ 950 ∷ []))).answer ≡ gave done
unfolding made_of make_by limits_of limits_from bad_limits
made-answer w z = ap (λ k. (make_by (eqb k 0) k (worlds_of w) (limits_of (0 ∷ 950 ∷ []))).answer) z

pub made-granted : {w w₁ : List ℕ} (n : OrRefusal Unit) → capacity w ≡ 950 → Made w (limits_of (0 ∷ 950 ∷ [])) (completed_answer n) w₁ → IsOk n
made-granted {w} n z m = granted _ n (m.answered ∙ made-answer w z)

made-worlds : empty_worlds (limits_of (0 ∷ 950 ∷ [])) ≡ alone 950 empty
unfolding empty_worlds limits_of limits_from
made-worlds = refl

made_holds : {w w₁ : List ℕ} {a : Answer} → capacity w ≡ 950 → Made w (limits_of (0 ∷ 950 ∷ [])) a w₁ → Holds 950 (alone 950 empty) w₁
made_holds {w} {w₁} z m =
    let e = subst (MakeLeaves w w₁ (limits_of (0 ∷ 950 ∷ []))) (m.answered ∙ made-answer w z) m.left in
    record { sound = e.sound; sized = ap capacity_of e.long ∙ z; held = e.worlds ∙ made-worlds }

-- ---- its check
-- a sound pool passes it
check-quiet : {w : List ℕ} → Sound w → faults (w ∷ []) ≡ None
check-quiet {w} S = rw (short-no w S.sized, sound_b-no w S) refl

pub check-granted : {T : Type 0} {w : List ℕ} (n : OrRefusal T) → Sound w → IfErr n (λ r. faults (w ∷ []) ≡ Some (refusal_number r)) → IsOk n
check-granted (Ok p) S e = refl
check-granted (Err r) S e = let f : None ≡ Some (refusal_number r) = sym (check-quiet S) ∙ e in absurd (cc f)

-- and what was checked is its words
pub check-told : {w : List ℕ} {n : OrRefusal PoolRef} {p : PoolRef} → IfOk n (λ q. q.words.now ≡ w) → n ≡ Ok p → p.words.now ≡ w
check-told {w} h e = subst (λ r. IfOk r (λ q. q.words.now ≡ w)) e h

-- ---- the load into it
-- the positions of the only world of a pool, which was opened
only-held : {P : Positions} {w : List ℕ} → Holds 950 (alone 950 P) w → held_by w 0 ≡ P
only-held {P} {w} H =
    let e : Some (plain_at w 0) ≡ world_of (alone 950 P) 0 = sym (opened-world w 0 H.sound.some) ∙ ap (λ ws. world_of ws 0) H.held in
    ap (λ o. positions_of (fed_by o)) e

module _ (bs : List ℕ) (w : List ℕ) (z : capacity w ≡ 950) {w₁ w₂ : List ℕ} {a : Answer} (m : Made w (limits_of (0 ∷ 950 ∷ [])) a w₁) where
  -- the load is the model's
  load-answer : {b : Answer} → Met w₁ 0 (Call.load bs) b w₂ → b ≡ (loaded bs).answer
  unfolding loaded
  load-answer l = l.answered ∙ ap (λ o. o.answer) (outcome-is (made_holds z m) 0 (Call.load bs))

  -- and leaves the model's world
  load-holds : {b : Answer} → Met w₁ 0 (Call.load bs) b w₂ → Holds 950 (alone 950 (loaded bs).positions) w₂
  unfolding loaded step holding_at
  load-holds l = step-holds (made_holds z m) l

  -- by what `load` answered
  module _ (c : OrRefusal Unit) (l : Met w₁ 0 (Call.load bs) (completed_answer c) w₂) where
    pub done-told : c ≡ Ok tt → Openable w₂ 0 × (capacity w₂ ≡ 950) × (lines (loaded bs) ≡ set_lines (held_by w₂ 0))
    done-told e =
        let H = load-holds l in (
          record { sound = H.sound; named = H.sound.some },
          H.sized,
          lines-done bs (ap completed_answer (sym e) ∙ load-answer l) (only-held H),
        )

    pub refused-told : {r : Refusal} → c ≡ Err r → lines (loaded bs) ≡ refused_line (refusal_number r)
    refused-told e = lines-refused bs (ap completed_answer (sym e) ∙ load-answer l)
