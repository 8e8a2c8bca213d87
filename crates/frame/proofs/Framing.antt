-- A frame's outcome, by what looking at the pool told and by the room of the slice. Assumes nothing.
use Rattle.std.specs.Prelude.{Option, None, Some}
use Rattle.std.specs.Prelude.{◌≡◌, ℕ, ◌*◌, ◌/◌, ◌<◌, ◌≤◌, Bool, true, false, not, List, [], ◌∷◌, ◌++◌, length}
use mathlib.Core.Path.{refl, sym, ap, ◌∙◌, subst}
use native.Mathlib.Omega.{arith}
use borrow.Author.Tests.{lt-ltb, le-ltb}
use Rattle.model.specs.Refusals.{output_short, ◌when◌, refusal, no_room}
use Rattle.model.specs.Call.{done, refused, gave}
use Rattle.model.specs.Model.{or_else}
use Rattle.model.specs.Pools.{answers, after}
use Rattle.pool.specs.Layout.{capacity, worlds_of}
use Rattle.interval_bit_set.specs.Look.{Checked}
use Rattle.interval_bit_set.proofs.Looking.{short-no}
use Rattle.pool.specs.Relink.{Tidied}
use Rattle.interval_bit_set.proofs.Tidying.{pooled-tidied}
use Rattle.interval_bit_set.specs.Met.{faults}
use Rattle.frame.specs.Records.{calls_of}
use Rattle.flat.specs.Records.{records_of}
use Rattle.frame.specs.Frame.{FrameOutcome, settle_frame, frame_of, frame_outcome, FrameLeaves, Framed}
use Rattle.frame.specs.Serving.{Playable, Plays}
use Rattle.frame.proofs.FedCalls.{calls-length, answers-length, records-length}

module _ (w cs out : List ℕ) where
  -- the words due
  abbrev recorded : List ℕ
  recorded = records_of (answers (capacity w) (worlds_of w) (calls_of cs))

  -- what the model says, by the refusal that is due
  frame-by : (o : Option ℕ) → or_else (faults (w ∷ [])) (refusal (output_short when no_room out recorded ∷ [])) ≡ o
      → frame_outcome w cs out ≡ settle_frame o (worlds_of w) (after (capacity w) (worlds_of w) (calls_of cs)) recorded out
  unfolding frame_outcome frame_of
  frame-by o e = ap (λ p. settle_frame p (worlds_of w) (after (capacity w) (worlds_of w) (calls_of cs)) recorded out) e

  -- the contract holds of an outcome whose worlds and slice are left
  framed-by : {w' out' : List ℕ} (o : FrameOutcome) → frame_outcome w cs out ≡ o → FrameLeaves w w' o.worlds o.answer → out' ≡ o.slice → Framed w cs out o.answer w' out'
  framed-by {w'} o e l s = record {
    answered = sym (ap (λ p. p.answer) e);
    left = subst (λ p. FrameLeaves w w' p.worlds o.answer) (sym e) l;
    wrote = s ∙ sym (ap (λ p. p.slice) e);
  }

  -- a pool that fails the check is refused
  pub turned-away : {n : ℕ} → faults (w ∷ []) ≡ Some n → Framed w cs out (refused n) w out
  turned-away {n} e = framed-by _ (frame-by (Some n) (ap (λ o. or_else o (refusal (output_short when no_room out recorded ∷ []))) e)) refl refl

  -- how many words are due
  due : length recorded ≡ 8 * (length cs / 8)
  unfolding calls_of
  due =
      records-length (answers (capacity w) (worlds_of w) (calls_of cs))
      ∙ ap (λ k. 8 * k) (answers-length (capacity w) (worlds_of w) (calls_of cs) ∙ calls-length cs 0 (length cs / 8))

  module _ (k : Checked w) where
    -- of a sound pool the room decides
    by-room : (t : Bool) → no_room out recorded ≡ t → or_else (faults (w ∷ [])) (refusal (output_short when no_room out recorded ∷ [])) ≡ refusal (output_short when t ∷ [])
    by-room t e = rw (short-no w k.sized, k.passed, e)

    -- the answers do not fit
    pub no_room_lem : length out / 8 < length cs / 8 → Framed w cs out (refused 2) w out
    unfolding no_room
    no_room_lem h =
        framed-by _ (frame-by (Some 2) (by-room true (lt-ltb (length out) (length recorded) (omega (arith, due))))) refl refl

    -- they fit, all records were served, and the pool was tidied
    pub framed : {w' w'' out' : List ℕ} → length cs / 8 ≤ length out / 8 → Plays w cs out (length cs / 8) w' out' → Tidied w' w'' → Framed w cs out (gave done) w'' out'
    unfolding no_room calls_of
    framed h p t =
        framed-by _ (frame-by None (by-room false (le-ltb (length out) (length recorded) (omega (arith, due))))) (pooled-tidied p.pooled t) p.wrote

  pub playable : length cs / 8 ≤ length out / 8 → Playable cs out (length cs / 8)
  playable h = record { given = omega arith; room = omega arith }
