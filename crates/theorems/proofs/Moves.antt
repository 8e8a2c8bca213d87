-- One move goes along with the plain model where the pool holds the model's worlds: it is heard as the model says,
-- leaves the model's worlds and what the model leaves of what was lent, and refused it changes nothing. What a single
-- call was lent is a part of its answer, and a refusal leaves it by its own promise. A frame earns no 1 and no 7, since
-- the pool is sound. Assumes nothing.
use Rattle.std.specs.Prelude.{Option, None, Some, Ok, Err}
use Prim.Native.Nat.{ℕ}
use mathlib.Core.Path.{◌≡◌, refl, sym, ap, ap₂, ◌∙◌, subst}
use mathlib.Core.List.{List, [], ◌∷◌}
use Rattle.model.specs.declared.Listing.{Listing}
use Rattle.model.specs.declared.Mended.{Mended}
use Rattle.model.specs.declared.Run.{Run}
use Rattle.model.specs.Answers.{OrRefusal, written_answer, mended_answer}
use Rattle.model.specs.Refusals.{output_short, ◌when◌, refusal, no_room}
use Rattle.model.specs.Call.{Call, make, measure, at, PoolCall, told_as, done, Answer, refused, gave}
use Rattle.model.specs.Model.{plan, or_else}
use Rattle.model.specs.Pools.{PlainWorld, step, answers, after}
use Rattle.pool.specs.Layout.{capacity_of, capacity, worlds_of}
use Rattle.pool.specs.Free.{Pooled}
use Rattle.pool.proofs.Whole.{sound_b-no}
use Rattle.interval_bit_set.specs.Met.{Site, faults, fed_at, outcome_of, Leaves, Met, MakeLeaves, Made, Measured}
use Rattle.interval_bit_set.specs.Out.{Unwritten, Unmended}
use Rattle.interval_bit_set.proofs.Meeting.{refused-not}
use Rattle.interval_bit_set.proofs.Looking.{short-no}
use Rattle.interval_bit_set.proofs.Simulation.{
  Holds,
  answer-is,
  step-holds,
  made-answer,
  made_holds,
  measured-answer,
  measured-holds,
}
use Rattle.interval_bit_set.specs.Lent.{item_answer, Unmoved}
use Rattle.frame.specs.Frame
use Rattle.frame.specs.Frame.{FrameOutcome, settle_frame, frame_of, FrameLeaves, Framed}
use Rattle.flat.specs.Records.{records_of}
use Rattle.frame.specs.Records.{calls_of}
use Rattle.theorems.specs.Plays.{
  Lent,
  nothing,
  listing,
  slice,
  slices,
  single,
  frame,
  Move,
  plan_move,
  Heard,
  heard_as,
  Moves,
  made,
  met,
  drew,
  wrote,
  measured,
  mends,
  framed,
  MoveOutcome,
  lent_after,
  frame_by,
  frame_outcome,
  move_outcome,
  IsAsTold,
}

-- what a move keeps: it is as the model says, and the pool goes on to hold the model's worlds
pub record Went (C : ℕ) (o : MoveOutcome) (w : List ℕ) (m : Move (Call Site)) (h : Heard) (w' : List ℕ) : Type 0 where
  pub told : IsAsTold o w m h w'
  pub holds : Holds C o.worlds w'

-- ---- what was lent
-- where nothing was, nothing is left
nothing-left : (a : Answer) → nothing ≡ lent_after a nothing
nothing-left (refused n) = refl
nothing-left (gave done) = refl
nothing-left (gave r) = refl

-- a listing that was drawn from
drawn-left : (r : OrRefusal (Option Run)) (l l' : Listing) → Unmoved r l l'
    → listing l' ≡ lent_after (item_answer r l') (listing l)
drawn-left (Err r) l l' u = ap listing u
drawn-left (Ok o) l l' u = refl

-- a slice that was written into
written-left : (r : OrRefusal ℕ) (out out' : List ℕ) → Unwritten r out out'
    → slice out' ≡ lent_after (written_answer r out') (slice out)
written-left (Err r) out out' u = ap slice u
written-left (Ok n) out out' u = refl

-- the two of mending
mended-left : (r : OrRefusal Mended) (out out' report report' : List ℕ) → Unmended r out out' report report'
    → slices out' report' ≡ lent_after (mended_answer r out' report') (slices out report)
mended-left (Err r) out out' report report' u = ap₂ slices u.0 u.1
mended-left (Ok m) out out' report report' u = refl

-- ---- a single call
-- the call c on the words w answered a and left w', as it promises
abbrev Stepped : List ℕ → PoolCall (Call Site) → Answer → List ℕ → Type 0
Stepped w (make ls) a w' = Made w ls a w'
Stepped w (measure q out) a w' = Measured w q out a w'
Stepped w (at i c) a w' = Met w i c a w'

-- it answers as the model does
stepped-answer : {C : ℕ} {vs : List PlainWorld} {w : List ℕ} (w' : List ℕ) (a : Answer) (c : PoolCall (Call Site))
    → Holds C vs w → Stepped w c a w' → a ≡ (step C vs (told_as (plan fed_at) c)).answer
stepped-answer w' a (make ls) H m = made-answer H m
stepped-answer w' a (measure q out) H m = measured-answer H m
stepped-answer w' a (at i c) H m = answer-is H m

-- and leaves the model's worlds
stepped-holds : {C : ℕ} {vs : List PlainWorld} {w : List ℕ} (w' : List ℕ) (a : Answer) (c : PoolCall (Call Site))
    → Holds C vs w → Stepped w c a w' → Holds C (step C vs (told_as (plan fed_at) c)).worlds w'
stepped-holds w' a (make ls) H m = made_holds H m
stepped-holds w' a (measure q out) H m = measured-holds H m
stepped-holds w' a (at i c) H m = step-holds H m

-- refused, it leaves the words
stepped-refused : {w w' : List ℕ} {a : Answer} {n : ℕ} (c : PoolCall (Call Site))
    → Stepped w c a w' → a ≡ refused n → w' ≡ w
stepped-refused {w} {w'} (make ls) s e = subst (MakeLeaves w w' ls) e s.left
stepped-refused (measure q out) s e = s.left
stepped-refused {w} {w'} (at i c) s e = subst (Leaves w w' i (outcome_of w i c).positions) e s.left

single-went :
    {C : ℕ} {vs : List PlainWorld} {w w' : List ℕ} {a : Answer} (c : PoolCall (Call Site)) (l l' : Lent)
    → Holds C vs w → Stepped w c a w' → l' ≡ lent_after a l
    → Went C (move_outcome C vs (single (told_as (plan fed_at) c) l)) w (single c l) (heard_as a l') w'
single-went {w' = w'} {a = a} c l l' H s e =
    let K = stepped-holds w' a c H s in
    let f = stepped-answer w' a c H s in
    record {
      told = record {
        heard = ap₂ heard_as f (e ∙ ap (λ b. lent_after b l) f);
        worlds = K.held;
        unchanged = λ n r. (stepped-refused c s r, e ∙ ap (λ b. lent_after b l) r);
      };
      holds = K;
    }

-- ---- a frame
module _ {C : ℕ} {vs : List PlainWorld} {w : List ℕ} (H : Holds C vs w) (calls out : List ℕ) where
  -- the pool has no fault
  no-fault : faults (w ∷ []) ≡ None
  no-fault = rw (short-no w H.sound.sized, sound_b-no w H.sound)

  -- so the model says of it what its promise says
  frame-is : Frame.frame_outcome w calls out ≡ frame_by C vs calls out
  unfolding Frame.frame_outcome frame_of
  frame-is =
      let due : List ℕ = records_of (answers (capacity w) (worlds_of w) (calls_of calls)) in
      let us : List PlainWorld = after (capacity w) (worlds_of w) (calls_of calls) in
      ap (λ o. settle_frame (or_else o (refusal (output_short when no_room out due ∷ []))) (worlds_of w) us due out) no-fault
      ∙ ap₂ (λ k us. frame_by k us calls out) H.sized H.held

  module _ {a : Answer} {w' out' : List ℕ} where
    -- refused or not
    settled-went : (y : Option ℕ) (us : List PlainWorld) (due : List ℕ) → let o = settle_frame y vs us due out in
        a ≡ o.answer → FrameLeaves w w' o.worlds a → out' ≡ o.slice
        → Went C (frame_outcome o) w (frame calls out) (heard_as a (slice out')) w'
    settled-went None us due e l s =
        let p : Pooled w w' us = subst (FrameLeaves w w' us) e l in
        record {
          told = record {
            heard = ap₂ heard_as e (ap slice s);
            worlds = p.worlds;
            unchanged = λ n r. absurd (refused-not (sym r ∙ e));
          };
          holds = record { sound = p.sound; sized = ap capacity_of p.long ∙ H.sized; held = p.worlds };
        }
    settled-went (Some n) us due e l s =
        let same : w' ≡ w = subst (FrameLeaves w w' vs) e l in
        record {
          told = record {
            heard = ap₂ heard_as e (ap slice s);
            worlds = ap worlds_of same ∙ H.held;
            unchanged = λ k r. (same, ap slice s);
          };
          holds = subst (Holds C vs) (sym same) H;
        }

    frame-went : Framed w calls out a w' out'
        → Went C (move_outcome C vs (frame calls out)) w (frame calls out) (heard_as a (slice out')) w'
    frame-went F =
        let us : List PlainWorld = after C vs (calls_of calls) in
        let due : List ℕ = records_of (answers C vs (calls_of calls)) in
        settled-went (refusal (output_short when no_room out due ∷ [])) us due
        (F.answered ∙ ap (λ o. o.answer) frame-is)
        (subst (λ (o : FrameOutcome). FrameLeaves w w' o.worlds a) frame-is F.left)
        (F.wrote ∙ ap (λ o. o.slice) frame-is)

-- ---- any move
pub went : {C : ℕ} {vs : List PlainWorld} {w w' : List ℕ} {m : Move (Call Site)} {h : Heard}
    → Holds C vs w → Moves w m h w' → Went C (move_outcome C vs (plan_move m)) w m h w'
went H (made {ls = ls} {a = a} s) = single-went (make ls) nothing nothing H s (nothing-left a)
went H (met {i = i} {c = c} {a = a} s) = single-went (at i c) nothing nothing H s (nothing-left a)
went H (drew {i = i} draw {l = l} {l' = l'} {r = r} d) =
    single-went (at i (draw l)) (listing l) (listing l') H d.met (drawn-left r l l' d.unmoved)
went H (wrote {i = i} c {out = out} {out' = out'} {r = r} s) =
    single-went (at i (c out)) (slice out) (slice out') H s.met (written-left r out out' s.unwritten)
went H (measured {q = q} {out = out} {out' = out'} {r = r} s) =
    single-went (measure q out) (slice out) (slice out') H s.measured (written-left r out out' s.unwritten)
went H (mends {i = i} {bs = bs} {out = out} {out' = out'} {report = report} {report' = report'} {r = r} s) =
    single-went (at i (Call.mend bs out report)) (slices out report) (slices out' report') H s.met
    (mended-left r out out' report report' s.unmended)
went H (framed {calls = calls} {out = out} r F) = frame-went H calls out F
