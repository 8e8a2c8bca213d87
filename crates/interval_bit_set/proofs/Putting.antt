-- Calls that write into the front of a lent slice: what they answer, by the room that the slice has. They report, and one of their
-- conditions is that the bytes due fit. Assumes nothing.
use Rattle.std.specs.Prelude.{Option, None, Some, Ok, Err}
use Prim.Native.Nat.{ℕ, ◌+◌, ◌*◌, ◌≤◌, ◌<◌}
use mathlib.Core.Path.{◌≡◌, refl, sym, ap, ap₂, ◌∙◌, subst, subst₂}
use mathlib.Core.Bool.{Bool, true, false}
use mathlib.Core.List.{List, [], ◌∷◌}
use native.Mathlib.Omega.{arith}
use lib.ListN.{length, take, drop}
use lib.Seq.{take_at}
use borrow.Author.Tests.{lt-ltb, le-ltb}
use Rattle.model.specs.declared.Refusal.{Refusal}
use Rattle.model.specs.declared.Refusal.TheVariants.{OutputShort}
use Rattle.model.specs.Numbers.{refusal_number}
use Rattle.model.specs.declared.Edition.{Edition}
use Rattle.model.specs.Positions.{Positions, held_runs, stretches}
use Rattle.model.specs.Bytes.{encode, into_front}
use Rattle.model.proofs.Codec.{encode-length}
use Rattle.model.specs.Refusals.{off_plane, window, output_short, Condition, ◌when◌, refusal, bad_square, bad_window, no_room}
use Rattle.model.specs.Call.{Call, written, gave}
use Rattle.model.specs.Model.{plan, writing, settle, serve}
use Rattle.pool.specs.Layout.{held_in, held_by}
use Rattle.pool.specs.declared.World.{World}
use Rattle.pool.specs.Settle.{Opened}
use Rattle.pool.proofs.Parts.{lent}
use Rattle.interval_bit_set.specs.Met.{Site, fed_at, full_at, outcome_of, Met, Readable}
use Rattle.interval_bit_set.specs.Out.{WritesOut}
use Rattle.interval_bit_set.proofs.Doors.{lent-held, lent-limited}
use Rattle.interval_bit_set.proofs.Meeting.{met_by, settled_same}

-- bytes in front of a slice are there
pub take-front : (bs out : List ℕ) → take (length bs) (into_front bs out) ≡ bs
unfolding into_front
take-front bs out = take_at bs (drop (length bs) out) (length bs) refl

-- ---- the set of an open world
module _ {w : List ℕ} {i : ℕ} {h : World} (op : Opened w i h) where
  -- it has no more runs than there are nodes
  pub few-runs : stretches (held_in (lent w) h) ≤ 65568
  few-runs =
      let l = lent-limited op in
      let k = l.standing.kept in
      omega (arith, l.fits, l.enough, k.part, k.few)

  -- which tell how many bytes the world's set has
  pub set-length : (e : Edition) → 5 + 16 * stretches (held_in (lent w) h) ≡ length (encode e (held_runs (held_by w i)))
  unfolding stretches
  set-length e = ap (λ P. 5 + 16 * stretches P) (lent-held op) ∙ sym (encode-length e (held_runs (held_by w i)))

-- ---- calls that write
module _ {w : List ℕ} {i : ℕ} (out : List ℕ) (c : List ℕ → Call Site) {cs : List Condition} (B : Positions → List ℕ) (says : plan fed_at (c out) ≡ writing cs B out)
    (R : Readable w i) where
  -- what the model says of one, by the room in the slice
  puts-outcome : (t : Bool) (o : Option ℕ) → no_room out (B (held_by w i)) ≡ t → refusal (output_short when t ∷ cs) ≡ o
      → outcome_of w i (c out) ≡ settle o (held_by w i) (written (length (B (held_by w i))) (into_front (B (held_by w i)) out)) (held_by w i)
  unfolding outcome_of serve
  puts-outcome t o e f =
      ap₂ (serve (full_at w i)) R.fed says
      ∙ ap (λ y. settle y (held_by w i) (written (length (B (held_by w i))) (into_front (B (held_by w i)) out)) (held_by w i)) (ap (λ b. refusal (output_short when b ∷ cs)) e ∙ f)

  -- it is refused by its conditions, whatever the room
  pub put-refused : (r : Refusal) → ((t : Bool) → refusal (output_short when t ∷ cs) ≡ Some (refusal_number r)) → WritesOut c w i out (Err r) out
  put-refused r e = record { met = met_by _ (puts-outcome _ (Some (refusal_number r)) refl (e (no_room out (B (held_by w i))))) refl; unwritten = refl }

  module _ {n : ℕ} (k : n ≡ length (B (held_by w i))) where
    -- by a slice that is too short
    pub put-short : length out < n → refusal (output_short when true ∷ cs) ≡ Some 2 → WritesOut c w i out (Err OutputShort) out
    unfolding no_room
    put-short h e = record {
      met = met_by _ (puts-outcome true (Some 2) (lt-ltb (length out) (length (B (held_by w i))) (subst (λ m. length out < m) k h)) e) refl;
      unwritten = refl;
    }

    -- and else its bytes are put into the front
    pub put-seen : (P : Positions) {out' : List ℕ} → P ≡ held_by w i → refusal cs ≡ None → n ≤ length out → out' ≡ into_front (B P) out → WritesOut c w i out (Ok n) out'
    unfolding no_room
    put-seen P s e l f = record {
      met =
          subst₂ (λ m bs. Met w i (c out) (gave (written m bs)) w) (sym k) (sym (f ∙ ap (λ Q. into_front (B Q) out) s))
          (met_by _ (puts-outcome false None (le-ltb (length out) (length (B (held_by w i))) (subst (λ m. m ≤ length out) k l)) e) (settled_same R.openable.sound));
      unwritten = tt;
    }

    -- of a world that was opened
    pub put-done : {h : World} {out' : List ℕ} → Opened w i h → refusal cs ≡ None → n ≤ length out → out' ≡ into_front (B (held_in (lent w) h)) out → WritesOut c w i out (Ok n) out'
    put-done op = put-seen _ (lent-held op)

-- what is no window is refused whatever the room, and so is what is no square of the plane
pub refused-window : (base n : ℕ) → bad_window base n ≡ true → (t : Bool) → refusal (output_short when t ∷ window when bad_window base n ∷ []) ≡ Some 6
refused-window base n e t = rw e

pub refused-square : (r c k : ℕ) → bad_square r c k ≡ true → (t : Bool) → refusal (output_short when t ∷ off_plane when bad_square r c k ∷ []) ≡ Some 15
refused-square r c k e t = rw e

-- of a window the slice's room decides
pub short-after-window : (base n : ℕ) → bad_window base n ≡ false → refusal (output_short when true ∷ window when bad_window base n ∷ []) ≡ Some 2
short-after-window base n e = rw e

-- and so it does of a square on the plane
pub short-after-square : (r c k : ℕ) → bad_square r c k ≡ false → refusal (output_short when true ∷ off_plane when bad_square r c k ∷ []) ≡ Some 2
short-after-square r c k e = rw e

pub square-passes : (r c k : ℕ) → bad_square r c k ≡ false → refusal (off_plane when bad_square r c k ∷ []) ≡ None
square-passes r c k e = rw e
