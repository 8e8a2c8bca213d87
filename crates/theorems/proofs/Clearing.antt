-- Cleared maps, over what the public calls promise (document 02, Ticket 2): reading the cleared map is document 01's reading of the map as it
-- was, and a map that a world wrote stays as it is. Assumes nothing.
use Rattle.std.specs.Prelude.{None}
use Prim.Native.Nat.{ℕ}
use mathlib.Core.Path.{◌≡◌, refl, sym, ap, ◌∙◌, subst}
use mathlib.Core.Bool.{Bool, true, false}
use mathlib.Core.List.{List, [], ◌∷◌}
use Rattle.model.specs.Bytes.{map_of}
use Rattle.model.specs.Refusals.{◌when◌, window, output_short, refusal, bad_window, no_room}
use Rattle.model.specs.Call.{Call, number, Answer, gave}
use Rattle.model.specs.Model.{plan, Outcome, serve}
use Rattle.model.specs.Clearing.{clear_map}
use Rattle.model.proofs.Clearing.{clears-no-written-map, clears-twice, clears-none-twice, reads-as-document-one}
use Rattle.pool.specs.Layout.{held_by}
use Rattle.interval_bit_set.specs.Met.{fed_at, fed_of, full_at, outcome_of, Leaves, Met}
use Rattle.interval_bit_set.specs.Handles.{Handles}
use Rattle.interval_bit_set.proofs.Giving.{some-not, given-quiet, given-is}
use Rattle.theorems.proofs.Writing.{front-is}
use Rattle.theorems.specs.Clearing.{old_reading, WritesMap}

module _ (base n : ℕ) (bs : List ℕ) where
  -- reading the cleared map makes of the words what that made of them
  cleared-outcome : {bs' : List ℕ} {c : Answer} (w : List ℕ) (i : ℕ) → Handles (clear_map base n bs) c bs' → outcome_of w i (Call.read_map base n bs') ≡ old_reading w i base n bs
  unfolding outcome_of
  cleared-outcome w i h =
      ap (λ (cs : List ℕ). serve (full_at w i) (fed_of w i) (plan fed_at (Call.read_map base n cs))) h.left ∙ sym (reads-as-document-one base n bs (full_at w i) (fed_of w i))

  -- if clear_map was called on bs and left bs', then what read_map of bs' answers and leaves is document 01's reading of bs
  pub clear-then-read :
      {bs' w w' : List ℕ} {i : ℕ} {c a : Answer}
      → Handles (clear_map base n bs) c bs' → Met w i (Call.read_map base n bs') a w'
      → (a ≡ (old_reading w i base n bs).answer) × Leaves w w' i (old_reading w i base n bs).positions a
  clear-then-read {w = w} {w'} {i} {a = a} h m =
      let e = cleared-outcome w i h in
      (m.answered ∙ ap (λ o. o.answer) e, subst (λ (o : Outcome). Leaves w w' i o.positions a) e m.left)

  -- a second call leaves what the first one left, and answers 0 if the first was not refused
  pub clear-twice :
      {bs' bs'' : List ℕ} {c d : Answer}
      → Handles (clear_map base n bs) c bs' → Handles (clear_map base n bs') d bs''
      → (bs'' ≡ bs') × ((k : ℕ) → c ≡ gave (number k) → d ≡ gave (number 0))
  clear-twice h g =
      let e = ap (clear_map base n) h.left in (
        g.left ∙ ap (λ o. o.slice) e ∙ clears-twice base n bs ∙ sym h.left,
        λ k q. g.answered ∙ ap (λ o. o.answer) e ∙ clears-none-twice base n bs (sym h.answered ∙ q),
      )

-- no window is written or reported that is none
pub window-good : (t b : Bool) → refusal (output_short when t ∷ window when b ∷ []) ≡ None → b ≡ false
window-good t false e = refl
window-good t true e = absurd (some-not e)

-- what was written is the map of the positions held, of a window
pub record Mapped (w : List ℕ) (i base n : ℕ) (bs : List ℕ) : Type 0 where
  pub good : bad_window base n ≡ false
  pub is : bs ≡ map_of (held_by w i) base n

written-map : {w : List ℕ} {i base n : ℕ} {bs : List ℕ} → WritesMap w i base n bs → Mapped w i base n bs
written-map {w} {i} {base} {n} W =
    let ms = map_of (held_by w i) base n in
    record { good = window-good (no_room W.out ms) (bad_window base n) (given-quiet W.met); is = W.bytes ∙ front-is ms W.out (given-is W.met) }

-- clear_map leaves a map that write_map wrote, and answers 0
pub written-stays :
    {w : List ℕ} {i base n : ℕ} {bs bs' : List ℕ} {a : Answer}
    → WritesMap w i base n bs → Handles (clear_map base n bs) a bs' → (a ≡ gave (number 0)) × (bs' ≡ bs)
written-stays {w} {i} {base} {n} {bs} W h =
    let M = written-map W in
    let e = ap (clear_map base n) M.is ∙ clears-no-written-map (held_by w i) base n M.good in
    (h.answered ∙ ap (λ o. o.answer) e, h.left ∙ ap (λ o. o.slice) e ∙ sym M.is)
