-- Written sets of two editions, over what the public calls promise: a converted set is converted back, loads as the set
-- itself does, and what loads can be converted; and a reader that knows edition 1 alone refuses what is written in edition
-- 2, by its first byte. Assumes nothing.
use Rattle.std.specs.Prelude.{Some}
use Prim.Native.Nat.{ℕ, ◌≤◌}
use mathlib.Core.Path.{◌≡◌, sym, ap, ◌∙◌, subst}
use mathlib.Core.List.{List}
use lib.ListN.{length, take}
use Rattle.model.specs.declared.Edition.TheVariants.{Rows, Columns}
use Rattle.model.specs.Positions.{held_runs}
use Rattle.model.specs.Bytes.{encode, edition_of, decode}
use Rattle.model.specs.RunList.{AllBytes}
use Rattle.model.specs.Call.{Call, written, Answer, gave}
use Rattle.model.specs.Model.{plan, Outcome, serve}
use Rattle.model.specs.Converting.{other_edition, converted, convert, document_one_refusal}
use Rattle.model.proofs.Codec.{Intact}
use Rattle.model.proofs.Converting.{
  converted-length,
  converted-intact,
  converted-converted,
  wholly,
  convert-done,
  convert-intact,
  convert-whole,
  converted-serve,
  columns-refused,
}
use Rattle.pool.specs.Layout.{held_by, worlds_of}
use Rattle.interval_bit_set.specs.Met.{fed_at, fed_of, full_at, outcome_of, Leaves, Met}
use Rattle.interval_bit_set.specs.Handles.{Handles}
use Rattle.interval_bit_set.proofs.Putting.{take-front}
use Rattle.theorems.specs.Determinism.{Loads}
use Rattle.theorems.specs.Theorems.{WritesSet}
use Rattle.theorems.proofs.Forms.{met-alike}
use Rattle.theorems.proofs.Writing.{written_is}
use Rattle.theorems.proofs.Loading.{loaded-accepted}

-- ---- a call of convert
-- where the model converts a set wholly, the call answers how many bytes it has, and the slice begins with them
handled-whole : (bs out : List ℕ) {cs : List ℕ} {a : Answer} → Handles (convert bs out) a cs → convert bs out ≡ wholly bs out
    → (a ≡ gave (written (length (converted bs)) cs)) × (take (length (converted bs)) cs ≡ converted bs)
handled-whole bs out h e =
    let s = h.left ∙ ap (λ o. o.slice) e in (
      h.answered ∙ ap (λ o. o.answer) e ∙ ap (λ ds. gave (written (length (converted bs)) ds)) (sym s),
      ap (take (length (converted bs))) s ∙ take-front (converted bs) out,
    )

module _ (bs out : List ℕ) {cs : List ℕ} {n : ℕ} (h : Handles (convert bs out) (gave (written n cs)) cs) where
  -- what was converted was intact
  was-intact : Intact bs
  was-intact = convert-intact bs out (sym h.answered)

  -- the converted set has n bytes
  converted-many : n ≡ length (converted bs)
  converted-many =
      let e : gave (written n cs) ≡ gave (written (length (converted bs)) cs) = (handled-whole bs out h (convert-whole bs out (sym h.answered))).0 in cc

  -- as many as the set itself
  set-many : n ≡ length bs
  set-many = converted-many ∙ converted-length bs was-intact.length-fits

  -- and they are in front
  front-is : take n cs ≡ converted bs
  front-is = ap (λ k. take k cs) converted-many ∙ (handled-whole bs out h (convert-whole bs out (sym h.answered))).1

  -- it is converted back into any slice that has room
  pub convert-back : (out₂ : List ℕ) {ds : List ℕ} {a : Answer} → AllBytes bs → Handles (convert (take n cs) out₂) a ds → n ≤ length out₂ → (a ≡ gave (written n ds)) × (take n ds ≡ bs)
  convert-back out₂ {ds} {a} b g l =
      let room : length (converted bs) ≤ length out₂ = subst (λ k. k ≤ length out₂) converted-many l in
      let g' : Handles (convert (converted bs) out₂) a ds = subst (λ es. Handles (convert es out₂) a ds) front-is g in
      let w = handled-whole (converted bs) out₂ g' (convert-done (converted bs) out₂ (converted-intact bs b was-intact) room) in
      let back : converted (converted bs) ≡ bs = converted-converted bs b was-intact in
      let many : length (converted (converted bs)) ≡ n = ap length back ∙ sym set-many in
      (w.0 ∙ ap (λ k. gave (written k ds)) many, ap (λ k. take k ds) (sym many) ∙ w.1 ∙ back)

  -- loading it makes of a world what loading the set makes
  converted-outcome : AllBytes bs → (w : List ℕ) (i : ℕ) → outcome_of w i (Call.load (take n cs)) ≡ outcome_of w i (Call.load bs)
  unfolding outcome_of
  converted-outcome b w i =
      ap (λ es. serve (full_at w i) (fed_of w i) (plan fed_at (Call.load es))) front-is ∙ converted-serve (full_at w i) (fed_of w i) bs b was-intact

  -- so both answer alike, and leave the same worlds
  pub convert-then-load : {w w' v' : List ℕ} {i : ℕ} {a a₂ : Answer} → AllBytes bs → Met w i (Call.load bs) a w' → Met w i (Call.load (take n cs)) a₂ v'
      → (a ≡ a₂) × (worlds_of w' ≡ worlds_of v')
  convert-then-load {w} {v' = v'} {i} {a₂ = a₂} b m k =
      let e = converted-outcome b w i in
      met-alike m
      (record { answered = k.answered ∙ ap (λ o. o.answer) e; left = subst (λ (o : Outcome). Leaves w v' i o.positions a₂) e k.left })

-- what loads into some pool is converted where there is room
pub load-converts : {C : ℕ} (bs out : List ℕ) {cs : List ℕ} {a : Answer} → Loads C bs → Handles (convert bs out) a cs → length bs ≤ length out → a ≡ gave (written (length bs) cs)
load-converts bs out {cs} L h l =
    let I : Intact bs = (loaded-accepted L).intact in
    (handled-whole bs out h (convert-done bs out I l)).0 ∙ ap (λ k. gave (written k cs)) (converted-length bs I.length-fits)

-- ---- a reader that knows edition 1 alone
-- gives 4 to whatever a world writes in edition 2
pub old-refused : {w : List ℕ} {i : ℕ} {bs : List ℕ} → WritesSet w i Columns bs → document_one_refusal bs ≡ Some 4
old-refused {w} {i} W = ap document_one_refusal (written_is W) ∙ columns-refused (held_runs (held_by w i))

-- and to what a set of edition 1 was converted to
pub convert-old-refused : (bs out : List ℕ) {cs : List ℕ} {n : ℕ} → Handles (convert bs out) (gave (written n cs)) cs
    → edition_of bs ≡ Rows → document_one_refusal (take n cs) ≡ Some 4
unfolding converted
convert-old-refused bs out h e =
    ap document_one_refusal (front-is bs out h ∙ ap (λ d. encode (other_edition d) (decode bs)) e) ∙ columns-refused (decode bs)
