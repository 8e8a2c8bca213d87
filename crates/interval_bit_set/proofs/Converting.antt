-- Converting a written set, by the tests that come before it: it is handled as the model says. Assumes nothing.
use Rattle.std.specs.Prelude.{Some}
use Rattle.std.proofs.Common.{◌≡◌, ℕ, ◌<◌, ◌≤◌, List, [], ◌∷◌, length, drop, sym, ap, ◌∙◌, ap₂, lt-ltb}
use Rattle.model.specs.declared.Edition.{Edition}
use Rattle.model.specs.declared.Refusal.{Refusal}
use Rattle.model.specs.Numbers.{refusal_number}
use Rattle.model.specs.Bytes.{encode, runs_told, into_front}
use Rattle.model.specs.Refusals.{output_short, ◌when◌, refusal, set_conditions, no_room}
use Rattle.model.specs.Call.{written, refused, gave}
use Rattle.model.specs.Handled.{Handled, handle}
use Rattle.model.specs.Converting.{other_edition, converted, convert}
use Rattle.model.proofs.Codec.{Intact}
use Rattle.model.proofs.RoundTrips.{unrefused-intact}
use Rattle.model.proofs.Converting.{converted-length, convert-done}
use Rattle.codec.specs.Parsed.{Acceptable}
use Rattle.codec.proofs.Telling.{accepted-runs}
use Rattle.interval_bit_set.specs.Handles.{Handles}
use Rattle.interval_bit_set.proofs.Refusing.{refused-earlier, refused-short}
use Rattle.interval_bit_set.proofs.Receiving.{told-refused}

module _ (bs out : List ℕ) where
  -- a call that the model handles so
  handles : {h : Handled} → convert bs out ≡ h → Handles (convert bs out) h.answer h.slice
  handles e = let f = sym e in record { answered = ap (λ (o : Handled). o.answer) f; left = ap (λ (o : Handled). o.slice) f }

  -- refused with n, it leaves the slice
  convert-refused : {n : ℕ} → refusal (output_short when no_room out (converted bs) ∷ set_conditions bs) ≡ Some n → Handles (convert bs out) (refused n) out
  unfolding convert
  convert-refused e = handles (ap (λ r. handle r out (written (length (converted bs)) (into_front (converted bs) out)) (into_front (converted bs) out)) e)

  -- by what the bytes earn
  pub convert-turned : (r : Refusal) → refusal (set_conditions bs) ≡ Some (refusal_number r) → Handles (convert bs out) (refused (refusal_number r)) out
  convert-turned r k = convert-refused (refused-earlier (set_conditions bs) (no_room out (converted bs)) (told-refused bs r k))

  module _ {e : Edition} {n : ℕ} (a : Acceptable bs e n) where
    -- the set is intact
    intact : Intact bs
    intact = unrefused-intact [] bs a.free

    -- by the slice, which is shorter than they are
    pub convert-short : length out < length bs → Handles (convert bs out) (refused 2) out
    unfolding no_room
    convert-short h =
        let l : length out < length (converted bs) = rw (converted-length bs intact.length-fits) h in
        convert-refused (ap (λ t. refusal (output_short when t ∷ set_conditions bs)) (lt-ltb (length out) (length (converted bs)) l) ∙ refused-short bs a.free)

    -- and else the set is written in the other edition
    pub convert-handles : {out' : List ℕ} → length bs ≤ length out → out' ≡ into_front (encode (other_edition e) (runs_told e n (drop 5 bs))) out
        → Handles (convert bs out) (gave (written (length bs) out')) out'
    unfolding converted
    convert-handles {out'} h p =
        let told : encode (other_edition e) (runs_told e n (drop 5 bs)) ≡ converted bs = ap₂ (λ d rs. encode (other_edition d) rs) a.shaped.edition (accepted-runs bs a) in
        let q : out' ≡ into_front (converted bs) out = p ∙ ap (λ l. into_front l out) told in
        let k : length bs ≡ length (converted bs) = sym (converted-length bs intact.length-fits) in
        let w = handles (convert-done bs out intact h) in
        record { answered = ap₂ (λ m l. gave (written m l)) k q ∙ w.answered; left = q ∙ w.left }
