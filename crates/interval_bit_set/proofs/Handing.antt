-- Calls that write into the front of a lent slice, as the public crate has them: refused by what looking told, and what is handed back of the
-- slice. Assumes nothing.
use Rattle.std.specs.Result.{IsErrAnd}
use Rattle.model.specs.declared.Refusal.{Refusal}
use Rattle.std.specs.Prelude.{Option, None, Some, Ok, Err, IfOk, IfErr}
use Rattle.model.specs.Answers.{OrRefusal, written_answer}
use Rattle.std.specs.Prelude.{◌≡◌, ℕ, ◌≤◌, List, [], ◌∷◌, length, take, drop}
use mathlib.Core.Path.{refl, sym, ap, ◌∙◌, subst}
use native.Mathlib.Omega.{arith}
use lib.ListN.{length-append}
use lib.Seq.{drop_at}
use borrow.Table.Elements.{length-take-le}
use denote.Ref.{MutBor}
use Rattle.model.specs.declared.Edition.{Edition}
use Rattle.model.specs.Positions.{Positions, held_runs}
use Rattle.model.specs.Bytes.{encode, map_of, into_front}
use Rattle.model.specs.Refusals.{window, Condition, ◌when◌, bad_window}
use Rattle.model.specs.declared.Refusal.TheVariants.{WorldUnopened}
use Rattle.model.specs.Model.{positions_of, plan, writing, settle, serve}
use Rattle.pool.specs.Layout.{opened_at}
use Rattle.model.specs.Call.{Call, Answer, refused, gave, written}
use Rattle.interval_bit_set.specs.Met.{Site, faults, fed_of, fed_at, full_at, outcome_of, Met}
use Rattle.interval_bit_set.specs.Out.{WritesOut, Unwritten}
use Rattle.interval_bit_set.proofs.Meeting.{refused-not}
use Rattle.interval_bit_set.specs.Look.{Checked}
use Rattle.interval_bit_set.specs.Parts.{code_of, front_of, count_of, Part, Handed}
use Rattle.model.specs.Numbers.{refusal_number}
use Rattle.interval_bit_set.proofs.Passing.{handed-on}
use Rattle.interval_bit_set.proofs.Looking.{shut-out, fault-out}

-- a call that writes is refused by a pool that fails the check, and by a world that was not opened; then the slice stays
module _ {w : List ℕ} {i : ℕ} {c : List ℕ → Call Site} {out : List ℕ} {r : Refusal} {P : Refusal → Type 0} (a : OrRefusal ℕ) (h : IsErrAnd a P) (k : (e : Refusal) → P e → e ≡ r)
    (e : [] ≡ (plan fed_at (c out)).further) where
  unwritten : Met w i (c out) (written_answer a out) w → WritesOut c w i out a out
  unwritten m = record { met = m; unwritten = subst (λ b. Unwritten b out out) (sym (handed-on a h k)) refl }

  pub put-shut : Checked w → (opened_at w ≤ i) × (r ≡ WorldUnopened) → WritesOut c w i out a out
  put-shut q l = unwritten (shut-out (λ n. gave (written n out)) a h k e q l)

  pub put-faulty : faults (w ∷ []) ≡ Some (refusal_number r) → WritesOut c w i out a out
  put-faulty q = unwritten (fault-out (λ n. gave (written n out)) a h k e q)

-- ---- what is handed back
-- an answer that gives bytes gives a slice that has as many, and behind them it is as it was
abbrev Within : List ℕ → Answer → Type 0
Within out a = (n : ℕ) (bs : List ℕ) → a ≡ gave (written n bs) → (n ≤ length bs) × (drop n bs ≡ drop n out)

-- so it is with bytes that were put into the front of a slice
front-within : (bs out : List ℕ) → (length bs ≤ length (into_front bs out)) × (drop (length bs) (into_front bs out) ≡ drop (length bs) out)
unfolding into_front
front-within bs out = (omega (arith, length-append bs (drop (length bs) out)), drop_at bs (drop (length bs) out) (length bs) refl)

-- and so with what a call writes
written-within : (n : ℕ) (bs out : List ℕ) → (n ≤ length bs) × (drop n bs ≡ drop n out) → Within out (gave (written n bs))
written-within n bs out h m cs e =
    let f : n ≡ m = cc in
    let g : bs ≡ cs = cc in
    subst (λ k. (k ≤ length cs) × (drop k cs ≡ drop k out)) f (subst (λ ds. (n ≤ length ds) × (drop n ds ≡ drop n out)) g h)

-- a count of bytes that were written into the front of out, which is out' then, tells the answer a
pub record Tells (a : Answer) (n : ℕ) (out out' : List ℕ) : Type 0 where
  pub code : code_of a ≡ 0
  pub front : take n out' ≡ front_of a
  pub within : n ≤ length out'
  pub behind : drop n out' ≡ drop n out

-- what the model answers
abbrev told : List ℕ → ℕ → (List ℕ → Call Site) → List ℕ → Answer
told w i c out = (outcome_of w i (c out)).answer

-- the call c with the slice out has the conditions cs, and puts the bytes B of the positions held into its front
pub record Puts (c : List ℕ → Call Site) (cs : List Condition) (B : Positions → List ℕ) (out : List ℕ) : Type 0 where
  pub says : plan fed_at (c out) ≡ writing cs B out

pub write-set-puts : (out : List ℕ) (e : Edition) → Puts (Call.write_set e) [] (λ P. encode e (held_runs P)) out
write-set-puts out e = record { says = refl }

pub write-map-puts : (out : List ℕ) (base n : ℕ) → Puts (Call.write_map base n) (window when bad_window base n ∷ []) (λ P. map_of P base n) out
write-map-puts out base n = record { says = refl }

-- the model's answer to a call that writes is within
settled-within : (o : Option ℕ) (P : Positions) (bs out : List ℕ) → Within out (settle o P (written (length bs) (into_front bs out)) P).answer
settled-within None P bs out = written-within _ _ out (front-within bs out)
settled-within (Some n) P bs out = λ m cs q. absurd (refused-not q)

module _ (w : List ℕ) (i : ℕ) {c : List ℕ → Call Site} {cs : List Condition} {B : Positions → List ℕ} {out : List ℕ} (puts : Puts c cs B out) where
  model-within : Within out (told w i c out)
  unfolding outcome_of serve
  model-within = subst (λ p. Within out (serve (full_at w i) (fed_of w i) p).answer) (sym puts.says) (settled-within _ (positions_of (fed_of w i)) (B (positions_of (fed_of w i))) out)

module _ {w : List ℕ} {i : ℕ} {c : List ℕ → Call Site} {cs : List Condition} {B : Positions → List ℕ} {out : List ℕ} (puts : Puts c cs B out) {out' : List ℕ} where
  -- so what a call wrote is told by the count that it gives
  pub put-told : (n : ℕ) → WritesOut c w i out (Ok n) out' → Tells (told w i c out) n out out'
  put-told n o =
      let k : gave (written n out') ≡ (told w i c out) = o.met.answered in
      let h = model-within w i puts n out' (sym k) in
      subst (λ a. Tells a n out out') k (record { code = refl; front = refl; within = h.0; behind = h.1 })

  module _ {r : OrRefusal ℕ} (o : WritesOut c w i out r out') where
    -- the part that is handed back by the result r is in the slice
    pub part-within : IfOk r (λ n. n ≤ length out')
    part-within = if-ok r o
      where
        if-ok : (r : OrRefusal ℕ) → WritesOut c w i out r out' → IfOk r (λ n. n ≤ length out')
        if-ok (Ok n) o = (put-told n o).within
        if-ok (Err e) o = tt

    module _ (p : ℕ × ℕ) where
      -- what is handed back of that slice, at p, tells the answer too
      pub part-refused : (t : Part) → Handed r out' p t → IfErr t (λ e. told w i c out ≡ refused (refusal_number e))
      part-refused (Ok part) h = tt
      part-refused (Err e) h = sym (subst (λ k. written_answer k out' ≡ (told w i c out)) h.0 o.met.answered)

      pub part-filled : (t : Part) → Handed r out' p t → IfOk t (λ part. (code_of (told w i c out) ≡ 0) × (part.now ≡ front_of (told w i c out)) × (part.ref_ptr ≡ p))
      part-filled (Err e) h = tt
      part-filled (Ok part) h =
          let s = put-told (length part.now) (subst (λ k. WritesOut c w i out k out') h.1.0 o) in
          (s.code, h.1.1 ∙ s.front, h.1.2)

      -- behind a part the slice is as it was, and all of it after a refusal
      pub part-behind : (part : MutBor (List ℕ)) → Handed r out' p (Ok part) → drop (count_of r) out' ≡ drop (length (front_of (told w i c out))) out
      part-behind part h =
          let k = length part.now in
          let s = put-told k (subst (λ k. WritesOut c w i out k out') h.1.0 o) in
          let same : length (front_of (told w i c out)) ≡ k = sym (ap length s.front) ∙ length-take-le k out' s.within in
          ap (λ r. drop (count_of r) out') h.1.0 ∙ s.behind ∙ ap (λ m. drop m out) (sym same)

      pub refused-whole : (e : Refusal) → Handed r out' p (Err e) → out' ≡ out
      refused-whole e h = subst (λ k. Unwritten k out out') h.0 o.unwritten
