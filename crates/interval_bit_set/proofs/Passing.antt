-- What `?` hands on of a refusal: that refusal, so a call that was to give it is met. Assumes nothing.
use Rattle.std.specs.Prelude.{ℕ, List, Ok, Err}
use Rattle.std.specs.Result.{IsErrAnd}
use mathlib.Core.Path.{◌≡◌, sym, ap, subst}
use Rattle.model.specs.declared.Refusal.{Refusal}
use Rattle.model.specs.Numbers.{refusal_number}
use Rattle.model.specs.Answers.{OrRefusal, answer_by}
use Rattle.model.specs.Call.{Call, Answer, refused}
use Rattle.interval_bit_set.specs.Met.{Site, Met}

-- it is that refusal
pub handed-on : {T : Type 0} {r : Refusal} {P : Refusal → Type 0} (a : OrRefusal T) → IsErrAnd a P → ((e : Refusal) → P e → e ≡ r) → a ≡ Err r
handed-on (Ok x) h k = absurd h
handed-on (Err e) h k = ap Err (k e h)

-- so a call that was to give the refusal is met
pub met-on : {T : Type 0} (f : T → Answer) {w w' : List ℕ} {i : ℕ} {c : Call Site} {r : Refusal} {P : Refusal → Type 0} → Met w i c (refused (refusal_number r)) w'
    → (a : OrRefusal T) → IsErrAnd a P → ((e : Refusal) → P e → e ≡ r) → Met w i c (answer_by f a) w'
met-on f {w} {w'} {i} {c} m a h k = subst (λ b. Met w i c (answer_by f b) w') (sym (handed-on a h k)) m
