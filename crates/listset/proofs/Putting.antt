-- Texts put one after another: both are there, or one of them had no room, and then both had none together. Assumes nothing.
use Prim.Native.Nat.{ℕ, ◌≤◌}
use mathlib.Core.Path.{◌≡◌, refl, sym, ap, ◌∙◌, subst}
use mathlib.Core.List.{List, [], ◌++◌, append_assoc, append-nil}
use native.Mathlib.Omega.{arith}
use lib.ListN.{length, length-append}
use Rattle.std.specs.Prelude.{Result, Ok, Err, IsOk, IsErr}
use Rattle.arrayvec.specs.ArrayString.{ArrayString}
use Rattle.arrayvec.specs.declared.errors.CapacityError.{CapacityError}
use Rattle.listset.specs.declared.TheConstants.{TEXT}
use Rattle.listset.specs.Put.{Puts}

-- whether a text was put
abbrev pub Put : Type 0
Put = Result Unit (CapacityError Unit)

-- nothing is put yet
pub put-nothing : (old : ArrayString) → Puts old [] old (Ok tt)
put-nothing old = record { bytes = sym (append-nil old.bytes); full = tt }

module _ {old mid new : ArrayString} {s t : List ℕ} where
  -- one text after another
  pub and_then : {r : Put} → Puts old s mid (Ok tt) → Puts mid t new r → Puts old (s ++ t) new r
  and_then {r = Ok u} p q = record { bytes = q.bytes ∙ ap (λ l. l ++ t) p.bytes ∙ append_assoc old.bytes s t; full = tt }
  and_then {r = Err e} p q = record { bytes = tt; full = omega (arith, q.full, ap length p.bytes, length-append old.bytes s, length-append s t) }

-- a text for whose first part there is no room
pub cut_short : {old mid : ArrayString} {s : List ℕ} {e : CapacityError Unit} {r : Put} (t : List ℕ) → Puts old s mid (Err e) → IsErr r → Puts old (s ++ t) mid r
cut_short {r = Ok u} t p h = absurd (cc h)
cut_short {s = s} {r = Err e} t p h = record { bytes = tt; full = omega (arith, p.full, length-append s t) }

-- the same text, told otherwise
pub same_text : {old new : ArrayString} {s t : List ℕ} {r : Put} → s ≡ t → Puts old s new r → Puts old t new r
same_text {old} {new} {r = r} e p = subst (λ l. Puts old l new r) e p

-- an empty text has room for any that is no longer than it may be
pub has-room : {old new : ArrayString} {t : List ℕ} {r : Put} → Puts old t new r → length t ≤ TEXT → old.bytes ≡ [] → IsOk r
has-room {r = Ok u} p h e = refl
has-room {r = Err q} p h e = absurd (omega (arith, p.full, ap length e, h))
