-- Two forms of one call: what a call promises fixes its answer, every world after it and, of a call that writes, every byte of the slice. So any
-- two functions that promise the same agree in these. Assumes nothing.
use Rattle.std.specs.Prelude.{Ok, Err}
use Rattle.model.specs.Answers.{OrRefusal, written_answer}
use Prim.Native.Nat.{ℕ}
use mathlib.Core.Path.{◌≡◌, sym, ap, ◌∙◌, subst}
use mathlib.Core.List.{List}
use Rattle.model.specs.Call.{Call, Answer, refused, gave}
use Rattle.pool.specs.Layout.{worlds_of}
use Rattle.interval_bit_set.specs.Met.{Site, Met}
use Rattle.interval_bit_set.specs.Out.{Unwritten, WritesOut}
use Rattle.interval_bit_set.proofs.Giving.{given-worlds}

-- whatever a call leaves has the same worlds
worlds-alike : {w : List ℕ} {i : ℕ} {c : Call Site} (a : Answer) {w' v' : List ℕ} → Met w i c a w' → Met w i c a v' → worlds_of w' ≡ worlds_of v'
worlds-alike (refused n) m k = ap worlds_of (m.left ∙ sym k.left)
worlds-alike (gave r) m k = given-worlds m ∙ sym (given-worlds k)

-- so two functions that meet one call on the same words agree
pub met-alike : {w : List ℕ} {i : ℕ} {c : Call Site} {a b : Answer} {w' v' : List ℕ} → Met w i c a w' → Met w i c b v' → (a ≡ b) × (worlds_of w' ≡ worlds_of v')
met-alike {w} {i} {c} {a} {b} {v' = v'} m n =
    let e : b ≡ a = n.answered ∙ sym m.answered in
    (sym e, worlds-alike a m (subst (λ z. Met w i c z v') e n))

-- ---- a call that writes
-- equal answers of such a call have equal slices, where a refusal leaves the slice
slices-alike : (r s : OrRefusal ℕ) (out out' out'' : List ℕ) → written_answer r out' ≡ written_answer s out'' → Unwritten r out out' → Unwritten s out out'' → out' ≡ out''
slices-alike (Err r) (Err s) out out' out'' e f g = f ∙ sym g
slices-alike (Err r) (Ok n) out out' out'' e f g = cc
slices-alike (Ok n) (Err s) out out' out'' e f g = cc
slices-alike (Ok n) (Ok m) out out' out'' e f g = cc

pub writes-alike : {c : List ℕ → Call Site} {w : List ℕ} {i : ℕ} {out : List ℕ} {r s : OrRefusal ℕ} {out' out'' : List ℕ} → WritesOut c w i out r out' → WritesOut c w i out s out''
    → (written_answer r out' ≡ written_answer s out'') × (out' ≡ out'')
writes-alike {out = out} {r = r} {s = s} {out' = out'} {out'' = out''} m n =
    let e = (met-alike m.met n.met).0 in (e, slices-alike r s out out' out'' e m.unwritten n.unwritten)
