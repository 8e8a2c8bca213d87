-- Loading: bytes load into a world exactly where none of the refusals of written sets holds, and they are then the bytes of the positions that it
-- holds after it. So what was written loads. Assumes nothing.
use Prim.Native.Nat.{ℕ}
use mathlib.Core.Path.{◌≡◌, sym, ap, ◌∙◌, subst}
use mathlib.Core.List.{List}
use Rattle.model.specs.declared.Edition.{Edition}
use Rattle.model.specs.Positions.{mem, bounded}
use Rattle.model.proofs.Ops.{bounded-below}
use Rattle.model.specs.Bytes.{decode}
use Rattle.model.specs.Refusals.{too_many}
use Rattle.model.specs.Call.{Call, done, gave}
use Rattle.model.specs.Model.{plan, serve}
use Rattle.model.proofs.RoundTrips.{Accepted, unrefused-accepted, accepted-loads, held-read, held-accepted, bounded-held}
use Rattle.pool.specs.Layout.{capacity, held_by}
use Rattle.pool.specs.Settle.{Settled, Openable}
use Rattle.pool.proofs.Worlds.{held-allowed}
use Rattle.interval_bit_set.specs.Met.{fed_at, full_at, outcome_of, Met}
use Rattle.interval_bit_set.proofs.Meeting.{readable, met_by, settled_same, settled-as}
use Rattle.interval_bit_set.proofs.Changing.{fits-few}
use Rattle.interval_bit_set.proofs.Giving.{given-quiet}
use Rattle.theorems.specs.Determinism.{Loads}
use Rattle.theorems.specs.Theorems.{WritesSet}
use Rattle.theorems.proofs.Writing.{bytes_of, few-all, writer-readable, written_is}

-- ---- accepted bytes
-- loading them into an opened world is done
pub load-met : {w v bs : List ℕ} {i : ℕ} → Openable w i → Accepted (full_at w i) bs → Settled w v i (bounded (mem (decode bs))) → Met w i (Call.load bs) (gave done) v
unfolding outcome_of
load-met {w} {bs = bs} {i} o A S =
    met_by (record { answer = gave done; positions = bounded (mem (decode bs)) })
    (ap (λ s. serve (full_at w i) s (plan fed_at (Call.load bs))) (readable o).fed ∙ accepted-loads (full_at w i) (held_by w i) bs A) S

-- bytes that were loaded were accepted
pub loaded-accepted : {C : ℕ} {bs : List ℕ} (L : Loads C bs) → Accepted (full_at L.pool L.world) bs
loaded-accepted {bs = bs} L = unrefused-accepted (full_at L.pool L.world) bs (given-quiet L.met)

-- ---- what was written
-- the bytes of the positions that a world holds are accepted there
bytes-accepted : {w : List ℕ} {i : ℕ} (e : Edition) → Openable w i → Accepted (full_at w i) (bytes_of e (held_by w i))
unfolding too_many
bytes-accepted {w} {i} e o = held-accepted (full_at w i) e (held_by w i) (few-all o) (fits-few o (held_by w i) (held-allowed w i o))

-- and are read as these positions
bytes-settled : {w : List ℕ} {i : ℕ} (e : Edition) → Openable w i → Settled w w i (bounded (mem (decode (bytes_of e (held_by w i)))))
bytes-settled {w} {i} e o =
    let P = held_by w i in
    let d : bounded (mem (decode (bytes_of e P))) ≡ bounded P = ap (λ rs. bounded (mem rs)) (held-read e P (few-all o)) ∙ bounded-held P in
    settled-as (settled_same o.sound) (λ x h. sym (ap (λ Q. Q x) d ∙ bounded-below P x h))

-- so a world that writes bytes can load them
pub writer-loads : {C : ℕ} {w : List ℕ} {i : ℕ} {e : Edition} {bs : List ℕ}
    → capacity w ≡ C → WritesSet w i e bs → Loads C bs
writer-loads {C} {w} {i} {e} c W =
    let o = (writer-readable W).openable in
    subst (Loads C) (sym (written_is W))
    (record { pool = w; world = i; sized = c; after = w; met = load-met o (bytes-accepted e o) (bytes-settled e o) })
