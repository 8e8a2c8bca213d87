-- Written sets: an opened world writes, in either edition, the bytes of the runs that it holds, and writes them whenever the slice is long
-- enough. At most C runs are held, so 5 + 16 × C bytes are; and sets written alike are of the same positions. Assumes nothing.
use Rattle.std.specs.Prelude.{Ok, Err}
use Prim.Native.Nat.{ℕ, ◌+◌, ◌*◌, ◌≤◌}
use mathlib.Core.Path.{◌≡◌, refl, sym, ap, ap₂, ◌∙◌, subst}
use mathlib.Core.List.{List}
use native.Mathlib.Nat.{le_trans}
use native.Mathlib.Omega.{arith}
use lib.ListN.{length, take}
use Rattle.model.specs.declared.Edition.{Edition}
use Rattle.model.specs.Answers.{OrRefusal, written_answer}
use Rattle.model.specs.Positions.{Positions, held_runs, stretches}
use Rattle.model.specs.Bytes.{encode, into_front}
use Rattle.model.specs.Call.{Call, written, Answer, gave}
use Rattle.model.specs.Model.{plan, serve}
use Rattle.model.proofs.Codec.{encode-length}
use Rattle.model.proofs.RoundTrips.{written-whole, bytes-tell}
use Rattle.pool.specs.Layout.{capacity, held_by}
use Rattle.pool.specs.Settle.{Openable}
use Rattle.pool.proofs.Turn.{pool-past}
use Rattle.pool.proofs.Nodes.{sized-length}
use Rattle.pool.proofs.Worlds.{claims-fit}
use Rattle.interval_bit_set.specs.Met.{fed_at, full_at, outcome_of, Readable, Met}
use Rattle.interval_bit_set.specs.Out.{WritesOut}
use Rattle.interval_bit_set.proofs.Meeting.{refused-not, readable, met_by, settled_same}
use Rattle.interval_bit_set.proofs.Putting.{take-front}
use Rattle.interval_bit_set.proofs.Giving.{given-readable, given-is}
use Rattle.interval_bit_set.proofs.Simulation.{same-positions}
use Rattle.theorems.specs.Theorems.{WritesSet}

-- the bytes of a set of positions, in an edition
abbrev pub bytes_of : Edition → Positions → List ℕ
bytes_of e P = encode e (held_runs P)

-- what a call told that it wrote is in front of the slice
pub front-is : (bs out : List ℕ) {n : ℕ} {out' : List ℕ} → written n out' ≡ written (length bs) (into_front bs out) → take n out' ≡ bs
front-is bs out {n} {out'} e =
    let f : n ≡ length bs = cc in
    let s : out' ≡ into_front bs out = cc in
    ap₂ take f s ∙ take-front bs out

-- ---- a world that wrote
module _ {w : List ℕ} {i : ℕ} {e : Edition} {bs : List ℕ} (W : WritesSet w i e bs) where
  -- can be read
  pub writer-readable : Readable w i
  writer-readable = given-readable W.met

  -- and what is written is the bytes of the positions held
  pub written_is : bs ≡ bytes_of e (held_by w i)
  written_is = W.bytes ∙ front-is (bytes_of e (held_by w i)) W.out (given-is W.met)

-- ---- what a call answers that writes into a slice
-- bytes that it tells of are its slice's
told-count : (r : OrRefusal ℕ) {out bs : List ℕ} {n : ℕ}
    → written_answer r out ≡ gave (written n bs) → (r ≡ Ok n) × (out ≡ bs)
told-count (Err r) e = absurd (refused-not e)
told-count (Ok m) {out} {bs} {n} e =
    let a : m ≡ n = cc in
    let b : out ≡ bs = cc in
    (ap Ok a, b)

-- so much of the slice is the set
pub as-set : {e : Edition} {w out out' : List ℕ} {i : ℕ} {r : OrRefusal ℕ} {n : ℕ}
    → WritesOut (Call.write_set e) w i out r out' → r ≡ Ok n → WritesSet w i e (take n out')
as-set {e} {w} {out} {out'} {i} {n = n} W is = record {
  out = out;
  count = n;
  slice = out';
  after = w;
  met = subst (λ q. Met w i (Call.write_set e out) (written_answer q out') w) is W.met;
  bytes = refl;
}

-- ---- an opened world
module _ {w : List ℕ} {i : ℕ} (o : Openable w i) where
  -- at most C runs are held, and no pool is of more than 65,536
  pub few : stretches (held_by w i) ≤ capacity w
  few = omega (arith, claims-fit o.sound i o.named)

  pub few-all : stretches (held_by w i) ≤ 65536
  few-all = omega (arith, few, (sized-length w o.sound.sized).1)

  module _ (e : Edition) where
    -- so their bytes are at most 5 + 16 × C
    pub bytes-few : length (bytes_of e (held_by w i)) ≤ 5 + 16 * capacity w
    unfolding stretches
    bytes-few = omega (arith, few, encode-length e (held_runs (held_by w i)))

    -- what the model gives of writing into a slice with room
    wrote : (out : List ℕ) → let bs = bytes_of e (held_by w i) in
        length bs ≤ length out → outcome_of w i (Call.write_set e out) ≡ record { answer = gave (written (length bs) (into_front bs out)); positions = held_by w i }
    unfolding outcome_of
    wrote out h = ap (λ s. serve (full_at w i) s (plan fed_at (Call.write_set e out))) (readable o).fed ∙ written-whole (full_at w i) e (held_by w i) out h

    -- a slice with room gets the bytes
    pub written_all : {out v : List ℕ} {a : Answer} → let bs = bytes_of e (held_by w i) in
        length bs ≤ length out → Met w i (Call.write_set e out) a v → a ≡ gave (written (length bs) (into_front bs out))
    written_all {out} h m = m.answered ∙ ap (λ p. p.answer) (wrote out h)

    -- and one that is long enough for any set of the pool has them in front
    pub fills : {out out' : List ℕ} {r : OrRefusal ℕ} → let bs = bytes_of e (held_by w i) in
        WritesOut (Call.write_set e) w i out r out' → 5 + 16 * capacity w ≤ length out
        → (r ≡ Ok (length bs)) × (take (length bs) out' ≡ bs)
    fills {out} {out'} {r} W h =
        let bs = bytes_of e (held_by w i) in
        let t = told-count r (written_all (le_trans bytes-few h) W.met) in
        (t.0, ap (take (length bs)) t.1 ∙ take-front bs out)

    -- there is such a call
    pub written-met : (out : List ℕ) → let bs = bytes_of e (held_by w i) in
        length bs ≤ length out → Met w i (Call.write_set e out) (gave (written (length bs) (into_front bs out))) w
    written-met out h = met_by _ (wrote out h) (settled_same o.sound)

-- ---- two worlds write the same set in one edition exactly when they hold the same
pub written-alike : {e : Edition} {w v : List ℕ} {i j : ℕ} {bs cs : List ℕ} → WritesSet w i e bs → WritesSet v j e cs
    → (held_by w i ≡ held_by v j → bs ≡ cs) × (bs ≡ cs → held_by w i ≡ held_by v j)
written-alike {e} {w} {v} {i} {j} W X =
    let told = bytes-tell e (held_by w i) (held_by v j) (few-all (writer-readable W).openable) (few-all (writer-readable X).openable) in (
      λ p. written_is W ∙ ap (bytes_of e) p ∙ sym (written_is X),
      λ p. same-positions (held_by w i) (held_by v j) (pool-past w i) (pool-past v j) (told.1 (sym (written_is W) ∙ p ∙ written_is X)),
    )
