-- Mending, over what the public calls promise: a set that loads comes back byte for byte with every run kept, and what was
-- written as the mended set loads and leaves the worlds that mending left; in edition 2 a reader that knows edition 1 alone
-- refuses it. Assumes nothing.
use Rattle.std.specs.Prelude.{Some}
use Prim.Native.Nat.{ℕ, ◌≤◌}
use mathlib.Core.Path.{◌≡◌, sym, ap, ◌∙◌, subst}
use mathlib.Core.Bool.{true}
use mathlib.Core.List.{List}
use native.Mathlib.Omega.{arith}
use lib.ListN.{length, take, replicate}
use borrow.Author.Tests.{not-false}
use Rattle.model.specs.declared.Edition.TheVariants.{Columns}
use Rattle.model.specs.Positions.{held_runs, stretches, mem, bounded}
use Rattle.model.specs.Bytes.{encode, edition_of, decode, into_front}
use Rattle.model.specs.RunList.{AllBytes}
use Rattle.model.specs.Mending.{mended_positions, mended_set, mend_report}
use Rattle.model.specs.Refusals.{ordered_from, disordered, too_many, no_room}
use Rattle.model.specs.Call.{Call, done, mended, Answer, gave}
use Rattle.model.specs.Converting.{document_one_refusal}
use Rattle.model.proofs.Codec.{decode-words}
use Rattle.model.proofs.Converting.{columns-refused}
use Rattle.model.proofs.RoundTrips.{Accepted, accepted-bytes, held-read, held-accepted, bounded-held}
use Rattle.pool.specs.Layout.{allowance, worlds_of}
use Rattle.pool.specs.Settle.{Settled, Openable}
use Rattle.union.proofs.Fating.{fates-length, ordered-fates}
use Rattle.interval_bit_set.specs.Met.{full_at, Met}
use Rattle.interval_bit_set.proofs.Changing.{fits-few}
use Rattle.theorems.proofs.Writing.{front-is}
use Rattle.interval_bit_set.proofs.Giving.{quiet-fits, given-readable, given-quiet, given-is, given-settled}
use Rattle.interval_bit_set.proofs.Mending.{allowed-most, conditions}
use Rattle.theorems.specs.Determinism.{Loads}
use Rattle.theorems.proofs.Forms.{met-alike}
use Rattle.theorems.proofs.Loading.{load-met, loaded-accepted}

module _ (w : List ℕ) (i : ℕ) (bs out report : List ℕ) where
  module _ {out' report' w' : List ℕ} {n m : ℕ} (M : Met w i (Call.mend bs out report) (gave (mended n out' m report')) w') where
    -- both slices were filled as they should be
    filled : mended n out' m report' ≡ mended (length (mended_set bs)) (into_front (mended_set bs) out) (length (mend_report bs)) (into_front (mend_report bs) report)
    filled = given-is M

    -- the mended set is in front of one
    set_is : take n out' ≡ mended_set bs
    set_is = let f = filled in front-is (mended_set bs) out cc

    -- so a reader that knows edition 1 alone gives 4 to it, where the set read was of edition 2
    pub mend-old-refused : edition_of bs ≡ Columns → document_one_refusal (take n out') ≡ Some 4
    unfolding mended_set
    mend-old-refused e =
        let rs = held_runs (mended_positions bs) in
        ap document_one_refusal (set_is ∙ ap (λ d. encode d rs) e) ∙ columns-refused rs

    -- the report in front of the other, which has m bytes
    report-many : m ≡ length (mend_report bs)
    report-many = let f = filled in cc

    report-is : take m report' ≡ mend_report bs
    report-is = let f = filled in front-is (mend_report bs) report cc

    -- a set that loads comes back, and each of its runs is kept
    pub right-comes-back : {C : ℕ} → AllBytes bs → Loads C bs → (take n out' ≡ bs) × (take m report' ≡ replicate m 2)
    unfolding mended_set mend_report disordered
    right-comes-back b L =
        let A = loaded-accepted L in
        let o : ordered_from 0 (decode bs) ≡ true = not-false (ordered_from 0 (decode bs)) A.intact.ordered in
        let k : length (decode bs) ≡ m = sym (report-many ∙ fates-length (decode bs) 0 (decode bs)) in
        (set_is ∙ (accepted-bytes _ bs b A).0, report-is ∙ ordered-fates (decode bs) (decode-words bs b) o ∙ ap (λ j. replicate j 2) k)

    abbrev o : Openable w i
    o = (given-readable M).openable

    -- the outcome is within the allowance
    fits : stretches (mended_positions bs) ≤ allowance w i
    fits =
        quiet-fits o (mended_positions bs) (conditions bs (no_room out (mended_set bs)) (no_room report (mend_report bs))) (given-quiet M)

    -- so it has no more runs than a written set can tell
    few : stretches (mended_positions bs) ≤ 65536
    few = omega (arith, allowed-most o, fits)

    -- what was written is accepted
    set-accepted : Accepted (full_at w i) (take n out')
    unfolding mended_set too_many
    set-accepted = subst (Accepted (full_at w i)) (sym set_is) (held-accepted (full_at w i) (edition_of bs) (mended_positions bs) few (fits-few o (mended_positions bs) fits))

    -- and read as the outcome
    set-settled : Settled w w' i (bounded (mem (decode (take n out'))))
    unfolding mended_set
    set-settled =
        let P = mended_positions bs in
        subst (Settled w w' i)
        (sym (ap (λ l. bounded (mem (decode l))) set_is ∙ ap (λ rs. bounded (mem rs)) (held-read (edition_of bs) P few) ∙ bounded-held P)) (given-settled M)

    -- so it loads into the world that was mended into, and leaves the same worlds
    pub outcome-loads : {a : Answer} {v' : List ℕ} → Met w i (Call.load (take n out')) a v' → (a ≡ gave done) × (worlds_of v' ≡ worlds_of w')
    outcome-loads k = met-alike k (load-met o set-accepted set-settled)
