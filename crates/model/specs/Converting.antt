-- Turning a written set of either edition into the other (document 02, Ticket 8). The call has no pool, so it is no call of the plain model and
-- in no list of demand 3. Assumes nothing: these are definitions.
use Rattle.std.specs.Prelude.{Option}
use Rattle.std.specs.Prelude.{not, List, [], ◌∷◌, ℕ, eqb, length, drop, get_or}
use Rattle.model.specs.declared.Edition.{Edition}
use Rattle.model.specs.declared.Edition.TheVariants.{Rows, Columns}
use Rattle.model.specs.Bytes.{encode, runs_due, edition_of, decode_runs, decode, into_front}
use Rattle.model.specs.Refusals.{set_short, set_version, set_length, run_order, output_short, ◌when◌, refusal, too_short, bad_length, disordered, set_conditions, no_room}
use Rattle.model.specs.Call.{written}
use Rattle.model.specs.Handled.{Handled, handle}

abbrev pub other_edition : Edition → Edition
other_edition Rows = Columns
other_edition Columns = Rows

-- the set that bytes tell, in the other edition
unfoldable pub converted : List ℕ → List ℕ
converted bs = encode (other_edition (edition_of bs)) (decode bs)

-- writes it into the front of a slice, and answers how many bytes it has; refused by 3, 4, 3, 5 as a reader does, then by 2
unfoldable pub convert : List ℕ → List ℕ → Handled
convert bs out =
    handle (refusal (output_short when no_room out (converted bs) ∷ set_conditions bs)) out (written (length (converted bs)) (into_front (converted bs) out)) (into_front (converted bs) out)

-- the refusal that document 01's reader gives to bytes, before this ticket: it knew edition 1 alone. Kept for one law alone, that it gives 4 to
-- every set of edition 2.
unfoldable pub document_one_refusal : List ℕ → Option ℕ
document_one_refusal bs =
    refusal (
    set_short when too_short bs
    ∷ set_version when not (eqb (get_or bs 0 0) 1)
    ∷ set_length when bad_length bs
    ∷ run_order when disordered (decode_runs (runs_due bs) (drop 5 bs))
    ∷ []
    )
