-- Converting a written set: the converted set tells the same runs in the other edition, so a reader takes it as it takes the set itself, and
-- converting it gives the set back byte for byte. By the number of runs, which both editions tell alike, and by the round trips of each.
-- Assumes nothing.
use Rattle.std.specs.Prelude.{Option, None, Some}
use mathlib.Core.Path.{◌≡◌, refl, sym, ap, ap₂, ◌∙◌}
use mathlib.Core.Bool.{Bool, false}
use mathlib.Core.List.{List, [], ◌∷◌}
use Prim.Native.Nat.{ℕ, ◌+◌, ◌*◌, ◌^◌, ◌≤◌, ◌<◌}
use native.Mathlib.Omega.{arith}
use lib.ListN.{length, drop, get_or}
use borrow.Author.Tests.{le-ltb}
use Rattle.model.specs.declared.Run.{Run}
use Rattle.model.specs.declared.Edition.{Edition}
use Rattle.model.specs.declared.Edition.TheVariants.{Rows, Columns}
use Rattle.model.specs.Positions.{mem, bounded}
use Rattle.model.specs.Bytes.{encode, runs_due, edition_of, decode, into_front}
use Rattle.model.specs.RunList.{AllBytes}
use Rattle.model.specs.Refusals.{
  set_short,
  set_version,
  set_length,
  run_order,
  capacity,
  output_short,
  ◌when◌,
  refusal,
  bad_length,
  set_conditions,
  too_many,
  no_room,
}
use Rattle.model.specs.Call.{Fed, load, Result, written, gave, done}
use Rattle.model.specs.Model.{positions_of, planned, settle, first_refusal, serve}
use Rattle.model.specs.Handled.{Handled, handle}
use Rattle.model.specs.Converting.{other_edition, converted, convert, document_one_refusal}
use Rattle.model.proofs.Codec.{
  drop-bytes,
  part-bound,
  encode-length,
  encode-long,
  edition_of-encode,
  decode-encode,
  decode-length,
  decode-words,
  due-length,
  Intact,
  encode-intact,
  intact-canon,
  intact-encode,
}
use Rattle.model.proofs.RoundTrips.{unrefused-intact, load-by}

-- ---- the converted set
-- a set of the right length has as many bytes in the other edition
pub converted-length : (bs : List ℕ) → bad_length bs ≡ false → length (converted bs) ≡ length bs
unfolding converted
converted-length bs l =
    encode-length (other_edition (edition_of bs)) (decode bs) ∙ ap (λ (n : ℕ). 5 + 16 * n) (decode-length bs) ∙ sym (due-length bs l)

-- its edition is the other one
pub converted-edition : (bs : List ℕ) → edition_of (converted bs) ≡ other_edition (edition_of bs)
unfolding converted
converted-edition bs = edition_of-encode (other_edition (edition_of bs)) (decode bs)

-- four bytes tell how many runs there are
pub decode-few : (bs : List ℕ) → AllBytes bs → length (decode bs) < 2 ^ 32
unfolding runs_due
decode-few bs b = rw (decode-length bs) (part-bound 4 (drop 1 bs) (drop-bytes 1 bs b))

-- it is read as the same runs
pub converted-decode : (bs : List ℕ) → AllBytes bs → decode (converted bs) ≡ decode bs
unfolding converted
converted-decode bs b = decode-encode (other_edition (edition_of bs)) (decode bs) (decode-words bs b) (decode-few bs b)

-- it meets none of the refusals of a reader, if the set does not
pub converted-intact : (bs : List ℕ) → AllBytes bs → Intact bs → Intact (converted bs)
unfolding converted
converted-intact bs b I = encode-intact (other_edition (edition_of bs)) (decode bs) (intact-canon bs b I) (decode-few bs b)

-- the other edition of the other is the first
other-other : (e : Edition) → other_edition (other_edition e) ≡ e
other-other Rows = refl
other-other Columns = refl

-- and it is converted back
pub converted-converted : (bs : List ℕ) → AllBytes bs → Intact bs → converted (converted bs) ≡ bs
unfolding converted
converted-converted bs b I =
    ap₂ (λ e rs. encode (other_edition e) rs) (converted-edition bs) (converted-decode bs b)
    ∙ ap (λ e. encode e (decode bs)) (other-other (edition_of bs))
    ∙ intact-encode bs b I

-- ---- the call
-- what is handled with a result was not refused
handled-unrefused : (y : Option ℕ) (out : List ℕ) (a r : Result) (cs : List ℕ) → (handle y out a cs).answer ≡ gave r → y ≡ None
handled-unrefused None out a r cs e = refl
handled-unrefused (Some n) out a r cs e = let z : ◌≡◌ {A = ℕ} 0 1 = cc in absurd (omega arith)

-- what the call gives where nothing is refused
abbrev pub wholly : List ℕ → List ℕ → Handled
wholly bs out = record { answer = gave (written (length (converted bs)) (into_front (converted bs) out)); slice = into_front (converted bs) out }

-- an intact set is converted where there is room
pub convert-done : (bs out : List ℕ) → Intact bs → length bs ≤ length out → convert bs out ≡ wholly bs out
unfolding convert no_room
convert-done bs out I h =
    let l : length (converted bs) ≤ length out = rw (converted-length bs I.length-fits) h in
    rw (I.long, I.version, I.length-fits, I.ordered, le-ltb (length out) (length (converted bs)) l)

module _ (bs out : List ℕ) {r : Result} (e : (convert bs out).answer ≡ gave r) where
  -- what answers a result was not refused
  unrefused : refusal (output_short when no_room out (converted bs) ∷ set_conditions bs) ≡ None
  unfolding convert
  unrefused =
      handled-unrefused (refusal (output_short when no_room out (converted bs) ∷ set_conditions bs)) out
      (written (length (converted bs)) (into_front (converted bs) out)) r (into_front (converted bs) out) e

  -- so the set was intact
  pub convert-intact : Intact bs
  convert-intact = unrefused-intact (output_short when no_room out (converted bs) ∷ []) bs unrefused

  -- and the whole of it was converted
  pub convert-whole : convert bs out ≡ wholly bs out
  unfolding convert
  convert-whole = ap (λ y. handle y out (written (length (converted bs)) (into_front (converted bs) out)) (into_front (converted bs) out)) unrefused

-- ---- readers
-- the conditions of a written set, of which none holds
intact-conditions : (bs : List ℕ) → Intact bs → set_conditions bs ≡ set_short when false ∷ set_version when false ∷ set_length when false ∷ run_order when false ∷ []
intact-conditions bs I = rw (I.long, I.version, I.length-fits, I.ordered)

-- are the same of the converted set
pub converted-conditions : (bs : List ℕ) → AllBytes bs → Intact bs → set_conditions (converted bs) ≡ set_conditions bs
converted-conditions bs b I = intact-conditions (converted bs) (converted-intact bs b I) ∙ sym (intact-conditions bs I)

-- so a load of the one gives what a load of the other does
pub converted-serve : (full : ℕ → Bool) (s : Fed) (bs : List ℕ) → AllBytes bs → Intact bs → serve full s (planned (load (converted bs))) ≡ serve full s (planned (load bs))
converted-serve full s bs b I =
    load-by full s (converted bs)
    ∙ ap₂ (λ rs cs. settle (first_refusal (s ∷ []) (capacity when too_many full (mem rs) ∷ cs)) (positions_of s) done (bounded (mem rs)))
    (converted-decode bs b) (converted-conditions bs b I)
    ∙ sym (load-by full s bs)

-- the version byte of edition 2
columns-version : (rs : List Run) → get_or (encode Columns rs) 0 0 ≡ 2
unfolding encode
columns-version rs = refl

-- document 01's reader gives 4 to it
pub columns-refused : (rs : List Run) → document_one_refusal (encode Columns rs) ≡ Some 4
unfolding document_one_refusal
columns-refused rs = rw (encode-long Columns rs, columns-version rs)
