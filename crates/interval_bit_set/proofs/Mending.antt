-- Mending a written set. A set that is in order is its own outcome, with every run kept; any other is united. Refusals come in their order: the
-- set's shape, too many runs of the outcome, want of room in either slice. The outcome that was written is read again into the world.
-- Assumes nothing.
use Rattle.std.specs.Prelude.{Option, None, Some, Ok, Err}
use Rattle.std.proofs.Common.{◌≡◌, ℕ, ◌+◌, ◌*◌, ◌<◌, ◌≤◌, Bool, true, false, cond, not, ◌||◌, List, [], ◌∷◌, length, take, drop, replicate, sym, refl, ap}
use Rattle.std.proofs.Common.{◌∙◌, subst, ap₂, arith, length-append, length-drop, le-ltb, lt-ltb}
use Rattle.model.specs.declared.Edition.{Edition}
use Rattle.model.specs.declared.Run.{Run}
use Rattle.model.specs.declared.Refusal.{Refusal}
use Rattle.model.specs.declared.Refusal.TheVariants.{Capacity, OutputShort}
use Rattle.model.specs.Numbers.{size, refusal_number}
use Rattle.model.specs.Positions.{Positions, held_runs, stretches, mem}
use Rattle.model.specs.Bytes.{encode, edition_of, runs_told, decode, into_front}
use Rattle.model.specs.Mending.{mended_positions, mended_set, mend_report, fates_from}
use Rattle.model.specs.Refusals.{output_short, before_capacity, from_capacity, Condition, ◌when◌, refusal, ordered_from, shape_conditions, no_room}
use Rattle.model.specs.Call.{Call, mended}
use Rattle.model.proofs.Runs.{held_runs-canon, mem-held_runs, stretches-cong}
use Rattle.model.proofs.Codec.{encode-length, edition_of-encode, runs_due-encode, decode-length, decode-words, canon-ordered, intact-encode}
use Rattle.model.proofs.RoundTrips.{unrefused-intact, held-read}
use Rattle.pool.specs.Layout.{allowance}
use Rattle.pool.specs.Settle.{Settled, Openable}
use Rattle.pool.proofs.Worlds.{allowance-is, sound-length}
use Rattle.codec.specs.Parsed.{Shaped, Acceptable}
use Rattle.codec.proofs.Telling.{shaped-runs, told-runs, accepted-stretches}
use Rattle.union.specs.Mended.{Due, United}
use Rattle.union.proofs.Fating.{fates-length, ordered-held, ordered-fates}
use Rattle.interval_bit_set.specs.Met.{Readable}
use Rattle.interval_bit_set.specs.Out.{Mendable, Mends}
use Rattle.interval_bit_set.proofs.Refusing.{first_alone, none_before, refused-room}
use Rattle.interval_bit_set.proofs.Changing
use Rattle.interval_bit_set.proofs.Changing.{Changes, refused-first, full-before, refused-after, changes-to}
use Rattle.interval_bit_set.proofs.Receiving.{Many}
use Rattle.interval_bit_set.proofs.Putting.{take-front}

-- ---- what is due
-- a world may have no more runs than a written set can tell
pub allowed-most : {w : List ℕ} {i : ℕ} → Openable w i → allowance w i ≤ 65536
allowed-most {w} {i} o = omega (arith, allowance-is w i o.named, (sound-length o.sound).1)

-- the set of the outcome has 16 bytes for each of its runs
set_long : (bs : List ℕ) → length (mended_set bs) ≡ 5 + 16 * stretches (mended_positions bs)
unfolding mended_set stretches
set_long bs = encode-length (edition_of bs) (held_runs (mended_positions bs))

-- the report has a byte for each run of the input
report-long : (bs : List ℕ) {e : Edition} {n : ℕ} → Shaped bs e n → length (mend_report bs) ≡ n
unfolding mend_report
report-long bs sh = fates-length (decode bs) 0 (decode bs) ∙ decode-length bs ∙ sym sh.due

-- so slices of these lengths have room
pub room-told : (bs : List ℕ) {e : Edition} {n k due : ℕ} {out report : List ℕ} → Shaped bs e n → k ≡ stretches (mended_positions bs) → due ≡ 5 + 16 * k → due ≤ length out
    → n ≤ length report → Due (decode bs) k out report
room-told bs sh counted long h g = record { counted = counted; room = omega arith; room₂ = omega (arith, g, decode-length bs, sh.due) }

-- ---- bytes that can be mended
module _ (bs : List ℕ) {e : Edition} {n : ℕ} {right : Bool} (m : Mendable bs e n right) where
  -- in order, they are accepted by a reader
  in_order : right ≡ true → Acceptable bs e n
  in_order r = told-runs bs m.shaped (m.tested ∙ ap (ordered_from 0) (sym (shaped-runs bs m.shaped))) (ap not r)

  module _ (r : right ≡ true) where
    -- the outcome has their runs
    pub right-runs : n ≡ stretches (mended_positions bs)
    right-runs = accepted-stretches bs (in_order r) m.bytes

    -- for which a slice has room that has room for them
    pub right-room : {k : ℕ} {out report : List ℕ} → Due (decode bs) k out report → (length bs ≤ length out) × (n ≤ length report)
    right-room d =
        (omega (arith, m.shaped.long, right-runs, d.counted, d.room), omega (arith, d.room₂, decode-length bs, m.shaped.due))

    -- so it is their set
    right-set : bs ≡ mended_set bs
    unfolding mended_set
    right-set =
        let a = in_order r in
        sym (ap (encode (edition_of bs)) (ordered-held (decode bs) (decode-words bs m.bytes) a.ordered) ∙ intact-encode bs m.bytes (unrefused-intact [] bs a.free))

    -- and every run is kept
    right-report : replicate n 2 ≡ mend_report bs
    unfolding mend_report
    right-report =
        sym (ordered-fates (decode bs) (decode-words bs m.bytes) (in_order r).ordered ∙ ap (λ k. replicate k 2) (decode-length bs ∙ sym m.shaped.due))

    -- a copy of them, and of so many 2s, is what is due
    pub copied : (out report : List ℕ) {out' report' : List ℕ} → (out' ≡ into_front bs out) × (report' ≡ into_front (replicate n 2) report)
        → (out' ≡ into_front (mended_set bs) out) × (report' ≡ into_front (mend_report bs) report)
    copied out report p = (p.0 ∙ ap (λ l. into_front l out) right-set, p.1 ∙ ap (λ l. into_front l report) right-report)

  -- the runs that are united are those of the outcome
  pub united-runs : {k : ℕ} → k ≡ stretches (mem (runs_told e n (drop 5 bs))) → k ≡ stretches (mended_positions bs)
  united-runs p = p ∙ ap (λ rs. stretches (mem rs)) (shaped-runs bs m.shaped)

  -- what is asked of the slices is asked so too
  pub due-told : {k : ℕ} {out report : List ℕ} → Due (decode bs) k out report → Due (runs_told e n (drop 5 bs)) k out report
  due-told {k} {out} {report} d = subst (λ rs. Due rs k out report) (sym (shaped-runs bs m.shaped)) d

  -- and what is written is what is due
  pub united : (out report : List ℕ) {out' report' : List ℕ} → United e (runs_told e n (drop 5 bs)) out report out' report'
      → (out' ≡ into_front (mended_set bs) out) × (report' ≡ into_front (mend_report bs) report)
  unfolding mended_set mend_report
  united out report p =
      let rs = shaped-runs bs m.shaped in
      (p.0 ∙ ap₂ (λ d es. into_front (encode d (held_runs (mem es))) out) m.shaped.edition rs, p.1 ∙ ap (λ es. into_front (fates_from es 0 es) report) rs)

-- ---- the outcome, in the front of a slice
-- which stays as long as it was
front_long : (bs out : List ℕ) → length bs ≤ length out → length (into_front bs out) ≡ length out
unfolding into_front
front_long bs out h = simp (length-append, length-drop) (omega arith)

module _ (bs : List ℕ) {e : Edition} {n : ℕ} (sh : Shaped bs e n) where
  -- so does that of the report
  pub reported-long : (report : List ℕ) {report' : List ℕ} → report' ≡ into_front (mend_report bs) report → n ≤ length report → length report' ≡ length report
  reported-long report p h = ap length p ∙ front_long (mend_report bs) report (omega (arith, h, report-long bs sh))

  module _ {k d : ℕ} (counted : k ≡ stretches (mended_positions bs)) (due : d ≡ 5 + 16 * k) where
    -- the bytes due are its
    due-many : d ≡ length (mended_set bs)
    due-many = omega (arith, due, counted, set_long bs)

    module _ (out : List ℕ) {out' : List ℕ} (put : out' ≡ into_front (mended_set bs) out) where
      -- the slice stays as long as it was
      pub filled-long : d ≤ length out → length out' ≡ length out
      filled-long h = ap length put ∙ front_long (mended_set bs) out (omega (arith, h, due-many))

      -- in front of the slice is the set
      front-is : take d out' ≡ mended_set bs
      front-is = ap₂ take due-many put ∙ take-front (mended_set bs) out

      -- so its front is as long as that
      pub front-many : d ≡ length (take d out')
      front-many = due-many ∙ sym (ap length front-is)

      -- its runs are read again
      pub read_again : k ≤ 65536 → runs_told e k (drop 5 (take d out')) ≡ held_runs (mended_positions bs)
      unfolding mended_set stretches decode
      read_again few =
          let P = mended_positions bs in
          let rs = held_runs P in
          ap (λ l. runs_told e k (drop 5 l)) (front-is ∙ ap (λ c. encode c rs) (sym sh.edition))
          ∙ ap₂ (λ c j. runs_told c j (drop 5 (encode e rs))) (sym (edition_of-encode e rs)) (counted ∙ sym (runs_due-encode e rs (omega arith)))
          ∙ held-read e P (subst (λ j. j ≤ 65536) counted few)

-- ---- runs that are those held
module _ {rs : List Run} (P : Positions) (same : rs ≡ held_runs P) where
  -- are in order
  pub held-ordered : ordered_from 0 rs ≡ true
  held-ordered = ap (ordered_from 0) same ∙ canon-ordered size 0 (held_runs P) (held_runs-canon P)

  -- hold the same
  pub held-alike : (x : ℕ) → x < size → mem rs x ≡ P x
  held-alike x h = ap (λ l. mem l x) same ∙ mem-held_runs P x h

  -- and are as many as their set has
  pub held-length : length rs ≡ stretches P
  unfolding stretches
  held-length = ap length same

  pub held-many : Many (length rs) rs
  held-many = record { are = held-length ∙ sym (stretches-cong (mem rs) P held-alike) }

-- ---- the call
-- its conditions beside those of the world, by whether the slices lack room
abbrev pub conditions : List ℕ → Bool → Bool → List Condition
conditions bs a b = output_short when a ∷ output_short when b ∷ shape_conditions bs

module _ (w : List ℕ) (i : ℕ) (bs out report : List ℕ) where
  -- it overwrites the world by what the bytes hold
  pub mend-says :
      Changes w i (Call.mend bs out report) (conditions bs (no_room out (mended_set bs)) (no_room report (mend_report bs))) (λ P. mended_positions bs)
      (λ P. mended (length (mended_set bs)) (into_front (mended_set bs) out) (length (mend_report bs)) (into_front (mend_report bs) report))
  mend-says = record { further = []; read = refl; effect = _; alters = Changing.overwriting _ _ (λ P. refl); said = refl }

module _ {w : List ℕ} {i : ℕ} (bs out report : List ℕ) (R : Readable w i) where
  -- a shape that is not that of a set
  pub mend-turned : (r : Refusal) → refusal (shape_conditions bs) ≡ Some (refusal_number r) → Mends w i bs out report (Err r) w out report
  mend-turned r k = record {
    met = refused-first (mend-says w i bs out report) R (sym (first_alone before_capacity from_capacity (shape_conditions bs) refl) ∙ k);
    unmended = (refl, refl);
  }

  module _ {e : Edition} {n k : ℕ} (sh : Shaped bs e n) (counted : k ≡ stretches (mended_positions bs)) where
    -- more runs than the world may have
    pub mend-full : {w' out' report' : List ℕ} → allowance w i < k → w' ≡ w → out' ≡ out → report' ≡ report → Mends w i bs out report (Err Capacity) w' out' report'
    mend-full h p q r = record {
      met = full-before (mend-says w i bs out report) R (none_before (shape_conditions bs) sh.free) (subst (λ j. allowance w i < j) counted h, p);
      unmended = (q, r);
    }

    module _ (few : k ≤ allowance w i) {due : ℕ} (long : due ≡ 5 + 16 * k) where
      -- what is refused by the room of the slices
      by-room : (a b : Bool) → no_room out (mended_set bs) ≡ a → no_room report (mend_report bs) ≡ b
          → refusal (conditions bs (no_room out (mended_set bs)) (no_room report (mend_report bs))) ≡ cond {A = Option ℕ} (a || b) (Some 2) None
      by-room a b p q = ap₂ (λ x y. refusal (conditions bs x y)) p q ∙ refused-room bs a b sh.free

      -- so one that is too short is
      short : {out' report' : List ℕ} → refusal (conditions bs (no_room out (mended_set bs)) (no_room report (mend_report bs))) ≡ Some 2 → out' ≡ out → report' ≡ report
          → Mends w i bs out report (Err OutputShort) w out' report'
      short e p q = record { met = refused-after (mend-says w i bs out report) R (subst (λ j. j ≤ allowance w i) counted few) e; unmended = (p, q) }

      -- a slice that is too short for the set
      pub mend-short : {out' report' : List ℕ} → length out' < due → out' ≡ out → report' ≡ report → Mends w i bs out report (Err OutputShort) w out' report'
      unfolding no_room
      mend-short h p q =
          short (by-room true _ (lt-ltb (length out) (length (mended_set bs)) (omega (arith, h, ap length p, due-many bs sh counted long))) refl) p q

      module _ {out₁ report₁ : List ℕ} (p : out₁ ≡ out) (q : report₁ ≡ report) (room : due ≤ length out₁) where
        -- a slice that has room for the set
        roomy : no_room out (mended_set bs) ≡ false
        unfolding no_room
        roomy = le-ltb (length out) (length (mended_set bs)) (omega (arith, room, ap length p, due-many bs sh counted long))

        -- and for the report
        pub mend-unreported : length report₁ < n → Mends w i bs out report (Err OutputShort) w out₁ report₁
        unfolding no_room
        mend-unreported h =
            short (by-room false true roomy (lt-ltb (length report) (length (mend_report bs)) (omega (arith, h, ap length q, report-long bs sh)))) p q

        -- and else both are filled, and the world has the runs
        pub mend-done : {w' out' report' : List ℕ} {rs : List Run} → n ≤ length report₁ → rs ≡ held_runs (mended_positions bs)
            → (out' ≡ into_front (mended_set bs) out₁) × (report' ≡ into_front (mend_report bs) report₁) → stretches (mem rs) ≤ allowance w i → Settled w w' i (mem rs)
            → Mends w i bs out report (Ok (record { bytes = due; report = n })) w' out' report'
        unfolding no_room
        mend-done {report' = report'} h same put fits S = record {
          met =
              changes-to (mend-says w i bs out report) R
              (by-room false false roomy (le-ltb (length report) (length (mend_report bs)) (omega (arith, h, ap length q, report-long bs sh))))
              _ (held-alike (mended_positions bs) same) fits S
              (ap₂ (λ x l. mended x l n report') (due-many bs sh counted long) (put.0 ∙ ap (into_front (mended_set bs)) p)
              ∙ ap₂ (mended (length (mended_set bs)) (into_front (mended_set bs) out)) (sym (report-long bs sh)) (put.1 ∙ ap (into_front (mend_report bs)) q));
          unmended = tt;
        }
