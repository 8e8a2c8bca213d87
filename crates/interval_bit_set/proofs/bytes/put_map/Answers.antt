-- `read_map` meets its contract: a window that is none is refused, then a map of another length, then one with a spare bit set, and else the
-- window is set from it. Assumes nothing.
use Rattle.std.specs.Prelude.{None}
use Rattle.std.proofs.Common.{not, ◌≡◌, ◌<◌, ◌≤◌, false, refl, ap, subst, arith}
use Rattle.model.specs.Bytes.{stray_bits, mapped}
use Rattle.model.specs.Refusals.{refusal, bad_window, bad_map, map_conditions}
use Rattle.maps.specs.Window.{MapOfWindow}
use Rattle.interval_bit_set.proofs.Doors.{lent-held, lent-editable}
use Rattle.interval_bit_set.proofs.Windows.{fitting, map-window-refused, map-length-refused, map-stray-refused, map-passes, bad-by}
use Rattle.interval_bit_set.proofs.Mapping.{map-window}
use Rattle.interval_bit_set.proofs.Changing.{alters, refused-first, edit-full, edit-closing, edit-done}
use Rattle.interval_bit_set.proofs.bytes.put_map.Goals as goal
use Rattle.interval_bit_set.proofs.bytes.put_map.Goals.{Else-not-map_length_fits, Else-not-window_fits, Else-stray_bits-gt0}

-- the window is one
good : {g : _} (r : Else-not-window_fits g) → bad_window r.args.base r.args.n ≡ false
good r = bad-by _ _ _ r.window_fits.ensures (ap not r.if-not-window_fits.false)

-- its map has its length
exact : {g : _} (r : Else-not-map_length_fits g) → bad_map r.args.n r.args.bytes.now ≡ false
exact r = bad-by _ _ _ r.map_length_fits.ensures (ap not r.if-not-map_length_fits.false)

-- none of its spare bits is one
clean : {g : _} (r : Else-stray_bits-gt0 g) → stray_bits r.args.n r.args.bytes.now ≤ 0
clean r = subst (λ k. k ≤ 0) r.stray_bits.ensures (omega (arith, r.if-stray_bits-gt0.false))

-- so no condition of it holds, and its window can be read
passes : {g : _} (r : Else-stray_bits-gt0 g) → refusal (map_conditions r.args.base r.args.n r.args.bytes.now) ≡ None
passes r = map-passes _ _ _ ((bad-by _ _ _ r.window_fits.ensures (ap not r.if-not-window_fits.false))) ((bad-by _ _ _ r.map_length_fits.ensures (ap not r.if-not-map_length_fits.false))) (clean r)

readable : {g : _} (r : Else-not-map_length_fits g) → MapOfWindow r.args.base r.args.n r.args.bytes.now
readable r = map-window _ _ _ ((bad-by _ _ _ r.window_fits.ensures (ap not r.if-not-window_fits.false))) (exact r)

pub returns-then-not-window_fits : goal.returns-then-not-window_fits
returns-then-not-window_fits g c =
    refused-first (alters refl) c.requires
    (map-window-refused _ _ _ (bad-by _ _ _ c.window_fits.ensures (ap not c.if-not-window_fits.true)))

pub map_length_fits-requires : goal.map_length_fits-requires
map_length_fits-requires g c = (fitting _ _ (good (goal.at.map_length_fits-requires g c).Else-not-window_fits)).few

pub returns-then-not-map_length_fits : goal.returns-then-not-map_length_fits
returns-then-not-map_length_fits g c =
    refused-first (alters refl) c.requires
    (map-length-refused _ _ _ (good (goal.at.returns-then-not-map_length_fits g c).Else-not-window_fits) (bad-by _ _ _ c.map_length_fits.ensures (ap not c.if-not-map_length_fits.true)))

pub stray_bits-requires-clause-le_n : goal.stray_bits-requires-clause-le_n
stray_bits-requires-clause-le_n g c = (readable (goal.at.stray_bits-requires-clause-le_n g c).Else-not-map_length_fits).some

pub stray_bits-requires-clause-bytes_len : goal.stray_bits-requires-clause-bytes_len
stray_bits-requires-clause-bytes_len g c = (readable (goal.at.stray_bits-requires-clause-bytes_len g c).Else-not-map_length_fits).exact

pub returns-then-stray_bits-gt0 : goal.returns-then-stray_bits-gt0
returns-then-stray_bits-gt0 g c =
    refused-first (alters refl) c.requires
    (map-stray-refused _ _ _ (good (goal.at.returns-then-stray_bits-gt0 g c).Else-not-window_fits) (exact (goal.at.returns-then-stray_bits-gt0 g c).Else-not-map_length_fits)
    (subst (λ k. 0 < k) c.stray_bits.ensures (omega (arith, c.if-stray_bits-gt0.true))))

pub invariant_of-window : goal.invariant_of-window
invariant_of-window g c = let w = readable (goal.at.invariant_of-window g c).Else-not-map_length_fits in record { some = w.some; within = w.within }

pub invariant_of-map : goal.invariant_of-map
invariant_of-map g c = record { fits = readable (goal.at.invariant_of-map g c).Else-not-map_length_fits }

pub read_map-e-requires : goal.read_map-e-requires
read_map-e-requires g c = record { editable = lent-editable c.open-h.ensures c.allowance-limit.ensures }

pub close-requires : goal.close-requires
close-requires g c =
    (_, _, edit-closing c.requires c.open-h.ensures c.allowance-limit.ensures _ _ c.read_map-e.ensures c.in-Some.is)

pub returns-in-None : goal.returns-in-None
returns-in-None g c =
    edit-full (alters refl) (passes (goal.at.returns-in-None g c).Else-stray_bits-gt0) c.requires c.open-h.ensures
    (ap (mapped _ _ _) (lent-held c.open-h.ensures)) c.allowance-limit.ensures _ _ c.read_map-e.ensures c.in-None.is

pub returns-in-Some : goal.returns-in-Some
returns-in-Some g c =
    edit-done (alters refl) (passes (goal.at.returns-in-Some g c).Else-stray_bits-gt0) c.requires c.open-h.ensures
    (ap (mapped _ _ _) (lent-held c.open-h.ensures)) c.allowance-limit.ensures _ _ c.read_map-e.ensures c.in-Some.is c.close.ensures.closes refl
