-- `write_map` meets its contract: a window has at most 524,288 positions, so the bytes due fit a word; the slice has room for them or is
-- too short; both forms write the same map. Assumes nothing.
use Rattle.std.specs.Prelude.{Ok}
use Rattle.std.proofs.Common.{refl, ap, not, ◌≡◌, ℕ, ◌+◌, ◌≤◌, false, List, length, sym, ◌∙◌, arith}
use Rattle.model.specs.Numbers.{size}
use Rattle.model.specs.Bytes.{map_length, map_of, into_front}
use Rattle.model.specs.Call.{Call}
use Rattle.model.specs.declared.Refusal.TheVariants.{Window}
use Rattle.model.specs.Refusals.{bad_window}
use Rattle.model.proofs.Maps.{map_of-length}
use Rattle.pool.specs.Layout.{held_in}
use Rattle.pool.proofs.Parts.{lent}
use Rattle.interval_bit_set.specs.Out.{WritesOut}
use Rattle.interval_bit_set.proofs.Windows.{fitting, window-passes, bad-by}
use Rattle.interval_bit_set.proofs.Doors.{lent-stands}
use Rattle.interval_bit_set.proofs.Mapping.{lent-scannable}
use Rattle.interval_bit_set.proofs.Putting.{put-refused, put-short, put-done, refused-window, short-after-window}
use Rattle.interval_bit_set.proofs.Looking.{found}
use Rattle.interval_bit_set.proofs.Handing.{put-shut}
use Rattle.interval_bit_set.proofs.checked.PoolRef.write_map.Goals as goal
use Rattle.interval_bit_set.proofs.checked.PoolRef.write_map.Goals.{Else-out-due, Else-not-window_fits}

-- it is one
good : {g : _} (r : Else-not-window_fits g) → bad_window r.args.base r.args.n ≡ false
good r = bad-by _ _ _ r.window_fits.ensures (ap not r.if-not-window_fits.false)

-- as many bytes as its map has
due : {g : _} (o : Else-out-due g) → map_length o.args.n ≡ o.div_ceil-due.result
due o = omega (arith, o.div_ceil-due.ensures)

-- there is a window, and room for its map
room : {g : _} (o : Else-out-due g) → let a = o.args in ((1 ≤ a.n) × (a.base + a.n ≤ size)) × (map_length a.n ≤ length a.out.now)
room o = let f = fitting _ _ ((bad-by _ _ _ o.window_fits.ensures (ap not o.if-not-window_fits.false))) in ((f.some, f.below), omega (arith, due o, o.if-out-due.false))

-- and the map is there, in whichever way it was written
done : {g : _} (o : Else-out-due g) {out : List ℕ}
    → let a = o.args in
    out ≡ into_front (map_of (held_in (lent a.self.words.now) o.in_ok-h.h) a.base a.n) a.out.now
    → WritesOut (Call.write_map a.base a.n) a.self.words.now a.world a.out.now (Ok o.div_ceil-due.result) out
done o =
    put-done o.args.out.now (Call.write_map o.args.base o.args.n) (λ P. map_of P o.args.base o.args.n) refl
    (found o.args.self.checked o.in_ok-h.ensures.0) (sym (due o) ∙ sym (map_of-length _ _ _)) o.in_ok-h.ensures.1
    (window-passes _ _ (bad-by _ _ _ o.window_fits.ensures (ap not o.if-not-window_fits.false))) o.if-out-due.false

pub returns-then-not-window_fits : goal.returns-then-not-window_fits
returns-then-not-window_fits g c = put-refused c.args.out.now (Call.write_map c.args.base c.args.n) _ refl
    (found c.args.self.checked c.in_ok-h.ensures.0) Window (refused-window _ _ (bad-by _ _ _ c.window_fits.ensures (ap not c.if-not-window_fits.true)))

pub returns-then-out-due : goal.returns-then-out-due
returns-then-out-due g c =
    put-short c.args.out.now (Call.write_map c.args.base c.args.n) (λ P. map_of P c.args.base c.args.n) refl
    (found c.args.self.checked c.in_ok-h.ensures.0) (omega (arith, c.div_ceil-due.ensures) ∙ sym (map_of-length _ _ _)) c.if-out-due.true
    (short-after-window _ _ (good (goal.at.returns-then-out-due g c).Else-not-window_fits))

pub write_map-requires-clause-scannable : goal.write_map-requires-clause-scannable
write_map-requires-clause-scannable g c = lent-scannable c.in_ok-h.ensures.1

pub write_map_by_bytes-requires-clause-stands : goal.write_map_by_bytes-requires-clause-stands
write_map_by_bytes-requires-clause-stands g c = lent-stands c.in_ok-h.ensures.1

pub invariant_of-window : goal.invariant_of-window
invariant_of-window g c = let f = (room (goal.at.invariant_of-window g c).Else-out-due).0 in record { some = f.0; within = f.1 }

pub invariant_of-window-else-this-ne0 : goal.invariant_of-window-else-this-ne0
invariant_of-window-else-this-ne0 g c =
    let f = (room (goal.at.invariant_of-window-else-this-ne0 g c).Else-out-due).0 in record { some = f.0; within = f.1 }

pub returns-then-this-ne0 : goal.returns-then-this-ne0
returns-then-this-ne0 g c = done (goal.at.returns-then-this-ne0 g c).Else-out-due c.write_map.ensures

pub returns-else-this-ne0 : goal.returns-else-this-ne0
returns-else-this-ne0 g c = done (goal.at.returns-else-this-ne0 g c).Else-out-due c.write_map_by_bytes.ensures

pub returns-in_err-h : goal.returns-in_err-h
returns-in_err-h g c = put-shut _ c.from_residual.ensures.1 (λ e p. p) refl c.args.self.checked c.in_err-h.ensures
