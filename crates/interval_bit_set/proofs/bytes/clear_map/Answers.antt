-- `clear_map` meets its contract: a window that is none is refused, then a map of another length, and else the map is cleared. Assumes nothing.
use Rattle.std.proofs.Common.{ap, not, ◌≡◌, false}
use Rattle.model.specs.Refusals.{bad_window, bad_map}
use Rattle.interval_bit_set.proofs.Windows.{fitting, bad-by}
use Rattle.interval_bit_set.proofs.Mapping.{map-window}
use Rattle.interval_bit_set.proofs.Clearing.{clear-no-window, clear-no-map, clear-handles}
use Rattle.interval_bit_set.proofs.bytes.clear_map.Goals as goal
use Rattle.interval_bit_set.proofs.bytes.clear_map.Goals.{Else-not-map_length_fits, Else-not-window_fits}

-- the window is one
good : (r : Else-not-window_fits) → bad_window r.args.base r.args.n ≡ false
good r = bad-by _ _ _ r.window_fits.ensures (ap not r.if-not-window_fits.false)

-- its map has its length
exact : (r : Else-not-map_length_fits) → bad_map r.args.n r.args.map.now ≡ false
exact r = bad-by _ _ _ r.map_length_fits.ensures (ap not r.if-not-map_length_fits.false)

pub returns-then-not-window_fits : goal.returns-then-not-window_fits
returns-then-not-window_fits c = clear-no-window _ _ _ (bad-by _ _ _ c.window_fits.ensures (ap not c.if-not-window_fits.true))

pub map_length_fits-requires : goal.map_length_fits-requires
map_length_fits-requires c = (fitting _ _ (good (goal.at.map_length_fits-requires c).Else-not-window_fits)).few

pub returns-then-not-map_length_fits : goal.returns-then-not-map_length_fits
returns-then-not-map_length_fits c = clear-no-map _ _ _ (good (goal.at.returns-then-not-map_length_fits c).Else-not-window_fits) (bad-by _ _ _ c.map_length_fits.ensures (ap not c.if-not-map_length_fits.true))

pub clear-requires-clause-le_n : goal.clear-requires-clause-le_n
clear-requires-clause-le_n c =
    let w = map-window _ _ _ (good (goal.at.clear-requires-clause-le_n c).Else-not-window_fits) (exact (goal.at.clear-requires-clause-le_n c).Else-not-map_length_fits) in
    w.some

pub clear-requires-clause-bytes_len : goal.clear-requires-clause-bytes_len
clear-requires-clause-bytes_len c =
    let w = map-window _ _ _ (good (goal.at.clear-requires-clause-bytes_len c).Else-not-window_fits) (exact (goal.at.clear-requires-clause-bytes_len c).Else-not-map_length_fits) in
    w.exact

pub returns : goal.returns
returns c =
    clear-handles _ _ _ (good (goal.at.returns c).Else-not-window_fits) (exact (goal.at.returns c).Else-not-map_length_fits) c.clear.ensures
