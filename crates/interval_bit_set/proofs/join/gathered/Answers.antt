-- `gathered` meets its contract: it counts the runs of the join first, and only if they fit it gathers them into the world.
-- Assumes nothing.
use Rattle.std.proofs.Common.{ap, not}
use Rattle.interval_bit_set.proofs.Overwriting.{test_fits, gather-roomy, gather-closing, gather-settled}
use Rattle.interval_bit_set.proofs.join.gathered.Goals as goal

pub gather-k-requires : goal.gather-k-requires
gather-k-requires c =
    let few = test_fits _ _ _ c.fits.ensures c.allowance.ensures (ap not c.if-not-fits.false) in
    record { sources = c.requires.sources; share = _; roomy = gather-roomy c.requires.readable few c.open-h.ensures }

pub close-requires : goal.close-requires
close-requires c =
    let few = test_fits _ _ _ c.fits.ensures c.allowance.ensures (ap not c.if-not-fits.false) in
    (_, _, gather-closing c.requires.readable few c.open-h.ensures _ c.gather-k.ensures)

pub returns : goal.returns
returns c =
    let few = test_fits _ _ _ c.fits.ensures c.allowance.ensures (ap not c.if-not-fits.false) in
    (few, gather-settled c.requires.readable few c.open-h.ensures _ c.gather-k.ensures c.close.ensures.closes)
