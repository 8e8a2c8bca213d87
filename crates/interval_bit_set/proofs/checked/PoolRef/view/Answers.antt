-- `view`: an opened world stands in the nodes of its pool, so it can be read from its root. Assumes nothing.
use mathlib.Core.Path.{ap}
use Rattle.pool.specs.declared.World.{World}
use Rattle.streams.proofs.Starts.{standing-rooted}
use Rattle.interval_bit_set.proofs.checked.PoolRef.view.Goals as goal

pub returns : goal.returns
returns c =
    let o = c.in_ok-h.ensures.1 in
    (c.in_ok-h.ensures.0, record { is = ap (λ (h : World). record { root = h.root; offset = h.offset }) o.is; rooted = standing-rooted o.limited.standing; held = o.held })
