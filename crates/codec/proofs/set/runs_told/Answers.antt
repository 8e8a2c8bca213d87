-- `runs_told` meets its contract: the shape is told first, and then the order is tested. Assumes nothing.
use Rattle.std.proofs.Common.{ap, not}
use Rattle.codec.proofs.Telling.{told-order, told-runs}
use Rattle.codec.proofs.set.runs_told.Goals as goal

pub returns-then-not-in_order : goal.returns-then-not-in_order
returns-then-not-in_order c =
    let sh = c.in_ok-told.ensures in
    told-order _ sh.1 (rw sh.0 at c.in_order.ensures.value) (ap not c.if-not-in_order.true)

pub returns : goal.returns
returns c =
    let sh = c.in_ok-told.ensures in
    (sh.0, told-runs _ sh.1 (rw sh.0 at c.in_order.ensures.value) (ap not c.if-not-in_order.false))
