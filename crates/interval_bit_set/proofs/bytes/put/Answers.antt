-- `put` meets its contract: runs in order are as many as their set has, so their number tells whether the world may have them.
-- Assumes nothing.
use Rattle.std.proofs.Common.{refl, arith}
use Rattle.interval_bit_set.proofs.Receiving.{ordered-many, receive-few, receive-ready, receive-closing, receive-settled}
use Rattle.interval_bit_set.proofs.bytes.put.Goals as goal

pub returns-then-count-allowance : goal.returns-then-count-allowance
returns-then-count-allowance g c =
    (refl, omega (arith, (ordered-many c.requires.ordered).are, c.count.ensures, c.allowance.ensures, c.if-count-allowance.true), refl)

pub build-k-requires-clause-receives : goal.build-k-requires-clause-receives
build-k-requires-clause-receives g c =
    receive-ready c.requires.readable (ordered-many c.requires.ordered) c.allowance.ensures (omega (arith, c.count.ensures, c.if-count-allowance.false)) c.open-h.ensures

pub close-requires : goal.close-requires
close-requires g c = (
  _,
  _,
  receive-closing c.requires.readable (ordered-many c.requires.ordered) c.allowance.ensures (omega (arith, c.count.ensures, c.if-count-allowance.false)) c.open-h.ensures _ c.build-k.ensures,
)

pub returns : goal.returns
returns g c =
    let many = ordered-many c.requires.ordered in (
      receive-few c.requires.readable many c.allowance.ensures (omega (arith, c.count.ensures, c.if-count-allowance.false)) c.open-h.ensures,
      receive-settled c.requires.readable many c.allowance.ensures (omega (arith, c.count.ensures, c.if-count-allowance.false)) c.open-h.ensures _ c.build-k.ensures c.close.ensures.closes,
    )
