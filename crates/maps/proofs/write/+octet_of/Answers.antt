-- `octet_of` meets its contract: the positions of the stretch have one value, and the cursor goes on to the first after it for the others. The
-- measure is how many positions are left. Assumes nothing.
use Rattle.std.proofs.Common.{arith}
use Rattle.maps.proofs.Octeting.{octets-small, octets-all, octets-more}
use Rattle.maps.proofs.write.+octet_of.Goals as goal

pub returns-then-k-after : goal.returns-then-k-after
returns-then-k-after t c = octets-all _ _ _ c.value_at-value.ensures c.same_to.ensures c.if-k-after.true c.alike.ensures

pub returns : goal.returns
returns t c =
    octets-more _ _ _ c.value_at-value.ensures c.same_to.ensures c.if-k-after.false
    c.alike-low.ensures c.move_to.ensures c.octet_of-rest.ensures

pub overflow_add-result : goal.overflow_add-result
overflow_add-result t c = omega (
  arith,
  octets-small c.requires.1 (octets-more _ _ _ c.value_at-value.ensures c.same_to.ensures c.if-k-after.false
      c.alike-low.ensures c.move_to.ensures c.octet_of-rest.ensures),
)
