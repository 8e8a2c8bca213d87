-- `write_map_by_bytes` meets its contract. The loop's invariant: j bytes of the map are in front of the slice, and the cursor stands at the first
-- position of the next one. The measure is how many positions are left. Assumes nothing.
use Rattle.std.proofs.Common.{◌-◌, ◌*◌, arith}
use Rattle.streams.proofs.Starts.{standing-rooted}
use Rattle.maps.proofs.Octeting.{writing-stood, writing_more, writing-all, octets-small}
use Rattle.maps.proofs.write.write_map_by_bytes.Goals as goal

pub open-held-requires : goal.open-held-requires
open-held-requires c = standing-rooted c.requires.stands.1

pub loop-j-preserved : goal.loop-j-preserved
loop-j-preserved c = writing_more c.loop-j.invariant c.loop-j-test.true c.next_bytes-j.ensures c.move_to.ensures

pub overflow_cast-out : goal.overflow_cast-out
overflow_cast-out c =
    let i = c.loop-j.invariant in
    omega (arith, octets-small (writing-stood i (c.args.window.n - 8 * c.loop-j.j) (omega (arith, i.some)) (omega arith) (omega arith)) c.octet_of-last.ensures)

pub returns : goal.returns
returns c = writing-all c.loop-j.invariant c.loop-j-test.false c.octet_of-last.ensures
