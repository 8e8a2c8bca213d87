-- `next_bytes` meets its contract: the bytes that lie in one stretch are all ones or all zeros, and a byte with a border in it is told
-- stretch by stretch. Assumes nothing.
use Rattle.std.proofs.Common.{rules, arith}
use Rattle.std.proofs.lemmas.List.{places}
use Rattle.maps.proofs.Storing.{part-stores}
use Rattle.maps.proofs.Octeting.{octets-small, due-stood, due-alike, due-octet}
use Rattle.maps.proofs.write.next_bytes.Goals as goal

pub returns-then-after-ge7 : goal.returns-then-after-ge7
returns-then-after-ge7 c =
    λ Q d.
    due-alike d c.value_at.ensures c.same_to.ensures c.if-after-ge7.true c.whole_bytes-n.ensures
    c.alike-byte.ensures (part-stores _ _ _ _ (omega (arith, d.room, d.more, c.whole_bytes-n.ensures)) (omega arith) (search (rules, places)) (c.fill.ensures.after (λ y e. e)))

pub overflow_cast-out : goal.overflow_cast-out
overflow_cast-out c = omega (arith, octets-small (due-stood c.requires.1) c.octet_of.ensures)

pub returns : goal.returns
returns c = λ Q d. due-octet d c.same_to.ensures c.if-after-ge7.false c.octet_of.ensures
