-- Where the bytes of the input are known, those up to the limit are read.
use Rattle.std.proofs.Common.{refl, rules, arith}
use Rattle.listset.proofs.Reading.{read-next, read-whole, read-full}
use Rattle.listset.proofs.read_all.Goals as goal

pub loop-n-preserved : goal.loop-n-preserved
loop-n-preserved g c =
    let now = c.loop-n in
    let read = c.in_ok-more.ensures in record {
      within = search rules;
      long = search rules;
      bytes = read-next _ _ _ now.n c.in_ok-more.more _ _ _ refl now.invariant.bytes read.front_stays read.bytes;
    }

pub returns-after-loop-n-clause-bytes : goal.returns-after-loop-n-clause-bytes
returns-after-loop-n-clause-bytes g c = read-full 15206 _ _ _ _ c.loop-n-test.false c.loop-n.invariant.long c.loop-n.invariant.bytes

pub returns-then-more-eq0-clause-bytes : goal.returns-then-more-eq0-clause-bytes
returns-then-more-eq0-clause-bytes g c =
    let now = c.loop-n in
    let read = c.in_ok-more.ensures in
    let none = c.if-more-eq0.true in
    read-whole 15206 now.n _ _ _ now.invariant.within
    (read-next _ _ _ now.n c.in_ok-more.more now.n _ _ (omega (arith, none)) now.invariant.bytes read.front_stays read.bytes)
    (read.end none)
