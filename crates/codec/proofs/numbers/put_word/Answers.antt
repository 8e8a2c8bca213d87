-- `put_word` meets its contract. The loop's invariant: the first j bytes are put. Assumes nothing.
use Rattle.codec.proofs.Apart.{strewn_none, strewn-more, strewn-word}
use Rattle.codec.proofs.numbers.put_word.Goals as goal

pub loop-j-init : goal.loop-j-init
loop-j-init c = strewn_none c.args.at c.args.step c.args.out.now

pub loop-j-preserved : goal.loop-j-preserved
loop-j-preserved c =
    strewn-more c.args.at c.args.step c.loop-j.j _ c.args.out.now c.loop-j.out (rw c.to_be_bytes-bytes.ensures c.loop-j-test.true) c.loop-j.invariant

pub returns : goal.returns
returns c = strewn-word c.args.at c.args.step c.loop-j.j c.args.n _ c.args.out.now c.loop-j.out c.to_be_bytes-bytes.ensures c.loop-j-test.false c.loop-j.invariant
