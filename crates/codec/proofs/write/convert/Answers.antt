-- `convert` meets its contract. The loop's invariant: behind the head the first i runs are put. Assumes nothing.
use Rattle.std.proofs.Common.{drop}
use Rattle.model.specs.Bytes.{runs_told}
use Rattle.model.proofs.Codec.{runs_told-length}
use Rattle.codec.proofs.Strewing.{put-none, put_step, put-set}
use Rattle.codec.proofs.write.convert.Goals as goal

pub loop-i-init : goal.loop-i-init
loop-i-init c =
    let t = c.args.told in
    put-none _ (runs_told t.edition t.count (drop 5 t.bytes.now)) _ (runs_told-length t.edition t.count (drop 5 t.bytes.now))

pub loop-i-preserved : goal.loop-i-preserved
loop-i-preserved c =
    put_step c.loop-i.invariant c.loop-i-test.true c.run-r.ensures c.put_run.ensures

pub returns : goal.returns
returns c =
    rw (← c.other_edition-to.ensures)
    (put-set c.loop-i.invariant c.args.out.now c.requires c.put_head.ensures c.loop-i-test.false)
