-- `in_order` meets its contract. The loop's invariant: the first i runs passed, so the order of all is that of the others. Assumes nothing.
use Rattle.std.proofs.Common.{arith}
use Rattle.run_lists.proofs.Ordered.{passed-step, passed-fail, passed-all, passed-words}
use Rattle.run_lists.proofs.in_order.Goals as goal

pub returns-then-not-follows-clause-value : goal.returns-then-not-follows-clause-value
returns-then-not-follows-clause-value g c =
    passed-fail c.loop-i.invariant (omega (arith, c.count-i-end.ensures)) c.run-r.ensures c.follows.ensures c.if-not-follows.true

pub loop-i-preserved : goal.loop-i-preserved
loop-i-preserved g c =
    let r = c.run-r.type_inv.1.1 in
    passed-step c.loop-i.invariant (omega (arith, c.count-i-end.ensures)) c.run-r.ensures c.follows.ensures r.0.1 r.1.0.1 c.if-not-follows.false

pub returns : goal.returns
returns g c = record {
  value = passed-all c.loop-i.invariant (omega (arith, c.count-i-end.ensures));
  words = λ _. passed-words c.loop-i.invariant (omega (arith, c.count-i-end.ensures));
}
