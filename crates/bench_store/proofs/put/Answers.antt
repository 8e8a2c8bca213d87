-- `put` meets its contract: what the set answers is what the world came to. Assumes nothing.
use Rattle.std.proofs.Common.{true, false}
use Rattle.bench_store.proofs.Grown.{editable, full-same, changed-closing, changed-tried, tried-there}
use Rattle.bench_store.proofs.put.Goals as goal

pub set-requires : goal.set-requires
set-requires c = editable c.open-h.ensures c.allowance-limit.ensures

pub close-requires : goal.close-requires
close-requires c =
    (_, _, changed-closing c.open-h.ensures c.allowance-limit.ensures c.requires _ _ _ c.set.ensures.0 c.in-Some.is)

pub returns-in_default : goal.returns-in_default
returns-in_default c =
    tried-there c.open-h.ensures _ false _ _ (full-same c.open-h.ensures c.allowance-limit.ensures c.requires _ _ _ c.set.ensures.0 c.in_default.is)

pub returns : goal.returns
returns c =
    let closing = changed-closing c.open-h.ensures c.allowance-limit.ensures c.requires _ _ _ c.set.ensures.0 c.in-Some.is in
    tried-there c.open-h.ensures _ true _ _
    (changed-tried c.open-h.ensures c.allowance-limit.ensures c.requires _ _ _ c.set.ensures.0 c.in-Some.is (c.close.ensures.closes _ _ closing))
