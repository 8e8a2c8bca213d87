-- `put_middles` meets its contract: the middle rank itself after no parting, else those of the lesser part, and after them those of the greater one.
-- The measure is the height. Assumes nothing.
use Rattle.std.proofs.Common.{arith, length-set}
use Rattle.deepest.proofs.Ranks.{middles_one, no_height, first-put, both-put, lesser-put, neither-put, lesser-puttable, greater-puttable}
use Rattle.deepest.proofs.list.+put_middles.Goals as goal

pub returns-then-h-eq0 : goal.returns-then-h-eq0
returns-then-h-eq0 t c = no_height c.requires c.if-h-eq0.true

pub bounds-out-at-then-d-eq0 : goal.bounds-out-at-then-d-eq0
bounds-out-at-then-d-eq0 t c = grind (arith, middles_one, length-set)

pub returns-then-d-eq0 : goal.returns-then-d-eq0
returns-then-d-eq0 t c = first-put c.requires (omega arith) c.if-d-eq0.true

pub returns-then-h-eq1 : goal.returns-then-h-eq1
returns-then-h-eq1 t c = neither-put c.requires (omega arith) (omega arith) c.if-h-eq1.true

pub put_middles-next-requires : goal.put_middles-next-requires
put_middles-next-requires t c =
    (omega (arith, c.decreases, c.if-h-eq0.false), lesser-puttable c.requires (omega arith) (omega arith) (omega arith))

pub returns-then-h-eq2 : goal.returns-then-h-eq2
returns-then-h-eq2 t c =
    lesser-put c.requires (omega arith) (omega arith) (omega arith) c.put_middles-next.ensures

pub put_middles-requires : goal.put_middles-requires
put_middles-requires t c = (
  omega (arith, c.decreases, c.if-h-eq0.false, c.if-h-eq1.false),
  greater-puttable c.requires (omega arith) (omega arith) (omega arith) (omega arith)
      c.put_middles-next.ensures,
)

pub returns : goal.returns
returns t c = both-put c.requires (omega arith) (omega arith) c.put_middles-next.ensures c.put_middles.ensures
