-- `area_of` meets its contract: each test in turn. Assumes nothing.
use Rattle.std.proofs.Common.{refl, ◌∙◌, arith, lt-ltb, le-ltb}
use Rattle.interval_bit_set.proofs.Planes.{bad-low, bad-wide, bad-rows, bad-columns}
use Rattle.interval_bit_set.proofs.cells.area_of.Goals as goal

pub returns-then-q-gt65535 : goal.returns-then-q-gt65535
returns-then-q-gt65535 c = bad-low _ c.if-q-gt65535.true

pub returns-then-q-gt65535-2 : goal.returns-then-q-gt65535-2
returns-then-q-gt65535-2 c = bad-wide _ c.if-q-gt65535-2.true

pub returns-then-q : goal.returns-then-q
returns-then-q c = bad-rows _ c.if-q.true

pub returns-then-q-2 : goal.returns-then-q-2
returns-then-q-2 c =
    bad-columns _ (omega (arith, c.if-q-gt65535.false)) (omega (arith, c.if-q-gt65535-2.false)) (omega (arith, c.if-q.false))
    ∙ lt-ltb c.args.q.right c.args.q.left c.if-q-2.true

pub returns : goal.returns
returns c = (
  bad-columns _ (omega (arith, c.if-q-gt65535.false)) (omega (arith, c.if-q-gt65535-2.false)) (omega (arith, c.if-q.false))
      ∙ le-ltb c.args.q.right c.args.q.left (omega (arith, c.if-q-2.false)),
  refl,
)
