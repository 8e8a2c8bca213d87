-- `new`: words of no pool's length stay, and so do others where the limits are bad; else a pool of empty worlds is made. Assumes nothing.
use Rattle.std.proofs.Common.{ap, not, sym, ◌∙◌, arith}
use Rattle.interval_bit_set.proofs.Making.{make-short, limits-bad, limits-good, make-refused, make-done}
use Rattle.interval_bit_set.proofs.make.new.Goals as goal

pub returns-then-s-eq0 : goal.returns-then-s-eq0
returns-then-s-eq0 c = make-short _ _ (sym c.of_length-s.ensures ∙ c.if-s-eq0.true)

pub returns-then-not-limits_fit : goal.returns-then-not-limits_fit
returns-then-not-limits_fit c =
    make-refused _ _ (omega (arith, c.of_length-s.ensures, c.if-s-eq0.false)) (limits-bad _ c.limits_fit.ensures c.of_length-s.ensures (ap not c.if-not-limits_fit.true))

pub returns : goal.returns
returns c =
    make-done _ _ _ (omega (arith, c.of_length-s.ensures, c.if-s-eq0.false)) (limits-good _ c.limits_fit.ensures c.of_length-s.ensures (ap not c.if-not-limits_fit.false)) c.make.ensures
