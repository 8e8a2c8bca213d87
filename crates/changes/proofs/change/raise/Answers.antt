-- `raise` meets its contract: the first run that holds or touches a position of s holds all, or grows to both sides; where there is
-- none, a new one comes. Assumes nothing.
use Rattle.changes.proofs.Raising.{touched, touched-stays, touched-absorbable, touched-changeable, touched-grown, alone-addable, alone-added}
use Rattle.changes.proofs.change.raise.Goals as goal

pub add_run-requires : goal.add_run-requires
add_run-requires c = alone-addable c.args.s.ordered c.runs_of.ensures c.touching.ensures c.in_default.is c.requires

pub returns-in_default : goal.returns-in_default
returns-in_default c = (alone-added c.args.s.ordered c.runs_of.ensures c.touching.ensures c.in_default.is c.add_run.ensures.0, λ v n. c.add_run.ensures.1)

pub returns-then-s-r : goal.returns-then-s-r
returns-then-s-r c = (
  touched-stays c.args.s.ordered c.runs_of.ensures c.touching.ensures c.in-Some.is c.if-r-s.true c.if-s-r.true,
  λ v n. absurd (touched c.args.s.ordered c.runs_of.ensures c.touching.ensures c.in-Some.is c.requires n),
)

pub absorb-grown-requires : goal.absorb-grown-requires
absorb-grown-requires c = touched-absorbable c.args.s.ordered c.runs_of.ensures c.touching.ensures c.in-Some.is c.requires

pub resize_run-requires : goal.resize_run-requires
resize_run-requires c =
    touched-changeable c.args.s.ordered c.runs_of.ensures c.touching.ensures c.in-Some.is c.min.ensures c.max.ensures _ c.absorb-grown.ensures c.requires

pub returns : goal.returns
returns c = (
  touched-grown c.args.s.ordered c.runs_of.ensures c.touching.ensures c.in-Some.is c.min.ensures c.max.ensures _ c.absorb-grown.ensures c.resize_run.ensures,
  λ v n. absurd (touched c.args.s.ordered c.runs_of.ensures c.touching.ensures c.in-Some.is c.requires n),
)
