-- `previous` meets its contract: the last position found where the positions up to x lie, else none.
-- Assumes nothing.
use Rattle.std.proofs.Common.{suc, inl, inr, ⊎_elim, ap, arith}
use Rattle.pool.proofs.Turn.{Lies}
use Rattle.model.specs.Positions.{mem}
use Rattle.reports.specs.Reports.{physical_number}
use Rattle.reports.proofs.Seeking.{lies-upto, previous-first, previous-second, previous-nowhere, previous-nowhere-parted}
use Rattle.reports.proofs.logical.previous.Goals as goal
use Rattle.reports.proofs.logical.previous.Goals.{After-to_physical-zero}

-- where the positions up to x lie
lies : (r : After-to_physical-zero) → Lies r.args.set.now.offset 0 (suc r.args.x.0) r.to_physical-zero.result.0
    r.to_physical-s.result.0
lies r = lies-upto (omega (arith, r.well_formed)) (omega (arith, r.well_formed)) r.to_physical-zero.ensures r.to_physical-s.ensures

pub returns-in-Some : goal.returns-in-Some
returns-in-Some c =
    previous-first (mem c.args.set.now.runs) c.args.value (lies (goal.at.returns-in-Some c).After-to_physical-zero) c.previous_physical.ensures
    (ap physical_number c.in-Some.is)
    (⊎_elim (λ x i. absurd (omega (arith, x))) (λ x _. x.1) c.if-zero-p.either) c.to_logical.ensures

pub returns-in-Some-previous_physical : goal.returns-in-Some-previous_physical
returns-in-Some-previous_physical c =
    previous-second (mem c.args.set.now.runs) c.args.value (lies (goal.at.returns-in-Some-previous_physical c).After-to_physical-zero) c.if-s-zero-2.true
    c.previous_physical.ensures (ap physical_number c.in-None.is) c.previous_physical-in-None.ensures
    (ap physical_number c.in-Some-previous_physical.is) c.if-zero-p-2.true c.to_logical-in-Some-previous_physical.ensures

pub returns-in_default-previous_physical : goal.returns-in_default-previous_physical
returns-in_default-previous_physical c =
    previous-nowhere-parted (mem c.args.set.now.runs) c.args.value (lies (goal.at.returns-in_default-previous_physical c).After-to_physical-zero) c.if-s-zero-2.true
    c.previous_physical.ensures (ap physical_number c.in-None.is) c.previous_physical-in-None.ensures
    (inr (c.in-Some-previous_physical.p.0, ap physical_number c.in-Some-previous_physical.is, c.if-zero-p-2.false))

pub returns-in_default-previous_physical-2 : goal.returns-in_default-previous_physical-2
returns-in_default-previous_physical-2 c =
    previous-nowhere-parted (mem c.args.set.now.runs) c.args.value (lies (goal.at.returns-in_default-previous_physical-2 c).After-to_physical-zero) c.if-s-zero-2.true
    c.previous_physical.ensures (ap physical_number c.in-None.is) c.previous_physical-in-None.ensures
    (inl (ap physical_number c.in_default-previous_physical.is))

pub returns-in_default : goal.returns-in_default
returns-in_default c =
    previous-nowhere (mem c.args.set.now.runs) c.args.value (lies (goal.at.returns-in_default c).After-to_physical-zero) c.if-zero-p.false.0 c.previous_physical.ensures
    (inr (c.in-Some.p.0, ap physical_number c.in-Some.is, c.if-zero-p.false.1))

pub returns-in_default-2 : goal.returns-in_default-2
returns-in_default-2 c =
    previous-nowhere (mem c.args.set.now.runs) c.args.value (lies (goal.at.returns-in_default-2 c).After-to_physical-zero) c.if-s-zero-2.false c.previous_physical.ensures
    (inl (ap physical_number c.in-None.is))
