-- `next` meets its contract: the first position found where the positions from x on lie, else none.
-- Assumes nothing.
use Rattle.std.proofs.Common.{◌-◌, inl, inr, ⊎_elim, ap, arith}
use Rattle.model.specs.Numbers.{size}
use Rattle.pool.proofs.Turn.{Lies}
use Rattle.model.specs.Positions.{mem}
use Rattle.reports.specs.Reports.{physical_number}
use Rattle.reports.proofs.Seeking.{lies-from, next-first, next-second, next-nowhere, next-nowhere-parted}
use Rattle.reports.proofs.logical.next.Goals as goal
use Rattle.reports.proofs.logical.next.Goals.{After-to_physical-top}

-- where the positions from x on lie
lies : (r : After-to_physical-top) → Lies r.args.set.now.offset r.args.x.0 (size - r.args.x.0) r.to_physical-s.result.0
    r.to_physical-top.result.0
lies r = lies-from (omega (arith, r.well_formed)) (omega (arith, r.well_formed)) r.to_physical-s.ensures r.to_physical-top.ensures

pub returns-in-Some : goal.returns-in-Some
returns-in-Some c =
    next-first (mem c.args.set.now.runs) c.args.value (lies (goal.at.returns-in-Some c).After-to_physical-top) c.next_physical.ensures
    (ap physical_number c.in-Some.is)
    (⊎_elim (λ x i. absurd (omega (arith, x))) (λ x _. x.1) c.if-p-top.either) c.to_logical.ensures

pub returns-in-Some-next_physical : goal.returns-in-Some-next_physical
returns-in-Some-next_physical c =
    next-second (mem c.args.set.now.runs) c.args.value (lies (goal.at.returns-in-Some-next_physical c).After-to_physical-top) c.if-top-s-2.true c.next_physical.ensures
    (ap physical_number c.in-None.is) c.next_physical-in-None.ensures (ap physical_number c.in-Some-next_physical.is)
    c.if-p-top-2.true c.to_logical-in-Some-next_physical.ensures

pub returns-in_default-next_physical : goal.returns-in_default-next_physical
returns-in_default-next_physical c =
    next-nowhere-parted (mem c.args.set.now.runs) c.args.value (lies (goal.at.returns-in_default-next_physical c).After-to_physical-top) c.if-top-s-2.true
    c.next_physical.ensures (ap physical_number c.in-None.is) c.next_physical-in-None.ensures
    (inr (c.in-Some-next_physical.p.0, ap physical_number c.in-Some-next_physical.is, c.if-p-top-2.false))

pub returns-in_default-next_physical-2 : goal.returns-in_default-next_physical-2
returns-in_default-next_physical-2 c =
    next-nowhere-parted (mem c.args.set.now.runs) c.args.value (lies (goal.at.returns-in_default-next_physical-2 c).After-to_physical-top) c.if-top-s-2.true
    c.next_physical.ensures (ap physical_number c.in-None.is) c.next_physical-in-None.ensures (inl (ap physical_number c.in_default-next_physical.is))

pub returns-in_default : goal.returns-in_default
returns-in_default c =
    next-nowhere (mem c.args.set.now.runs) c.args.value (lies (goal.at.returns-in_default c).After-to_physical-top) c.if-p-top.false.0 c.next_physical.ensures
    (inr (c.in-Some.p.0, ap physical_number c.in-Some.is, c.if-p-top.false.1))

pub returns-in_default-2 : goal.returns-in_default-2
returns-in_default-2 c =
    next-nowhere (mem c.args.set.now.runs) c.args.value (lies (goal.at.returns-in_default-2 c).After-to_physical-top) c.if-top-s-2.false c.next_physical.ensures
    (inl (ap physical_number c.in-None.is))
