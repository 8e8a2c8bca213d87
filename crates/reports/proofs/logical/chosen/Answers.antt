-- `chosen` meets its contract: where the tally of the range is above k, the k-th from its first position on lies in it.
-- Assumes nothing.
use Rattle.std.proofs.Common.{suc, ◌-◌, ◌<◌, ⊎_elim, arith}
use Rattle.model.specs.Numbers.{size}
use Rattle.model.specs.Positions.{count, mem}
use Rattle.reports.proofs.Reading.{count-more, select-front}
use Rattle.reports.proofs.logical.chosen.Goals as goal
use Rattle.reports.proofs.logical.chosen.Goals.{Joined-else-n-eq0}

-- the range has more than k
more : (c : Joined-else-n-eq0) → c.args.k < count (mem c.args.runs.now) c.args.value c.args.s.first.0 (suc c.args.s.last.0 - c.args.s.first.0)
more c =
    ⊎_elim (λ x. omega (arith, c.tally_physical.ensures.count-is, x.0, x.1))
    (λ x. omega (arith, c.tally_physical.ensures.count-is, x, c.ranges.k.fits)) c.else-n-eq0.either

pub select_physical-requires : goal.select_physical-requires
select_physical-requires c =
    omega (
      arith,
      more (goal.at.select_physical-requires c).Joined-else-n-eq0,
      count-more (mem c.args.runs.now) c.args.value c.args.s.first.0 (suc c.args.s.last.0 - c.args.s.first.0) (size - c.args.s.first.0) (omega arith),
    )

pub returns : goal.returns
returns c =
    let l = more (goal.at.returns c).Joined-else-n-eq0 in (
      l,
      select-front (mem c.args.runs.now) c.args.value c.args.s.first.0 (suc c.args.s.last.0 - c.args.s.first.0) (size - c.args.s.first.0) c.args.k c.select_physical.result.0
          (omega arith) l c.select_physical.ensures,
    )
