-- `runs_of` meets its contract: as many runs are handed out as the outcome has. Assumes nothing.
use Rattle.std.proofs.Common.{sym, ◌∙◌}
use Rattle.union.proofs.Iterated.{groups-fit, groups-count}
use Rattle.union.proofs.union.runs_of.Goals as goal

pub count-requires-clause-fits : goal.count-requires-clause-fits
count-requires-clause-fits g c = groups-fit g.L.RunList.runs c.args.list c.of.ensures.0 c.of.ensures.1

pub returns : goal.returns
returns g c =
    let n = c.count.ensures.ran in
    n.2 ∙ sym (groups-count g.L.RunList.runs c.args.list c.of.ensures.0 c.of.ensures.1 n.0 n.1)
