-- `look_for` meets its contract: world 0 of a sound pool can be searched, and is read in the part that is lent. Assumes nothing.
use Rattle.std.proofs.Common.{is_some, ap, ◌∙◌}
use Rattle.model.specs.Positions.{gap}
use Rattle.model.specs.Range.{many}
use Rattle.bench_store.proofs.Grown.{open-stands, lent-held}
use Rattle.bench_store.proofs.look_for.Goals as goal

pub lowest_gap-requires-clause-stands : goal.lowest_gap-requires-clause-stands
lowest_gap-requires-clause-stands c = open-stands c.open-h.ensures

pub returns : goal.returns
returns c =
    let there = ap (λ P. gap P c.args.range.first.0 (many c.args.range) c.args.n) (lent-held c.open-h.ensures) in
    c.is_some.ensures ∙ ap is_some (c.lowest_gap.ensures ∙ there)
