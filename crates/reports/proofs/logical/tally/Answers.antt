-- `tally` meets its contract: of one physical range, or of two, where the run across physical M and 0 is counted once.
-- Assumes nothing.
use Rattle.std.proofs.Common.{◌≡◌, ◌&&◌, suc, ◌-◌, sym, ap, ◌∙◌, arith}
use mathlib.Core.Bool.{beq}
use Rattle.model.specs.Positions.{mem}
use Rattle.reports.proofs.Reading.{tally-whole, count_fits, runs_fit, joined-some, tally-parted}
use Rattle.pool.proofs.Turn.{Lies, lies-from-to}
use Rattle.reports.proofs.logical.tally.Goals as goal
use Rattle.reports.proofs.logical.tally.Goals.{then-high-value, else-high-value, After-to_physical-last, After-from}

-- where the range lies
lies : (r : After-to_physical-last) → Lies r.args.set.now.offset r.args.r.first.0 (suc r.args.r.last.0 - r.args.r.first.0)
    r.to_physical-first.result.0 r.to_physical-last.result.0
lies r =
    lies-from-to r.args.r.ordered (omega (arith, r.well_formed)) (omega (arith, r.well_formed)) r.to_physical-first.ensures r.to_physical-last.ensures

-- whether a run is in both parts
joined : (c : After-from) → c.if-high-value.joined ≡ (beq c.get_physical-high.result c.args.value && beq c.get_physical-low.result c.args.value)
joined c = elim c.if-high-value.branch [
  | then-high-value w ↦ w.joined-is ∙ ap (λ b. b && beq c.get_physical-low.result c.args.value) (sym w.if-high-value.true)
  | else-high-value w ↦ w.joined-is ∙ w.if-high-value.false ∙ ap (λ b. b && beq c.get_physical-low.result c.args.value) (sym w.if-high-value.false)
]

pub returns-then-first-last : goal.returns-then-first-last
returns-then-first-last c =
    tally-whole (mem c.args.set.now.runs) (lies (goal.at.returns-then-first-last c).After-to_physical-last) c.args.value c.if-first-last.true c.tally_physical.ensures

pub plus-requires : goal.plus-requires
plus-requires c =
    count_fits (mem c.args.set.now.runs) (lies (goal.at.plus-requires c).After-to_physical-last) c.args.value c.if-first-last.false c.tally_physical-one.ensures
    c.tally_physical-two.ensures

pub overflow_add-result : goal.overflow_add-result
overflow_add-result c =
    runs_fit (mem c.args.set.now.runs) (lies (goal.at.overflow_add-result c).After-to_physical-last) c.args.value c.if-first-last.false c.tally_physical-one.ensures
    c.tally_physical-two.ensures

pub overflow_sub-result : goal.overflow_sub-result
overflow_sub-result c =
    omega (
      arith,
      c.from.ensures,
      joined-some (mem c.args.set.now.runs) (lies (goal.at.overflow_sub-result c).After-to_physical-last) c.args.value c.if-first-last.false
          c.tally_physical-one.ensures c.tally_physical-two.ensures c.get_physical-high.ensures.held c.get_physical-low.ensures.held (joined (goal.at.overflow_sub-result c).After-from),
    )

pub returns : goal.returns
returns c =
    let d = tally-parted (mem c.args.set.now.runs) (lies (goal.at.returns c).After-to_physical-last) c.args.value c.if-first-last.false c.tally_physical-one.ensures
    c.tally_physical-two.ensures c.get_physical-high.ensures.held c.get_physical-low.ensures.held (joined (goal.at.returns c).After-from) c.plus.ensures in
    record { count-is = d.count-is; runs-are = omega (arith, d.runs-are, c.from.ensures) }
