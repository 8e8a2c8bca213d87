-- `select` meets its contract: the k-th position of one physical range, or of two, where those of the second follow those of the first.
-- Assumes nothing.
use Rattle.std.proofs.Common.{suc, ◌-◌, ap, ◌∙◌, subst, sym, arith}
use Rattle.model.specs.Numbers.{size}
use Rattle.model.specs.Positions.{mem}
use Rattle.reports.specs.Reports.{logical_number, Place}
use Rattle.reports.proofs.Reading.{place-ok, place-none, selected-whole, unselected-whole, selected-first, selected-second, unselected-second}
use Rattle.pool.proofs.Turn.{Lies, lies-from-to}
use Rattle.reports.proofs.logical.select.Goals as goal
use Rattle.reports.proofs.logical.select.Goals.{then-first-last, else-first-last+in-Ok, else-first-last+in-Err, After-to_physical-last}

-- where the range lies
lies : (r : After-to_physical-last) → Lies r.args.set.now.offset r.args.r.first.0 (suc r.args.r.last.0 - r.args.r.first.0)
    r.to_physical-first.result.0 r.to_physical-last.result.0
lies r =
    lies-from-to r.args.r.ordered (omega (arith, r.well_formed)) (omega (arith, r.well_formed)) r.to_physical-first.ensures r.to_physical-last.ensures

pub returns-in_err-p : goal.returns-in_err-p
returns-in_err-p c =
    let d = place-none c.ok.ensures.value c.in_err-p.was in
    let at = lies (goal.at.returns-in_err-p c).After-to_physical-last in
    ap logical_number c.from_residual.ensures ∙ (elim c.if-first-last.branch [
      | then-first-last w ↦ unselected-whole (mem c.args.set.now.runs) at c.args.value c.args.k d.0 w.if-first-last.true
          (subst (Place (mem c.args.set.now.runs) c.args.value c.to_physical-first.result.0 (suc c.to_physical-last.result.0 - c.to_physical-first.result.0) c.args.k) (sym w.place-is ∙ d.1) w.chosen-place.ensures)
      | else-first-last+in-Ok w ↦ let q = sym w.place-is ∙ d.1 in absurd (cc)
      | else-first-last+in-Err w ↦ unselected-second (mem c.args.set.now.runs) at c.args.value c.args.k w.if-first-last.false w.in-Err.left
          (subst (Place (mem c.args.set.now.runs) c.args.value c.to_physical-first.result.0 (suc (size - 1) - c.to_physical-first.result.0) c.args.k) w.in-Err.is w.chosen.ensures) d.0
          (subst (Place (mem c.args.set.now.runs) c.args.value 0 (suc c.to_physical-last.result.0 - 0) w.in-Err.left) (sym w.place-is ∙ d.1) w.chosen-in-Err.ensures)
    ])

pub returns : goal.returns
returns c =
    let q = place-ok c.ok.ensures.value c.in_ok-p.was in
    let at = lies (goal.at.returns c).After-to_physical-last in
    elim c.if-first-last.branch [
      | then-first-last w ↦ selected-whole (mem c.args.set.now.runs) at c.args.value w.if-first-last.true
          (subst (Place (mem c.args.set.now.runs) c.args.value c.to_physical-first.result.0 (suc c.to_physical-last.result.0 - c.to_physical-first.result.0) c.args.k) (sym w.place-is ∙ q) w.chosen-place.ensures) c.to_logical.ensures
      | else-first-last+in-Ok w ↦ selected-first (mem c.args.set.now.runs) at c.args.value c.args.k w.if-first-last.false
          (subst (Place (mem c.args.set.now.runs) c.args.value c.to_physical-first.result.0 (suc (size - 1) - c.to_physical-first.result.0) c.args.k) (w.in-Ok.is ∙ sym w.place-is ∙ q) w.chosen.ensures) c.to_logical.ensures
      | else-first-last+in-Err w ↦ selected-second (mem c.args.set.now.runs) at c.args.value c.args.k w.if-first-last.false w.in-Err.left
          (subst (Place (mem c.args.set.now.runs) c.args.value c.to_physical-first.result.0 (suc (size - 1) - c.to_physical-first.result.0) c.args.k) w.in-Err.is w.chosen.ensures)
          (subst (Place (mem c.args.set.now.runs) c.args.value 0 (suc c.to_physical-last.result.0 - 0) w.in-Err.left) (sym w.place-is ∙ q) w.chosen-in-Err.ensures) c.to_logical.ensures
    ]
