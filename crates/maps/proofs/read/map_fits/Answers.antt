-- `map_fits` meets its contract: the runs that the map leaves are told by those outside the window, the map's, and the neighbours of the
-- window's ends. Assumes nothing.
use Rattle.std.proofs.Common.{◌≡◌, ℕ, ◌+◌, ◌-◌, true, ◌&&◌, refl, ap, ◌∙◌, ap₂, subst, arith}
use Rattle.model.specs.declared.between.Interval.{Interval}
use Rattle.model.specs.Positions.{one_if}
use Rattle.model.specs.Bytes.{map_bit, mapped}
use Rattle.model.specs.Neighbours.{held_below, held_above}
use Rattle.pool.specs.Layout.{held_in}
use Rattle.pool.proofs.Truths.{byte-one}
use Rattle.reports.proofs.Reading.{ranges-most}
use Rattle.changes.specs.Edits.{Surrounds}
use Rattle.changes.proofs.Neighbours.{both-yes, both-no}
use Rattle.changes.proofs.Fitting.{outside-few}
use Rattle.maps.specs.Window.{Part}
use Rattle.maps.proofs.Leaving.{map-fits-is}
use Rattle.maps.proofs.read.map_fits.Goals as goal
use Rattle.maps.proofs.read.map_fits.Goals.{After-around-outside, After-from-2, then-bit, else-bit, then-bit-2, else-bit-2}

-- where the window begins
first : {b : ℕ} {u : Interval} {e : ℕ} → Part b 0 e u → u.first.0 ≡ b
first p = omega (arith, p.first-is)

-- what is around it
around : (c : After-around-outside) → Surrounds (held_in c.args.words.now c.args.h) c.args.map.now.window.base (c.args.map.now.window.base + (c.args.map.now.window.n - 1)) c.around-outside.result
around c =
    subst (λ P. Surrounds P c.args.map.now.window.base (c.args.map.now.window.base + (c.args.map.now.window.n - 1)) c.around-outside.result) c.set_of-set.ensures.positions
    (rw (first c.part-whole.ensures, c.part-whole.ensures.last-is) at c.around-outside.ensures)

-- whether the map's first run goes on below the window
low : (c : After-from-2) → c.from.result ≡ one_if (map_bit c.args.map.now.bytes.now 0 && held_below (held_in c.args.words.now c.args.h) c.args.map.now.window.base)
low c =
    c.from.ensures ∙ byte-one _ ∙ ap one_if (elim c.if-bit.branch [
      | then-bit w ↦ w.before-is ∙ both-yes w.if-bit.true c.bit.ensures (w.held_before-before.ensures ∙ ap₂ held_below c.set_of-set.ensures.positions (first c.part-whole.ensures))
      | else-bit w ↦ w.before-is ∙ both-no _ w.if-bit.false c.bit.ensures
    ])

-- and whether its last one does above it
high : (c : After-from-2) → c.from-2.result
    ≡ one_if (map_bit c.args.map.now.bytes.now (c.args.map.now.window.n - 1) && held_above (held_in c.args.words.now c.args.h) (c.args.map.now.window.base + (c.args.map.now.window.n - 1)))
high c =
    c.from-2.ensures ∙ byte-one _ ∙ ap one_if (elim c.if-bit-2.branch [
      | then-bit-2 w ↦ w.after-is ∙ both-yes w.if-bit-2.true c.bit-2.ensures (w.held_after-after.ensures ∙ ap₂ held_above c.set_of-set.ensures.positions c.part-whole.ensures.last-is)
      | else-bit-2 w ↦ w.after-is ∙ both-no _ w.if-bit-2.false c.bit-2.ensures
    ])

pub overflow_add-result : goal.overflow_add-result
overflow_add-result c =
    let m = c.args.map.now in
    omega (
      arith,
      outside-few (around (goal.at.overflow_add-result c).After-around-outside) (omega arith) (omega (arith, m.fits.some, m.fits.within)) c.requires.editable.1 refl,
      c.requires.surveyed.runs-are,
      ranges-most (mapped m.window.base m.window.n m.bytes.now (held_in c.args.words.now c.args.h)) true m.window.base m.window.n,
      m.fits.few,
    )

pub returns : goal.returns
returns c =
    let at = (goal.at.returns c).After-from-2 in
    map-fits-is {P = held_in c.args.words.now c.args.h} c.args.limit c.args.map.now.fits (around (goal.at.returns c).After-around-outside) c.requires.surveyed.runs-are (low at) (high at)
