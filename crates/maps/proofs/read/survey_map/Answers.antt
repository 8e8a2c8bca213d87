-- `survey_map` meets its contract. The loop's invariant: the runs and the changes of the window are counted up to the bit from which on stretches
-- are still to come. Assumes nothing.
use Rattle.std.proofs.Common.{◌≤◌, sym, ap, ◌∙◌, subst, arith}
use Rattle.pool.specs.Layout.{held}
use Rattle.maps.specs.Stretches.{NextStretch}
use Rattle.maps.proofs.Surveying.{Surveying, surveying-none, counted, low_fits, surveying-next, surveying-done}
use Rattle.maps.proofs.read.survey_map.Goals as goal
use Rattle.maps.proofs.read.survey_map.Goals.{In-Some}

-- the stretch that came is the map's next one
came : {g : _} (c : In-Some g) → NextStretch c.args.map.now.bytes.now c.args.map.now.window.n c.loop-s.s-iterator.from c.in-Some.s c.next.new.self.from
came c = subst (λ m. NextStretch m.bytes.now m.window.n c.loop-s.s-iterator.from c.in-Some.s c.next.new.self.from) c.loop-s.invariant.0 c.in-Some.ensures.steps.1

pub loop-s-init : goal.loop-s-init
loop-s-init g c =
    let m = c.args.map.now in
    let from = ap (λ s. s.from) c.into_iter-s-iterator.ensures.into_iter_gives ∙ c.of-s-items.ensures.1 in (
      ap (λ s. s.map.now) c.into_iter-s-iterator.ensures.into_iter_gives ∙ c.of-s-items.ensures.0,
      subst (λ i. Surveying (held c.args.set.now) m.window.base m.window.n m.bytes.now i 0 0) (sym from) (surveying-none _ _ _ _),
    )

pub overflow_add-changed : goal.overflow_add-changed
overflow_add-changed g c =
    let s = came (goal.at.overflow_add-changed g c).In-Some in
    let few = c.args.map.now.fits.few in
    omega (arith, low_fits c.loop-s.invariant.1 s few c.part.ensures c.tally-other.ensures, s.within, s.next-is, s.ends.upto, few)

pub loop-s-preserved : goal.loop-s-preserved
loop-s-preserved g c =
    let s = came (goal.at.loop-s-preserved g c).In-Some in (
      c.in-Some.ensures.steps.0 ∙ c.loop-s.invariant.0,
      surveying-next c.loop-s.invariant.1 s c.args.map.now.fits.few c.part.ensures c.tally-other.ensures (counted _ _ c.from-runs.ensures),
    )

pub returns : goal.returns
returns g c =
    surveying-done c.args.map.now.fits c.loop-s.invariant.1 (subst (λ m. m.window.n ≤ c.loop-s.s-iterator.from) c.loop-s.invariant.0 c.in-None.ensures.steps.1.0)
