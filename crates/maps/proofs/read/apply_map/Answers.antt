-- `apply_map` meets its contract. The loop's invariant: the window was cleared, and the bits before that from which on stretches are still to
-- come are read into it. Assumes nothing.
use Rattle.std.proofs.Common.{◌≤◌, sym, ap, ◌∙◌, subst}
use Rattle.maps.specs.Stretches.{NextStretch}
use Rattle.maps.proofs.Applying.{Applying, one-settable, one-done, clearable, applying-none, applying-done, stretch-settable, applying-set, applying-left}
use Rattle.maps.proofs.read.apply_map.Goals as goal
use Rattle.maps.proofs.read.apply_map.Goals.{In-Some}

-- the stretch that came is the map's next one
came : {g : _} (c : In-Some g) → NextStretch c.args.map.now.bytes.now c.args.map.now.window.n c.loop-s.s-iterator.from c.in-Some.s c.next.new.self.from
came c = subst (λ m. NextStretch m.bytes.now m.window.n c.loop-s.s-iterator.from c.in-Some.s c.next.new.self.from) c.loop-s.invariant.0 c.in-Some.ensures.steps.1

pub apply_set-requires : goal.apply_set-requires
apply_set-requires g c = one-settable c.requires c.part-whole.ensures c.stretch_end.ensures c.if-stretch_end-n.true c.bit.ensures

pub returns-then-stretch_end-n : goal.returns-then-stretch_end-n
returns-then-stretch_end-n g c =
    one-done c.requires c.part-whole.ensures c.stretch_end.ensures c.if-stretch_end-n.true c.bit.ensures c.apply_set.ensures.0

pub apply_set-at-requires : goal.apply_set-at-requires
apply_set-at-requires g c = clearable c.requires c.part-whole.ensures c.stretch_end.ensures c.if-stretch_end-n.false

pub loop-s-init : goal.loop-s-init
loop-s-init g c =
    let m = c.args.map.now in
    let w = c.apply_set-at.new.words in
    let a = c.apply_set-at.result in
    let from = ap (λ s. s.from) c.into_iter-s-iterator.ensures.into_iter_gives ∙ c.of-s-items.ensures.1 in (
      ap (λ s. s.map.now) c.into_iter-s-iterator.ensures.into_iter_gives ∙ c.of-s-items.ensures.0,
      subst (λ i. Applying w w a a m.window.base m.window.n m.bytes.now i) (sym from)
          (applying-none c.requires c.part-whole.ensures c.stretch_end.ensures c.if-stretch_end-n.false c.apply_set-at.ensures.0),
    )

pub apply_set-at-requires-then-s : goal.apply_set-at-requires-then-s
apply_set-at-requires-then-s g c =
    stretch-settable c.loop-s.invariant.1 (came (goal.at.apply_set-at-requires-then-s g c).In-Some) c.part.ensures c.if-s.true

pub loop-s-preserved-then-s : goal.loop-s-preserved-then-s
loop-s-preserved-then-s g c = (
  c.in-Some.ensures.steps.0 ∙ c.loop-s.invariant.0,
  applying-set c.loop-s.invariant.1 (came (goal.at.loop-s-preserved-then-s g c).In-Some) c.part.ensures c.if-s.true c.apply_set-at-then-s.ensures.0,
)

pub loop-s-preserved : goal.loop-s-preserved
loop-s-preserved g c =
    (c.in-Some.ensures.steps.0 ∙ c.loop-s.invariant.0, applying-left c.loop-s.invariant.1 (came (goal.at.loop-s-preserved g c).In-Some) c.if-s.false)

pub returns : goal.returns
returns g c =
    applying-done c.requires c.part-whole.ensures c.stretch_end.ensures c.if-stretch_end-n.false c.apply_set-at.ensures.0
    c.loop-s.invariant.1 (subst (λ m. m.window.n ≤ c.loop-s.s-iterator.from) c.loop-s.invariant.0 c.in-None.ensures.steps.1.0)
