-- `lowest_gap` meets its contract. The loop's invariant: the reader stands at x, at least n positions of the range are left, and the lowest gap
-- of what is left is the range's. Assumes nothing.
use mathlib.Core.Path.{sym}
use native.Mathlib.Omega.{arith}
use Rattle.streams.proofs.Starts.{standing-rooted}
use Rattle.streams.proofs.Gapped.{gap-short, sought-run, sought-before, sought-over, sought-on, sought-clear}
use Rattle.streams.proofs.gaps.lowest_gap.Goals as goal

pub returns-then-range-n : goal.returns-then-range-n
returns-then-range-n c = sym (gap-short _ _ _ _ c.args.range.ordered c.if-range-n.true)

pub begin-requires : goal.begin-requires
begin-requires c = record {
  rooted = rw (c.new-runs.ensures.words, c.new-runs.ensures.view) (standing-rooted c.requires.stands.1);
  bare = c.new-runs.ensures.bare;
}

pub overflow_sub-r : goal.overflow_sub-r
overflow_sub-r c = omega (arith, (sought-run c.loop-r.invariant c.in-Some.ensures.steps).onward)

pub returns-then-r-x : goal.returns-then-r-x
returns-then-r-x c = sym (sought-before c.loop-r.invariant c.in-Some.ensures.steps c.if-r-x.true)

pub returns-then-saturating_sub-n : goal.returns-then-saturating_sub-n
returns-then-saturating_sub-n c =
    sym (sought-over c.loop-r.invariant c.in-Some.ensures.steps c.requires.some c.if-r-x.false (omega (arith, c.if-saturating_sub-n.true, c.saturating_sub.ensures)))

pub loop-r-preserved : goal.loop-r-preserved
loop-r-preserved c =
    sought-on c.loop-r.invariant c.in-Some.ensures.steps c.requires.some c.if-r-x.false (omega (arith, c.if-saturating_sub-n.false, c.saturating_sub.ensures))

pub returns : goal.returns
returns c = sym (sought-clear c.loop-r.invariant c.in_default.ensures.steps (omega (arith, c.well_formed)))
