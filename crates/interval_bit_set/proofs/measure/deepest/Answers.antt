-- `deepest` meets its contract: each of its tests in turn, and then the list is put in front. Assumes nothing.
use Rattle.std.proofs.Common.{◌≡◌, ◌≤◌, false, sym, ◌∙◌, arith}
use Rattle.model.specs.Deepest.{least}
use Rattle.model.specs.Refusals.{bad_height}
use Rattle.pool.specs.Layout.{capacity}
use Rattle.interval_bit_set.proofs.Measuring.{good-height, no-height, over-height, list-fits, deepest-no-pool, deepest-no-height, deepest-over, deepest-short, deepest-done}
use Rattle.interval_bit_set.proofs.measure.deepest.Goals as goal
use Rattle.interval_bit_set.proofs.measure.deepest.Goals.{Else-h-gt-MAX_HEIGHT, Else-n-s, Else-s-eq0}

-- what is known there: the capacity is some, the height is good, the list has so many runs, and these fit
sized : (c : Else-s-eq0) → 1 ≤ capacity c.args.words.now
sized c = omega (arith, c.if-s-eq0.false, c.of_length-s.ensures)

low : (c : Else-h-gt-MAX_HEIGHT) → c.args.h ≤ 22
low c = omega (arith, c.if-h-gt-MAX_HEIGHT.false)

good : (c : Else-h-gt-MAX_HEIGHT) → bad_height c.args.h ≡ false
good c = good-height _ (omega (arith, c.if-h-eq0.false)) (low c)

many : (c : Else-n-s) → c.least_runs-n.result ≡ least c.args.h
many c = c.least_runs-n.ensures

fits : (c : Else-n-s) → least c.args.h ≤ capacity c.args.words.now
fits c = omega (arith, c.if-n-s.false, many c, c.of_length-s.ensures)

pub returns-then-s-eq0 : goal.returns-then-s-eq0
returns-then-s-eq0 c = deepest-no-pool _ _ _ (sym c.of_length-s.ensures ∙ c.if-s-eq0.true)

pub returns-then-h-eq0 : goal.returns-then-h-eq0
returns-then-h-eq0 c = deepest-no-height _ _ _ (sized (goal.at.returns-then-h-eq0 c).Else-s-eq0) (no-height _ c.if-h-eq0.true)

pub returns-then-h-gt-MAX_HEIGHT : goal.returns-then-h-gt-MAX_HEIGHT
returns-then-h-gt-MAX_HEIGHT c = deepest-no-height _ _ _ (sized (goal.at.returns-then-h-gt-MAX_HEIGHT c).Else-s-eq0) (over-height _ c.if-h-gt-MAX_HEIGHT.true)

pub returns-then-n-s : goal.returns-then-n-s
returns-then-n-s c =
    deepest-over _ _ _ (sized (goal.at.returns-then-n-s c).Else-s-eq0) (good (goal.at.returns-then-n-s c).Else-h-gt-MAX_HEIGHT) (omega (arith, c.if-n-s.true, c.least_runs-n.ensures, c.of_length-s.ensures))

pub returns-then-out-due : goal.returns-then-out-due
returns-then-out-due c =
    deepest-short _ _ _ (sized (goal.at.returns-then-out-due c).Else-s-eq0) (good (goal.at.returns-then-out-due c).Else-h-gt-MAX_HEIGHT) (fits (goal.at.returns-then-out-due c).Else-n-s)
    (omega (arith, c.if-out-due.true, many (goal.at.returns-then-out-due c).Else-n-s))

pub put_deepest-requires : goal.put_deepest-requires
put_deepest-requires c =
    record {
      some = omega (arith, c.if-h-eq0.false);
      low = low (goal.at.put_deepest-requires c).Else-h-gt-MAX_HEIGHT;
      many = many (goal.at.put_deepest-requires c).Else-n-s;
      room = list-fits c.args.h
          c.args.out.now (omega (arith, c.if-out-due.false, many (goal.at.put_deepest-requires c).Else-n-s));
    }

pub returns : goal.returns
returns c =
    deepest-done _ _ _ (sized (goal.at.returns c).Else-s-eq0) (good (goal.at.returns c).Else-h-gt-MAX_HEIGHT) (fits (goal.at.returns c).Else-n-s) _ (many (goal.at.returns c).Else-n-s)
    (omega (arith, c.if-out-due.false, many (goal.at.returns c).Else-n-s)) c.put_deepest.ensures
