-- `last_after` meets its contract: the value and what the world told of the last position tell it, or the search does. Assumes nothing.
use Rattle.pool.proofs.Settling.{last-told}
use Rattle.pool.proofs.Resetting.{alone-last, later_last, spared-last}
use Rattle.pool.proofs.refresh.last_after.Goals as goal

pub returns-then-h-eq0 : goal.returns-then-h-eq0
returns-then-h-eq0 c = alone-last c.requires.1 c.if-value.true c.if-h-eq0.true

pub returns-then-value : goal.returns-then-value
returns-then-value c =
    later_last c.requires.1 c.if-value.true c.if-h-eq0.false c.max.ensures

pub returns-then-at-last : goal.returns-then-at-last
returns-then-at-last c = spared-last c.requires.1 c.if-value.false c.if-at-last.true

pub returns : goal.returns
returns c = last-told _ c.requires.1.4 _ c.of-set.ensures c.last_held.ensures
