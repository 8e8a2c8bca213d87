-- `first_after` meets its contract: the value and what the world told of the first position tell it, or the search does. Assumes nothing.
use Rattle.pool.proofs.Settling.{first-told}
use Rattle.pool.proofs.Resetting.{alone-first, earlier_first, spared-first}
use Rattle.pool.proofs.refresh.first_after.Goals as goal

pub returns-then-h-eq0 : goal.returns-then-h-eq0
returns-then-h-eq0 c = alone-first c.requires.1 c.if-value.true c.if-h-eq0.true

pub returns-then-value : goal.returns-then-value
returns-then-value c = earlier_first c.requires.1 c.if-value.true c.if-h-eq0.false c.min.ensures

pub returns-then-first-at : goal.returns-then-first-at
returns-then-first-at c = spared-first c.requires.1 c.if-value.false c.if-first-at.true

pub returns : goal.returns
returns c = first-told _ c.requires.1.4 _ c.of-set.ensures c.first_held.ensures
