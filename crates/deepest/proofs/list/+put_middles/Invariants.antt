-- `put_middles` meets its contract: the middle rank itself after no parting, else those of the lesser part, and after them those of the greater one.
-- The measure is the height. Assumes nothing.
use Rattle.deepest.proofs.list.+put_middles.Given as goal

abbrev pub decreases-put_middles : goal.decreases-put_middles
decreases-put_middles l = l.h
