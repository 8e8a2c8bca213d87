-- A world that was opened in a sound pool is not refused.
use Rattle.listset.proofs.Drawing.{tally-told, tally-granted}
use Rattle.listset.proofs.held_tally.Goals as goal

pub unwrap-requires : goal.unwrap-requires
unwrap-requires c = tally-granted c.args.pool.words.now c.requires _ c.tally.ensures

pub returns : goal.returns
returns c = tally-told c.args.pool.words.now c.requires _ c.tally.ensures c.unwrap.ensures
