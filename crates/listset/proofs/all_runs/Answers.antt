-- A world that was opened in a sound pool is not refused.
use Rattle.listset.proofs.Drawing.{listing-told, listing-granted}
use Rattle.listset.proofs.all_runs.Goals as goal

pub unwrap-requires : goal.unwrap-requires
unwrap-requires c = listing-granted c.args.pool.words.now c.requires _ c.ranges-2.ensures

pub returns : goal.returns
returns c = listing-told c.args.pool.words.now c.requires _ c.ranges-2.ensures c.unwrap.ensures
