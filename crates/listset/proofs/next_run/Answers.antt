-- A world that was opened in a sound pool is not refused.
use Rattle.listset.proofs.Drawing.{draw-told, draw-granted}
use Rattle.listset.proofs.next_run.Goals as goal

pub unwrap-drawn-requires : goal.unwrap-drawn-requires
unwrap-drawn-requires c = draw-granted c.args.pool.words.now c.requires _ c.draw_front.ensures

pub returns : goal.returns
returns c = draw-told c.args.pool.words.now c.requires _ c.draw_front.ensures c.unwrap-drawn.ensures
