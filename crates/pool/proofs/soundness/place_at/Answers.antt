-- `place_at` meets its contract: the tests are the definition's; what `bounds` returns of the tree is what the world's positions have. Assumes
-- nothing.
use Rattle.pool.proofs.Base.{length, sym, ap, ◌∙◌, Set}
use Rattle.pool.proofs.Placed.{world-counted, world-seen}
use Rattle.pool.proofs.soundness.place_at.Goals as goal

pub of-set-requires : goal.of-set-requires
of-set-requires c = world-seen c.args.words.now c.args.k c.read_world-h.ensures c.world_fits.ensures c.if-not-world_fits.false

pub logical_runs-n-requires : goal.logical_runs-n-requires
logical_runs-n-requires c = world-counted c.args.words.now c.args.k c.read_world-h.ensures c.world_fits.ensures c.if-not-world_fits.false ∙ ap (λ (s : Set). length s.runs) (sym c.of-set.ensures)
