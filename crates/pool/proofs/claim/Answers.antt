-- `claim` meets its contract: the count of logical runs is asked of the nodes, and tells those of the positions held. Assumes nothing.
use Rattle.pool.proofs.Base.{length, sym, ap, ◌∙◌, Set, world_at, nodes, Planted}
use Rattle.pool.proofs.Worlds.{planted-indexed, planted-counted}
use Rattle.pool.proofs.claim.Goals as goal
use Rattle.pool.proofs.claim.Goals.{Start}

-- the world's tree
planted : (c : Start) → Planted (nodes c.args.words.now) (world_at c.args.words.now c.args.k)
planted c = c.requires.planted

pub of-set-requires : goal.of-set-requires
of-set-requires c =
    planted-indexed c.args.words.now c.args.k (planted (goal.at.of-set-requires c).Start) c.read_world-h.result c.read_world-h.ensures

pub logical_runs-n-requires : goal.logical_runs-n-requires
logical_runs-n-requires c =
    planted-counted c.args.words.now c.args.k (planted (goal.at.logical_runs-n-requires c).Start) c.read_world-h.result c.read_world-h.ensures
    ∙ ap (λ (s : Set). length s.runs) (sym c.of-set.ensures)
