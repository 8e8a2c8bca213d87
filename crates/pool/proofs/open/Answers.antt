-- `open` meets its contract: the world that a record of a sound pool tells; words, and so offsets, are below 2^64. Assumes nothing.
use Rattle.pool.proofs.Base.{ℕ, ◌+◌, ◌*◌, ◌<◌, sym, subst, arith, size, World, record_at, world_at, Opened}
use Rattle.pool.proofs.Worlds.{opened-told}
use Rattle.pool.proofs.open.Goals as goal
use Rattle.pool.proofs.open.Goals.{After-read_world}

-- offsets are words
offsets : (c : After-read_world) (j : ℕ) → (world_at c.args.words.now j).offset < size
unfolding record_at
offsets c j = omega (arith, c.type_inv.words (8 * (j + 1) + 1))

pub returns : goal.returns
returns c =
    subst (λ (z : World). Opened c.args.words.now c.args.k z) (sym c.read_world.ensures)
    (opened-told c.args.words.now c.args.k c.requires (offsets (goal.at.returns c).After-read_world))
