-- `heights_fit` meets its contract: the differences are at most 1 each and together exactly where the heights are as defined. Assumes
-- nothing.
use Rattle.std.proofs.Common.{ℕ, ◌+◌, ◌-◌, ◌%◌, ◌^◌, arith, refl}
use Rattle.pool.proofs.Tests.{heights-last}
use Rattle.pool.proofs.soundness.heights_fit.Goals as goal

pub returns : goal.returns
returns c =
    let a : ℕ = (c.args.h - 1 + (2 ^ 64 - c.args.h1)) % 2 ^ 64 in
    let b : ℕ = (c.args.h - 1 + (2 ^ 64 - c.args.h2)) % 2 ^ 64 in
    heights-last c.args.h c.args.h1 c.args.h2 a b _ c.requires (omega (arith, c.ranges.h1)) (omega (arith, c.ranges.h2)) (omega arith) (omega arith)
    (omega (arith, c.requires, c.ranges.h, c.ranges.h1)) (omega (arith, c.requires, c.ranges.h, c.ranges.h2)) refl
