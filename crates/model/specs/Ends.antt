-- The ends of ranges, which are the library's. Assumes nothing: this is a definition.
use Rattle.std.specs.Prelude.{ℕ}
use Rattle.std.specs.declared.ops.Bound as ops

-- one end of a range of positions
abbrev pub Bound : Type 0
Bound = ops.Bound ℕ
