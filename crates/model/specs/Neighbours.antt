-- The positions next to a range, as the contracts of the code name them. Assumes nothing: these are definitions.
use Rattle.std.specs.Prelude.{Bool, false, ◌&&◌, ℕ, zero, suc, ltb}
use Rattle.model.specs.Numbers.{size}
use Rattle.model.specs.Positions.{Positions}

-- the values on both sides of the place before x are `true`: a run goes on from x − 1 to x
unfoldable pub goes_on : Positions → ℕ → Bool
goes_on P zero = false
goes_on P (suc x) = ltb (suc x) size && (P x && P (suc x))

-- the position before x is there and held
abbrev pub held_below : Positions → ℕ → Bool
held_below P zero = false
held_below P (suc x) = P x

-- the position after x is there and held
abbrev pub held_above : Positions → ℕ → Bool
held_above P x = ltb (suc x) size && P (suc x)
