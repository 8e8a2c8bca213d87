-- Where a store keeps a position, and which position is kept there: the two undo each other. Assumes nothing.
use Rattle.pool.proofs.Base.{◌≡◌, ℕ, ◌^◌, ◌<◌, arith, physical_of, logical_of}

pub logical-physical : (x o : ℕ) → x < 2 ^ 64 → o < 2 ^ 64 → logical_of (physical_of x o) o ≡ x
logical-physical x o h k = omega arith

pub physical-logical : (x o : ℕ) → x < 2 ^ 64 → o < 2 ^ 64 → physical_of (logical_of x o) o ≡ x
physical-logical x o h k = omega arith
