-- Where a store keeps a position. Assumes nothing: these are definitions.
use Rattle.std.specs.Prelude.{ℕ, ◌+◌, ◌-◌, ◌%◌, ◌^◌}

-- physical = logical − offset, modulo 2^64, and back
abbrev pub physical_of : ℕ → ℕ → ℕ
physical_of x o = (x + 2 ^ 64 - o) % 2 ^ 64

abbrev pub logical_of : ℕ → ℕ → ℕ
logical_of x o = (x + o) % 2 ^ 64
