-- A map that was cleared. Assumes nothing: this is a definition.
use Rattle.std.specs.Prelude.{ℕ, ◌≡◌, List}
use Rattle.model.specs.Bytes.{stray_bits, cleared}

-- the map bs of n positions, of which r padding bits were one, was cleared
pub record Clears (n : ℕ) (bs : List ℕ) (r : ℕ) (bs' : List ℕ) : Type 0 where
  pub counted : r ≡ stray_bits n bs
  pub left : bs' ≡ cleared n bs
