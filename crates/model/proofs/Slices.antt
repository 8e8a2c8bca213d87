-- What is known of a lent slice of bytes, as the laws of bytes ask for it. Assumes nothing.
use mathlib.Core.List.{List, [], ◌∷◌}
use Prim.Native.Nat.{ℕ, suc}
use native.Mathlib.Omega.{arith}
use lib.ListN.{get_or}
use mir.Syntax.{w8}
use mir.Val.{Fits}
use Rattle.model.specs.RunList.{AllBytes}

-- what a slice of bytes has are bytes
pub all-bytes : (bs : List ℕ) → ((i : ℕ) → Fits w8 (get_or bs i 0)) → AllBytes bs
all-bytes [] f = tt
all-bytes (b ∷ bs) f = (omega (arith, f 0), all-bytes bs (λ i. f (suc i)))
