-- Calls on a lent slice alone, without a pool. Assumes nothing: these are definitions.
use Rattle.std.specs.Prelude.{ℕ, ◌≡◌, List}
use Rattle.model.specs.Call.{Answer}
use Rattle.model.specs.Handled.{Handled}

-- THE CONTRACT of such a call, which the model says to be handled as h: it answered a and left the whole slice bs
pub record Handles (h : Handled) (a : Answer) (bs : List ℕ) : Type 0 where
  pub answered : a ≡ h.answer
  pub left : bs ≡ h.slice
