-- Refusals laid flat are told from results. Assumes nothing.
use mathlib.Core.Path.{◌≡◌}
use native.Mathlib.Omega.{arith}
use Rattle.model.specs.declared.Refusal.{Refusal}
use Rattle.model.specs.Numbers.{refusal_number}
use Rattle.model.proofs.Numbers.{refusal-some}
use Rattle.model.specs.Call.{refused}
use Rattle.flat.specs.Flat.{reply_of}

-- a refusal is never flat as 0, so 0 says that a call was not refused
pub never-zero : (r : Refusal) → (reply_of (refused (refusal_number r))).refusal ≡ 0 → ⊥
never-zero r e = omega (arith, refusal-some r)
