-- A world that is emptied: it is built of no runs, which are in order and not too many. Assumes nothing.
use Rattle.std.specs.Prelude.{None}
use Rattle.std.specs.Prelude.{◌≡◌, ℕ, ◌≤◌, List, [], ◌∷◌}
use mathlib.Core.Path.{refl, sym, ap}
use native.Mathlib.Omega.{arith}
use Rattle.model.specs.Positions.{empty, stretches}
use Rattle.model.proofs.Calc.{mem-empty}
use Rattle.model.specs.Refusals.{run_order, ◌when◌, refusal, ordered_from, disordered}
use Rattle.model.specs.Call.{Call, done, gave}
use Rattle.pool.specs.declared.World.{World}
use Rattle.pool.specs.Layout.{allowance}
use Rattle.pool.specs.Soundness.{footprint_of}
use Rattle.pool.specs.Settle.{Became, Opened, Closing, Closes}
use Rattle.pool.proofs.Emptying.{empty-stretches}
use Rattle.pool.proofs.Parts.{lent, back}
use Rattle.changes.specs.Edits.{Empties}
use Rattle.interval_bit_set.specs.Met.{Met, Readable}
use Rattle.interval_bit_set.proofs.Doors.{lent-limited, lent-closing, lent-settled}
use Rattle.interval_bit_set.proofs.Changing.{changes-to}
use Rattle.interval_bit_set.proofs.Overwriting.{makes}

-- no runs are in order
none-ordered : refusal (run_order when disordered [] ∷ []) ≡ None
unfolding disordered ordered_from
none-ordered = refl

module _ {w : List ℕ} {i : ℕ} {h : World} (R : Readable w i) (op : Opened w i h) (ys : List ℕ) {k : World} (em : Empties (lent w) ys h k) where
  became : Became (lent w) ys (footprint_of w i) k empty
  became = em (footprint_of w i) (lent-limited op).standing

  few : stretches empty ≤ allowance w i
  few = omega (arith, empty-stretches)

  -- it can be closed
  pub empty-closing : Closing w (back w ys) k empty
  empty-closing = lent-closing R.openable became few

  -- and then holds what no runs do
  pub empty-done : {w' : List ℕ} → Closes (back w ys) w' k → Met w i (Call.build []) (gave done) w'
  empty-done cl = changes-to (makes refl refl) R none-ordered empty (λ x l. ap (λ P. P x) (sym mem-empty)) few (lent-settled R.openable became few cl) refl
