-- Calls that overwrite a world, whatever it held: they change it to a set that does not depend on what it held. The runs of that set are
-- counted first; then its nodes are given back, and the set is gathered into free ones. Assumes nothing.
use Rattle.std.specs.Prelude.{Ok, Err}
use Rattle.std.specs.Prelude.{None}
use Rattle.model.specs.Answers.{OrRefusal}
use Prim.Native.Nat.{ℕ, ◌≤◌, ◌<◌}
use mathlib.Core.Path.{◌≡◌, refl, sym, ap, ◌∙◌, subst}
use mathlib.Core.Bool.{Bool, true, false, not}
use mathlib.Core.List.{List, ◌∷◌}
use native.Mathlib.Omega.{arith}
use lib.Dec.{leb}
use borrow.Author.Tests.{leb-true, leb-false, not-true, not-false}
use Rattle.model.specs.Numbers.{size}
use Rattle.model.specs.Positions.{Positions, stretches}
use Rattle.model.specs.Refusals.{Condition, refusal}
use Rattle.model.specs.Call.{Fed, Call, done}
use Rattle.model.specs.Answers.{completed_answer}
use Rattle.model.specs.Model.{plan, overwriting, look}
use Rattle.pool.specs.declared.World.{World}
use Rattle.pool.specs.Layout.{allowance}
use Rattle.pool.specs.Soundness.{footprint_of}
use Rattle.pool.specs.Settle.{Settled, Became, Opened, Closing, Closes}
use Rattle.pool.proofs.Parts.{lent, back}
use Rattle.changes.specs.Overwriting.{Roomy, Gathers}
use Rattle.interval_bit_set.specs.Met.{Site, fed_of, fed_at, Met, Readable}
use Rattle.interval_bit_set.specs.Joined.{Carried}
use Rattle.interval_bit_set.specs.Look.{Checked}
use Rattle.interval_bit_set.proofs.Looking.{sound-checked}
use Rattle.interval_bit_set.proofs.Doors.{lent-limited, lent-closing, lent-settled}
use Rattle.interval_bit_set.proofs.Changing
use Rattle.interval_bit_set.proofs.Changing.{Changes, full, changes-to}

-- the call c has the conditions cs, and overwrites the world by Q
abbrev pub Overwrites : List ℕ → ℕ → Call Site → List Condition → Positions → Type 0
Overwrites w i c cs Q = Changes w i c cs (λ P. Q) (λ P. done)

-- ---- whether it fits, by a test against the allowance that the words told
module _ (n s C : ℕ) {r : Bool} (tested : r ≡ leb n s) (told : s ≡ C) where
  -- more runs than it
  pub test-full : not r ≡ true → C < n
  test-full h = subst (λ k. k < n) told (leb-false n s (sym tested ∙ not-true r h))

  -- at most as many
  pub test_fits : not r ≡ false → n ≤ C
  test_fits h = subst (λ k. n ≤ k) told (leb-true n s (sym tested ∙ not-false r h))

-- ---- Q is gathered into an open world
module _ {w : List ℕ} {i : ℕ} {h : World} {Q : Positions} (R : Readable w i) (few : stretches Q ≤ allowance w i) (op : Opened w i h) where
  -- it has nodes for the runs
  pub gather-roomy : Roomy (lent w) (footprint_of w i) h Q
  gather-roomy = let l = lent-limited op in record { standing = l.standing; enough = omega (arith, few, l.enough) }

  module _ (ys : List ℕ) {k : World} (G : Gathers (lent w) ys h k Q) where
    gathered : Became (lent w) ys (footprint_of w i) k Q
    gathered = G (footprint_of w i) gather-roomy

    -- so it can be closed
    pub gather-closing : Closing w (back w ys) k Q
    gather-closing = lent-closing R.openable gathered few

    -- and holds Q
    pub gather-settled : {w' : List ℕ} → Closes (back w ys) w' k → Settled w w' i Q
    gather-settled cl = lent-settled R.openable gathered few cl

-- ---- the contract, by whether what was made fits
module _ {w : List ℕ} {i : ℕ} {c : Call Site} {cs : List Condition} {Q : Positions} (says : Overwrites w i c cs Q) (R : Readable w i) (Q' : Positions) (quiet : refusal cs ≡ None)
    (alike : (x : ℕ) → x < size → Q' x ≡ Q x) {w' : List ℕ} where
  pub carried : (r : OrRefusal Unit) → Carried w w' i Q' r → Met w i c (completed_answer r) w'
  carried (Ok u) h = changes-to says R quiet Q' alike h.0 h.1 refl
  carried (Err r) h = subst (λ e. Met w i c (completed_answer (Err e)) w') (sym h.0) (full says R quiet Q' alike (h.1, h.2))

-- either way the pool would pass the check again
pub carried-kept : {w w' : List ℕ} (i : ℕ) (Q : Positions) (r : OrRefusal Unit) → Checked w → Carried w w' i Q r → Checked w'
carried-kept i Q (Ok u) k h = sound-checked h.1.sound
carried-kept i Q (Err r) k h = subst Checked (sym h.2) k

-- ---- what readable worlds earn: nothing
pub reads-nothing : {w : List ℕ} {i : ℕ} (ss : List Fed) → Readable w i → look ss ≡ None → look (fed_of w i ∷ ss) ≡ None
reads-nothing ss R e = ap (λ f. look (f ∷ ss)) R.fed ∙ e

-- a call overwrites the world by Q, made of worlds that can be read
pub makes : {w : List ℕ} {i : ℕ} {c : Call Site} {fs : List Fed} {cs : List Condition} {Q : Positions} → plan fed_at c ≡ overwriting fs cs Q → look fs ≡ None
    → Overwrites w i c cs Q
makes e q = record { further = _; read = q; effect = _; alters = Changing.overwriting _ _ (λ P. refl); said = e }
