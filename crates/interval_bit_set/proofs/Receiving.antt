-- Runs that are given to a world: told by bytes or by a list they are refused where they are out of order, and else an open world receives them.
-- Assumes nothing.
use Rattle.std.specs.Prelude.{None, Some}
use Rattle.std.proofs.Common.{◌≡◌, ℕ, ◌≤◌, Bool, true, false, not, List, [], ◌∷◌, length, get_or, drop, sym, refl, ◌∙◌, subst, arith, w8, Fits}
use Rattle.model.specs.declared.Refusal.{Refusal}
use Rattle.model.specs.declared.Run.{Run}
use Rattle.model.specs.declared.Edition.{Edition}
use Rattle.model.specs.Numbers.{refusal_number}
use Rattle.model.specs.Positions.{stretches, mem}
use Rattle.model.specs.Bytes.{runs_told}
use Rattle.model.specs.RunList.{AllWords}
use Rattle.model.proofs.Codec.{decode-words}
use Rattle.model.specs.Refusals.{run_order, before_capacity, from_capacity, ◌when◌, first_given, refusal, ordered_from, disordered, set_conditions}
use Rattle.pool.specs.declared.World.{World}
use Rattle.pool.specs.Layout.{allowance}
use Rattle.pool.specs.Soundness.{footprint_of}
use Rattle.pool.specs.Settle.{Settled, Opened, Closing, Closes}
use Rattle.pool.proofs.Parts.{lent, back}
use Rattle.changes.specs.Overwriting.{Gathers}
use Rattle.codec.specs.Parsed.{Acceptable}
use Rattle.changes.specs.Overwriting.{Receives, Received}
use Rattle.model.proofs.Slices.{all-bytes}
use Rattle.run_lists.proofs.Ordered.{ordered-stretches, disorder-is}
use Rattle.codec.proofs.Telling.{accepted-runs, accepted-order}
use Rattle.interval_bit_set.specs.Met.{Readable}
use Rattle.interval_bit_set.proofs.Refusing.{first_alone}
use Rattle.interval_bit_set.proofs.Overwriting.{gather-roomy, gather-closing, gather-settled}

-- the set of the runs rs has n runs
pub record Many (n : ℕ) (rs : List Run) : Type 0 where
  pub are : n ≡ stretches (mem rs)

-- ---- a list, by the test of its order
module _ (rs : List Run) {r : Bool} (tested : r ≡ ordered_from 0 rs) where
  -- out of order it is refused
  pub order-refused : not r ≡ true → first_given before_capacity (run_order when disordered rs ∷ []) ≡ Some 5
  order-refused h = rw (disorder-is rs tested true h)

  -- and else not
  pub order-passes : not r ≡ false → refusal (run_order when disordered rs ∷ []) ≡ None
  order-passes h = rw (disorder-is rs tested false h)

-- in order, its set has as many runs
pub ordered-many : {rs : List Run} → (ordered_from 0 rs ≡ true) × AllWords rs → Many (length rs) rs
ordered-many {rs} o = record { are = sym (ordered-stretches rs o.1 o.0) }

-- ---- bytes, by what they tell
-- a refusal comes before too many runs
pub told-refused : (bs : List ℕ) (r : Refusal) → refusal (set_conditions bs) ≡ Some (refusal_number r) → first_given before_capacity (set_conditions bs) ≡ Some (refusal_number r)
told-refused bs r k = sym (first_alone before_capacity from_capacity (set_conditions bs) refl) ∙ k

-- accepted ones tell runs in order, whose ends are words
pub told-ordered : (bs : List ℕ) {e : Edition} {n : ℕ} → ((i : ℕ) → Fits w8 (get_or bs i 0)) → Acceptable bs e n
    → (ordered_from 0 (runs_told e n (drop 5 bs)) ≡ true) × AllWords (runs_told e n (drop 5 bs))
told-ordered bs f a = (accepted-order bs a, subst AllWords (sym (accepted-runs bs a)) (decode-words bs (all-bytes bs f)))

-- ---- n runs are given to an open world, which is no more than the limit that was told
module _ {w : List ℕ} {i : ℕ} {h : World} {n limit : ℕ} {rs : List Run} (R : Readable w i) (many : Many n rs) (told : limit ≡ allowance w i) (fits : n ≤ limit) (op : Opened w i h) where
  -- it may have them
  pub receive-few : stretches (mem rs) ≤ allowance w i
  receive-few = omega (arith, many.are, told, fits)

  -- and has the nodes
  pub receive-ready : Receives (lent w) h n
  receive-ready = let r = gather-roomy R receive-few op in (footprint_of w i, r.standing, omega (arith, many.are, r.enough))

  module _ (ys : List ℕ) {k : World} (got : Received (lent w) ys h n k rs) where
    -- they are gathered into it
    received : Gathers (lent w) ys h k (mem rs)
    received s r = got s r.standing (omega (arith, many.are, r.enough))

    -- so it can be closed
    pub receive-closing : Closing w (back w ys) k (mem rs)
    receive-closing = gather-closing R receive-few op ys received

    -- and has them
    pub receive-settled : {w' : List ℕ} → Closes (back w ys) w' k → Settled w w' i (mem rs)
    receive-settled cl = gather-settled R receive-few op ys received cl
