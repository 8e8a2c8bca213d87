-- A map can be read into its window, and the map of a world can be painted from its nodes as they lie. Assumes nothing.
use Rattle.std.proofs.Common.{◌≡◌, ℕ, ◌+◌, ◌/◌, false, eqb, List, length, sym, subst, eqb-true}
use borrow.Author.Tests.{not-false}
use Rattle.model.specs.Refusals.{bad_window, bad_map}
use Rattle.maps.specs.Window.{MapOfWindow}
use Rattle.pool.specs.declared.World.{World}
use Rattle.pool.specs.Soundness.{Apart, footprint_of}
use Rattle.pool.specs.Settle.{Opened}
use Rattle.pool.proofs.Parts.{lent, lent-nodes}
use Rattle.maps.specs.Painted.{Scannable}
use Rattle.interval_bit_set.proofs.Doors.{lent-limited}
use Rattle.interval_bit_set.proofs.Windows.{fitting}

module _ (base n : ℕ) (bs : List ℕ) where
  -- a map that is not refused can be read
  pub map-window : bad_window base n ≡ false → bad_map n bs ≡ false → MapOfWindow base n bs
  unfolding bad_map
  map-window e f =
      let w = fitting base n e in
      record {
        some = w.some;
        few = w.few;
        within = w.below;
        exact = eqb-true (length bs) ((n + 7) / 8) (not-false (eqb (length bs) ((n + 7) / 8)) f);
      }

module _ {w : List ℕ} {i : ℕ} {h : World} (op : Opened w i h) where
  -- its nodes are told by their tag
  pub lent-scannable : Scannable (lent w) h
  lent-scannable = (
    footprint_of w i,
    record { standing = (lent-limited op).standing; apart = subst (λ v. Apart v (footprint_of w i)) (sym (lent-nodes w)) op.apart },
  )
