-- The nodes of a pool are lent, as a part of its words, to functions on one world: what these ask of the part follows of the world that was
-- opened, and what they promise of it lets the world be closed again. Assumes nothing.
use Prim.Native.Nat.{ℕ, ◌≤◌}
use mathlib.Core.Path.{◌≡◌, sym, ap, ◌∙◌, subst, subst₂}
use mathlib.Core.List.{List}
use native.Mathlib.Omega.{arith}
use lib.ListN.{length}
use Rattle.model.specs.Numbers.{most_worlds}
use Rattle.model.specs.Positions.{Positions, stretches}
use Rattle.run_index.specs.Cells.{cell_at}
use Rattle.pool.specs.declared.World.{World}
use Rattle.pool.specs.Layout.{nodes, allowance, held_in, held_by}
use Rattle.pool.specs.Soundness.{Footprint, SameFrame, Stands, Limited, Editable, footprint_of}
use Rattle.pool.specs.Settle.{Settled, Became, Openable, Opened, Closing, Closes}
use Rattle.pool.proofs.Nodes.{sized-length}
use Rattle.pool.proofs.Parts.{lent, back, lent-nodes, back-nodes, back-front, back_long, cells-before}
use Rattle.changes.specs.Edits.{Movable}

-- the nodes are there to be lent
pub nodes-there : {w : List ℕ} {i : ℕ} → Openable w i → 128 ≤ length w
nodes-there {w} o = omega (arith, sized-length w o.sound.sized)

-- ---- a world that was opened, in the part
module _ {w : List ℕ} {i : ℕ} {h : World} (op : Opened w i h) where
  -- it holds there what world i does
  pub lent-held : held_in (lent w) h ≡ held_by w i
  lent-held = ap (λ v. held_in v h) (lent-nodes w) ∙ op.held

  -- it is within its allowance
  pub lent-limited : Limited (lent w) (footprint_of w i) h (allowance w i)
  lent-limited = subst (λ v. Limited v (footprint_of w i) h (allowance w i)) (sym (lent-nodes w)) op.limited

  -- so it stands
  pub lent-stands : Stands (lent w) h
  lent-stands = (footprint_of w i, lent-limited.standing)

  -- it may be edited up to the allowance
  pub lent-editable : {limit : ℕ} → limit ≡ allowance w i → Editable (lent w) h limit
  lent-editable e = (footprint_of w i, subst (Limited (lent w) (footprint_of w i) h) (sym e) lent-limited)

  -- and moved
  pub lent-movable : Movable (lent w) h
  lent-movable = (footprint_of w i, allowance w i, lent-limited)

-- ---- the part comes back as ys
-- nothing else has changed, if the words before the first node are as they were
pub back-before : (w ys : List ℕ) → 128 ≤ length w → cell_at ys 0 ≡ cell_at (nodes w) 0 → (m : ℕ) → m ≤ most_worlds → cell_at (back w ys) m ≡ cell_at w m
back-before w ys le e = cells-before w (back w ys) (back-front w ys le) (ap (λ v. cell_at v 0) (back-nodes w ys le) ∙ e)

-- no world has the words before the first node
pub still_before : {v ys : List ℕ} {s : Footprint} → SameFrame v ys s → cell_at ys 0 ≡ cell_at v 0
still_before st = st.cells 0 (λ p. absurd (omega arith))

module _ {w : List ℕ} {i : ℕ} (o : Openable w i) {ys : List ℕ} {k : World} {Q : Positions} (be : Became (lent w) ys (footprint_of w i) k Q) where
  -- the world there has the number of the one that was opened
  same_number : k.tag ≡ i
  same_number = be.shows.standing.kept.tagged

  -- the same of all nodes
  became-nodes : Became (nodes w) (nodes (back w ys)) (footprint_of w i) k Q
  became-nodes = subst₂ (λ a b. Became a b (footprint_of w i) k Q) (lent-nodes w) (sym (back-nodes w ys (nodes-there o))) be

  module _ (few : stretches Q ≤ allowance w i) where
    -- so it can be closed
    pub lent-closing : Closing w (back w ys) k Q
    lent-closing = record {
      openable = subst (Openable w) (sym same_number) o;
      before = back-before w ys (nodes-there o) (still_before be.still ∙ ap (λ v. cell_at v 0) (lent-nodes w));
      long = back_long w ys (nodes-there o) be.still.long;
      became = subst (λ j. Became (nodes w) (nodes (back w ys)) (footprint_of w j) k Q) (sym same_number) became-nodes;
      few = subst (λ j. stretches Q ≤ allowance w j) (sym same_number) few;
    }

    -- and then world i holds Q
    pub lent-settled : {w' : List ℕ} → Closes (back w ys) w' k → Settled w w' i Q
    lent-settled {w'} cl = subst (λ j. Settled w w' j Q) same_number (cl w Q lent-closing)
