-- A set grows the tree of its world: what the change says of the nodes that were lent holds of the world's tree in the pool, since closing writes
-- no node. Assumes nothing.
use Prim.Native.Nat.{ℕ, zero, suc, ◌-◌, ◌≤◌}
use mathlib.Core.Path.{◌≡◌, refl, sym, ap, ap₂, ◌∙◌, subst, subst₂}
use mathlib.Core.Bool.{Bool}
use mathlib.Core.List.{List}
use native.Mathlib.Omega.{arith}
use Rattle.changes.specs.Edits.{changed_to, Edited, Grows, GrowsBy}
use Rattle.changes.specs.declared.edit.Edit.{Edit}
use Rattle.std.specs.Prelude.{Option}
use Rattle.model.specs.Ends.{Bound}
use Rattle.model.specs.Positions.{Positions}
use Rattle.model.specs.RunList.{TouchesNone}
use Rattle.model.specs.declared.Count.{Count}
use Rattle.model.specs.declared.between.Interval.{Interval}
use Rattle.model.specs.Range.{first_allowed, past_allowed, extent}
use Rattle.run_index.specs.Cells.{cell_at}
use Rattle.run_index.specs.declared.Node.{Node}
use Rattle.run_index.specs.Tree.{node, inorder, tree_from}
use Rattle.run_index.specs.Shape.{inserted}
use Rattle.pool.specs.declared.World.{World}
use Rattle.pool.specs.declared.layout.Record.{Record}
use Rattle.pool.specs.Layout.{record_at, world_at, nodes, Headed, highest, tree_at, allowance}
use Rattle.pool.specs.Settle.{Closing, Opened}
use Rattle.pool.specs.Soundness.{Limited, footprint_of}
use Rattle.pool.proofs.Closing.{closing-nodes}
use Rattle.pool.proofs.Parts.{lent, back, lent-nodes, back-nodes}
use Rattle.interval_bit_set.specs.Grown.{shape, Unturned, Clear, PutIn}
use Rattle.interval_bit_set.specs.Met.{Readable}
use Rattle.interval_bit_set.proofs.Changing.{edit-closing, edit-told}
use Rattle.interval_bit_set.proofs.Doors.{lent-limited, nodes-there}
use Rattle.interval_bit_set.proofs.Shapes.{shape-inserted}
use Rattle.interval_bit_set.proofs.Spans.{Allowed}

-- nodes that stay give the tree that they gave
module _ (w w' : List ℕ) (same : (m : ℕ) → 1 ≤ m → cell_at w' m ≡ cell_at w m) where
  same-tree : (d p : ℕ) → tree_from d w' p ≡ tree_from d w p
  unfolding tree_from
  same-tree zero p = refl
  same-tree (suc d) zero = refl
  same-tree (suc d) (suc k) =
      let v = cell_at w (suc k) in
      ap (λ (u : Node). node (suc k) u.start u.«end» (tree_from d w' u.left) (tree_from d w' u.right)) (same (suc k) (omega arith))
      ∙ ap₂ (node (suc k) v.start v.«end») (same-tree d v.left) (same-tree d v.right)

-- the tree of a world, as its root has it
tree-is : (w : List ℕ) (i : ℕ) → tree_at w i ≡ tree_from highest (nodes w) (world_at w i).root
unfolding tree_at
tree-is w i = refl

-- no range is put in where it has no position
pub none-grows : {w : List ℕ} {i : ℕ} {l u : Bound} {v : Bool} → extent l u ≡ 0 → Unturned w i → PutIn w i l u v w
none-grows e z = record { unturned = z; tree = λ v c. absurd (omega (arith, c.some)) }

module _ {w w' ys : List ℕ} {i : ℕ} {h k : World} {Q : Positions} (op : Opened w i h) (there : nodes (back w ys) ≡ ys)
    (cl : Closing w (back w ys) k Q) (hd : Headed (back w ys) w' k) (tag : k.tag ≡ i) where
  -- the record of the world is that of the one at hand
  record-is : (g : Record → ℕ) → g (record_at w' i) ≡ g (record_at w' k.tag)
  record-is g = ap (λ (j : ℕ). g (record_at w' j)) (sym tag)

  offset-closed : (world_at w' i).offset ≡ k.offset
  offset-closed = record-is (λ v. v.offset) ∙ ap (λ (v : Record). v.offset) hd.here

  root-closed : (world_at w' i).root ≡ k.root
  root-closed = record-is (λ v. v.root) ∙ ap (λ (v : Record). v.root) hd.here

  -- its tree is the one that the change left
  tree-closed : tree_at w' i ≡ tree_from highest ys k.root
  tree-closed =
      tree-is w' i ∙ ap (tree_from highest (nodes w')) root-closed
      ∙ same-tree (nodes (back w ys)) (nodes w') (closing-nodes cl hd) highest k.root
      ∙ ap (λ (v : List ℕ). tree_from highest v k.root) there

  -- as the one before it is the one that was lent
  tree-lent : tree_from highest (lent w) h.root ≡ tree_at w i
  tree-lent = ap₂ (λ (v : List ℕ) (z : World). tree_from highest v z.root) (lent-nodes w) op.is ∙ sym (tree-is w i)

  module _ {l u : Bound} {r : Interval} (al : Allowed l u r) {v : Bool} (gr : Grows (lent w) ys h k r.first.0 r.last.0 v) where
    last-is : past_allowed u - 1 ≡ r.last.0
    last-is = omega (arith, al.first, al.many-are, r.ordered)

    -- the range is the one that was set
    of-range : {T : Type 0} (f : ℕ → ℕ → T) → f (first_allowed l) (past_allowed u - 1) ≡ f r.first.0 r.last.0
    of-range f = ap₂ f al.first last-is

    none-touched : Clear w i l u → TouchesNone r.first.0 r.last.0 (inorder (tree_from highest (lent w) h.root))
    none-touched c =
        let t : TouchesNone r.first.0 r.last.0 (inorder (tree_at w i)) = subst₂ (λ a b. TouchesNone a b (inorder (tree_at w i))) al.first last-is c.apart in
        subst (λ t. TouchesNone r.first.0 r.last.0 (inorder t)) (sym tree-lent) t

    world-grows : Unturned w i → PutIn w i l u v w'
    world-grows z =
        let zero-offset : h.offset ≡ 0 = ap (λ (x : World). x.offset) op.is ∙ z in
        record {
          unturned = offset-closed ∙ gr.1 zero-offset;
          tree = λ held c.
              let put = gr.0 zero-offset held (none-touched c) in
              ap shape (tree-closed ∙ put.1 ∙ ap (inserted put.0 r.first.0 r.last.0) tree-lent)
              ∙ shape-inserted put.0 r.first.0 r.last.0 (tree_at w i)
              ∙ sym (of-range (λ a b. shape (inserted 0 a b (tree_at w i))) ∙ shape-inserted 0 r.first.0 r.last.0 (tree_at w i));
        }

-- the same of a change within the world's allowance, as it is told
module _ {w w' : List ℕ} {i limit : ℕ} {h k : World} {n : Count} {l u : Bound} {r : Interval} {v : Bool} (ys : List ℕ) (Q : Positions) where
  pub edit-grows : Readable w i → Opened w i h → limit ≡ allowance w i → (e : Option Edit) → Edited (lent w) ys h limit Q e
      → GrowsBy (lent w) ys h r.first.0 r.last.0 v e → e ≡ changed_to k n → Allowed l u r → Headed (back w ys) w' k → Unturned w i
      → PutIn w i l u v w'
  edit-grows R op el e ed gr q al hd =
      let t = edit-told R op el ys e ed q in
      let within = subst (Limited (lent w) (footprint_of w i) h) (sym el) (lent-limited op) in
      let be = t.1 (footprint_of w i) limit within t.0 in
      world-grows op (back-nodes w ys (nodes-there R.openable)) (edit-closing R op el ys e ed q) hd be.shows.standing.kept.tagged al
      (subst (GrowsBy (lent w) ys h r.first.0 r.last.0 v) q gr)
