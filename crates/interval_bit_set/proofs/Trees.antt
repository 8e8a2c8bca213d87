-- A pool that was tidied has each world's tree and offset as they were: the nodes that are threaded have no height, and those of a tree have one.
-- So a set that put a run in still did. Assumes nothing.
use Rattle.std.specs.Prelude.{Ok, Err}
use Prim.Native.Nat.{ℕ, ◌/◌, ◌<◌, ◌≤◌}
use mathlib.Core.Path.{◌≡◌, sym, ap, ◌∙◌, subst}
use mathlib.Core.Bool.{Bool}
use mathlib.Core.Logic.{◌⊎◌, inl, inr}
use mathlib.Core.List.{List}
use native.Mathlib.Omega.{arith}
use lib.ListN.{length}
use Rattle.model.specs.Answers.{OrRefusal, answer_by}
use Rattle.model.specs.Call.{Call, Result, gave}
use Rattle.model.specs.Ends.{Bound}
use Rattle.model.specs.Numbers.{size}
use Rattle.model.proofs.Numbers.{split}
use Rattle.run_index.specs.Cells.{cell_at}
use Rattle.run_index.specs.Tree.{count, At}
use Rattle.run_index.proofs.Heap.{frame}
use Rattle.pool.specs.declared.layout.Record.{Record}
use Rattle.pool.specs.Layout.{opened_at, record_at, nodes, node_count, world_at, tree_at}
use Rattle.pool.specs.Soundness.{Planted, Sound}
use Rattle.pool.proofs.Orders.{node_in}
use Rattle.pool.proofs.Parts.{nodes-long}
use Rattle.pool.proofs.Reached.{tree-reached}
use Rattle.pool.proofs.Sharing.{tree-planted}
use Rattle.interval_bit_set.specs.Grown.{shape, Grows}
use Rattle.interval_bit_set.specs.Met.{Site, Met}
use Rattle.pool.specs.Relink.{InOrder}
use Rattle.pool.proofs.Threading.{lows-high}
use Rattle.interval_bit_set.specs.Look.{Checked}
use Rattle.interval_bit_set.proofs.Looking.{gave-opened}
use Rattle.interval_bit_set.specs.Tidy.{Tidies, TidiesIf, Ended}

-- world j has the tree and the offset that it had
pub record SameTree (w w' : List ℕ) (j : ℕ) : Type 0 where
  pub tree : tree_at w' j ≡ tree_at w j
  pub offset : (world_at w' j).offset ≡ (world_at w j).offset

module _ {w : List ℕ} {j : ℕ} (S : Sound w) (l : j < opened_at w) where
  abbrev P : Planted (nodes w) (world_at w j)
  P = S.planted j l

  -- with the chain in order
  module _ {w' : List ℕ} (long : length w' ≡ length w) (io : InOrder w w') where
    record_same : record_at w' j ≡ record_at w j
    record_same = io.records j (omega (arith, S.few, l))

    -- the nodes of the tree are none of those that were threaded
    same : (m : ℕ) → 1 ≤ count m P.tree → cell_at (nodes w') m ≡ cell_at (nodes w) m
    same m i =
        let n = node_in (nodes w) j P.tree 0 size P.linked.rep P.ordered m i in
        io.others m n.some (lows-high (nodes w) 0 (node_count w) m (λ z. omega (arith, n.high)))

    at_same : At (nodes w') j (world_at w' j).root P.tree
    at_same = record {
      rep = frame (nodes w) (nodes w') j (nodes-long w w' long) P.tree same P.linked.rep;
      linked = P.linked.linked ∙ sym (ap (λ (v : Record). v.root) record_same);
    }

    tree_same : tree_at w' j ≡ tree_at w j
    unfolding tree_at
    tree_same = tree-reached at_same P.low ∙ sym (tree-planted w j P)

    order-tree : SameTree w w' j
    order-tree = record { tree = tree_same; offset = ap (λ (v : Record). v.offset) record_same }

  -- whether or not it was worn
  tidy-tree : {w' : List ℕ} {worn : ℕ} → Tidies w w' worn → SameTree w w' j
  tidy-tree {w'} {worn} t = go (split (length w / 16384) worn)
    where
      go : (length w / 16384 < worn) ⊎ (worn ≤ length w / 16384) → SameTree w w' j
      go (inl h) = order-tree t.tidied.long (t.in-order h)
      go (inr h) = record { tree = ap (λ v. tree_at v j) (t.left h); offset = ap (λ v. (world_at v j).offset) (t.left h) }

-- what a set, whose answer f tells, made of the world's tree is there after the pool was tidied
module _ {T : Type 0} (f : T → Result) {w w₁ w₂ : List ℕ} {i worn : ℕ} {c : Call Site} (l u : Bound) (v : Bool) where
  pub grows-after : (r : OrRefusal T) {r' : OrRefusal T} → Checked w → Met w i c (answer_by (λ x. gave (f x)) r) w₁ → Grows w i l u v r w₁
      → Ended w₁ w₂ worn r r' → Grows w i l u v r' w₂
  grows-after r k m g e = subst (λ s. Grows w i l u v s w₂) (sym e.answered) (go r m g e.tidies)
    where
      go : (s : OrRefusal T) → Met w i c (answer_by (λ x. gave (f x)) s) w₁ → Grows w i l u v s w₁ → TidiesIf w₁ w₂ worn s
          → Grows w i l u v s w₂
      go (Err x) m g t = tt
      go (Ok x) m g t = λ z.
          let o = tidy-tree m.left.sound (omega (arith, m.left.opened, gave-opened k m)) t in
          let p = g z in
          record { unturned = o.offset ∙ p.unturned; tree = λ held q. ap shape o.tree ∙ p.tree held q }
