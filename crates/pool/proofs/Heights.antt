-- How high the trees of a pool are: a tree of height h has at least as many runs as the shortest list for h. Assumes nothing.
use Rattle.pool.proofs.Base.{◌≡◌, ℕ, ◌<◌, List, sym, refl, ap, ◌∙◌, arith, stretches, mem, stretches-is, height, runs, inorder, tree_from, runs-length, World, opened_at, tree_at, highest, turned, held_in, runs_at}
use Rattle.pool.proofs.Base.{Footprint, Standing, Sound}
use Rattle.model.specs.Deepest.{least}
use Rattle.run_index.proofs.Least.{fewer-lower}
use Rattle.pool.proofs.Sharing.{tree-planted}
use Rattle.pool.proofs.Reached.{kept-tree}
use Rattle.pool.proofs.Turn.{stretches-zero}
use Rattle.pool.proofs.Opening.{standing-held}

-- no world of a sound pool with fewer physical runs than that list is h high
pub world-lower : (w : List ℕ) (k h : ℕ) → Sound w → k < opened_at w → runs_at w k < least h → height (tree_at w k) < h
world-lower w k h so named few =
    let p = so.planted k named in
    let is : tree_at w k ≡ p.tree = tree-planted w k p in
    omega (arith, ap height is, ap runs is, fewer-lower h p.tree p.balanced (omega (arith, ap runs is, few)))

module _ {w : List ℕ} {s : Footprint} {h : World} (st : Standing w s h) where
  -- a world without an offset has as many physical runs as logical ones
  pub unturned-runs : h.offset ≡ 0 → runs (tree_from highest w h.root) ≡ stretches (held_in w h)
  unturned-runs z =
      let Q = mem (inorder st.tree) in
      ap runs (kept-tree st.kept) ∙ runs-length st.tree ∙ sym (stretches-is Q (inorder st.tree) st.kept.ordered (λ x l. refl))
      ∙ sym (ap stretches (standing-held st) ∙ ap (λ o. stretches (turned o Q)) z ∙ stretches-zero Q)
