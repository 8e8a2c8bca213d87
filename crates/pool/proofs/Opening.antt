-- What a world that stands gives its readers: its tree at its root, that its positions are the tree's, turned by the offset, and that it holds
-- some exactly if it has runs. And what a sound pool gives: its world stands, with nodes enough for what it may hold. Assumes nothing.
use Rattle.pool.proofs.Base.{◌≡◌, ℕ, ◌<◌, ◌≤◌, true, false, List, [], ◌∷◌, length, sym, ap, ◌∙◌, arith, Run, size, physical_of, logical_of, Positions, mem, Canon, mem-in, runs, inorder, Index, runs_from}
use Rattle.pool.proofs.Base.{runs-length, World, turned, held_in, Footprint, Standing}
use Rattle.pool.proofs.Turn.{turned-at, turned-logical}
use Rattle.pool.proofs.Ends.{empty-mem}
use Rattle.pool.proofs.Nodes.{kept-index}
use Rattle.pool.proofs.Reached.{kept-held, kept-runs}

-- no runs hold nothing
none-hold : (rs : List Run) → length rs ≡ 0 → (x : ℕ) → mem rs x ≡ false
none-hold [] z x = empty-mem x
none-hold (r ∷ rs) z x = absurd (omega arith)

-- canonical runs hold something, if there are any
runs-hold : (rs : List Run) → 1 ≤ length rs → Canon size 0 rs → (x : ℕ) × (x < size) × (mem rs x ≡ true)
runs-hold [] h c = absurd (omega arith)
runs-hold (r ∷ rs) h c = (r.start, omega (arith, c.1, c.2), mem-in r rs r.start (omega arith) c.1)

module _ {w : List ℕ} {s : Footprint} {h : World} (st : Standing w s h) where
  -- its physical positions
  abbrev pub physical_in : Positions
  physical_in = mem (inorder st.tree)

  -- its tree is at its root
  pub standing-index : Index w h.root s.tag st.tree
  standing-index = kept-index st.kept

  -- its positions are the tree's, turned by its offset
  pub standing-held : held_in w h ≡ turned h.offset physical_in
  standing-held = kept-held st.kept h.offset

  -- as the count of logical runs asks it
  pub standing-counted : h.runs ≡ length (runs_from w h.root)
  standing-counted = st.runs-are ∙ runs-length st.tree ∙ ap length (sym (kept-runs st.kept))

  -- without runs it holds nothing
  pub standing-none : runs st.tree ≡ 0 → (x : ℕ) → x < size → held_in w h x ≡ false
  standing-none z x l =
      ap (λ (P : Positions). P x) standing-held ∙ turned-at h.offset physical_in x l
      ∙ none-hold (inorder st.tree) (sym (runs-length st.tree) ∙ z) (physical_of x h.offset)

  -- with runs it holds something
  pub standing-some : h.offset < size → 1 ≤ runs st.tree → (x : ℕ) × (x < size) × (held_in w h x ≡ true)
  standing-some small many =
      let g = runs-hold (inorder st.tree) (omega (arith, runs-length st.tree)) st.kept.ordered in
      let x : ℕ = logical_of g.0 h.offset in
      (x, omega arith, ap (λ (P : Positions). P x) standing-held ∙ turned-logical h.offset physical_in g.0 g.1 small ∙ g.2)
