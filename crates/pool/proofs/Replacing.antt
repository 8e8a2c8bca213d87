-- Another tree for a world's: its nodes are given back, runs are laid into the first free nodes, and these are linked up. Every node that the
-- world had or that was free serves again, and others stand still. Assumes nothing.
use Rattle.pool.proofs.Base.{◌≡◌, ℕ, ◌≤◌, List, [], ◌∷◌, length, refl, ap, subst, arith, length-append, Run}
use Rattle.pool.proofs.Base.{size, mem, Canon, Tree, leaf, node, inorder, World, Links, links_of, Footprint, Represents, Standing, GivesBack}
use Rattle.pool.proofs.Base.{Became, Strewn, LinksUp}
use Rattle.run_index.specs.Strung.{FreeChain, Fillable}
use Rattle.pool.specs.Free.{Becomes}
use Rattle.pool.specs.Settle.{Lays, Linkable}
use Rattle.pool.proofs.Nodes.{node-once, still-then}

-- a tree without runs has no node
bare-leaf : (t : Tree) → inorder t ≡ [] → t ≡ leaf
bare-leaf leaf e = refl
bare-leaf (node n a b l r) e =
    absurd (omega (arith, ap length e, length-append (inorder l) (record { start = a; «end» = b } ∷ inorder r)))

module _ {w w₁ : List ℕ} {s : Footprint} {h : World} {k : Links} (st : Standing w s h) (gb : GivesBack w w₁ (links_of h) k) where
  given : Becomes w w₁ s k []
  given = gb s st.tree st.free st.kept

  -- no node is in the tree
  bare : Represents w₁ s k leaf given.nodes
  bare = subst (λ (t : Tree). Represents w₁ s k t given.nodes) (bare-leaf given.tree given.runs-are) given.kept

  -- all are free
  free : FreeChain w₁ k.free given.nodes
  free = record { chain = bare.chained; once = λ m. omega (arith, node-once bare m) }

  module _ {n : ℕ} (few : n ≤ s.own) where
    enough : n ≤ length given.nodes
    enough = omega (arith, bare.counted)

    -- n runs can be laid
    pub replace-fillable : Fillable w₁ k.free n
    replace-fillable = (given.nodes, free, enough)

    module _ {w₂ : List ℕ} {rs : List Run} (ly : Lays w₁ w₂ k.free n rs) (canon : Canon size 0 rs) where
      strewn : Strewn w₁ w₂ s k n (ly given.nodes free enough).0 given.nodes rs
      strewn = record { kept = bare; filled = (ly given.nodes free enough).1; canonical = canon }

      -- they can be linked up
      pub replace-linkable : Linkable w₂ k n
      replace-linkable = (w₁, s, (ly given.nodes free enough).0, given.nodes, rs, strewn)

      -- and then the world has them
      pub replaced : {w₃ : List ℕ} {r : World} → LinksUp w₂ w₃ k n r → Became w w₃ s r (mem rs)
      replaced lu =
          let b = lu w₁ s (ly given.nodes free enough).0 given.nodes rs strewn in
          record { shows = b.shows; still = still-then given.still b.still }
