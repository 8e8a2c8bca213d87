-- The nodes that show a position: those with a height and the world's tag are those of its tree, since a free node has no height, and no node
-- of another world has the tag. So of all nodes one shows a position where the world holds it, and painting the runs of all of them, each turned
-- to its places of the window, paints the window's map. Assumes nothing.
use Rattle.std.proofs.Common.{◌≡◌, ℕ, zero, suc, ◌+◌, ◌-◌, ◌/◌, ◌^◌, ◌<◌, ◌≤◌, Bool, true, false, ◌&&◌, ◌||◌, eqb}
use Rattle.std.proofs.Common.{ltb, ◌⊎◌, List, ◌∷◌, length, sym, refl, ap, ◌∙◌, subst, inl, inr, arith, ltb-true, le-ltb, lt-ltb}
use Rattle.std.proofs.Common.{eq-eqb, ne_eqb, eqb-true}
use mathlib.Core.Bool.{and-false, or-true, or-false, false≢true}
use native.Mathlib.Decide.{ℕ_discrete}
use Rattle.model.specs.Numbers.{size}
use Rattle.model.specs.Positions.{inside, mem}
use Rattle.model.specs.Bytes.{map_length, map_of, map_bit}
use Rattle.model.specs.RunList.{AllBytes}
use Rattle.model.proofs.Numbers.{split}
use Rattle.model.proofs.Edit.{and-holds}
use Rattle.model.proofs.Runs.{mem-append}
use Rattle.model.proofs.Maps.{map_of-length, map_of-bytes, map_of-bit, map_of-spare, map-tell}
use Rattle.run_index.specs.declared.Node.{Node}
use Rattle.run_index.specs.Cells.{cell_at}
use Rattle.run_index.specs.Tree.{Tree, leaf, node, count, inorder, Rep}
use Rattle.run_index.specs.Strung.{times}
use Rattle.run_index.proofs.Trees.{δ-same, δ-other, rep-cell, rep-left, rep-right}
use Rattle.run_index.proofs.Apart.{rep-tagged}
use Rattle.pool.specs.declared.World.{World}
use Rattle.pool.specs.Places.{physical_of, logical_of}
use Rattle.pool.specs.Layout.{held_in}
use Rattle.pool.specs.Soundness.{Footprint}
use Rattle.pool.proofs.Chains.{chain-free, free-low}
use Rattle.pool.proofs.Orders.{Node-in, node_in}
use Rattle.pool.proofs.Reached.{kept-held}
use Rattle.pool.proofs.Truths.{same}
use Rattle.pool.proofs.Turn.{turned-at}
use Rattle.maps.specs.Painted.{round, shows, shown_to, PaintsRun, PaintsNodes, Scans}
use Rattle.maps.specs.Window.{place_in}
use Rattle.maps.proofs.Rounds.{turned-inside}

-- ---- the nodes of a tree
-- p is in the run of node m
abbrev Covered : List ℕ → ℕ → ℕ → Type 0
Covered w p m = inside (cell_at w m).start (cell_at w m).«end» p ≡ true

-- what a node of a tree covers is in the tree's runs
node-held : (w : List ℕ) (g : ℕ) (t : Tree) → Rep w g t → (p m : ℕ) → 1 ≤ count m t → Covered w p m → mem (inorder t) p ≡ true
unfolding mem
node-held w g leaf h p m i e = absurd (omega arith)
node-held w g (node n a b l r) h p m i e =
    mem-append (inorder l) (record { start = a; «end» = b } ∷ inorder r) p
    ∙ go (ℕ_discrete m n) (ℕ_discrete (count m l) 0) (node-held w g l (rep-left h) p m) (node-held w g r (rep-right h) p m)
  where
    go : Dec (m ≡ n) → Dec (count m l ≡ 0) → (1 ≤ count m l → Covered w p m → mem (inorder l) p ≡ true) → (1 ≤ count m r → Covered w p m → mem (inorder r) p ≡ true)
        → (mem (inorder l) p || (inside a b p || mem (inorder r) p)) ≡ true
    go (yes q) d hl hr =
        let c = ap (cell_at w) q ∙ rep-cell h in
        let z : inside a b p ≡ true = sym (ap (λ (v : Node). inside v.start v.«end» p) c) ∙ e in
        rw z (or-true (mem (inorder l) p))
    go (no ne) (no some) hl hr = rw (hl (omega arith) e)
    go (no ne) (yes none) hl hr = rw (hr (omega (arith, δ-other m n ne)) e, or-true) (or-true (mem (inorder l) p))

-- and what is in the runs a node covers
held-node : (w : List ℕ) (g : ℕ) (t : Tree) → Rep w g t → (p : ℕ) → mem (inorder t) p ≡ true → (m : ℕ) × (1 ≤ count m t) × Covered w p m
unfolding mem
held-node w g leaf h p e = absurd (false≢true e)
held-node w g (node n a b l r) h p e =
    go (mem (inorder l) p) (inside a b p) (mem (inorder r) p) refl refl refl
    (sym (mem-append (inorder l) (record { start = a; «end» = b } ∷ inorder r) p) ∙ e) (held-node w g l (rep-left h) p) (held-node w g r (rep-right h) p)
  where
    go : (x y z : Bool) → mem (inorder l) p ≡ x → inside a b p ≡ y → mem (inorder r) p ≡ z → (x || (y || z)) ≡ true
        → (mem (inorder l) p ≡ true → (m : ℕ) × (1 ≤ count m l) × Covered w p m)
        → (mem (inorder r) p ≡ true → (m : ℕ) × (1 ≤ count m r) × Covered w p m) → (m : ℕ) × (1 ≤ count m (node n a b l r)) × Covered w p m
    go true y z ex ey ez f hl hr = let k = hl ex in (k.0, omega (arith, k.1), k.2)
    go false true z ex ey ez f hl hr = (n, omega (arith, δ-same n), ap (λ (v : Node). inside v.start v.«end» p) (rep-cell h) ∙ ey)
    go false false true ex ey ez f hl hr = let k = hr ez in (k.0, omega (arith, k.1), k.2)
    go false false false ex ey ez f hl hr = absurd (false≢true f)

-- ---- what a node shows
-- with a height and the tag its run
shows-run : (w : List ℕ) (g p m : ℕ) → 1 ≤ (cell_at w m).height → (cell_at w m).tag ≡ g → shows w g p m ≡ inside (cell_at w m).start (cell_at w m).«end» p
unfolding shows
shows-run w g p m h e = rw (lt-ltb 0 (cell_at w m).height h, eq-eqb (cell_at w m).tag g e)

-- else nothing
shows_low : (w : List ℕ) (g p m : ℕ) → (cell_at w m).height ≤ 0 → shows w g p m ≡ false
unfolding shows
shows_low w g p m h = rw (le-ltb 0 (cell_at w m).height h)

shows-other : (w : List ℕ) (g p m : ℕ) → ((cell_at w m).tag ≡ g → ⊥) → shows w g p m ≡ false
unfolding shows
shows-other w g p m h = rw (ne_eqb (cell_at w m).tag g h, and-false)

-- so one that shows something has both
record Shown (w : List ℕ) (g p m : ℕ) : Type 0 where
  pub high : 1 ≤ (cell_at w m).height
  pub tagged : (cell_at w m).tag ≡ g
  pub covered : Covered w p m

shows-out : (w : List ℕ) (g p m : ℕ) → shows w g p m ≡ true → Shown w g p m
unfolding shows
shows-out w g p m e =
    let x = and-holds (ltb 0 (cell_at w m).height) (eqb (cell_at w m).tag g && inside (cell_at w m).start (cell_at w m).«end» p) e in
    let y = and-holds (eqb (cell_at w m).tag g) (inside (cell_at w m).start (cell_at w m).«end» p) x.1 in
    record { high = ltb-true 0 (cell_at w m).height x.0; tagged = eqb-true (cell_at w m).tag g y.0; covered = y.1 }

-- one node more
shown-more : (w : List ℕ) (g p m : ℕ) → 1 ≤ m → shown_to w g p m ≡ (shown_to w g p (m - 1) || shows w g p m)
unfolding shown_to
shown-more w g p zero h = absurd (omega arith)
shown-more w g p (suc m) h = let e : suc m - 1 ≡ m = omega arith in rw e

-- one of the first k nodes shows p, and the other way round
shown-some : (w : List ℕ) (g p k : ℕ) → shown_to w g p k ≡ true → (m : ℕ) × (1 ≤ m) × (m ≤ k) × (shows w g p m ≡ true)
unfolding shown_to
shown-some w g p zero e = absurd (false≢true e)
shown-some w g p (suc k) e = go (shown_to w g p k) (shows w g p (suc k)) refl refl e (shown-some w g p k)
  where
    go : (x y : Bool) → shown_to w g p k ≡ x → shows w g p (suc k) ≡ y → (x || y) ≡ true → (shown_to w g p k ≡ true → (m : ℕ) × (1 ≤ m) × (m ≤ k) × (shows w g p m ≡ true))
        → (m : ℕ) × (1 ≤ m) × (m ≤ suc k) × (shows w g p m ≡ true)
    go true y ex ey f r = let s = r ex in (s.0, s.1, omega (arith, s.2), s.3)
    go false true ex ey f r = (suc k, omega arith, omega arith, ey)
    go false false ex ey f r = absurd (false≢true f)

shown-in : (w : List ℕ) (g p k m : ℕ) → 1 ≤ m → m ≤ k → shows w g p m ≡ true → shown_to w g p k ≡ true
unfolding shown_to
shown-in w g p zero m h l e = absurd (omega arith)
shown-in w g p (suc k) m h l e = go (ℕ_discrete m (suc k)) (shown-in w g p k m h)
  where
    go : Dec (m ≡ suc k) → (m ≤ k → shows w g p m ≡ true → shown_to w g p k ≡ true) → (shown_to w g p k || shows w g p (suc k)) ≡ true
    go (yes q) r = rw (sym (ap (shows w g p) q) ∙ e) (or-true (shown_to w g p k))
    go (no ne) r = rw (r (omega arith) e)

-- ---- the nodes of a world
module _ {w : List ℕ} {s : Footprint} {h : World} (c : Scans w s h) where
  -- as many nodes as there are
  pub scan-nodes : length w / 8 - 1 ≡ s.nodes
  scan-nodes = let z = c.standing.kept.sized in omega arith

  -- one with a height and the tag is in the tree
  own-node : (m : ℕ) → 1 ≤ m → m ≤ s.nodes → 1 ≤ (cell_at w m).height → (cell_at w m).tag ≡ h.tag → 1 ≤ count m c.standing.tree
  own-node m a b i e = go (ℕ_discrete (times m c.standing.free) 0) (ℕ_discrete (s.others m) 0)
    where
      go : Dec (times m c.standing.free ≡ 0) → Dec (s.others m ≡ 0) → 1 ≤ count m c.standing.tree
      go (yes x) (yes y) = let z = c.standing.kept.shared m a b in omega arith
      go (no x) d = absurd (omega (arith, free-low (chain-free w h.free c.standing.free c.standing.kept.chained m (omega arith))))
      go (yes x) (no y) = absurd (c.apart m (omega arith) (e ∙ c.standing.kept.tagged))

  in_tree : (m : ℕ) → 1 ≤ count m c.standing.tree → Node-in w 0 size m
  in_tree m i = node_in w s.tag c.standing.tree 0 size c.standing.kept.linked.rep c.standing.kept.ordered m i

  -- its run is one of positions
  pub scan-run : (m : ℕ) → 1 ≤ m → m ≤ s.nodes → 1 ≤ (cell_at w m).height → (cell_at w m).tag ≡ h.tag → ((cell_at w m).start ≤ (cell_at w m).«end») × ((cell_at w m).«end» < size)
  scan-run m a b i e = let z = in_tree m (own-node m a b i e) in (z.ordered, z.under)

  -- all nodes show what the tree holds
  shown-all : (p : ℕ) → shown_to w h.tag p s.nodes ≡ mem (inorder c.standing.tree) p
  shown-all p = same (shown_to w h.tag p s.nodes) (mem (inorder c.standing.tree) p) there back
    where
      rep : Rep w s.tag c.standing.tree
      rep = c.standing.kept.linked.rep

      there : shown_to w h.tag p s.nodes ≡ true → mem (inorder c.standing.tree) p ≡ true
      there e =
          let k = shown-some w h.tag p s.nodes e in
          let z = shows-out w h.tag p k.0 k.3 in
          node-held w s.tag c.standing.tree rep p k.0 (own-node k.0 k.1 k.2 z.high z.tagged) z.covered

      back : mem (inorder c.standing.tree) p ≡ true → shown_to w h.tag p s.nodes ≡ true
      back e =
          let k = held-node w s.tag c.standing.tree rep p e in
          let z = in_tree k.0 k.1 in
          let t = rep-tagged w s.tag c.standing.tree rep k.0 k.1 in
          shown-in w h.tag p s.nodes k.0 z.some (omega (arith, z.room, c.standing.kept.sized))
          (shows-run w h.tag p k.0 z.high (t.0 ∙ sym c.standing.kept.tagged) ∙ k.2)

  -- which is what the world holds
  shown-held : (x : ℕ) → x < size → shown_to w h.tag (physical_of x h.offset) (length w / 8 - 1) ≡ held_in w h x
  shown-held x l =
      ap (shown_to w h.tag (physical_of x h.offset)) scan-nodes ∙ shown-all (physical_of x h.offset)
      ∙ sym (ap (λ Q. Q x) (kept-held c.standing.kept h.offset) ∙ turned-at h.offset (mem (inorder c.standing.tree)) x l)

-- ---- painting the nodes
-- no node
pub nodes-none : (w : List ℕ) (h : World) (base n : ℕ) (map : List ℕ) → PaintsNodes w h base n 0 map map
unfolding shown_to
nodes-none w h base n map = record { bits_are = λ i. sym (rw and-false); long = refl }

-- tests in another order
swapped : (x y b : Bool) → (x || (y || b)) ≡ ((y || x) || b)
swapped true true b = refl
swapped true false b = refl
swapped false true b = refl
swapped false false b = refl

module _ {w : List ℕ} {h : World} {base n m : ℕ} {map₀ map : List ℕ} (p : PaintsNodes w h base n (m - 1) map₀ map) (some : 1 ≤ m) where
  -- one more, whose bits X are set
  nodes-more : {map' : List ℕ} (X : ℕ → Bool) → length map' ≡ length map → ((i : ℕ) → map_bit map' i ≡ ((ltb i n && X i) || map_bit map i))
      → ((i : ℕ) → i < n → shows w h.tag (physical_of (base + i) h.offset) m ≡ X i) → PaintsNodes w h base n m map₀ map'
  nodes-more {map'} X long f g = record { bits_are = λ i. go i (split i n); long = long ∙ p.long }
    where
      S : ℕ → ℕ → Bool
      S k i = shown_to w h.tag (physical_of (base + i) h.offset) k

      go : (i : ℕ) → (i < n) ⊎ (n ≤ i) → map_bit map' i ≡ ((ltb i n && S m i) || map_bit map₀ i)
      go i (inl l) =
          let t : ltb i n ≡ true = lt-ltb i n l in
          f i ∙ rw t (ap (λ b. X i || b) (p.bits_are i ∙ rw t) ∙ (swapped (X i) (S (m - 1) i) (map_bit map₀ i)
          ∙ ap (λ b. b || map_bit map₀ i) (sym (shown-more w h.tag (physical_of (base + i) h.offset) m some ∙ ap (λ b. S (m - 1) i || b) (g i l)))))
      go i (inr l) =
          let t : ltb i n ≡ false = le-ltb i n l in
          f i ∙ rw t (p.bits_are i ∙ rw t)

  -- one that shows nothing
  nodes-skip : {map' : List ℕ} → map' ≡ map → ((q : ℕ) → shows w h.tag q m ≡ false) → PaintsNodes w h base n m map₀ map'
  nodes-skip x f = nodes-more (λ _. false) (ap length x) (λ i. ap (λ (b : List ℕ). map_bit b i) x ∙ sym (rw and-false)) (λ i l. f (physical_of (base + i) h.offset))

  pub nodes-low : {map' : List ℕ} {v : Node} → v ≡ cell_at w m → v.height ≤ 0 → map' ≡ map → PaintsNodes w h base n m map₀ map'
  nodes-low e l x = nodes-skip x (λ q. shows_low w h.tag q m (omega (arith, ap (λ (u : Node). u.height) e)))

  pub nodes-other : {map' : List ℕ} {v : Node} → v ≡ cell_at w m → (v.tag ≡ h.tag → ⊥) → map' ≡ map → PaintsNodes w h base n m map₀ map'
  nodes-other e l x = nodes-skip x (λ q. shows-other w h.tag q m (λ k. l (ap (λ (u : Node). u.tag) e ∙ k)))

  -- a node of the world: its run is painted
  pub nodes-run : {map₁ map' : List ℕ} {s : Footprint} {v : Node} {f l : ℕ} → Scans w s h → m ≤ s.nodes → v ≡ cell_at w m
      → 0 < v.height → v.tag ≡ h.tag → h.offset < 2 ^ 64 → base + n ≤ size → f ≡ place_in base (logical_of v.start h.offset)
      → l ≡ place_in base (logical_of v.«end» h.offset) → PaintsRun map map₁ n f l → map' ≡ map₁ → PaintsNodes w h base n m map₀ map'
  nodes-run {map₁} {map'} {s} {v} {f} {l} c few e high tagged os within fs ls r x =
      nodes-more (round f l) (ap length x ∙ r.long) (λ i. ap (λ (b : List ℕ). map_bit b i) x ∙ r.bits_are i)
      (λ i k. shows-run w h.tag (physical_of (base + i) h.offset) m high' tagged'
      ∙ turned-inside h.offset base n (cell_at w m).start (cell_at w m).«end» f l os within run.0 run.1
      (fs ∙ ap (λ (u : Node). place_in base (logical_of u.start h.offset)) e)
      (ls ∙ ap (λ (u : Node). place_in base (logical_of u.«end» h.offset)) e) i k)
    where
      high' : 1 ≤ (cell_at w m).height
      high' = omega (arith, ap (λ (u : Node). u.height) e)

      tagged' : (cell_at w m).tag ≡ h.tag
      tagged' = sym (ap (λ (u : Node). u.tag) e) ∙ tagged

      run : ((cell_at w m).start ≤ (cell_at w m).«end») × ((cell_at w m).«end» < size)
      run = scan-run c m some few high' tagged'

-- the same number of nodes, told otherwise
pub nodes-at : {w : List ℕ} {h : World} {base n k k' : ℕ} {map map' : List ℕ} → PaintsNodes w h base n k map map' → k ≡ k' → PaintsNodes w h base n k' map map'
nodes-at {w} {h} {base} {n} {map = map} {map' = map'} p e = subst (λ (x : ℕ). PaintsNodes w h base n x map map') e p

-- ---- the map
-- painted into zeros it is the world's
pub nodes-map : {w : List ℕ} {s : Footprint} {h : World} {base n : ℕ} {map₀ map : List ℕ} → Scans w s h → base + n ≤ size → AllBytes map → length map ≡ map_length n
    → ((i : ℕ) → map_bit map₀ i ≡ false) → PaintsNodes w h base n (length w / 8 - 1) map₀ map → map ≡ map_of (held_in w h) base n
nodes-map {w} {s} {h} {base} {n} {map₀} {map} c within bytes long zeros p =
    map-tell map (map_of (held_in w h) base n) bytes (map_of-bytes (held_in w h) base n) (long ∙ sym (map_of-length (held_in w h) base n)) (λ i. go i (split i n))
  where
    go : (i : ℕ) → (i < n) ⊎ (n ≤ i) → map_bit map i ≡ map_bit (map_of (held_in w h) base n) i
    go i (inl l) =
        p.bits_are i ∙ rw (lt-ltb i n l, zeros i, or-false) (shown-held c (base + i) (omega arith)) ∙ sym (map_of-bit (held_in w h) base n i l)
    go i (inr l) = p.bits_are i ∙ rw (le-ltb i n l) (zeros i) ∙ sym (map_of-spare (held_in w h) base n i l)
