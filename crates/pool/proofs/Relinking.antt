-- A world whose pool's free nodes were threaded anew stands as it did. The nodes that have no height are just the free ones, since a node of any
-- tree has a height: so the chain has the same nodes, and no cell of a tree has changed. Assumes nothing.
use Rattle.pool.proofs.Base.{fun_ext, ℕ_discrete, size, most_worlds, Positions, held_runs, stretches, split, cell_at, Room, count, At, times, Free, frame, strung-kept, World, Record, opened_at, free_head, record_at, floor_at}
use Rattle.pool.proofs.Base.{ceiling_at, record_of, Headed, world_at, nodes, links_of, node_count, held_in, held_by, allowance, Chain}
use Rattle.pool.proofs.Base.{first_of, last_of, Footprint, Represents, Standing, sum_to, without, count_at, footprint_of, Planted, Sound}
use Rattle.pool.proofs.Base.{Became, Openable, Opened, Closing, Closes, lows}
use Prim.Native.Nat.{ℕ, zero, suc, ◌+◌, ◌≤◌, ◌<◌}
use mathlib.Core.Path.{◌≡◌, sym, ap, ◌∙◌, subst}
use mathlib.Core.Logic.{◌⊎◌, inl, inr}
use mathlib.Core.List.{List}
use native.Mathlib.Omega.{arith}
use lib.ListN.{length}
use Rattle.pool.specs.Settle.{Settled}
use Rattle.pool.specs.Relink.{Threaded, Tidied, free_nodes, InOrder}
use Rattle.pool.proofs.Sums.{sum-some, without-here, without-there}
use Rattle.pool.proofs.Cells.{record-same}
use Rattle.pool.proofs.Closing.{closing-head, closing-nodes}
use Rattle.pool.proofs.Parts.{lent, back, lent-nodes, back-nodes, back-front, back_long, cells-before, nodes-long}
use Rattle.pool.proofs.Nodes.{chain-outside, node-once, kept-still, sized-length}
use Rattle.pool.proofs.Chains.{chain-free, free-low}
use Rattle.pool.proofs.Orders.{node_in}
use Rattle.pool.proofs.Worlds.{held-allowed}
use Rattle.pool.proofs.Reached.{tree-held, kept_low}
use Rattle.pool.proofs.Sharing.{node_of}
use Rattle.pool.proofs.Turn.{pool-past}
use Rattle.pool.proofs.Counting.{Among, sum, sum-times}
use Rattle.pool.proofs.Threading.{lows-before, lows-high, lows-once}

-- the world with another head of the free chain
abbrev pub headed_at : World → ℕ → World
headed_at h f = record {
  tag = h.tag;
  root = h.root;
  free = f;
  offset = h.offset;
  ones = h.ones;
  runs = h.runs;
  first = h.first;
  last = h.last;
}

-- each node of another world's tree has a height
abbrev High : List ℕ → Footprint → Type 0
High w s = (m : ℕ) → 1 ≤ s.others m → 1 ≤ (cell_at w m).height

module _ {w w' : List ℕ} {s : Footprint} {h : World} (st : Standing w s h) (high : High w s) {f : ℕ} (th : Threaded w w' s.nodes f) where
  -- the new chain and the old one
  abbrev new : List ℕ
  new = lows w 0 s.nodes

  abbrev old : List ℕ
  old = st.free

  -- what is not free has a height
  busy-high : (m : ℕ) → 1 ≤ m → m ≤ s.nodes → times m old ≡ 0 → 1 ≤ (cell_at w m).height
  busy-high m p u z = go (ℕ_discrete (count m st.tree) 0)
    where
      go : Dec (count m st.tree ≡ 0) → 1 ≤ (cell_at w m).height
      go (yes e) = high m (omega (arith, st.kept.shared m p u))
      go (no some) = (node_in w s.tag st.tree 0 size st.kept.linked.rep st.kept.ordered m (omega arith)).high

  -- so the two chains have the same nodes
  among : (m : ℕ) → 1 ≤ m → m ≤ s.nodes → times m new ≡ times m old
  among m p u = go (ℕ_discrete (times m old) 0)
    where
      go : Dec (times m old ≡ 0) → times m new ≡ times m old
      go (yes z) = lows-high w 0 s.nodes m (λ e. omega (arith, busy-high m p u z)) ∙ sym z
      go (no some) =
          let free = chain-free w h.free old st.kept.chained m (omega arith) in
          omega (arith, lows-once w 0 s.nodes m (omega arith) (omega arith) (free-low free), st.kept.shared m p u)

  same_nodes : (m : ℕ) → times m new ≡ times m old
  same_nodes m = go (split m 1) (split s.nodes m)
    where
      outside : (1 ≤ m → Room w m → ⊥) → times m new ≡ times m old
      outside o =
          chain-outside w' f new th.chain m (λ p ro. o p (omega (arith, th.long))) ∙ sym (chain-outside w h.free old st.kept.chained m o)

      go : (m < 1) ⊎ (1 ≤ m) → (s.nodes < m) ⊎ (m ≤ s.nodes) → times m new ≡ times m old
      go (inl z) d = outside (λ p ro. omega arith)
      go (inr p) (inl far) = outside (λ _ ro. omega (arith, st.kept.sized))
      go (inr p) (inr u) = among m p u

  -- and as many
  old-among : Among s.nodes (λ m. times m old)
  old-among m i = let free = chain-free w h.free old st.kept.chained m i in (free.some, omega (arith, free.room, st.kept.sized))

  same_length : length new ≡ length old
  same_length =
      sym (sum-times s.nodes new (λ m i. old-among m (omega (arith, same_nodes m))))
      ∙ ap (sum s.nodes) (fun_ext same_nodes)
      ∙ sum-times s.nodes old old-among

  -- no other cell has changed
  busy-same : (m : ℕ) → times m old ≡ 0 → cell_at w' m ≡ cell_at w m
  busy-same m z = th.kept m (same_nodes m ∙ z)

  -- so the tree is there
  at_same : At w' s.tag h.root st.tree
  at_same = record {
    rep = frame w w' s.tag th.long st.tree (λ m i. busy-same m (omega (arith, node-once st.kept m))) st.kept.linked.rep;
    linked = st.kept.linked.linked;
  }

  -- with the same positions
  held_same : held_in w' (headed_at h f) ≡ held_in w h
  held_same = tree-held h.offset at_same (kept_low st.kept) ∙ sym (tree-held h.offset st.kept.linked (kept_low st.kept))

  kept_same : Represents w' s (links_of (headed_at h f)) st.tree new
  kept_same = record {
    sized = th.long ∙ st.kept.sized;
    few = st.kept.few;
    part = st.kept.part;
    linked = at_same;
    tagged = st.kept.tagged;
    once = st.kept.once;
    ordered = st.kept.ordered;
    balanced = st.kept.balanced;
    chained = th.chain;
    shared = λ m p u. omega (arith, st.kept.shared m p u, same_nodes m);
    counted = omega (arith, st.kept.counted, same_length);
  }

  pub threaded-became : Became w w' s (headed_at h f) (held_in w h)
  threaded-became = record {
    shows = record {
      standing = record {
        tree = st.tree;
        free = new;
        kept = kept_same;
        ones-are = st.ones-are;
        runs-are = st.runs-are;
        first-is = st.first-is ∙ ap (λ P. first_of (held_runs P)) (sym held_same);
        last-is = st.last-is ∙ ap (λ P. last_of (held_runs P)) (sym held_same);
        empty-offset = st.empty-offset;
      };
      holds = λ x l. ap (λ (P : Positions). P x) held_same;
    };
    still = kept-still st.kept (λ m z. busy-same m (omega arith)) th.long;
  }

-- ---- a pool
-- a node that is in another world's tree has a height
others-high : (w : List ℕ) (n k : ℕ) → ((j : ℕ) → j < n → Planted (nodes w) (world_at w j)) → (m : ℕ) → 1 ≤ sum_to n (without k (count_at w m)) → 1 ≤ (cell_at (nodes w) m).height
others-high w n k planted m i = let r = sum-some n (without k (count_at w m)) i in go r.0 r.1 r.2 (ℕ_discrete r.0 k)
  where
    go : (j : ℕ) → j < n → 1 ≤ without k (count_at w m) j → Dec (j ≡ k) → 1 ≤ (cell_at (nodes w) m).height
    go j l some (yes q) = absurd (omega (arith, without-here k (count_at w m) j q))
    go j l some (no ne) = (node_of w j (planted j l) m (omega (arith, without-there k (count_at w m) j ne))).high

-- world 0 is always there
pub first-openable : {w : List ℕ} → Sound w → Openable w 0
first-openable S = record { sound = S; named = omega (arith, S.some) }

module _ {w : List ℕ} {h : World} (S : Sound w) (op : Opened w 0 h) {ys : List ℕ} {n f : ℕ} (e : n ≡ node_count w) (th : Threaded (lent w) ys n f) where
  -- the nodes are there to be lent
  room : 128 ≤ length w
  room = omega (arith, sized-length w S.sized)

  -- they were threaded, and are put back
  there : nodes (back w ys) ≡ ys
  there = back-nodes w ys room

  tag : h.tag ≡ 0
  tag = ap (λ (z : World). z.tag) op.is

  -- world 0 holds what it did
  ordered-became : Became (nodes w) (nodes (back w ys)) (footprint_of w 0) (headed_at h f) (held_by w 0)
  ordered-became =
      subst (Became (nodes w) (nodes (back w ys)) (footprint_of w 0) (headed_at h f)) op.held
      (threaded-became op.limited.standing (others-high w (opened_at w) 0 S.planted)
      (subst (λ j. Threaded (nodes w) (nodes (back w ys)) j f) e
      (rw (there, ← lent-nodes w) th)))

  pub ordered-closing : Closing w (back w ys) (headed_at h f) (held_by w 0)
  ordered-closing = record {
    openable = subst (Openable w) (sym tag) (first-openable S);
    before = cells-before w (back w ys) (back-front w ys room) (ordered-became.still.cells 0 (λ p. absurd (omega arith)));
    long = back_long w ys room th.long;
    became = subst (λ j. Became (nodes w) (nodes (back w ys)) (footprint_of w j) (headed_at h f) (held_by w 0)) (sym tag) ordered-became;
    few = subst (λ j. stretches (held_by w 0) ≤ allowance w j) (sym tag) (held-allowed w 0 (first-openable S));
  }

  -- so the pool is tidied
  module _ {w' : List ℕ} (cl : Closes (back w ys) w' (headed_at h f)) where
    settled : Settled w w' 0 (held_by w 0)
    settled = subst (λ j. Settled w w' j (held_by w 0)) tag (cl w (held_by w 0) ordered-closing)

    first-held : held_by w' 0 ≡ held_by w 0
    first-held = fun_ext (λ x. go x (split x size))
      where
        go : (x : ℕ) → (x < size) ⊎ (size ≤ x) → held_by w' 0 x ≡ held_by w 0 x
        go x (inl l) = settled.holds x l
        go x (inr l) = pool-past w' 0 x l ∙ sym (pool-past w 0 x l)

    pub ordered-tidied : Tidied w w'
    ordered-tidied = record {
      sound = settled.sound;
      opened = settled.opened;
      held = λ j l. go j l (ℕ_discrete j 0);
      floors = settled.floors;
      ceilings = settled.ceilings;
      long = settled.long;
    }
      where
        go : (j : ℕ) → j < opened_at w → Dec (j ≡ 0) → held_by w' j ≡ held_by w j
        go j l (yes z) = ap (held_by w') z ∙ first-held ∙ ap (held_by w) (sym z)
        go j l (no ne) = settled.others j l ne

  -- and its chain is in order
  module _ {w' : List ℕ} (hd : Headed (back w ys) w' (headed_at h f)) where
    free-nodes : lows (lent w) 0 n ≡ free_nodes w
    free-nodes = ap (λ v. lows v 0 n) (lent-nodes w) ∙ ap (lows (nodes w) 0) e

    -- closing writes none of them
    node-there : (m : ℕ) → 1 ≤ m → cell_at (nodes w') m ≡ cell_at ys m
    node-there m some = closing-nodes ordered-closing hd m some ∙ ap (λ v. cell_at v m) there

    long : length (nodes w') ≡ length ys
    long = nodes-long (back w ys) w' hd.long ∙ ap length there

    chained : Chain (nodes w') (free_head w') (lows (lent w) 0 n)
    chained =
        subst (λ i. Chain (nodes w') i (lows (lent w) 0 n)) (sym (closing-head ordered-closing hd))
        (strung-kept Free ys (nodes w') long f (lows (lent w) 0 n) 0 same th.chain)
      where
        same : (m : ℕ) → 1 ≤ times m (lows (lent w) 0 n) → cell_at (nodes w') m ≡ cell_at ys m
        same zero i = absurd (omega (arith, lows-before (lent w) 0 n 0 (omega arith)))
        same (suc m) i = node-there (suc m) (omega arith)

    -- nor another record than that of world 0, which stays as it is
    before : (k : ℕ) → k < most_worlds → record_at (back w ys) k ≡ record_at w k
    before k l = record-same w (back w ys) k (ordered-closing.before (k + 1) (omega arith))

    record-kept : (k : ℕ) → k < most_worlds → Dec (k ≡ 0) → record_at w' k ≡ record_at w k
    record-kept k l (yes z) =
        ap (record_at w') (z ∙ sym tag) ∙ hd.here
        ∙ ap (λ (u : World). record_of (headed_at u f) (floor_at (back w ys) u.tag) (ceiling_at (back w ys) u.tag)) op.is
        ∙ ap (λ (v : Record). record_of (headed_at (world_at w 0) f) v.floor v.ceiling) (before 0 (omega arith)) ∙ ap (record_at w) (sym z)
    record-kept k l (no ne) = record-same (back w ys) w' k (hd.there (k + 1) (omega arith) (λ q. omega (arith, tag))) ∙ before k l

    pub ordered-chain : InOrder w w'
    ordered-chain = record {
      chain = subst (Chain (nodes w') (free_head w')) free-nodes chained;
      others = λ m some z. node-there m some ∙ th.kept m (ap (times m) free-nodes ∙ z) ∙ ap (λ v. cell_at v m) (lent-nodes w);
      records = λ k l. record-kept k l (ℕ_discrete k 0);
    }
