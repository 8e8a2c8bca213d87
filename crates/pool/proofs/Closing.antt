-- Closing a world: the header and the record are written last, and no node. The world's tree and the free chain are those of the world at
-- hand; the trees of other worlds have none of the cells that a change may touch. So each world has its tree again, together they share
-- the nodes out as before, and what the world has more it may have. Assumes nothing.
use Rattle.pool.proofs.Base.{◌≡◌, ℕ, zero, suc, ◌+◌, ◌<◌, ◌≤◌, max, List, length, sym, refl, ap, ◌∙◌, subst, ap₂, arith, ℕ_discrete, size, most_worlds, Positions, held_runs, stretches, stretches-cong}
use Rattle.pool.proofs.Base.{cell_at, runs, count, At, times, Free, frame, rep-positive, strung-kept, World, Header, Record, opened_at, free_head, record_at, world_by, world_at, floor_at, ceiling_at, nodes, record_of, Headed}
use Rattle.pool.proofs.Base.{capacity_of, capacity, held_in, held_by, tree_at, allowance, Chain, first_of, last_of, Foreign, Standing, sum_to, without, runs_at, count_at, footprint_of, Planted, KeepsLimits, Sound, Closing, Closes}
use Rattle.pool.proofs.Sums.{sum_one, without-there, without-cong, without-most, sum-split}
use Rattle.pool.proofs.Cells.{record-same, header-same, padding-same}
use Rattle.pool.proofs.WorldLists.{claims-all}
use Rattle.pool.proofs.Parts.{cell-nodes, nodes-long}
use Rattle.pool.proofs.Nodes.{chain-no-zero}
use Rattle.pool.proofs.Reached.{tree-reached, tree-held, kept_low}
use Rattle.pool.proofs.Worlds.{planted-tree, claim_at, allowance-is, claims-fit}

-- ---- a tree in other words
-- the cells of a planted tree and its record are in w as they were; the free head may be another
record Moved (u w : List ℕ) (j f : ℕ) (v : Record) (P : Planted u (world_by j f v)) : Type 0 where
  pub long : length (nodes w) ≡ length u
  pub same : (m : ℕ) → 1 ≤ m → 1 ≤ count m P.tree → cell_at (nodes w) m ≡ cell_at u m
  pub is : record_at w j ≡ v

module _ {u w : List ℕ} {j f : ℕ} {v : Record} (P : Planted u (world_by j f v)) (M : Moved u w j f v P) where
  -- the tree is there
  at_again : At (nodes w) j v.root P.tree
  at_again = record { rep = frame u (nodes w) j M.long P.tree go P.linked.rep; linked = P.linked.linked }
    where
      go : (m : ℕ) → 1 ≤ count m P.tree → cell_at (nodes w) m ≡ cell_at u m
      go zero i = absurd (omega (arith, rep-positive u j P.tree P.linked.rep))
      go (suc m) i = M.same (suc m) (omega arith) i

  -- so the same positions are held
  held_same : (g : ℕ) → held_in (nodes w) (world_by j g v) ≡ held_in u (world_by j f v)
  held_same g = tree-held v.offset at_again P.low ∙ sym (tree-held v.offset P.linked P.low)

  -- by the world of its number
  held-again : held_by w j ≡ held_in u (world_by j f v)
  unfolding held_by
  held-again = ap (λ (z : Record). held_in (nodes w) (world_by j (free_head w) z)) M.is ∙ held_same (free_head w)

  -- its tree is the world's
  tree_again : tree_at w j ≡ P.tree
  unfolding tree_at
  tree_again = tree-reached (record { rep = at_again.rep; linked = at_again.linked ∙ sym (ap (λ (z : Record). z.root) M.is) }) P.low

  -- and planted
  planted-again : Planted (nodes w) (world_at w j)
  planted-again =
      subst (λ (z : Record). Planted (nodes w) (world_by j (free_head w) z)) (sym M.is)
      (record {
        tree = P.tree;
        linked = at_again;
        once = P.once;
        ordered = P.ordered;
        balanced = P.balanced;
        low = P.low;
        ones-are = P.ones-are;
        runs-are = P.runs-are;
        first-is = P.first-is ∙ sym (ap (λ (Q : Positions). first_of (held_runs Q)) (held_same (free_head w)));
        last-is = P.last-is ∙ sym (ap (λ (Q : Positions). last_of (held_runs Q)) (held_same (free_head w)));
        empty-offset = P.empty-offset;
      })

-- ---- closing
-- what is held, by its name
held-is : (w : List ℕ) (k : ℕ) → held_by w k ≡ held_in (nodes w) (world_at w k)
unfolding held_by
held-is w k = refl

module _ {w₀ w w' : List ℕ} {h : World} {P : Positions} (cl : Closing w₀ w h P) (hd : Headed w w' h) where
  -- the world's number, how many worlds are opened, the pool as it was, that the world is opened, and the world as it is
  abbrev k : ℕ
  k = h.tag

  abbrev n : ℕ
  n = opened_at w₀

  abbrev was : Sound w₀
  was = cl.openable.sound

  abbrev named : k < n
  named = cl.openable.named

  abbrev is : Standing (nodes w) (footprint_of w₀ k) h
  is = cl.became.shows.standing

  -- the number is small
  low : k < most_worlds
  low = omega (arith, was.few, named)

  -- ---- header and records
  -- the length, the capacity, how many worlds are opened
  pub closing-long : length w' ≡ length w₀
  closing-long = hd.long ∙ cl.long

  capacity-kept : capacity w' ≡ capacity w₀
  capacity-kept = ap capacity_of closing-long

  pub closing-opened : opened_at w' ≡ n
  closing-opened = ap (λ (z : Header). z.opened) (hd.header ∙ ap (λ (z : Header). record { opened = z.opened; free = h.free }) (header-same w₀ w (cl.before 0 (omega arith))))

  -- the free head
  pub closing-head : free_head w' ≡ h.free
  closing-head = ap (λ (z : Header). z.free) hd.header

  -- the record of another world
  record-there : (j : ℕ) → j < most_worlds → (j ≡ k → ⊥) → record_at w' j ≡ record_at w₀ j
  record-there j l ne = record-same w₀ w' j (hd.there (j + 1) (omega arith) (λ e. ne (omega arith)) ∙ cl.before (j + 1) (omega arith))

  -- a word of each record, if that of this world's is kept
  word_kept : (g : Record → ℕ) → g (record_at w' k) ≡ g (record_at w k) → (j : ℕ) → j < most_worlds → g (record_at w' j) ≡ g (record_at w₀ j)
  word_kept g e j l = go (ℕ_discrete j k)
    where
      go : Dec (j ≡ k) → g (record_at w' j) ≡ g (record_at w₀ j)
      go (yes q) = ap (λ i. g (record_at w' i)) q ∙ e ∙ ap g (record-same w₀ w k (cl.before (k + 1) (omega (arith, low)))) ∙ sym (ap (λ i. g (record_at w₀ i)) q)
      go (no ne) = ap g (record-there j l ne)

  -- so floors and ceilings are kept
  pub closing-floors : (j : ℕ) → j < most_worlds → floor_at w' j ≡ floor_at w₀ j
  closing-floors = word_kept (λ (z : Record). z.floor) (ap (λ (z : Record). z.floor) hd.here)

  pub closing-ceilings : (j : ℕ) → j < most_worlds → ceiling_at w' j ≡ ceiling_at w₀ j
  closing-ceilings = word_kept (λ (z : Record). z.ceiling) (ap (λ (z : Record). z.ceiling) hd.here)

  -- ---- nodes
  -- no node is written
  pub closing-nodes : (m : ℕ) → 1 ≤ m → cell_at (nodes w') m ≡ cell_at (nodes w) m
  closing-nodes m pos = cell-nodes w' m ∙ hd.there (16 + m) (omega arith) (λ e. omega (arith, low)) ∙ sym (cell-nodes w m)

  -- the world's own tree
  abbrev own : Planted (nodes w) h
  own = record {
    tree = is.tree;
    linked = is.kept.linked;
    once = is.kept.once;
    ordered = is.kept.ordered;
    balanced = is.kept.balanced;
    low = kept_low is.kept;
    ones-are = is.ones-are;
    runs-are = is.runs-are;
    first-is = is.first-is;
    last-is = is.last-is;
    empty-offset = is.empty-offset;
  }

  -- stands in these words as it did
  moved_here : Moved (nodes w) w' k h.free (record_of h (floor_at w k) (ceiling_at w k)) own
  moved_here = record { long = nodes-long w w' hd.long; same = λ m p i. closing-nodes m p; is = hd.here }

  -- it is the tree of world k
  tree-here : tree_at w' k ≡ is.tree
  tree-here = tree_again own moved_here

  -- which holds P
  pub closing-holds : (x : ℕ) → x < size → held_by w' k x ≡ P x
  closing-holds x l = ap (λ (Q : Positions). Q x) (held-again own moved_here) ∙ cl.became.shows.holds x l

  -- with no more runs than it may have
  few-here : stretches (held_by w' k) ≤ allowance w₀ k
  few-here = omega (arith, cl.few, stretches-cong (held_by w' k) P closing-holds)

  -- the tree of another world
  module _ (j : ℕ) (l : j < n) (ne : j ≡ k → ⊥) where
    -- as it was
    abbrev theirs : Planted (nodes w₀) (world_at w₀ j)
    theirs = was.planted j l

    -- none of its nodes is this world's, or free
    foreign : (m : ℕ) → 1 ≤ count m theirs.tree → Foreign (footprint_of w₀ k) m
    foreign m i p le =
        omega (
          arith,
          ap (count m) (planted-tree w₀ j theirs),
          sum_one n (without k (count_at w₀ m)) j l,
          without-there k (count_at w₀ m) j ne,
        )

    -- so it stands as it did
    moved-there : Moved (nodes w₀) w' j (free_head w₀) (record_at w₀ j) theirs
    moved-there = record {
      long = nodes-long w₀ w' closing-long;
      same = λ m p i. closing-nodes m p ∙ cl.became.still.cells m (foreign m i);
      is = record-there j (omega (arith, was.few)) ne;
    }

    -- and is the tree of that world
    tree-there : tree_at w' j ≡ tree_at w₀ j
    tree-there = tree_again theirs moved-there ∙ sym (planted-tree w₀ j theirs)

    -- which holds what it held
    pub closing-others : held_by w' j ≡ held_by w₀ j
    closing-others = held-again theirs moved-there ∙ sym (held-is w₀ j)

    -- and claims what it claimed
    claim-there : claim_at w' j ≡ claim_at w₀ j
    claim-there = ap₂ (λ (Q : Positions) f. max (stretches Q) f) closing-others (closing-floors j (omega (arith, was.few)))

  -- ---- the pool
  -- sums over all worlds, of which this one has changed
  sum-closed : (f g : ℕ → ℕ) → ((j : ℕ) → j < n → (j ≡ k → ⊥) → f j ≡ g j) → sum_to (opened_at w') f ≡ f k + sum_to n (without k g)
  sum-closed f g same = ap (λ i. sum_to i f) closing-opened ∙ sum-split n k f named ∙ ap (λ i. f k + i) (without-cong n k f g same)

  -- the free chain is the one that the world at hand has
  chained : Chain (nodes w') (free_head w') is.free
  chained =
      subst (λ i. Chain (nodes w') i is.free) (sym closing-head)
      (strung-kept Free (nodes w) (nodes w') (nodes-long w w' hd.long) h.free is.free 0 go is.kept.chained)
    where
      go : (m : ℕ) → 1 ≤ times m is.free → cell_at (nodes w') m ≡ cell_at (nodes w) m
      go zero i = absurd (omega (arith, chain-no-zero is.kept))
      go (suc m) i = closing-nodes (suc m) (omega arith)

  -- a world that is opened was
  opened-then : (j : ℕ) → j < opened_at w' → j < n
  opened-then j l = omega (arith, closing-opened)

  -- each opened world has its tree
  planted : (j : ℕ) → j < opened_at w' → Planted (nodes w') (world_at w' j)
  planted j l = go (ℕ_discrete j k)
    where
      go : Dec (j ≡ k) → Planted (nodes w') (world_at w' j)
      go (yes e) = subst (λ i. Planted (nodes w') (world_at w' i)) (sym e) (planted-again own moved_here)
      go (no ne) = let l₀ = opened-then j l in planted-again (theirs j l₀ ne) (moved-there j l₀ ne)

  -- limits are kept: this world's by its allowance, the others' as they were
  limited : (j : ℕ) → j < opened_at w' → KeepsLimits w' j
  limited j l = record {
    limits = omega (arith, old.limits, closing-floors j few, closing-ceilings j few);
    ceiling = go (ℕ_discrete j k);
  }
    where
      old : KeepsLimits w₀ j
      old = was.limited j (opened-then j l)

      few : j < most_worlds
      few = omega (arith, was.few, opened-then j l)

      go : Dec (j ≡ k) → stretches (held_by w' j) ≤ ceiling_at w' j
      go (yes e) =
          subst (λ i. stretches (held_by w' i) ≤ ceiling_at w' i) (sym e)
          (omega (arith, few-here, allowance-is w₀ k named, closing-ceilings k low))
      go (no ne) = omega (arith, old.ceiling, closing-ceilings j few, ap stretches (closing-others j (opened-then j l) ne))

  -- all that a sound pool is
  pub closing-sound : Sound w'
  closing-sound = record {
    sized = omega (arith, was.sized, capacity-kept);
    some = omega (arith, was.some, closing-opened);
    few = omega (arith, was.few, closing-opened);
    padded = hd.padding ∙ padding-same w₀ w (cl.before 0 (omega arith)) ∙ was.padded;
    unopened = λ j a b. record-there j b (λ e. omega (arith, named, closing-opened)) ∙ was.unopened j (omega (arith, closing-opened)) b;
    planted = planted;
    free = is.free;
    chained = chained;
    shared = λ m p le.
        omega (
          arith,
          is.kept.shared m p (omega (arith, capacity-kept)),
          sum-closed (count_at w' m) (count_at w₀ m) (λ j l ne. ap (count m) (tree-there j l ne)),
          ap (count m) tree-here,
        );
    counted =
        omega (
          arith,
          is.kept.counted,
          was.counted,
          without-most n k (runs_at w₀),
          capacity-kept,
          sum-closed (runs_at w') (runs_at w₀) (λ j l ne. ap runs (tree-there j l ne)),
          ap runs tree-here,
        );
    limited = limited;
    fits =
        omega (
          arith,
          claims-all w',
          sum-closed (claim_at w') (claim_at w₀) claim-there,
          claims-fit was k named,
          few-here,
          allowance-is w₀ k named,
          closing-floors k low,
          capacity-kept,
        );
  }

-- and the pool settles
pub closes : {w w' : List ℕ} {h : World} → Headed w w' h → Closes w w' h
closes hd w₀ P cl = record {
  sound = closing-sound cl hd;
  holds = closing-holds cl hd;
  opened = closing-opened cl hd;
  others = closing-others cl hd;
  floors = closing-floors cl hd;
  ceilings = closing-ceilings cl hd;
  long = closing-long cl hd;
}
