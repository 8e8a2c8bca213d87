-- Making a pool: the nodes are freed from the last on down, each before the one freed last, so at each step the chain goes through the nodes
-- after those left; then the header is written, and then the records one by one. No world of the pool made has a node, so each is empty and
-- claims its floor, and the floors fit because the limits were not refused. Assumes nothing.
use Rattle.std.proofs.Common.{⊎_elim}
use Rattle.pool.proofs.Base.{◌≡◌, ℕ, zero, suc, ◌+◌, ◌-◌, ◌*◌, ◌<◌, ◌≤◌, ◌⊎◌, List, [], ◌∷◌, length, sym, refl, ap, ◌∙◌, subst, ap₂, inl, inr, arith, Limits, most_worlds, empty}
use Rattle.pool.proofs.Base.{stretches, floors, PlainWorld, claims, limits_at, limits_from, limits_of, split, Node, cell_at, Room, Wrote, leaf, count, runs, tree_from, times, free_cell, Free, leaf-at, wrote_as, strung-kept, Links}
use Rattle.pool.proofs.Base.{Header, Record, opened_at, free_head, record_at, world_by, world_at, nodes, header_at, MadeHeader, WroteRecord, capacity_of, capacity, node_count, highest, held_from, held_by, tree_at, plain_at}
use Rattle.pool.proofs.Base.{worlds_from, worlds_of, first_of, last_of, Chain, sum_to, runs_at, count_at, Planted, KeepsLimits, after, limits_or_none}
use Rattle.model.specs.Pools.{empty_world, empty_worlds}
use Rattle.pool.specs.Free.{Chained, empty_record, Recorded, Makeable, Emptied}
use Rattle.pool.proofs.Cells.{record-same, header-same, padding-same}
use Rattle.pool.proofs.Sums.{sum_more, sum-nothing}
use Rattle.pool.proofs.Parts.{lent, back, back-nodes, back_long, cell-nodes, nodes-long}
use Rattle.pool.proofs.Nodes.{sized-length}
use Rattle.pool.proofs.Emptying.{after_one, after-apart, after-length, rootless-empty, rootless-runs, empty-stretches, vacant_world}
use Rattle.pool.proofs.Limiting.{limits-some, limits-none, limits-length, limits-all, floors-under, Allowed, allowed}

-- ---- the nodes, one after the other
-- the words w, made from w₀ with its n nodes: those after the first `left` ones are the free chain from `next`
pub record FreeAfter (w₀ w : List ℕ) (n left next : ℕ) : Type 0 where
  pub sized : length w₀ ≡ 8 * (n + 1)
  pub before : cell_at w 0 ≡ cell_at w₀ 0
  pub long : length w ≡ length w₀
  pub done : ℕ
  pub all : left + done ≡ n
  pub chain : Chain w next (after left done)

-- the node at hand has room
pub free-after-room : (w₀ w : List ℕ) (n left next : ℕ) → FreeAfter w₀ w n left next → Room w left
free-after-room w₀ w n left next f = omega (arith, f.all, f.long, f.sized)

-- it is freed, and then is the first
pub free-after-step : (w₀ w w' : List ℕ) (n l next : ℕ) → FreeAfter w₀ w n (suc l) next → Wrote w w' (suc l) (free_cell next) → FreeAfter w₀ w' n l (suc l)
free-after-step w₀ w w' n l next f wr =
    let rest : Chain w' next (after (suc l) f.done) =
    strung-kept Free w w' wr.long next (after (suc l) f.done) 0 (λ m i. wr.there m (after-apart (suc l) f.done m i)) f.chain in
    record {
      sized = f.sized;
      before = wr.there 0 (λ e. omega arith) ∙ f.before;
      long = wr.long ∙ f.long;
      done = suc f.done;
      all = omega (arith, f.all);
      chain = (
        refl,
        omega arith,
        omega (arith, wr.long, free-after-room w₀ w n (suc l) next f),
        wr.here ∙ ap (λ (v : Node). free_cell v.left) (sym wr.here),
        subst (λ (v : Node). Chain w' v.left (after (suc l) f.done)) (sym wr.here) rest,
      );
    }

-- the same, with the cell as it is made
pub free-after-more : (w₀ w w' : List ℕ) (n left next : ℕ) → 1 ≤ left → FreeAfter w₀ w n left next → {v : Node} → v ≡ free_cell next
    → Wrote w w' (left - 1 + 1) v → FreeAfter w₀ w' n (left - 1) (left - 1 + 1)
free-after-more w₀ w w' n zero next some f e wr = absurd (omega arith)
free-after-more w₀ w w' n (suc l) next some f e wr =
    let is : suc l ≡ suc l - 1 + 1 = omega arith in
    subst (λ (i : ℕ). FreeAfter w₀ w' n (suc l - 1) i) is
    (subst (λ (j : ℕ). FreeAfter w₀ w' n j (suc l)) (omega arith)
    (free-after-step w₀ w w' n l next f (subst (λ (i : ℕ). Wrote w w' i (free_cell next)) (sym is) (wrote_as e wr))))

-- ---- the records, one after the other
-- the words w, made from w₀: those of the first k worlds are written
pub record RecordedTo (w₀ w ls : List ℕ) (n k : ℕ) : Type 0 where
  pub here : (j : ℕ) → j < k → record_at w j ≡ empty_record (limits_or_none ls n j)
  pub there : (m : ℕ) → (m ≡ 0) ⊎ (k < m) → cell_at w m ≡ cell_at w₀ m
  pub long : length w ≡ length w₀
  pub few : k ≤ most_worlds

-- it is written
pub recorded_more : {w₀ w w' ls : List ℕ} {n k : ℕ} {l : Limits} {v : Record} → k < most_worlds → l ≡ limits_or_none ls n k → v ≡ empty_record l → RecordedTo w₀ w ls n k
    → WroteRecord w w' k v → RecordedTo w₀ w' ls n (k + 1)
recorded_more {w₀} {w} {w'} {ls} {n} {k} lt el ev r wr = record {
  here = λ j h. go j h (split j k);
  there = λ m e. wr.there m (λ q. ⊎_elim {C = ⊥} (λ z. omega arith) (λ a. omega arith) e) ∙ r.there m (⊎_elim inl (λ a. inr (omega arith)) e);
  long = wr.long ∙ r.long;
  few = omega arith;
}
  where
    go : (j : ℕ) → j < k + 1 → (j < k) ⊎ (k ≤ j) → record_at w' j ≡ empty_record (limits_or_none ls n j)
    go j h (inl a) = record-same w w' j (wr.there (j + 1) (λ e. omega arith)) ∙ r.here j a
    go j h (inr a) =
        subst (λ (i : ℕ). record_at w' i ≡ empty_record (limits_or_none ls n i)) (let e : k ≡ j = omega arith in e) (wr.here ∙ ev ∙ ap empty_record el)

-- ---- empty worlds
-- a sum of zeros
sum_zeros : (n : ℕ) (f : ℕ → ℕ) → ((j : ℕ) → j < n → f j ≡ 0) → sum_to n f ≡ 0
sum_zeros zero f h = sum-nothing f
sum_zeros (suc n) f h = omega (arith, sum_more n f, sum_zeros n f (λ j l. h j (omega arith)), h n (omega arith))

-- a world without a node agrees with its record
vacant-planted : (w : List ℕ) (x : Links) → Planted w (vacant_world x)
vacant-planted w x = record {
  tree = leaf;
  linked = leaf-at;
  once = λ m. omega arith;
  ordered = tt;
  balanced = tt;
  low = omega arith;
  ones-are = refl;
  runs-are = refl;
  first-is = sym (ap first_of (rootless-runs w));
  last-is = sym (ap last_of (rootless-runs w));
  empty-offset = λ _. refl;
}

-- worlds with the limits ls that hold nothing, world by world
worlds-empty : (w ls : List ℕ) (k n : ℕ) → ((j : ℕ) → k ≤ j → j < k + n → plain_at w j ≡ empty_world (limits_at ls j))
    → worlds_from w k n ≡ empty_worlds (limits_from ls k n)
unfolding worlds_from limits_from empty_worlds
worlds-empty w ls k zero h = refl
worlds-empty w ls k (suc n) h =
    ap₂ {C = List PlainWorld} (λ x xs. x ∷ xs) (h k (omega arith) (omega arith)) (worlds-empty w ls (suc k) n (λ j a b. h j (omega arith) (omega arith)))

-- they claim their floors
claims-empty : (ls : List Limits) → claims (empty_worlds ls) ≡ floors ls
unfolding claims empty_worlds
claims-empty [] = refl
claims-empty (l ∷ ls) = omega (arith, empty-stretches, claims-empty ls)

-- a world with the record of an empty one
module _ (w ls : List ℕ) (k : ℕ) (e : record_at w k ≡ empty_record (limits_at ls k)) where
  -- has no node
  record-tree : tree_at w k ≡ leaf
  unfolding tree_at tree_from
  record-tree = ap (λ (v : Record). tree_from highest (nodes w) v.root) e

  -- holds nothing
  record-holds : held_by w k ≡ empty
  unfolding held_by
  record-holds = ap (λ (v : Record). held_from (nodes w) v.root v.offset) e ∙ rootless-empty (nodes w) 0 0 refl

  -- is the model's empty world
  record-plain : plain_at w k ≡ empty_world (limits_at ls k)
  record-plain = λ i. record { positions = record-holds i; floor = (e i).floor; ceiling = (e i).ceiling }

  -- agrees with its record
  record-planted : Planted (nodes w) (world_at w k)
  record-planted =
      subst (λ (v : Record). Planted (nodes w) (world_by k (free_head w) v)) (sym e) (vacant-planted (nodes w) (record { tag = k; root = 0; free = free_head w }))

  -- and keeps its limits
  record-limited : (limits_at ls k).floor ≤ (limits_at ls k).ceiling → KeepsLimits w k
  record-limited h = record {
    limits = omega (arith, ap (λ (v : Record). v.floor) e, ap (λ (v : Record). v.ceiling) e);
    ceiling = omega (arith, ap stretches record-holds, empty-stretches);
  }

-- ---- the pool
-- the nodes of w₁ are the free chain from f, w₂ has the header, and w' the records too
module _ (w w₁ w₂ w' ls : List ℕ) (n f : ℕ) (mk : Makeable w ls n)
    (chain : Chain (nodes w₁) f (after 0 (node_count w))) (long : length w₁ ≡ length w)
    (hd : MadeHeader w₁ w₂ (record { opened = n; free = f })) (re : Recorded w₂ w' ls n) where
  -- as many words as before
  same-long : length w' ≡ length w
  same-long = re.long ∙ hd.long ∙ long

  -- and the same capacity
  same-capacity : capacity w' ≡ capacity w
  same-capacity = ap capacity_of same-long

  -- the limits as 11 tests them
  limits : Allowed (capacity w) (limits_from ls 0 n)
  limits = subst (Allowed (capacity w)) (limits-all ls n mk.many) (allowed (capacity w) (limits_of ls) mk.good)

  -- there is a world
  some-worlds : 1 ≤ n
  some-worlds = omega (arith, limits.some, limits-length ls 0 n)

  -- there are at most sixteen
  few-worlds : n ≤ most_worlds
  few-worlds = omega (arith, limits.few, limits-length ls 0 n)

  -- the header
  header_is : header_at w' ≡ record { opened = n; free = f }
  header_is = header-same w₂ w' (re.there 0 (inl refl)) ∙ hd.here

  -- it tells how many worlds were opened
  opened-is : opened_at w' ≡ n
  opened-is = ap (λ (v : Header). v.opened) header_is

  -- and where the free chain starts
  free-is : free_head w' ≡ f
  free-is = ap (λ (v : Header). v.free) header_is

  -- the record of a world that was opened
  record_is : (k : ℕ) → k < opened_at w' → record_at w' k ≡ empty_record (limits_at ls k)
  record_is k l = re.here k (omega (arith, opened-is, few-worlds)) ∙ sym (ap empty_record (limits-some ls n k (omega (arith, opened-is))))

  -- no world has a node
  no-nodes : (j : ℕ) → j < opened_at w' → runs_at w' j ≡ 0
  no-nodes j l = ap runs (record-tree w' ls j (record_is j l))

  -- so no node is in a tree
  no_node : (m j : ℕ) → j < opened_at w' → count_at w' m j ≡ 0
  no_node m j l = ap (count m) (record-tree w' ls j (record_is j l))

  -- a node of the chain is as it was
  node-same : (m : ℕ) → 1 ≤ times m (after 0 (node_count w)) → cell_at (nodes w') m ≡ cell_at (nodes w₁) m
  node-same m i =
      let pos : m ≡ 0 → ⊥ = after-apart 0 (node_count w) m i in
      cell-nodes w' m ∙ re.there (16 + m) (inr (omega arith)) ∙ hd.there (16 + m) (omega arith) ∙ sym (cell-nodes w₁ m)

  -- so the chain is
  free-chain : Chain (nodes w') (free_head w') (after 0 (node_count w))
  free-chain =
      subst (λ (k : ℕ). Chain (nodes w') k (after 0 (node_count w))) (sym free-is)
      (strung-kept Free (nodes w₁) (nodes w') (nodes-long w₁ w' (re.long ∙ hd.long)) f (after 0 (node_count w)) 0 node-same chain)

  -- the worlds are empty, with their limits
  worlds-are : worlds_of w' ≡ empty_worlds (limits_from ls 0 n)
  unfolding worlds_of
  worlds-are =
      ap (worlds_from w' 0) opened-is
      ∙ worlds-empty w' ls 0 n (λ j a b. record-plain w' ls j (record_is j (omega (arith, opened-is))))

  -- so it is a sound pool
  pub pool-made : Emptied w w' (limits_of ls)
  pool-made = record {
    sound = record {
      sized = omega (arith, mk.sized, same-capacity);
      some = omega (arith, some-worlds, opened-is);
      few = omega (arith, few-worlds, opened-is);
      padded = padding-same w₂ w' (re.there 0 (inl refl)) ∙ hd.padded;
      unopened = λ k a b. re.here k b ∙ sym (ap empty_record (limits-none ls n k (omega (arith, opened-is))));
      planted = λ k l. record-planted w' ls k (record_is k l);
      free = after 0 (node_count w);
      chained = free-chain;
      shared = λ m a b.
          omega (arith, sum_zeros (opened_at w') (count_at w' m) (no_node m), after_one 0 (node_count w) m (omega arith) (omega (arith, same-capacity)));
      counted = omega (arith, sum_zeros (opened_at w') (runs_at w') no-nodes, after-length 0 (node_count w), same-capacity);
      limited = λ k l. record-limited w' ls k (record_is k l) (floors-under ls 0 n k limits.uncrossed (omega arith) (omega (arith, opened-is)));
      fits = omega (arith, ap claims worlds-are, claims-empty (limits_from ls 0 n), limits.fits, same-capacity);
    };
    worlds = worlds-are ∙ sym (ap empty_worlds (limits-all ls n mk.many));
    long = same-long;
  }

-- ---- the nodes as a part of the words
module _ (w : List ℕ) (h : 1 ≤ capacity w) where
  -- freed there, and come back with it: all of it is as long as before
  pub part-long : (ys : List ℕ) (n f : ℕ) → Chained (lent w) ys n f → length (back w ys) ≡ length w
  part-long ys n f c = back_long w ys (omega (arith, sized-length w h)) c.long

  -- and they are the free chain
  pub part-chain : (ys : List ℕ) (f : ℕ) → Chained (lent w) ys (node_count w) f → Chain (nodes (back w ys)) f (after 0 (node_count w))
  part-chain ys f c =
      subst (λ (v : List ℕ). Chain v f (after 0 (node_count w))) (sym (back-nodes w ys (omega (arith, sized-length w h)))) c.chain

-- so with the header and the records they are an empty pool
pub made : (w ys w₂ w' ls : List ℕ) (m n f : ℕ) → Makeable w ls n → m ≡ node_count w → Chained (lent w) ys m f → MadeHeader (back w ys) w₂ (record { opened = n; free = f })
    → Recorded w₂ w' ls n → Emptied w w' (limits_of ls)
made w ys w₂ w' ls m n f mk e c hd re =
    pool-made w (back w ys) w₂ w' ls n f mk (part-chain w mk.sized ys f (subst (λ j. Chained (lent w) ys j f) e c)) (part-long w mk.sized ys m f c) hd re

pub ruleset freeing = (free-after-more)
