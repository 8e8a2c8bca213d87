-- Of a sound pool a pool can be made in which one world holds what it held, and all others are empty: the nodes of the others' trees are put
-- into the free chain, one world after the other. Only that there are such words is shown; no call is asked for them. Assumes nothing.
use Prim.Native.Nat.{ℕ, zero, suc, ◌+◌, ◌≤◌, ◌<◌, ◌^◌}
use mathlib.Core.Path.{◌≡◌, refl, sym, ap, ◌∙◌, subst, fun_ext}
use mathlib.Core.Logic.{◌⊎◌, inl, inr}
use mathlib.Core.List.{List, ◌++◌}
use native.Mathlib.Omega.{arith}
use native.Mathlib.Decide.{ℕ_discrete}
use lib.ListN.{length}
use Rattle.model.specs.Numbers.{size, most_worlds}
use Rattle.model.specs.Positions.{Positions, empty}
use Rattle.model.proofs.Numbers.{split}
use Rattle.run_index.specs.Cells.{cell_at}
use Rattle.run_index.specs.Tree.{Tree, leaf, node, runs, Distinct, cell, Rep}
use Rattle.run_index.specs.Promises.{Owned}
use Rattle.run_index.specs.Strung.{Free, free_cell, felled, Felled}
use Rattle.run_index.proofs.Words.{stored, stored-wrote}
use Rattle.run_index.proofs.Trees.{leaf-at, rep_pos, rep-room, rep-ordered, rep-left, rep-right}
use Rattle.run_index.proofs.Heap.{View}
use Rattle.run_index.proofs.Strings.{times-append, length_both, count-felled, length-felled, strung-kept, strung-append}
use Rattle.run_index.proofs.Felling.{right-stays, root-room, felled-all}
use Rattle.pool.specs.declared.World.{World}
use Rattle.pool.specs.declared.Links.{Links}
use Rattle.pool.specs.Layout.{opened_at, free_head, world_at, floor_at, ceiling_at, nodes, held_by}
use Rattle.pool.specs.Soundness.{Footprint, Represents, Standing, footprint_of, Sound}
use Rattle.pool.specs.Settle.{Settled, Closing}
use Rattle.pool.proofs.Parts.{back, lent-nodes, back-nodes, back-front, back_long, cells-before}
use Rattle.pool.proofs.Nodes.{node-once, no_zero, few-runs, kept-still}
use Rattle.pool.proofs.Emptying.{vacant_world, vacant-standing, rootless-empty, empty-stretches}
use Rattle.pool.proofs.Turn.{pool-past}
use Rattle.pool.proofs.Worlds.{sound-length, sound-room, world-standing}
use Rattle.pool.proofs.Cells.{headed-there}
use Rattle.pool.proofs.Closing.{closes}

-- ---- the nodes of a tree
module _ (n a b : ℕ) (l r : Tree) (w : List ℕ) (g k : ℕ) (h : Rep w g (node n a b l r)) (once : Distinct (node n a b l r)) (few : runs l + runs r + 1 < 2 ^ 62) where
  -- the tree is its owner's
  abbrev owned : Owned w n g (node n a b l r)
  owned = record { at = record { rep = h; linked = refl }; apart = once; few = few }

  -- its root and its sides, as the felling sees them
  abbrev seen : View w g n (cell a b l r g) (node n a b l r)
  seen = record {
    l = l;
    r = r;
    is = refl;
    left = record { rep = rep-left h; linked = refl };
    right = record { rep = rep-right h; linked = refl };
    some = rep_pos h;
    room = rep-room h;
    ordered = rep-ordered h;
  }

  -- where the left side is felled, the right one is there still
  right_there : (x : ℕ) (w₁ : List ℕ) → Felled w w₁ x k l → Rep w₁ g r
  right_there x w₁ f = (right-stays owned seen f).at.rep

  -- where both are, the node is freed too
  root-too : (x : ℕ) (w₁ : List ℕ) (y : ℕ) (w₂ : List ℕ) → Felled w w₁ x k l → Felled w₁ w₂ y x r → Felled w (stored w₂ n (free_cell y)) n k (node n a b l r)
  root-too x w₁ y w₂ f₁ f₂ =
      felled-all owned seen f₁ f₂ {w₃ = stored w₂ n (free_cell y)} (stored-wrote w₂ n (free_cell y) (root-room owned seen f₁ f₂))

-- a tree with distinct nodes can be felled, in front of any chain
fells : (t : Tree) (w : List ℕ) (g k : ℕ) → Rep w g t → Distinct t → runs t < 2 ^ 62 → (x : ℕ) × (w' : List ℕ) × Felled w w' x k t
fells leaf w g k h once few = (k, w, record { free = refl; kept = λ m z. refl; long = refl })
fells (node n a b l r) w g k h once few =
    let p = fells l w g k (rep-left h) (λ m. omega (arith, once m)) (omega arith) in
    let q = fells r p.1 g p.0 (right_there n a b l r w g k h once few p.0 p.1 p.2) (λ m. omega (arith, once m)) (omega arith) in
    (n, stored q.1 n (free_cell q.0), root-too n a b l r w g k h once few p.0 p.1 q.0 q.1 p.2 q.2)

-- a kept tree, felled in front of the free chain, leaves a kept world without a node
felled-kept : {w w' : List ℕ} {s : Footprint} {x : Links} {t : Tree} {ns : List ℕ} {f : ℕ} → Represents w s x t ns → Felled w w' f x.free t
    → Represents w' s (record { tag = x.tag; root = 0; free = f }) leaf (felled t ++ ns)
felled-kept {w} {w'} {s} {x} {t} {ns} {f} k fe = record {
  sized = fe.long ∙ k.sized;
  few = k.few;
  part = k.part;
  linked = leaf-at;
  tagged = k.tagged;
  once = λ m. omega arith;
  ordered = tt;
  balanced = tt;
  chained = strung-append Free w' f (felled t) ns x.free 0 fe.free
      (strung-kept Free w w' fe.long x.free ns 0 (λ m i. fe.kept m (omega (arith, node-once k m))) k.chained);
  shared = λ m q le. omega (arith, k.shared m q le, times-append m (felled t) ns, count-felled m t);
  counted = omega (arith, k.counted, length_both (felled t) ns, length-felled t);
}

-- ---- one world emptied
-- the nodes of w₁ are those of w with world j's tree felled, from f on; all else is as it was
record Cleared (w w₁ : List ℕ) (j f : ℕ) (t : Tree) : Type 0 where
  pub before : (m : ℕ) → m ≤ most_worlds → cell_at w₁ m ≡ cell_at w m
  pub long : length w₁ ≡ length w
  pub felled : Felled (nodes w) (nodes w₁) f (free_head w) t

-- the world that is written then
abbrev vacant : ℕ → ℕ → World
vacant j f = vacant_world (record { tag = j; root = 0; free = f })

module _ (w : List ℕ) (j : ℕ) (S : Sound w) (l : j < opened_at w) where
  -- the world as it stands
  abbrev was : Standing (nodes w) (footprint_of w j) (world_at w j)
  was = world-standing S j l

  -- there are such words
  cleared : (f : ℕ) × (w₁ : List ℕ) × Cleared w w₁ j f was.tree
  cleared =
      let le : 128 ≤ length w = omega (arith, (sound-length S).0) in
      let r = fells was.tree (nodes w) j (free_head w) was.kept.linked.rep was.kept.once (omega (arith, few-runs was.kept)) in
      let fe : Felled (nodes w) (nodes (back w r.1)) r.0 (free_head w) was.tree =
      subst (λ (v : List ℕ). Felled (nodes w) v r.0 (free_head w) was.tree) (sym (back-nodes w r.1 le)) r.2 in (
        r.0,
        back w r.1,
        record {
          before = cells-before w (back w r.1) (back-front w r.1 le) (fe.kept 0 (no_zero was.kept));
          long = back_long w r.1 le (r.2.long ∙ sym (ap length (lent-nodes w)));
          felled = fe;
        },
      )

  module _ (w₁ : List ℕ) (f : ℕ) (c : Cleared w w₁ j f was.tree) where
    -- in them the world is empty
    closing : Closing w w₁ (vacant j f) empty
    closing = record {
      openable = record { sound = S; named = l };
      before = c.before;
      long = c.long;
      became = record {
        shows = record {
          standing = vacant-standing refl (felled-kept was.kept c.felled);
          holds = λ x h. ap (λ (P : Positions). P x) (rootless-empty (nodes w₁) 0 0 refl);
        };
        still = kept-still was.kept (λ m z. c.felled.kept m (omega arith)) c.felled.long;
      };
      few = omega (arith, empty-stretches);
    }

    -- with its header and its record the pool settles
    closed : (w' : List ℕ) × Settled w w' j empty
    closed =
        let r = headed-there w₁ (vacant j f) (omega (arith, sound-room S 0 (omega arith), c.long)) (omega (arith, sound-room S (j + 1) (omega (arith, S.few)), c.long)) in
        (r.0, closes r.1 w empty closing)

  -- so one world can be emptied
  pub cleaned : (w' : List ℕ) × Settled w w' j empty
  cleaned = let r = cleared in closed r.1 r.0 r.2

-- a world that holds nothing below 2^64 is empty
pub settled-empty : {w w' : List ℕ} {j : ℕ} → Settled w w' j empty → held_by w' j ≡ empty
unfolding empty
settled-empty {w} {w'} {j} s = fun_ext (λ x. go x (split x size))
  where
    go : (x : ℕ) → (x < size) ⊎ (size ≤ x) → held_by w' j x ≡ empty x
    go x (inl l) = s.holds x l
    go x (inr l) = pool-past w' j x l

-- ---- all worlds but one
-- w' is w with all worlds but k emptied, of the first n
record LoneTo (w w' : List ℕ) (k n : ℕ) : Type 0 where
  pub sound : Sound w'
  pub opened : opened_at w' ≡ opened_at w
  pub here : held_by w' k ≡ held_by w k
  pub others : (j : ℕ) → j < n → (j ≡ k → ⊥) → held_by w' j ≡ empty
  pub floors : (j : ℕ) → j < most_worlds → floor_at w' j ≡ floor_at w j
  pub ceilings : (j : ℕ) → j < most_worlds → ceiling_at w' j ≡ ceiling_at w j
  pub long : length w' ≡ length w

-- k itself is left
lone-skip : {w w' : List ℕ} {k n : ℕ} → n ≡ k → LoneTo w w' k n → LoneTo w w' k (suc n)
lone-skip e r = record {
  sound = r.sound;
  opened = r.opened;
  here = r.here;
  others = λ j l ne. r.others j (let d : j ≡ _ → ⊥ = λ q. ne (q ∙ e) in omega arith) ne;
  floors = r.floors;
  ceilings = r.ceilings;
  long = r.long;
}

-- another one is emptied
lone-more : {w w₁ w' : List ℕ} {k n : ℕ} → k < opened_at w → n < opened_at w → (n ≡ k → ⊥) → LoneTo w w₁ k n → Settled w₁ w' n empty → LoneTo w w' k (suc n)
lone-more {w} {w₁} {w'} {k} {n} lk ln ne r s = record {
  sound = s.sound;
  opened = s.opened ∙ r.opened;
  here = s.others k (omega (arith, r.opened)) (λ e. ne (sym e)) ∙ r.here;
  others = λ j l d. go j l d (ℕ_discrete j n);
  floors = λ j l. s.floors j l ∙ r.floors j l;
  ceilings = λ j l. s.ceilings j l ∙ r.ceilings j l;
  long = s.long ∙ r.long;
}
  where
    go : (j : ℕ) → j < suc n → (j ≡ k → ⊥) → Dec (j ≡ n) → held_by w' j ≡ empty
    go j l d (yes e) = ap (held_by w') e ∙ settled-empty s
    go j l d (no m) = s.others j (omega (arith, r.opened)) m ∙ r.others j (omega arith) d

-- one after the other
lone-to : (w : List ℕ) (k : ℕ) → Sound w → k < opened_at w → (n : ℕ) → n ≤ opened_at w → (w' : List ℕ) × LoneTo w w' k n
lone-to w k S l zero le = (
  w,
  record {
    sound = S;
    opened = refl;
    here = refl;
    others = λ j h ne. absurd (omega arith);
    floors = λ j h. refl;
    ceilings = λ j h. refl;
    long = refl;
  },
)
lone-to w k S l (suc n) le = go (ℕ_discrete n k) (lone-to w k S l n (omega arith))
  where
    go : Dec (n ≡ k) → (w' : List ℕ) × LoneTo w w' k n → (w' : List ℕ) × LoneTo w w' k (suc n)
    go (yes e) r = (r.0, lone-skip e r.1)
    go (no ne) r =
        let s = cleaned r.0 n r.1.sound (omega (arith, r.1.opened)) in
        (s.0, lone-more l (omega arith) ne r.1 s.1)

-- w' is w with all worlds but k emptied
pub record Lone (w w' : List ℕ) (k : ℕ) : Type 0 where
  pub sound : Sound w'
  pub opened : opened_at w' ≡ opened_at w
  pub here : held_by w' k ≡ held_by w k
  pub others : (j : ℕ) → j < opened_at w → (j ≡ k → ⊥) → held_by w' j ≡ empty
  pub floors : (j : ℕ) → j < most_worlds → floor_at w' j ≡ floor_at w j
  pub ceilings : (j : ℕ) → j < most_worlds → ceiling_at w' j ≡ ceiling_at w j
  pub long : length w' ≡ length w

-- there are such words
pub lone : (w : List ℕ) (k : ℕ) → Sound w → k < opened_at w → (w' : List ℕ) × Lone w w' k
lone w k S l =
    let r = lone-to w k S l (opened_at w) (omega arith) in (
      r.0,
      record {
        sound = r.1.sound;
        opened = r.1.opened;
        here = r.1.here;
        others = r.1.others;
        floors = r.1.floors;
        ceilings = r.1.ceilings;
        long = r.1.long;
      },
    )
