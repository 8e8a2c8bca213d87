-- Where a reading begins: the root's tree gives the runs from a position on, and the reading begins in its first part or its last.
-- Assumes nothing.
use Prim.Native.Nat.{ℕ, ◌+◌, ◌-◌, ◌≤◌, ◌<◌}
use mathlib.Core.Path.{◌≡◌, refl, sym, ap, ◌∙◌, subst}
use mathlib.Core.Logic.{◌⊎◌, inl, inr}
use mathlib.Core.List.{List, [], ◌++◌, append-nil}
use native.Mathlib.Omega.{arith}
use lib.ListN.{length}
use Rattle.model.specs.Numbers.{size}
use Rattle.model.proofs.Numbers.{split}
use Rattle.model.specs.Positions.{mem}
use Rattle.model.specs.RunList.{Canon}
use Rattle.run_index.specs.Tree.{leaf, inorder}
use Rattle.run_index.proofs.Trees.{leaf-at}
use Rattle.pool.specs.declared.World.{World}
use Rattle.pool.specs.Places.{physical_of}
use Rattle.pool.specs.Layout.{physical_runs, held_from}
use Rattle.pool.specs.Soundness.{Footprint, Standing}
use Rattle.pool.proofs.Reached.{tree-physical, kept_low}
use Rattle.pool.proofs.Turn.{turned-at}
use Rattle.streams.specs.declared.source.View.{View}
use Rattle.streams.specs.declared.source.Path.{Path}
use Rattle.streams.specs.Reading.{Rooted, Rest, none, OnPath, InLast, InFirst, Ahead, lastly, firstly, from, Below, Descendable, Descends}
use Rattle.streams.proofs.Dropping.{from_zero, from-ends, from-canon, mem-from}

-- what stands in the words can be read
pub standing-rooted : {w : List ℕ} {s : Footprint} {h : World} → Standing w s h → Rooted w h.root
standing-rooted {s = s} t = record { tag = s.tag; tree = t.tree; at = t.kept.linked; ordered = t.kept.ordered; low = kept_low t.kept }

-- at 0 there is nothing to read
pub rooted_none : {w : List ℕ} → Rooted w 0
rooted_none = record { tag = 0; tree = leaf; at = leaf-at; ordered = tt; low = omega arith }

-- from the root, with nothing on the path
module _ {w : List ℕ} {k : ℕ} (r : Rooted w k) {p : Path} (bare : p.nodes.items ≡ []) where
  pub root_below : Below w p k r.tree []
  root_below = record {
    tag = r.tag;
    at = r.at;
    ordered = r.ordered;
    low = omega (arith, r.low, ap length bare);
    rest = subst (λ ks. Rest w ks []) (sym bare) none;
  }

  -- the runs from q on are to come
  pub root-coming : {p' : Path} (q : ℕ) → Descends w p k q p' → OnPath w p' (from q (physical_runs w k))
  root-coming {p'} q ds =
      let same = tree-physical r.at r.low in
      let is : from q (inorder r.tree) ++ [] ≡ from q (physical_runs w k) = append-nil (from q (inorder r.tree)) ∙ ap (from q) (sym same) in
      record {
        rest = subst (λ us. Rest w p'.nodes.items us) is (ds r.tree [] root_below);
        ordered = from-canon size 0 q (physical_runs w k) (subst (λ us. Canon size 0 us) (sym same) r.ordered);
      }

-- after all others
module _ {w : List ℕ} {k : ℕ} (r : Rooted w k) {p : Path} (on : OnPath w p []) where
  bare : p.nodes.items ≡ []
  bare = go on.rest
    where
      go : {ks : List ℕ} → Rest w ks [] → ks ≡ []
      go none = refl

  pub again : Descendable w p k
  again = (r.tree, [], root_below r bare)

  pub whole-coming : {p' : Path} → Descends w p k 0 p' → OnPath w p' (physical_runs w k)
  whole-coming {p'} ds = subst (λ us. OnPath w p' us) (from_zero (physical_runs w k)) (root-coming r bare 0 ds)

-- what is held, by where a position is kept
held_at : (w : List ℕ) (k o z q : ℕ) → z < size → physical_of z o ≡ q → held_from w k o z ≡ mem (physical_runs w k) q
unfolding held_from
held_at w k o z q h e = turned-at o (mem (physical_runs w k)) z h ∙ ap (mem (physical_runs w k)) e

module _ {w : List ℕ} (v : View) {p : Path} {x q : ℕ} (on : OnPath w p (from q (physical_runs w v.root))) (os : v.offset < size) (xs : x < size)
    (e : q ≡ physical_of x v.offset) where
  -- the reading begins in the last part
  begin-last : v.offset ≤ x → InLast w v p x (held_from w v.root v.offset)
  begin-last le =
      let k : q ≡ x + 0 - v.offset = omega arith in
      record {
        runs = from q (physical_runs w v.root);
        on = on;
        reach = rw (← k) (from-ends q (physical_runs w v.root));
        past = omega arith;
        tells = λ z g l.
            held_at w v.root v.offset z (z + 0 - v.offset) l (omega arith) ∙ sym (mem-from q (physical_runs w v.root) (z + 0 - v.offset) (omega arith));
      }

  -- or in the first
  begin-first : x < v.offset → InFirst w v p x (held_from w v.root v.offset)
  begin-first lt =
      let k : q ≡ x + size - v.offset = omega arith in
      record {
        part = record {
          runs = from q (physical_runs w v.root);
          on = on;
          reach = rw (← k) (from-ends q (physical_runs w v.root));
          past = omega arith;
          tells = λ z g l.
              held_at w v.root v.offset z (z + size - v.offset) (omega arith) (omega arith)
              ∙ sym (mem-from q (physical_runs w v.root) (z + size - v.offset) (omega arith));
        };
        before = lt;
        small = os;
        then = λ z g l. held_at w v.root v.offset z (z - v.offset) l (omega arith);
      }

  pub begin-ahead : Ahead w v p x (held_from w v.root v.offset)
  begin-ahead = go (split x v.offset)
    where
      go : (x < v.offset) ⊎ (v.offset ≤ x) → Ahead w v p x (held_from w v.root v.offset)
      go (inl l) = firstly (begin-first l)
      go (inr l) = lastly (begin-last l)
