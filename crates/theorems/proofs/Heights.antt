-- How high runs that are set one by one into an empty world make its tree: those of the shortest list for a height touch none of those before them, so
-- each is put in; and each set of any list adds at most one run, so a shorter list leaves too few for that height, and none is refused for want of
-- room where the world may have as many runs as the list. Assumes nothing.
use Prim.Native.Nat.{ℕ, ◌+◌, ◌-◌, ◌≤◌, ◌<◌, min}
use mathlib.Core.Path.{◌≡◌, refl, sym, ap, ◌∙◌, subst}
use mathlib.Core.Bool.{Bool, true, false, true≢false}
use mathlib.Core.Logic.{◌⊎◌, inl, inr}
use mathlib.Core.List.{List, [], ◌∷◌, ◌++◌, append-nil}
use native.Mathlib.Omega.{arith}
use lib.ListN.{length}
use Rattle.std.specs.declared.ops.Bound.TheVariants.{Included}
use Rattle.model.specs.Call.{Call, number, Answer, gave}
use Rattle.model.specs.Deepest.{least, deepest_runs}
use Rattle.model.specs.Numbers.{size}
use Rattle.model.specs.Positions.{Positions, bounded, empty, set_range, stretches}
use Rattle.model.specs.RunList.{TouchesNone}
use Rattle.model.specs.declared.Run.{Run}
use Rattle.model.proofs.After.{set-inside, set_below, set-above}
use Rattle.model.proofs.Deepest.{deepest-apart, deepest-single}
use Rattle.model.proofs.Numbers.{split}
use Rattle.model.proofs.Runs.{stretches-cong}
use Rattle.run_index.specs.Shape.{inserted, Sown}
use Rattle.run_index.specs.Tree.{Tree, leaf, node, link, height, inorder, runs}
use Rattle.run_index.proofs.Sowing.{sown-more, sown-untouched}
use Rattle.run_index.proofs.Sparsest.{deepest-height}
use Rattle.pool.specs.Layout.{opened_at, nodes, allowance, world_at, held_by, tree_at}
use Rattle.pool.specs.Soundness.{runs_at, footprint_of, Standing, Sound}
use Rattle.pool.specs.Settle.{Settled}
use Rattle.pool.proofs.Emptying.{empty-stretches}
use Rattle.pool.proofs.Heights.{unturned-runs, world-lower}
use Rattle.pool.proofs.Opening.{standing-some}
use Rattle.pool.proofs.Reached.{kept-tree}
use Rattle.pool.proofs.Worlds.{world-standing}
use Rattle.changes.proofs.Lists.{append-one}
use Rattle.changes.proofs.SetRuns.{set-one-more}
use Rattle.interval_bit_set.specs.Grown.{shape, Unturned, Clear}
use Rattle.interval_bit_set.specs.Met.{Met, Readable}
use Rattle.interval_bit_set.proofs.Allowing.{allowance-after}
use Rattle.interval_bit_set.proofs.Changing.{bounded-is}
use Rattle.interval_bit_set.proofs.Meeting.{readable}
use Rattle.interval_bit_set.proofs.Giving.{fits-quiet, given-where, given-settled}
use Rattle.interval_bit_set.proofs.Simulation.{bounded-ends, worlds-after}
use Rattle.interval_bit_set.proofs.Shapes.{shape-height, shape-inorder, shape-inserted}
use Rattle.theorems.specs.Heights.{SetRun, SetOneByOne}

-- ---- the list for a height
-- a run of the list is put into the tree of those before it
module _ (d i : ℕ) (xs : List Run) (r : Run) (ys : List Run) (is : deepest_runs d ≡ xs ++ (r ∷ ys)) {w v : List ℕ} (z : Unturned w i)
    (sown : Sown leaf xs (shape (tree_at w i))) (one : SetRun w i r v) where
  -- it is a single position
  single : r.start ≡ r.«end»
  single = (deepest-single d xs r ys is).0

  last : r.«end» + 1 - 1 ≡ r.«end»
  last = omega arith

  clear : Clear w i (Included r.start) (Included r.«end»)
  clear = record {
    some = omega (arith, single);
    apart =
        subst (λ e. TouchesNone r.start e (inorder (tree_at w i))) (sym last)
        (subst (TouchesNone r.start r.«end») (shape-inorder (tree_at w i))
        (sown-untouched r.start r.«end» leaf xs (shape (tree_at w i)) (deepest-apart d xs r ys is) tt sown));
  }

  unturned-then : Unturned v i
  unturned-then = (one.grows z).unturned

  grown : shape (tree_at v i) ≡ inserted 0 r.start r.«end» (shape (tree_at w i))
  grown =
      (one.grows z).tree refl clear ∙ ap (λ e. shape (inserted 0 r.start e (tree_at w i))) last
      ∙ shape-inserted 0 r.start r.«end» (tree_at w i)

  sown-then : Sown leaf (xs ++ (r ∷ [])) (shape (tree_at v i))
  sown-then = subst (Sown leaf (xs ++ (r ∷ []))) (sym grown) (sown-more 0 leaf xs r (shape (tree_at w i)) sown)

-- so all of them make the height
rest-grown : (d i : ℕ) (ys xs : List Run) (w w' : List ℕ) → deepest_runs d ≡ xs ++ ys → Unturned w i → Sown leaf xs (shape (tree_at w i))
    → SetOneByOne w i ys w' → height (tree_at w' i) ≡ d
rest-grown d i [] xs w w' is z sown e =
    ap (λ v. height (tree_at v i)) e ∙ sym (shape-height (tree_at w i))
    ∙ deepest-height d (shape (tree_at w i)) (subst (λ rs. Sown leaf rs (shape (tree_at w i))) (sym (is ∙ append-nil xs)) sown)
rest-grown d i (r ∷ ys) xs w w' is z sown s =
    rest-grown d i ys (xs ++ (r ∷ [])) s.0 w' (is ∙ sym (append-one xs r ys))
    (unturned-then d i xs r ys is z sown s.1) (sown-then d i xs r ys is z sown s.1) s.2

-- ---- any list
-- a set adds at most one run, also where its range has no position, or goes beyond them
module _ (P : Positions) (a n : ℕ) (v : Bool) where
  -- how many positions the range has
  abbrev m : ℕ
  m = min n (size - a)

  -- only these count
  within-size : (x : ℕ) → x < size → set_range a n v P x ≡ set_range a m v P x
  within-size x l = go (split x a) (split x (a + m))
    where
      go : (x < a) ⊎ (a ≤ x) → (x < a + m) ⊎ (a + m ≤ x) → set_range a n v P x ≡ set_range a m v P x
      go (inl h) k = set_below a n v P x h ∙ sym (set_below a m v P x h)
      go (inr h) (inl k) = set-inside a n v P x h (omega arith) ∙ sym (set-inside a m v P x h k)
      go (inr h) (inr k) = set-above a n v P x (omega arith) ∙ sym (set-above a m v P x k)

  none-set : m ≡ 0 → (x : ℕ) → x < size → set_range a n v P x ≡ P x
  none-set z x l = within-size x l ∙ go (split x a)
    where
      go : (x < a) ⊎ (a ≤ x) → set_range a m v P x ≡ P x
      go (inl h) = set_below a m v P x h
      go (inr h) = set-above a m v P x (omega arith)

  one-more : stretches (set_range a n v P) ≤ stretches P + 1
  one-more = go (split 0 m)
    where
      go : (0 < m) ⊎ (m ≤ 0) → stretches (set_range a n v P) ≤ stretches P + 1
      go (inl some) = omega (arith, stretches-cong (set_range a n v P) (set_range a m v P) within-size, set-one-more P a m v some (omega arith))
      go (inr none) = omega (arith, stretches-cong (set_range a n v P) P (none-set (omega arith)))

-- ---- a set of a run
module _ {w : List ℕ} {i : ℕ} (r : Run) (S : Sound w) (l : i < opened_at w) where
  abbrev there : Readable w i
  there = readable (record { sound = S; named = l })

  -- what it makes of the positions: at most one run more
  abbrev Q : Positions
  Q = set_range r.start (r.«end» + 1 - r.start) true (held_by w i)

  set-more : stretches Q ≤ stretches (held_by w i) + 1
  set-more = one-more (held_by w i) r.start (r.«end» + 1 - r.start) true

  -- so it is given where the world may have one more
  set-given : {a : Answer} {v : List ℕ} → stretches (held_by w i) + 1 ≤ allowance w i
      → Met w i (Call.set (Included r.start) (Included r.«end») true) a v → (n : ℕ) × (a ≡ gave (number n))
  set-given few m = (_, given-where there refl (fits-quiet there.openable Q [] (omega (arith, set-more, few)) refl) m)

  -- what it leaves where it was
  module _ {v : List ℕ} (one : SetRun w i r v) where
    set-settled : Settled w v i (bounded Q)
    set-settled = given-settled one.met

    set-few : stretches (held_by v i) ≤ stretches (held_by w i) + 1
    set-few = omega (arith, stretches-cong (held_by v i) Q (λ x u. set-settled.holds x u ∙ sym (bounded-is Q x u)), set-more)

    -- what the world may have stays
    set-allowance : allowance v i ≡ allowance w i
    set-allowance = allowance-after w v i (bounded Q) set-settled.long (worlds-after l set-settled (bounded-ends Q))

-- ---- sets one by one
-- after n sets at most n runs more, of which the world may have m
pub record Sparse (w : List ℕ) (i m n : ℕ) : Type 0 where
  pub sound : Sound w
  pub named : i < opened_at w
  pub unturned : Unturned w i
  pub few : stretches (held_by w i) ≤ n
  pub most : allowance w i ≡ m

sets-sparse : (i m : ℕ) (rs : List Run) (n : ℕ) (w w' : List ℕ) → Sparse w i m n → SetOneByOne w i rs w' → Sparse w' i m (n + length rs)
sets-sparse i m [] n w w' p e = subst (Sparse w' i m) (omega arith) (subst (λ v. Sparse v i m n) (sym e) p)
sets-sparse i m (r ∷ rs) n w w' p s =
    let one = s.1 in
    let b = set-settled r p.sound p.named one in
    let q : Sparse s.0 i m (n + 1) = record {
      sound = b.sound;
      named = omega (arith, b.opened, p.named);
      unturned = (one.grows p.unturned).unturned;
      few = omega (arith, set-few r p.sound p.named one, p.few);
      most = set-allowance r p.sound p.named one ∙ p.most;
    } in
    subst (Sparse w' i m) (omega arith) (sets-sparse i m rs (n + 1) s.0 w' q s.2)

-- a world that has no offset has so many physical runs
sparse-runs : {w : List ℕ} {i m n : ℕ} → Sparse w i m n → runs_at w i ≤ n
unfolding tree_at held_by
sparse-runs {w} {i} p = omega (arith, unturned-runs (world-standing p.sound i p.named) p.unturned, p.few)

-- ---- an empty world
-- it has no tree, and no offset
module _ {w : List ℕ} {i : ℕ} (S : Sound w) (l : i < opened_at w) (small : (world_at w i).offset < size)
    (bare : (x : ℕ) → x < size → held_by w i x ≡ false) where
  abbrev st : Standing (nodes w) (footprint_of w i) (world_at w i)
  st = world-standing S i l

  no-run : runs st.tree ≡ 0
  unfolding held_by
  no-run = go (split 0 (runs st.tree))
    where
      go : (0 < runs st.tree) ⊎ (runs st.tree ≤ 0) → runs st.tree ≡ 0
      go (inl h) = let x = standing-some st small h in absurd (true≢false (sym x.2 ∙ bare x.0 x.1))
      go (inr h) = omega arith

  no-node : (t : Tree) → runs t ≡ 0 → t ≡ leaf
  no-node leaf z = refl
  no-node (node n a b x y) z = absurd (omega arith)

  bare-unturned : Unturned w i
  bare-unturned = st.empty-offset (sym st.kept.linked.linked ∙ ap link (no-node st.tree no-run))

  bare-tree : tree_at w i ≡ leaf
  unfolding tree_at
  bare-tree = kept-tree st.kept ∙ no-node st.tree no-run

  bare-empty : (x : ℕ) → x < size → held_by w i x ≡ empty x
  unfolding empty
  bare-empty = bare

  bare-sparse : Sparse w i (allowance w i) 0
  bare-sparse = record {
    sound = S;
    named = l;
    unturned = bare-unturned;
    few = omega (arith, stretches-cong (held_by w i) empty bare-empty, empty-stretches);
    most = refl;
  }

  -- the list for the height d makes that height
  pub list-high : (d : ℕ) (w' : List ℕ) → SetOneByOne w i (deepest_runs d) w' → height (tree_at w' i) ≡ d
  list-high d w' s = rest-grown d i (deepest_runs d) [] w w' refl bare-unturned (ap shape bare-tree) s

  module _ (rs : List Run) (w' : List ℕ) (s : SetOneByOne w i rs w') where
    after-sets : Sparse w' i (allowance w i) (length rs)
    after-sets = subst (Sparse w' i (allowance w i)) (omega arith) (sets-sparse i (allowance w i) rs 0 w w' bare-sparse s)

    -- a shorter one does not
    pub shorter-lower : (d : ℕ) → length rs < least d → height (tree_at w' i) < d
    shorter-lower d few = let p = after-sets in world-lower w' i d p.sound p.named (omega (arith, sparse-runs p, few))

    -- and a further set is given, where the world may have one run more than were set
    pub further-given : (r : Run) {a : Answer} {v : List ℕ} → length rs < allowance w i
        → Met w' i (Call.set (Included r.start) (Included r.«end») true) a v → (n : ℕ) × (a ≡ gave (number n))
    further-given r room m = let p = after-sets in set-given r p.sound p.named (omega (arith, p.few, p.most, room)) m
