-- How many positions a change makes differ, from what the world tells before and after it. Its sum is how many positions it holds,
-- modulo 2^64, and only an empty world has no root, so the two tell a full world from an empty one. A set to true only adds positions, and
-- one to false only frees some: so the difference is what changed. Assumes nothing.
use Rattle.std.specs.Prelude.{Some}
use Rattle.std.proofs.Common.{◌≡◌, ℕ, zero, suc, ◌+◌, ◌-◌, ◌%◌, ◌^◌, ◌<◌, ◌≤◌, Bool, true, false, cond, not, List, ◌∷◌, sym, refl, ap, ◌∙◌, subst, true≢false, arith}
use mathlib.Core.Bool.{beq}
use Rattle.model.specs.declared.Count.{Count}
use Rattle.model.specs.declared.Operation.TheVariants.{Xor}
use Rattle.model.specs.Numbers.{size, worth}
use Rattle.model.specs.Positions.{Positions, run, among, one_if, count, set_range, stretches, combined, changes}
use Rattle.model.proofs.Counting.{count-cong, count_cut, count-both}
use Rattle.model.proofs.RunList.{widths, count-mem}
use Rattle.model.proofs.Search.{widths-append}
use Rattle.run_index.specs.Tree.{Tree, leaf, node, inorder, At}
use Rattle.run_index.proofs.Trees.{rep_pos, rep-ordered}
use Rattle.run_index.proofs.Totals.{ones-widths}
use Rattle.pool.specs.declared.World.{World}
use Rattle.pool.specs.Layout.{turned, held_in}
use Rattle.pool.specs.Soundness.{Footprint, Standing, Editable}
use Rattle.pool.specs.Settle.{Became}
use Rattle.pool.proofs.Turn.{turned_zero}
use Rattle.pool.proofs.Turn.{count-parted}
use Rattle.pool.proofs.Opening.{physical_in, standing-held}
use Rattle.changes.specs.declared.edit.Edit.{Edit}
use Rattle.changes.specs.Edits.{TellsHeld, Gains, SetGains, Makes, Edited, Grows, GrowsBy}

-- ---- what a world tells
-- a turn moves positions and drops none
count-turned : (o : ℕ) (Q : Positions) (v : Bool) → o < size → count (turned o Q) v 0 size ≡ count Q v 0 size
count-turned zero Q v h = count-cong (turned 0 Q) Q v 0 size (λ x _ l. turned_zero Q x (omega arith))
count-turned (suc o) Q v h =
    let z : ℕ = size - suc o in
    let e : z - 1 + 1 ≡ z = omega arith in
    let turn : count (turned (suc o) Q) v 0 size ≡ count Q v z (size - z) + count Q v 0 (z - 1 + 1) =
    count-parted {o = suc o} {a = 0} {n = size} {s = z} {e = z - 1}
    (record { some = omega arith; fits = omega arith; small = h; first-at = omega arith; last-at = omega arith }) Q v (omega arith) in
    let cut : count Q v 0 size ≡ count Q v 0 z + count Q v z (size - z) = count_cut Q v 0 size z z (size - z) (omega arith) (omega arith) in
    omega (arith, turn, cut, ap (count Q v 0) e)

-- the runs of a tree have positions exactly if it has a root
rootless-widths : {w : List ℕ} {g p : ℕ} (t : Tree) → At w g p t → (p ≡ 0 → widths (inorder t) ≡ 0) × (widths (inorder t) ≡ 0 → p ≡ 0)
unfolding widths
rootless-widths leaf h = (λ _. refl, λ _. sym h.linked)
rootless-widths (node n a b l r) h =
    let pos : 1 ≤ n = rep_pos h.rep in
    let or : a ≤ b = rep-ordered h.rep in
    (λ z. absurd (omega (arith, h.linked)), λ z. absurd (omega (arith, widths-append (inorder l) (run a b ∷ inorder r))))

-- the root and the sum of a world tell how many positions it holds
world-tells : {w : List ℕ} {s : Footprint} {h : World} → Standing w s h → h.offset < size → TellsHeld h.root h.ones (count (held_in w h) true 0 size)
world-tells {w} {s} {h} st small =
    let held : count (held_in w h) true 0 size ≡ widths (inorder st.tree) =
    ap (λ (P : Positions). count P true 0 size) (standing-held st) ∙ count-turned h.offset (physical_in st) true small
    ∙ count-mem size 0 (inorder st.tree) 0 size st.kept.ordered (omega arith) (omega arith) in
    let tree = rootless-widths st.tree st.kept.linked in
    record {
      most = omega (arith, count-both (held_in w h) 0 size);
      sum = st.ones-are ∙ ones-widths st.tree st.kept.linked.rep ∙ ap (λ (k : ℕ). k % 2 ^ 64) (sym held);
      none = λ z. held ∙ tree.0 z;
      rootless = λ z. tree.1 (sym held ∙ z);
    }

-- ---- the difference
-- ---- what a change leaves that only adds
-- a position that was held is held: it differs exactly if it is new
adds-here : (p q : Bool) → (p ≡ true → q ≡ true) → one_if (beq q true) ≡ one_if (beq p true) + one_if (beq (not (beq p q)) true)
adds-here true true f = refl
adds-here true false f = absurd (true≢false (sym (f refl)))
adds-here false true f = refl
adds-here false false f = refl

-- so with what differs as many are held as afterwards
more-counts : (P Q : Positions) (a n : ℕ) → ((x : ℕ) → a ≤ x → x < a + n → P x ≡ true → Q x ≡ true)
    → count Q true a n ≡ count P true a n + count (combined Xor P Q) true a n
unfolding count combined
more-counts P Q a zero f = refl
more-counts P Q a (suc n) f =
    omega (
      arith,
      adds-here (P a) (Q a) (f a (omega arith) (omega arith)),
      more-counts P Q (suc a) n (λ x k l. f x (omega arith) (omega arith)),
    )

-- of all positions
more-changes : (P Q : Positions) → ((x : ℕ) → x < size → P x ≡ true → Q x ≡ true) → count Q true 0 size ≡ count P true 0 size + changes P Q
unfolding changes
more-changes P Q f = more-counts P Q 0 size (λ x _ l. f x (omega arith))

-- what differs does so either way
changes-either : (P Q : Positions) → changes P Q ≡ changes Q P
unfolding changes combined
changes-either P Q = count-cong (combined Xor P Q) (combined Xor Q P) true 0 size (λ x _ _. either (P x) (Q x))
  where
    either : (p q : Bool) → not (beq p q) ≡ not (beq q p)
    either true true = refl
    either true false = refl
    either false true = refl
    either false false = refl

-- ---- a set only adds positions, or only frees some
-- to true: what was held is held
pub cond-adds : (b v p : Bool) → v ≡ true → p ≡ true → cond b v p ≡ true
cond-adds true v p e f = e
cond-adds false v p e f = f

-- to false: what is held was held
pub cond-frees : (b v p : Bool) → v ≡ false → cond b v p ≡ true → p ≡ true
cond-frees true v p e f = absurd (true≢false (sym f ∙ e))
cond-frees false v p e f = f

-- Q has what a set of P to v leaves, as far as that only adds, or only frees
abbrev pub SetOf : Positions → Positions → Bool → Type 0
SetOf P Q v = (x : ℕ) → (v ≡ true → P x ≡ true → Q x ≡ true) × (v ≡ false → Q x ≡ true → P x ≡ true)

-- of a range
set-of : (a n : ℕ) (v : Bool) (P : Positions) → SetOf P (set_range a n v P) v
unfolding set_range
set-of a n v P x = (cond-adds (among a n x) v (P x), cond-frees (among a n x) v (P x))

-- ---- a world and what a change makes of it
module _ {w w' : List ℕ} {s : Footprint} {h k : World} {Q : Positions} (st : Standing w s h) (be : Became w w' s k Q) (oh : h.offset < size) (ok : k.offset < size)
    (c : Count) where
  -- it holds as many as the change leaves
  after : count (held_in w' k) true 0 size ≡ count Q true 0 size
  after = count-cong (held_in w' k) Q true 0 size (λ x _ u. be.shows.holds x (omega arith))

  -- what is gained is what differs, where the change only adds
  gained-changes : ((x : ℕ) → x < size → held_in w h x ≡ true → Q x ≡ true) → Gains h.root h.ones k.root k.ones c
      → worth c ≡ changes (held_in w h) Q
  gained-changes f g =
      let sum = after ∙ more-changes (held_in w h) Q f in
      g (count (held_in w h) true 0 size) (count (held_in w' k) true 0 size) (world-tells st oh) (world-tells be.shows.standing ok) (omega (arith, sum))
      ∙ omega (arith, sum)

  -- and so is what is lost, where it only frees
  lost-changes : ((x : ℕ) → x < size → Q x ≡ true → held_in w h x ≡ true) → Gains k.root k.ones h.root h.ones c
      → worth c ≡ changes (held_in w h) Q
  lost-changes f g =
      let sum = more-changes Q (held_in w h) f in
      g (count (held_in w' k) true 0 size) (count (held_in w h) true 0 size) (world-tells be.shows.standing ok) (world-tells st oh) (omega (arith, sum, after))
      ∙ omega (arith, sum, after, changes-either (held_in w h) Q)

  -- so what a set tells is what differs
  pub set-changes : (v : Bool) → SetOf (held_in w h) Q v → SetGains h k v c → worth c ≡ changes (held_in w h) Q
  set-changes true f g = gained-changes (λ x _. (f x).0 refl) g
  set-changes false f g = lost-changes (λ x _. (f x).1 refl) g

-- a set of a range, and its outcome
pub set-edited : {w w' : List ℕ} {h k : World} {limit : ℕ} (a b : ℕ) {v : Bool} (r : Edit) → Editable w h limit → h.offset < size → k.offset < size
    → stretches (set_range a (suc b - a) v (held_in w h)) ≤ limit → Makes w w' h k (set_range a (suc b - a) v (held_in w h)) × Grows w w' h k a b v
    → r.world ≡ k → SetGains h k v r.changed
    → Edited w w' h limit (set_range a (suc b - a) v (held_in w h)) (Some r) × GrowsBy w w' h a b v (Some r)
set-edited {w} {w'} {h} {k} {limit} a b {v} r lim oh ok few m e g = (
  (
    few,
    subst (λ (z : World). Makes w w' h z (set_range a (suc b - a) v (held_in w h))) (sym e) m.0,
    set-changes lim.1.standing (m.0 lim.0 limit lim.1 few) oh ok r.changed v (set-of a (suc b - a) v (held_in w h)) g,
  ),
  subst (λ (z : World). Grows w w' h z a b v) (sym e) m.1,
)
