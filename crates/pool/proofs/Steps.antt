-- What the functions of `soundness` return, by the tests that led there: each definition opened by one step. Assumes nothing.
use Rattle.pool.proofs.Base.{◌≡◌, ℕ, zero, suc, ◌+◌, ◌-◌, ◌^◌, ◌<◌, ◌≤◌, Bool, cond, true, false, ◌&&◌, eqb, List, sym, refl, ap, ◌∙◌, arith, eq-eqb, eqb-true, Some, None, ℕ_discrete}
use Rattle.pool.proofs.Base.{nat_tests, and-holds, Node, Room, width, Bounds, inside_b, below_of, run_b, heights_b, sums_b, agrees_b, cell_b, tree_b, Seen, Tells}
use Rattle.std.proofs.Common.{Option, SomeIff}
use Rattle.pool.specs.Decision.{words_b, leaf_b, side_b}
use Rattle.pool.proofs.Truths.{never, is_false, same, both-in}
use Rattle.pool.proofs.Tests.{inside-in, below_none, below-some, heights-out, heights-in, sums-out, sums-in, run_out}

-- the parts of a node's tests: its own run, and its words against those at its links
pub record Fits (v x y : Node) (g lo total : ℕ) : Type 0 where
  pub run_fits : run_b v.start v.«end» v.tag g lo total ≡ true
  pub heights-fit : heights_b v.height x.height y.height ≡ true
  pub sums-fit : sums_b v.runs x.runs y.runs v.ones x.ones y.ones v.start v.«end» ≡ true

-- what a node's tests say
pub cell_out : (v x y : Node) (g lo total : ℕ) → cell_b v x y g lo total ≡ true → Fits v x y g lo total
unfolding cell_b agrees_b
cell_out v x y g lo total e =
    let p = and-holds _ _ e in
    let q = and-holds _ _ p.1 in
    record { run_fits = p.0; heights-fit = q.0; sums-fit = q.1 }

-- and back
pub cell_in : (v x y : Node) (g lo total : ℕ) → Fits v x y g lo total → cell_b v x y g lo total ≡ true
unfolding cell_b agrees_b
cell_in v x y g lo total f = both-in _ _ f.run_fits (both-in _ _ f.heights-fit f.sums-fit)

-- no tree hangs at 0
pub tree-none : (d : ℕ) (w : List ℕ) (g k lo total : ℕ) → k ≡ 0 → tree_b d w g k lo total ≡ true
unfolding tree_b
tree-none zero w g k lo total e = eq-eqb k 0 e
tree-none (suc d) w g zero lo total e = refl
tree-none (suc d) w g (suc k) lo total e = absurd (omega arith)

-- a node is tested by itself, then each of its sides
pub tree-node : (d : ℕ) (w : List ℕ) (g n lo total : ℕ) {v : Node} → v ≡ below_of w n → (n ≡ 0 → ⊥)
    → tree_b (suc d) w g n lo total
    ≡ (inside_b w n
    && (cell_b v (below_of w v.left) (below_of w v.right) g lo total
    && (tree_b d w g v.left lo (v.start - 1) && tree_b d w g v.right (v.«end» + 2) total)))
unfolding tree_b
tree-node d w g zero lo total e p = absurd (p refl)
tree-node d w g (suc n) lo total e p = rw (e ∙ sym (below-some w (suc n) p)) refl

-- the parts of what the walk tests at a node
pub record Passed (d : ℕ) (w : List ℕ) (n : ℕ) (v : Node) (g lo total : ℕ) : Type 0 where
  pub deep : ℕ
  pub deeper : d ≡ suc deep
  pub inside : inside_b w n ≡ true
  pub own : Fits v (below_of w v.left) (below_of w v.right) g lo total
  pub left : tree_b deep w g v.left lo (v.start - 1) ≡ true
  pub right : tree_b deep w g v.right (v.«end» + 2) total ≡ true

-- they all pass where the walk accepts
pub passed : (d : ℕ) (w : List ℕ) (g n lo total : ℕ) {v : Node} → v ≡ below_of w n → (n ≡ 0 → ⊥) → tree_b d w g n lo total ≡ true → Passed d w n v g lo total
unfolding tree_b
passed zero w g n lo total ev ne e = absurd (ne (eqb-true _ _ e))
passed (suc d) w g n lo total {v} ev ne e =
    let s = sym (tree-node d w g n lo total ev ne) ∙ e in
    let L : Bool = tree_b d w g v.left lo (v.start - 1) in
    let R : Bool = tree_b d w g v.right (v.«end» + 2) total in
    let p = and-holds (inside_b w n) (cell_b v (below_of w v.left) (below_of w v.right) g lo total && (L && R)) s in
    let q = and-holds (cell_b v (below_of w v.left) (below_of w v.right) g lo total) (L && R) p.1 in
    let r = and-holds L R q.1 in
    record { deep = d; deeper = refl; inside = p.0; own = cell_out _ _ _ g lo total q.0; left = r.0; right = r.1 }

-- no run lies where there is no position
tree-narrow : (d : ℕ) (w : List ℕ) (g k lo total : ℕ) → total ≤ lo → (k ≡ 0 → ⊥) → tree_b d w g k lo total ≡ false
tree-narrow d w g k lo total h ne =
    is_false _ (λ e. let r = run_out _ _ _ g lo total (passed d w g k lo total refl ne e).own.run_fits in omega (arith, r.above, r.ordered, r.under))

-- a link that the walk accepts is inside
pub inside-linked : (d : ℕ) (w : List ℕ) (g k lo total : ℕ) → Room w 0 → tree_b d w g k lo total ≡ true → inside_b w k ≡ true
inside-linked d w g k lo total room e = go (ℕ_discrete k 0)
  where
    go : Dec (k ≡ 0) → inside_b w k ≡ true
    go (yes z) = inside-in w k (omega arith)
    go (no ne) = (passed d w g k lo total refl ne e).inside

-- and if its words have height 0, it is 0
flat : (d : ℕ) (w : List ℕ) (g k lo total : ℕ) → (below_of w k).height ≡ 0 → tree_b d w g k lo total ≡ true → k ≡ 0
flat d w g k lo total z e = go (ℕ_discrete k 0)
  where
    go : Dec (k ≡ 0) → k ≡ 0
    go (yes e) = e
    go (no ne) = let h = heights-out _ _ _ (passed d w g k lo total refl ne e).own.heights-fit in absurd (omega (arith, h.0))

-- no tree hangs at 0, whatever the depth
pub tells_none : (w : List ℕ) (B : Bounds) (k : ℕ) → k ≡ 0 → Tells w B k true
tells_none w B k z d h = sym (tree-none d w B.tag k B.low (B.high + 1) z)

-- its own tests pass
abbrev pub OwnFits : List ℕ → Node → Bounds → Type 0
OwnFits w v B = Fits v (below_of w v.left) (below_of w v.right) B.tag B.low (B.high + 1)

-- the sides of a node, the left one for true: its link, and what is left of the bounds
abbrev pub link_of : Bool → Node → ℕ
link_of s v = cond s v.left v.right

abbrev low_of : Bool → Node → Bounds → ℕ
low_of s v B = cond s B.low (v.«end» + 2)

abbrev total_of : Bool → Node → Bounds → ℕ
total_of s v B = cond s (v.start - 1) (B.high + 1)

-- the bounds that are left to a side, if there are any
abbrev Leaves : Bool → Node → Bounds → Option Bounds → Type 0
Leaves s v B None = total_of s v B ≤ low_of s v B
Leaves s v B (Some C) = (C.tag ≡ B.tag) × (C.low ≡ low_of s v B) × (C.high + 1 ≡ total_of s v B)

pub left-leaves : (v : Node) (B : Bounds) (o : Option Bounds) → SomeIff o (2 ≤ v.start) (record B { high = v.start - 2 }) → Leaves true v B o
left-leaves v B None f = omega arith
left-leaves v B (Some C) c =
    let two = c.0 in
    (ap (λ (D : Bounds). D.tag) c.1, ap (λ (D : Bounds). D.low) c.1, ap (λ (D : Bounds). D.high + 1) c.1 ∙ omega arith)

pub right-leaves : (v : Node) (B : Bounds) → B.high < 2 ^ 64 → (o : Option Bounds) → SomeIff o (v.«end» + 2 < 2 ^ 64) (record B { low = v.«end» + 2 }) → Leaves false v B o
right-leaves v B fits None f = omega arith
right-leaves v B fits (Some C) c = (ap (λ (D : Bounds). D.tag) c.1, ap (λ (D : Bounds). D.low) c.1, ap (λ (D : Bounds). D.high + 1) c.1)

module _ {w : List ℕ} {n : ℕ} {v : Node} (S : Seen w n v) (B : Bounds) where
  -- what the walk tests there
  parts : (d : ℕ) → tree_b d w B.tag n B.low (B.high + 1) ≡ true → Passed d w n v B.tag B.low (B.high + 1)
  parts d e = passed d w B.tag n B.low (B.high + 1) S.is S.some e

  part : (s : Bool) {d : ℕ} (p : Passed d w n v B.tag B.low (B.high + 1)) → tree_b p.deep w B.tag (link_of s v) (low_of s v B) (total_of s v B) ≡ true
  part true p = p.left
  part false p = p.right

  -- the height is the node's
  height-is : v.height ≡ (below_of w n).height
  height-is = ap (λ (u : Node). u.height) S.is

  -- what is refused of a node whose own tests pass is refused of any
  pub own-refuses : (OwnFits w v B → Tells w B n false) → Tells w B n false
  own-refuses f d h = sym (is_false _ (λ e. never (f (parts d e).own d h ∙ e)))

  -- r says whether a tree hangs on a side, within the bounds that are left for it
  abbrev pub SideTells : Bool → Bool → Type 0
  SideTells s r = (d : ℕ) → (below_of w n).height ≤ suc d → r ≡ tree_b d w B.tag (link_of s v) (low_of s v B) (total_of s v B)

  -- a side that is refused
  pub refuses : (s : Bool) → SideTells s false → Tells w B n false
  refuses s l d h = sym (is_false _ (λ e. let p = parts d e in never (l p.deep (omega (arith, p.deeper)) ∙ part s p)))

  -- its link leads outside
  pub outside : (s : Bool) {b : Bool} → b ≡ inside_b w (link_of s v) → b ≡ false → Tells w B n false
  outside s eb t =
      let room : Room w 0 = omega (arith, S.room) in
      refuses s (λ d h. sym (is_false _ (λ e. never (sym (sym eb ∙ t) ∙ inside-linked d w B.tag (link_of s v) (low_of s v B) (total_of s v B) room e))))

  -- nothing hangs there
  pub none : (s : Bool) → link_of s v ≡ 0 → SideTells s true
  none s z d h = sym (tree-none d w B.tag (link_of s v) (low_of s v B) (total_of s v B) z)

  -- there is no position for it
  pub crowded : (s : Bool) → (link_of s v ≡ 0 → ⊥) → Leaves s v B None → SideTells s false
  crowded s nl le d h = sym (tree-narrow d w B.tag (link_of s v) (low_of s v B) (total_of s v B) le nl)

  module _ (F : OwnFits w v B) where
    -- either side is lower than the node, by 2 at most
    pub lower : (s : Bool) → ((below_of w (link_of s v)).height < v.height) × (v.height ≤ (below_of w (link_of s v)).height + 2)
    lower true = let h = heights-out _ _ _ F.heights-fit in (omega (arith, h.0), omega (arith, h.0, h.1, h.2))
    lower false = let h = heights-out _ _ _ F.heights-fit in (omega (arith, h.0), omega (arith, h.0, h.1, h.2))

    -- what the walk of a side says
    pub walked : (s : Bool) (C : Bounds) → Leaves s v B (Some C) → {r : Bool} → Tells w C (link_of s v) r → SideTells s r
    walked s C c er d h = rw (c.0, c.1, c.2) at (er d (omega (arith, (lower s).0, height-is)))

    -- where its own tests pass both sides decide
    pub sides : {l r : Bool} → SideTells true l → SideTells false r → Tells w B n (l && r)
    sides L R zero h = absurd (omega (arith, (lower true).0, height-is))
    sides L R (suc d) h =
        rw (L d h, R d h)
        (sym (tree-node d w B.tag n B.low (B.high + 1) S.is S.some ∙ rw (inside-in w n S.room, cell_in v (below_of w v.left) (below_of w v.right) B.tag B.low (B.high + 1) F)))

    -- a node of height 2 or more has a right side if it has no left one
    pub right-there : 2 ≤ v.height → v.left ≡ 0 → v.right ≡ 0 → ⊥
    right-there le x y =
        let p = ap (λ (u : Node). u.height) (below_none w v.left x) in
        let q = ap (λ (u : Node). u.height) (below_none w v.right y) in
        let h = heights-out _ _ _ F.heights-fit in
        omega (arith, h.0, p, q)

  -- a node of height 3 or more has both sides
  pub missing : (s : Bool) → 3 ≤ v.height → link_of s v ≡ 0 → Tells w B n false
  missing s le z =
      own-refuses (λ F d h. absurd (omega (arith, (lower F s).1, ap (λ (u : Node). u.height) (below_none w (link_of s v) z))))

  module _ {x y : Node} (ex : x ≡ below_of w v.left) (ey : y ≡ below_of w v.right) {b : Bool} (eb : b ≡ cell_b v x y B.tag B.low (B.high + 1)) where
    -- a node that fails by itself
    pub node-fails : b ≡ false → Tells w B n false
    node-fails t = own-refuses (λ F. never (sym (sym eb ∙ t) ∙ rw (ex, ey) (cell_in _ _ _ B.tag B.low (B.high + 1) F)))

    -- one that passes
    pub node-passes : b ≡ true → OwnFits w v B
    node-passes t = rw (← ex, ← ey) (cell_out v x y B.tag B.low (B.high + 1) (sym eb ∙ t))

  -- a node of height 1 is a leaf
  leaf-accepts : v.height ≡ 1 → leaf_b v B.tag B.low (B.high + 1) ≡ true → (d : ℕ) → tree_b (suc d) w B.tag n B.low (B.high + 1) ≡ true
  unfolding leaf_b
  leaf-accepts one e d =
      let f : (run_b v.start v.«end» v.tag B.tag B.low (B.high + 1) ≡ true) × (v.left ≡ 0) × (v.right ≡ 0) × (v.runs ≡ 1) × (v.ones ≡ width v.start v.«end») =
      grind (arith, nat_tests) in
      let x = below_none w v.left f.1 in
      let y = below_none w v.right f.2 in
      let F : OwnFits w v B = rw (← x, ← y) (record {
        run_fits = f.0;
        heights-fit = heights-in v.height 0 0 one (omega arith) (omega arith);
        sums-fit = sums-in v.runs 0 0 v.ones 0 0 v.start v.«end» f.3 (f.4 ∙ omega arith);
      }) in
      sym (sides F (none true f.1) (none false f.2) (suc d) (omega (arith, height-is)))

  -- and the other way round
  leaf-accepted : v.height ≡ 1 → {d : ℕ} → Passed d w n v B.tag B.low (B.high + 1) → leaf_b v B.tag B.low (B.high + 1) ≡ true
  unfolding leaf_b
  leaf-accepted one p =
      let h = heights-out _ _ _ p.own.heights-fit in
      let l : v.left ≡ 0 = flat p.deep w B.tag v.left B.low (v.start - 1) (omega (arith, h.0)) p.left in
      let r : v.right ≡ 0 = flat p.deep w B.tag v.right (v.«end» + 2) (B.high + 1) (omega (arith, h.0)) p.right in
      let s = sums-out v.runs 0 0 v.ones 0 0 v.start v.«end» (rw (← below_none w v.left l, ← below_none w v.right r) at p.own.sums-fit) in
      let o : v.ones ≡ width v.start v.«end» = s.1 ∙ omega arith in
      rw (p.own.run_fits, eq-eqb v.left 0 l, eq-eqb v.right 0 r, eq-eqb v.runs 1 s.0, eq-eqb v.ones (width v.start v.«end») o) refl

  -- so its height and the tests of a leaf decide about a node of height 1 at most
  pub leaf-decides : v.height ≤ 1 → (r : Bool) → r ≡ (eqb v.height 1 && leaf_b v B.tag B.low (B.high + 1)) → Tells w B n r
  leaf-decides low r er d h =
      er ∙ same (eqb v.height 1 && leaf_b v B.tag B.low (B.high + 1)) (tree_b d w B.tag n B.low (B.high + 1)) (yields d h)
      (λ e.
      let p = parts d e in
      let one : v.height ≡ 1 = let t = heights-out _ _ _ p.own.heights-fit in omega (arith, t.0) in
      both-in _ _ (eq-eqb _ _ one) (leaf-accepted one p))
    where
      yields : (d : ℕ) → (below_of w n).height ≤ d → (eqb v.height 1 && leaf_b v B.tag B.low (B.high + 1)) ≡ true → tree_b d w B.tag n B.low (B.high + 1) ≡ true
      yields zero h e = absurd (omega (arith, height-is, eqb-true _ _ (and-holds (eqb v.height 1) (leaf_b v B.tag B.low (B.high + 1)) e).0))
      yields (suc d) h e = let p = and-holds (eqb v.height 1) (leaf_b v B.tag B.low (B.high + 1)) e in leaf-accepts (eqb-true _ _ p.0) p.1 d

-- what hangs on a side of a node of height 2 is a leaf
pub leaf-side : {w : List ℕ} {n : ℕ} {v : Node} (S : Seen w n v) (B : Bounds) (s : Bool) → OwnFits w v B → v.height ≡ 2 → {x : Node} → x ≡ below_of w (link_of s v)
    → (link_of s v ≡ 0 → ⊥) → Room w (link_of s v) → (o : Option Bounds) → Leaves s v B o → (r : Bool) → r ≡ side_b x o → SideTells S B s r
leaf-side S B s F two ex nl room None le r er = rw er (crowded S B s nl le)
leaf-side {w} {n} {v} S B s F two {x} ex nl room (Some C) le r er =
    let q = ap (λ (u : Node). u.height) ex in
    walked S B F s C le (leaf-decides (record { some = nl; room = room; is = ex }) C (omega (arith, (lower S B F s).0)) r er)

-- only a node of height 1 is a leaf
pub side-high : (x : Node) (o : Option Bounds) → side_b x o ≡ true → x.height ≡ 1
side-high x None e = never e
side-high x (Some B) e = eqb-true _ _ (and-holds (eqb x.height 1) (leaf_b x B.tag B.low (B.high + 1)) e).0

-- a node of height 2, whose height is tested by that of its leaves
module _ {w : List ℕ} {n : ℕ} {v : Node} (S : Seen w n v) (B : Bounds) {x y : Node} (ex : x ≡ below_of w v.left) (ey : y ≡ below_of w v.right)
    {b : Bool} (eb : b ≡ words_b v x y B.tag B.low (B.high + 1)) where
  -- its words do not fit
  pub words-fail : b ≡ false → Tells w B n false
  unfolding words_b
  words-fail t = own-refuses S B (λ F. never (sym t ∙ eb ∙ both-in _ _ F.run_fits (rw (ex, ey) F.sums-fit)))

  -- where they do its sides decide, if one of them has height 1 where both are accepted
  pub sides-decide : v.height ≡ 2 → b ≡ true → (l r : Bool) → (OwnFits w v B → SideTells S B true l) → (OwnFits w v B → SideTells S B false r)
      → (l ≡ true → r ≡ true → (x.height ≤ 1) × (y.height ≤ 1) × (1 ≤ x.height + y.height)) → Tells w B n (l && r)
  unfolding words_b
  sides-decide two t false r L R high = own-refuses S B (λ F. refuses S B true (L F))
  sides-decide two t true false L R high = own-refuses S B (λ F. refuses S B false (R F))
  sides-decide two t true true L R high =
      let h = high refl refl in
      let p = and-holds (run_b v.start v.«end» v.tag B.tag B.low (B.high + 1)) (sums_b v.runs x.runs y.runs v.ones x.ones y.ones v.start v.«end») (sym eb ∙ t) in
      let F : OwnFits w v B = rw (← ex, ← ey) (record {
        run_fits = p.0;
        heights-fit = heights-in v.height x.height y.height (omega (arith, two, h.0, h.1, h.2)) (omega (arith, h.0, h.1, h.2)) (omega (arith, h.0, h.1, h.2));
        sums-fit = p.1;
      }) in
      sides S B F (L F) (R F)

-- where the walk of the link k is: at the link j, whose walk decides for k's
pub record Way (w : List ℕ) (B : Bounds) (k : ℕ) (C : Bounds) (j : ℕ) : Type 0 where
  pub room : Room w j
  pub high : C.high < 2 ^ 64
  pub lower : (below_of w j).height ≤ (below_of w k).height
  pub tells : (r : Bool) → Tells w C j r → Tells w B k r

pub ruleset leaf_rules = (leaf-decides)
