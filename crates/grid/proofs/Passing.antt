-- Two passes over the rows of a rectangle set it, wherever what it leaves fits. In a pass a row is set unless it leaves more runs than the
-- limit. After one pass each row is set or would add a run, so in the next one no state on the way has more runs than the whole rectangle
-- leaves, and none is refused. Assumes nothing.
use Rattle.changes.specs.Edits.{changed_to}
use Rattle.std.specs.Prelude.{Option, None, if◌then◌else◌}
use Rattle.changes.specs.declared.edit.Edit.{Edit}
use Prim.Native.Nat.{ℕ, zero, suc, ◌+◌, ◌-◌, ◌≤◌, ◌<◌}
use mathlib.Core.Path.{◌≡◌, refl, sym, ap, ◌∙◌, subst, subst₂, fun_ext}
use mathlib.Core.Logic.{◌⊎◌, inl, inr}
use mathlib.Core.Bool.{Bool, true, false}
use mathlib.Core.List.{List, [], ◌∷◌}
use native.Mathlib.Omega.{arith}
use native.Mathlib.Decide.{ℕ_discrete}
use lib.Dec.{leb}
use borrow.Author.Tests.{le-leb, lt-leb}
use lib.ListN.{length}
use Rattle.model.specs.declared.Count.{Count}
use Rattle.model.specs.Numbers.{size}
use Rattle.model.proofs.Numbers.{split}
use Rattle.model.specs.Positions.{Positions, set_range, stretches}
use Rattle.model.proofs.Runs.{stretches-cong}
use Rattle.model.proofs.After.{set-cong}
use Rattle.run_index.specs.Cells.{cell_at}
use Rattle.pool.specs.declared.World.{World}
use Rattle.pool.specs.Layout.{held_in}
use Rattle.pool.specs.Soundness.{Chain, Footprint, Limited}
use Rattle.pool.proofs.Nodes.{still-then, still-same}
use Rattle.pool.proofs.Settling.{became-limited}
use Rattle.changes.specs.Edits.{Makes, Edited}
use Rattle.changes.proofs.Gaining.{cond-adds, cond-frees}
use Rattle.model.specs.declared.Rect.{Rect}
use Rattle.model.specs.Grid.{cell, within, set_rect}
use Rattle.grid.specs.Surveys.{OnPlane}
use Rattle.grid.specs.Rows.{Narrow, set_row, set_before, Rises, WayFits, set_if, pass_rows, RowSet, SetsRow, Passes}
use Rattle.grid.proofs.Cells.{InRow, under, here, over, in_row, row_in, row_under, row-over, before-none, before-all, before-next, rect-row}
use Rattle.grid.proofs.Locality.{rises-like, climbs-all}

-- ---- how many nodes a world has for its own
-- one chain starts at a link
chain-long : (w : List ℕ) (k : ℕ) (ms ns : List ℕ) → Chain w k ms → Chain w k ns → length ms ≡ length ns
chain-long w k [] [] c d = refl
chain-long w k [] (n ∷ ns) c d = absurd (omega (arith, d.0, d.1))
chain-long w k (m ∷ ms) [] c d = absurd (omega (arith, c.0, c.1))
chain-long w k (m ∷ ms) (n ∷ ns) c d =
    let e : m ≡ n = omega (arith, c.0, d.0) in
    ap suc (chain-long w (cell_at w n).left ms ns (subst (λ (j : ℕ). Chain w (cell_at w j).left ms) e c.4) d.4)

-- so a limit that some share allows every share does
pub limited-by : {w : List ℕ} {s u : Footprint} {h : World} {limit most : ℕ} → Limited w s h limit → Limited w u h most → Limited w u h limit
limited-by {w} {s} {u} {h} l m =
    let a = l.standing in
    let b = m.standing in
    record {
      standing = b;
      fits = l.fits;
      enough = omega (
        arith,
        l.enough,
        a.kept.counted,
        b.kept.counted,
        a.runs-are,
        b.runs-are,
        chain-long w h.free a.free b.free a.kept.chained b.kept.chained,
      );
    }

-- ---- a range, set where that fits
module _ (limit a b : ℕ) (v : Bool) where
  abbrev R : Positions → Positions
  R P = set_range a (suc b - a) v P

  module _ (P : Positions) where
    -- it is done where it fits
    set_if-done : stretches (R P) ≤ limit → set_if limit a b v P ≡ R P
    set_if-done l = ap (λ (t : Bool). if t then R P else P) (le-leb (stretches (R P)) limit l)

    -- else it is refused
    set_if-refused : limit < stretches (R P) → set_if limit a b v P ≡ P
    set_if-refused l = ap (λ (t : Bool). if t then R P else P) (lt-leb (stretches (R P)) limit l)

    -- so either of them
    set_if-either : ((limit < stretches (R P)) × (set_if limit a b v P ≡ P)) ⊎ ((stretches (R P) ≤ limit) × (set_if limit a b v P ≡ R P))
    set_if-either = go (split limit (stretches (R P)))
      where
        go : (limit < stretches (R P)) ⊎ (stretches (R P) ≤ limit)
            → ((limit < stretches (R P)) × (set_if limit a b v P ≡ P)) ⊎ ((stretches (R P) ≤ limit) × (set_if limit a b v P ≡ R P))
        go (inl l) = inl (l, set_if-refused l)
        go (inr l) = inr (l, set_if-done l)

  -- sets that are alike stay so
  set_if-cong : (P Q : Positions) → ((x : ℕ) → x < size → P x ≡ Q x) → (x : ℕ) → x < size → set_if limit a b v P x ≡ set_if limit a b v Q x
  set_if-cong P Q same x l = rw (stretches-cong (R P) (R Q) alike) (go (leb (stretches (R Q)) limit))
    where
      alike : (y : ℕ) → y < size → R P y ≡ R Q y
      alike y i = set-cong a (suc b - a) v P Q y (same y i)

      go : (t : Bool) → (if t then R P else P) x ≡ (if t then R Q else Q) x
      go true = alike x l
      go false = same x l

module _ {w w' : List ℕ} {h : World} {limit a b : ℕ} {v : Bool} (e : Option Edit) (ed : Edited w w' h limit (set_range a (suc b - a) v (held_in w h)) e) where
  -- it was done
  pub row_made : {k : World} {c : Count} → e ≡ changed_to k c → SetsRow w w' h k limit a b v
  row_made p s l =
      let P : Positions = held_in w h in
      let y = subst (Edited w w' h limit (set_range a (suc b - a) v P)) p ed in
      let be = y.1 s limit l y.0 in
      record {
        limited = became-limited l be y.0;
        still = be.still;
        holds = λ x i. be.shows.holds x i ∙ sym (ap (λ (S : Positions). S x) (set_if-done limit a b v P y.0));
      }

  -- it was refused
  pub row_refused : e ≡ None → SetsRow w w' h h limit a b v
  row_refused p =
      let P : Positions = held_in w h in
      let y = subst (Edited w w' h limit (set_range a (suc b - a) v P)) p ed in
      subst (λ (u : List ℕ). SetsRow w u h h limit a b v) (sym y.1)
      (λ s l. record {
        limited = l;
        still = still-same;
        holds = λ x _. sym (ap (λ (S : Positions). S x) (set_if-refused limit a b v P y.0));
      })

-- ---- one row after another
-- sets that are alike stay so
pass_rows-cong : (limit : ℕ) (q : Rect) (v : Bool) (n : ℕ) (P Q : Positions) → ((x : ℕ) → x < size → P x ≡ Q x)
    → (x : ℕ) → x < size → pass_rows limit q v n P x ≡ pass_rows limit q v n Q x
unfolding pass_rows
pass_rows-cong limit q v zero P Q same = same
pass_rows-cong limit q v (suc n) P Q same =
    set_if-cong limit (cell (q.top + n) q.left) (cell (q.top + n) q.right) v (pass_rows limit q v n P) (pass_rows limit q v n Q)
    (pass_rows-cong limit q v n P Q same)

-- row r after those before it
pass-next : (limit : ℕ) (q : Rect) (v : Bool) (r : ℕ) (P : Positions) → q.top ≤ r
    → pass_rows limit q v (r + 1 - q.top) P ≡ set_if limit (cell r q.left) (cell r q.right) v (pass_rows limit q v (r - q.top) P)
unfolding pass_rows
pass-next limit q v r P l =
    let e : r + 1 - q.top ≡ suc (r - q.top) = omega arith in
    let k : q.top + (r - q.top) ≡ r = omega arith in
    ap (λ n. pass_rows limit q v n P) e ∙ ap (λ i. set_if limit (cell i q.left) (cell i q.right) v (pass_rows limit q v (r - q.top) P)) k

-- before the first row
pub passed_none : {w : List ℕ} {h : World} {limit : ℕ} (q : Rect) (v : Bool) → Passes w w h h limit q v q.top
unfolding pass_rows
passed_none {w} {h} {limit} q v s l =
    let e : q.top - q.top ≡ 0 = omega arith in
    record { limited = l; still = still-same; holds = λ x _. sym (ap (λ n. pass_rows limit q v n (held_in w h) x) e) }

-- and up to the next one
pub passed-next : {w w' w'' : List ℕ} {h k k' : World} {limit : ℕ} {q : Rect} {v : Bool} {r a b : ℕ} → q.top ≤ r
    → (a ≡ cell r q.left) × (b ≡ cell r q.right) → Passes w w' h k limit q v r → SetsRow w' w'' k k' limit a b v → Passes w w'' h k' limit q v (r + 1)
passed-next {w} {w'} {w''} {h} {k} {k'} {limit} {q} {v} {r} from at p t s l =
    let g = p s l in
    let y = subst₂ (λ a b. RowSet w' w'' s k k' limit a b v) at.0 at.1 (t s g.limited) in
    let P : Positions = pass_rows limit q v (r - q.top) (held_in w h) in
    record {
      limited = y.limited;
      still = still-then g.still y.still;
      holds = λ x i.
          y.holds x i ∙ set_if-cong limit (cell r q.left) (cell r q.right) v (held_in w' k) P g.holds x i
          ∙ sym (ap (λ (S : Positions). S x) (pass-next limit q v r (held_in w h) from));
    }

-- ---- what a pass leaves
-- a row that is set stays as it is
row-twice : (q : Rect) (r : ℕ) (v : Bool) (P : Positions) → q.left ≤ q.right → (x : ℕ) → set_row q r v (set_row q r v P) x ≡ set_row q r v P x
row-twice q r v P o x = go (in_row q r x)
  where
    go : InRow q r x → set_row q r v (set_row q r v P) x ≡ set_row q r v P x
    go (under l) = row_under q r v (set_row q r v P) x l
    go (here l k) = row_in q r v (set_row q r v P) x l k ∙ sym (row_in q r v P x l k)
    go (over l) = row-over q r v (set_row q r v P) x o l

module _ (limit : ℕ) (q : Rect) (v : Bool) (P : Positions) (on : OnPlane q) where
  abbrev pass : ℕ → Positions
  pass n = pass_rows limit q v n P

  -- the row after n others was refused, or set
  abbrev Next : ℕ → Type 0
  Next n =
      let R : Positions = set_row q (q.top + n) v (pass n) in
      ((limit < stretches R) × (pass (suc n) ≡ pass n)) ⊎ ((stretches R ≤ limit) × (pass (suc n) ≡ R))

  next : (n : ℕ) → Next n
  unfolding pass_rows
  next n = set_if-either limit (cell (q.top + n) q.left) (cell (q.top + n) q.right) v (pass n)

  -- before the first one all is as it was
  none : pass 0 ≡ P
  unfolding pass_rows
  none = refl

  -- with the rectangle set all is the same
  pass-target : (n : ℕ) → q.top + n ≤ suc q.bottom → (x : ℕ) → set_rect q v (pass n) x ≡ set_rect q v P x
  pass-target zero h x = ap (λ (S : Positions). set_rect q v S x) none
  pass-target (suc n) h x = go (next n) (pass-target n (omega arith) x)
    where
      go : Next n → set_rect q v (pass n) x ≡ set_rect q v P x → set_rect q v (pass (suc n)) x ≡ set_rect q v P x
      go (inl y) e = ap (λ (S : Positions). set_rect q v S x) y.1 ∙ e
      go (inr y) e = ap (λ (S : Positions). set_rect q v S x) y.1 ∙ rect-row q v (pass n) on (q.top + n) (omega arith) (omega arith) x ∙ e

  module _ (few : stretches P ≤ limit) where
    -- no more runs than the limit
    pass-few : (n : ℕ) → stretches (pass n) ≤ limit
    pass-few zero = omega (arith, ap stretches none, few)
    pass-few (suc n) = go (next n) (pass-few n)
      where
        go : Next n → stretches (pass n) ≤ limit → stretches (pass (suc n)) ≤ limit
        go (inl y) l = omega (arith, ap stretches y.1, l)
        go (inr y) l = omega (arith, ap stretches y.1, y.0)

    -- each row that was passed takes no run away: one that was refused would add one, and one that was set stays as it is
    pass-rises : Narrow q → (n : ℕ) → q.top + n ≤ suc q.bottom → (i : ℕ) → q.top ≤ i → i < q.top + n → Rises q v (pass n) i
    pass-rises narrow zero h i a b = absurd (omega arith)
    pass-rises narrow (suc n) h i a b = go (next n) (ℕ_discrete i (q.top + n)) (pass-rises narrow n (omega arith) i a)
      where
        go : Next n → Dec (i ≡ q.top + n) → (i < q.top + n → Rises q v (pass n) i) → Rises q v (pass (suc n)) i
        go (inl y) (yes e) up = rw (y.1, e) (omega (arith, y.0, pass-few n))
        go (inl y) (no ne) up = rw (y.1) (up (omega arith))
        go (inr y) (yes e) up =
            let R : Positions = set_row q (q.top + n) v (pass n) in
            rw (y.1, e) (omega (arith, stretches-cong (set_row q (q.top + n) v R) R (λ x _. row-twice q (q.top + n) v (pass n) on.columns x)))
        go (inr y) (no ne) up =
            rises-like q v on i (omega arith) (pass n) (pass (suc n))
            (λ x _ u. sym (ap (λ (S : Positions). S x) y.1 ∙ row_under q (q.top + n) v (pass n) x (omega (arith, on.within)))) (up (omega arith))

  module _ (fits : WayFits q v P limit) where
    -- if no state on the way has too many runs, all rows are set
    pass-whole : (n : ℕ) → q.top + n ≤ suc q.bottom → pass n ≡ set_before q (q.top + n) v P
    pass-whole zero h =
        let e : q.top ≡ q.top + 0 = omega arith in
        none ∙ fun_ext (λ x. sym (before-none q v P x)) ∙ ap (λ r. set_before q r v P) e
    pass-whole (suc n) h =
        let e : suc (q.top + n) ≡ q.top + suc n = omega arith in
        go (next n)
        (ap (set_row q (q.top + n) v) (pass-whole n (omega arith))
        ∙ fun_ext (λ x. sym (before-next q v P on (q.top + n) (omega arith) (omega arith) x)))
        ∙ ap (λ r. set_before q r v P) e
      where
        go : Next n → set_row q (q.top + n) v (pass n) ≡ set_before q (suc (q.top + n)) v P → pass (suc n) ≡ set_before q (suc (q.top + n)) v P
        go (inl y) e = absurd (omega (arith, ap stretches e, fits (q.top + n) (omega arith) (omega arith), y.0))
        go (inr y) e = y.1 ∙ e

    -- and the whole pass sets the rectangle
    pub pass-sets : (x : ℕ) → pass (q.bottom + 1 - q.top) x ≡ set_rect q v P x
    pass-sets x =
        let m = q.bottom + 1 - q.top in
        let e : q.top + m ≡ suc q.bottom = omega (arith, on.rows) in
        ap (λ (S : Positions). S x) (pass-whole m (omega (arith, on.rows))) ∙ ap (λ j. set_before q j v P x) e ∙ before-all q v P x

-- two passes do, if what it leaves fits
module _ (limit : ℕ) (q : Rect) (v : Bool) (P : Positions) (on : OnPlane q) (n : Narrow q) (few : stretches P ≤ limit) (less : stretches (set_rect q v P) ≤ limit) where
  abbrev Q : Positions
  Q = pass_rows limit q v (q.bottom + 1 - q.top) P

  -- after the first one the rectangle would leave the same
  target : (x : ℕ) → set_rect q v Q x ≡ set_rect q v P x
  target = pass-target limit q v P on (q.bottom + 1 - q.top) (omega (arith, on.rows))

  -- so no state of the second one has too many runs
  second-fits : WayFits q v Q limit
  second-fits r a b =
      let up : (i : ℕ) → q.top ≤ i → i ≤ q.bottom → Rises q v Q i = λ i x y.
      pass-rises limit q v P on few n (q.bottom + 1 - q.top) (omega (arith, on.rows)) i x (omega arith) in
      omega (
        arith,
        less,
        stretches-cong (set_rect q v Q) (set_rect q v P) (λ x _. target x),
        climbs-all q v on Q n up (suc r) (omega arith) (omega arith),
      )

  pub passes-set : (x : ℕ) → pass_rows limit q v (q.bottom + 1 - q.top) Q x ≡ set_rect q v P x
  passes-set x = pass-sets limit q v Q on second-fits x ∙ target x

-- ---- of a world
-- one pass sets the rectangle, if no state on the way has too many runs
pub passed-once : {w w' : List ℕ} {t : Footprint} {h k : World} {limit : ℕ} {q : Rect} {v : Bool} → OnPlane q → Limited w t h limit → WayFits q v (held_in w h) limit
    → Passes w w' h k limit q v (q.bottom + 1) → Makes w w' h k (set_rect q v (held_in w h))
passed-once {w} {w'} {t} {h} {k} {limit} {q} {v} on l fits f s most m _ =
    let one = f s (limited-by l m) in
    record {
      shows = record { standing = one.limited.standing; holds = λ x i. one.holds x i ∙ pass-sets limit q v (held_in w h) on fits x };
      still = one.still;
    }

-- and two do, if what it leaves fits
pub passed-twice : {w w' w'' : List ℕ} {t : Footprint} {h k k' : World} {limit : ℕ} {q : Rect} {v : Bool} → OnPlane q → Narrow q → Limited w t h limit
    → stretches (set_rect q v (held_in w h)) ≤ limit → Passes w w' h k limit q v (q.bottom + 1) → Passes w' w'' k k' limit q v (q.bottom + 1)
    → Makes w w'' h k' (set_rect q v (held_in w h))
passed-twice {w} {w'} {w''} {t} {h} {k} {k'} {limit} {q} {v} on n l less f g s most m _ =
    let P : Positions = held_in w h in
    let r = q.bottom + 1 - q.top in
    let one = f s (limited-by l m) in
    let two = g s one.limited in
    record {
      shows = record {
        standing = two.limited.standing;
        holds = λ x i.
            two.holds x i ∙ pass_rows-cong limit q v r (held_in w' k) (pass_rows limit q v r P) one.holds x i
            ∙ passes-set limit q v P on n l.fits less x;
      };
      still = still-then one.still two.still;
    }

-- ---- what changes
module _ (q : Rect) (v : Bool) (P : Positions) (x : ℕ) where
  -- to true only positions are added
  pub rect-adds : v ≡ true → P x ≡ true → set_rect q v P x ≡ true
  unfolding set_rect
  rect-adds = cond-adds (within q x) v (P x)

  -- to false only some are freed
  pub rect-frees : v ≡ false → set_rect q v P x ≡ true → P x ≡ true
  unfolding set_rect
  rect-frees = cond-frees (within q x) v (P x)
