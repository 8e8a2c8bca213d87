-- Moving a world by d. Its first and last position tell what would leave 0 .. M: all, and it is made empty; or some, and they are
-- cleared; then the move is a turn, which the offset alone does. Assumes nothing.
use Rattle.std.proofs.Common.{◌≡◌, ℕ, suc, ◌+◌, ◌-◌, ◌%◌, ◌^◌, ◌<◌, ◌≤◌, Bool, true, false, ◌⊎◌, List, [], sym, refl, ap, ◌∙◌, subst, ap₂, inl, inr, arith}
use Rattle.model.specs.declared.Run.{Run}
use Rattle.model.specs.Numbers.{size}
use Rattle.model.proofs.Numbers.{split}
use Rattle.model.specs.Positions.{Positions, mem, held_runs, stretches, empty, set_range, shift_left, shift_right, shift_by}
use Rattle.model.proofs.After.{set-inside, set_below, set-above}
use Rattle.run_index.specs.Tree.{Tree, leaf, node, runs, inorder, At}
use Rattle.pool.specs.declared.World.{World}
use Rattle.pool.specs.declared.Links.{Links}
use Rattle.pool.specs.Places.{physical_of, logical_of}
use Rattle.pool.specs.Layout.{links_of, turned, held_in}
use Rattle.pool.specs.Soundness.{first_of, last_of, Footprint, SameFrame, Standing, Limited}
use Rattle.pool.specs.Free.{Becomes, Keepable, GivesBack}
use Rattle.pool.specs.Settle.{Became, Refreshes}
use Rattle.pool.proofs.Turn.{turned_zero}
use Rattle.pool.proofs.Ends.{clash, empty-mem, Ends, held-ends}
use Rattle.pool.proofs.Nodes.{still-same}
use Rattle.pool.proofs.Reached.{kept-held}
use Rattle.pool.proofs.Emptying.{rootless-empty}
use Rattle.pool.proofs.Opening.{physical_in, standing-held, standing-some}
use Rattle.changes.specs.Edits.{Makes, Appliable, Empties, Leaves, Moves}
use Rattle.changes.proofs.SetRuns.{clear-top, clear-bottom}
use Rattle.changes.proofs.Shifted.{
  left_at,
  right-at,
  left-cong,
  right-cong,
  left-nothing,
  right-nothing,
  shifted-left,
  shifted-right,
  left-first,
  left-last,
  right-first,
  right-last,
}
use Rattle.changes.proofs.Setting.{links-kept}

-- ---- the first and the last position held
-- a tree with a root has a run
rooted-runs : {w : List ℕ} {g k : ℕ} (t : Tree) → At w g k t → (k ≡ 0 → ⊥) → 1 ≤ runs t
rooted-runs leaf h nz = absurd (nz (sym h.linked))
rooted-runs (node n a b l r) h nz = omega arith

-- a world with a root tells the first and the last position
pub world-ends : {w : List ℕ} {s : Footprint} {h : World} → Standing w s h → (h.root ≡ 0 → ⊥) → h.offset < size → Ends (held_in w h) h.first h.last
world-ends {w} {s} {h} st nz small =
    let g = standing-some st small (rooted-runs st.tree st.kept.linked nz) in
    subst (λ (a : ℕ). Ends (held_in w h) a h.last) (sym st.first-is)
    (subst (Ends (held_in w h) (first_of (held_runs (held_in w h)))) (sym st.last-is) (held-ends (held_in w h) g.0 g.1 g.2))

-- ---- all would leave
module _ {w : List ℕ} {h : World} {x : Links} (ex : x ≡ links_of h) where
  module _ {w' : List ℕ} {y : Links} (gb : GivesBack w w' x y) where
    -- what they are then
    given : {s : Footprint} → Standing w s h → Becomes w w' s y []
    given {s} st = gb s st.tree st.free (links-kept ex st)

    -- they are kept
    pub given-keepable : {s : Footprint} → Standing w s h → Keepable w' y
    given-keepable {s} st = let b = given st in (s, b.tree, b.nodes, b.kept)

    -- and the world holds nothing
    pub given-empties : {k : World} → Refreshes w' y 0 k → Empties w w' h k
    unfolding empty
    given-empties re s st =
        let b = given st in
        let sh = re s b.tree b.nodes b.kept in
        record {
          shows = record {
            standing = sh.standing;
            holds = λ z l. sh.holds z l ∙ turned_zero (mem (inorder b.tree)) z l ∙ ap (λ (rs : List Run). mem rs z) b.runs-are ∙ empty-mem z;
          };
          still = b.still;
        }

-- an empty world holds what is nothing
emptied-became : {w w' : List ℕ} {s : Footprint} {k : World} (R : Positions) → Became w w' s k empty → ((x : ℕ) → x < size → R x ≡ false) → Became w w' s k R
unfolding empty
emptied-became R e f = record {
  shows = record { standing = e.shows.standing; holds = λ x l. e.shows.holds x l ∙ sym (f x l) };
  still = e.still;
}

module _ {w w' : List ℕ} {s : Footprint} (h : World) {k : World} {a b : ℕ} (d : ℕ) (en : Ends (held_in w h) a b) where
  -- up
  pub up-empty : size ≤ a + d → Became w w' s k empty → Became w w' s k (shift_left d (held_in w h))
  up-empty l e = emptied-became (shift_left d (held_in w h)) e (left-nothing d (held_in w h) (λ y i. en.under y (omega arith)))

  -- down
  pub down-empty : b < d → Became w w' s k empty → Became w w' s k (shift_right d (held_in w h))
  down-empty l e = emptied-became (shift_right d (held_in w h)) e (λ x _. right-nothing d (held_in w h) (λ y i t. en.over y (omega arith) t) x)

-- ---- some would leave
-- the world k, in u, is h without the n positions from a, which would leave: so it moves as h does
pub record Cleared (w u : List ℕ) (s : Footprint) (h k : World) (a n : ℕ) (moved : Positions → Positions) : Type 0 where
  pub standing : Standing u s k
  pub some : k.root ≡ 0 → ⊥
  pub still : SameFrame w u s
  pub none : (y : ℕ) → a ≤ y → y < a + n → held_in u k y ≡ false
  pub same : (x : ℕ) → x < size → moved (held_in u k) x ≡ moved (held_in w h) x

-- a world that holds something has a root
held-root : (w : List ℕ) (h : World) (x : ℕ) → held_in w h x ≡ true → h.root ≡ 0 → ⊥
unfolding empty
held-root w h x e z = clash e (ap (λ (P : Positions). P x) (rootless-empty w h.root h.offset z))

module _ {w : List ℕ} {s : Footprint} {h : World} where
  -- it held none of those
  uncleared : (a n : ℕ) (moved : Positions → Positions) → Standing w s h → (h.root ≡ 0 → ⊥) → ((y : ℕ) → a ≤ y → y < a + n → held_in w h y ≡ false)
      → Cleared w w s h h a n moved
  uncleared a n moved st nz f = record { standing = st; some = nz; still = still-same; none = f; same = λ x l. refl }

  -- or they are cleared, and x, which is held, is none of them
  cleared : {u : List ℕ} {k : World} (b m a n x : ℕ) (moved : Positions → Positions) → b ≡ a → m ≡ n → a + n ≤ size → x < size
      → Became w u s k (set_range b m false (held_in w h)) → held_in w h x ≡ true → (x < a) ⊎ (a + n ≤ x)
      → (((y : ℕ) → y < size → (y < a) ⊎ (a + n ≤ y) → held_in u k y ≡ held_in w h y) → (y : ℕ) → y < size → moved (held_in u k) y ≡ moved (held_in w h) y)
      → Cleared w u s h k a n moved
  cleared {u} {k} b m a n x moved eb em fits xs be held out cong = record {
    standing = be.shows.standing;
    some = held-root u k x (others x xs out ∙ held);
    still = be.still;
    none = λ y l i. be.shows.holds y (omega arith) ∙ set-inside b m false (held_in w h) y (omega arith) (omega arith);
    same = cong others;
  }
    where
      others : (y : ℕ) → y < size → (y < a) ⊎ (a + n ≤ y) → held_in u k y ≡ held_in w h y
      others y i (inl l) = be.shows.holds y i ∙ set_below b m false (held_in w h) y (omega arith)
      others y i (inr l) = be.shows.holds y i ∙ set-above b m false (held_in w h) y (omega arith)

-- words and a world that are the same are so too
pub cleared-same : {w u v : List ℕ} {s : Footprint} {h k l : World} {a n : ℕ} {moved : Positions → Positions} → v ≡ u → l ≡ k → Cleared w u s h k a n moved
    → Cleared w v s h l a n moved
cleared-same {w} {u} {v} {s} {h} {k} {l} {a} {n} {moved} p q c =
    subst (λ (z : List ℕ). Cleared w z s h l a n moved) (sym p) (subst (λ (z : World). Cleared w u s h z a n moved) (sym q) c)

module _ {w : List ℕ} {s : Footprint} {h : World} {limit : ℕ} (lim : Limited w s h limit) where
  -- up: what would leave may be cleared
  up-few : (a n : ℕ) → a + n ≡ size → stretches (set_range a n false (held_in w h)) ≤ limit
  up-few a n e =
      let l : size - a ≡ n = omega arith in
      omega (arith, lim.fits, clear-top (held_in w h) a (omega arith), ap (λ m. stretches (set_range a m false (held_in w h))) l)

  pub up-applies : (a b : ℕ) → a ≤ b → suc b ≡ size → Appliable w h a b false
  up-applies a b i e = (s, limit, record { limited = lim; ordered = i; few = up-few a (suc b - a) (omega arith) })

  -- down
  down-few : (n : ℕ) → n ≤ size → stretches (set_range 0 n false (held_in w h)) ≤ limit
  down-few n l = omega (arith, lim.fits, clear-bottom (held_in w h) n l)

  pub down-applies : (b : ℕ) → b < size → Appliable w h 0 b false
  down-applies b l = (s, limit, record { limited = lim; ordered = omega arith; few = down-few (suc b - 0) (omega arith) })

  module _ {d : ℕ} (nz : h.root ≡ 0 → ⊥) (small : h.offset < size) (fits : d < size) where
    -- the first and the last position
    ends : Ends (held_in w h) h.first h.last
    ends = world-ends lim.standing nz small

    -- up: nothing would leave
    pub up-uncleared : h.last + d < size → Cleared w w s h h (size - d) d (shift_left d)
    up-uncleared l = uncleared (size - d) d (shift_left d) lim.standing nz (λ y i k. ends.over y (omega arith) (omega arith))

    -- something would, and is cleared
    pub up-cleared : {u : List ℕ} {k : World} (c m : ℕ) → h.first + d < size → c ≡ size - d → m ≡ d → Makes w u h k (set_range c m false (held_in w h))
        → Cleared w u s h k (size - d) d (shift_left d)
    up-cleared {u} {k} c m l ec em mk =
        cleared c m (size - d) d h.first (shift_left d) ec em (omega arith) (omega arith) (mk s limit lim (up-few c m (omega arith))) ends.first (inl (omega arith))
        (λ f x i. left-cong d (held_in u k) (held_in w h) (λ y j. f y (omega arith) (inl (omega arith))) x i)

    -- down: nothing would leave
    pub down-uncleared : d ≤ h.first → Cleared w w s h h 0 d (shift_right d)
    down-uncleared l = uncleared 0 d (shift_right d) lim.standing nz (λ y i k. ends.under y (omega arith))

    -- something would, and is cleared
    pub down-cleared : {u : List ℕ} {k : World} (m : ℕ) → d ≤ h.last → m ≡ d → Makes w u h k (set_range 0 m false (held_in w h))
        → Cleared w u s h k 0 d (shift_right d)
    down-cleared {u} {k} m l em mk =
        cleared 0 m 0 d h.last (shift_right d) refl em (omega arith) ends.small (mk s limit lim (down-few m (omega arith))) ends.last (inr (omega arith))
        (λ f x i. right-cong d (held_in u k) (held_in w h) (λ y j t. f y t (inr (omega arith))) x)

-- ---- the move
-- R is P moved, each position by as much
record MovedBy (P R : Positions) (moved : Positions → Positions) (by : ℕ → ℕ) : Type 0 where
  agrees : (x : ℕ) → x < size → R x ≡ moved P x
  first_by : first_of (held_runs R) ≡ by (first_of (held_runs P))
  last-by : last_of (held_runs R) ≡ by (last_of (held_runs P))

-- the world h with another offset, first and last position
abbrev pub moved_world : World → ℕ → ℕ → ℕ → World
moved_world h o a b = record { tag = h.tag; root = h.root; free = h.free; offset = o; ones = h.ones; runs = h.runs; first = a; last = b }

-- a world whose offset moves its positions
moved-became : {w u : List ℕ} {s : Footprint} {h k : World} {a n o : ℕ} {moved : Positions → Positions} {by : ℕ → ℕ} (c : Cleared w u s h k a n moved)
    → MovedBy (held_in u k) (turned o (physical_in c.standing)) moved by → Became w u s (moved_world k o (by k.first) (by k.last)) (moved (held_in w h))
moved-became {u = u} {k = k} {o = o} {by = by} c m =
    let st = c.standing in
    let is = kept-held st.kept o in
    record {
      shows = record {
        standing = record {
          tree = st.tree;
          free = st.free;
          kept = st.kept;
          ones-are = st.ones-are;
          runs-are = st.runs-are;
          first-is = ap by st.first-is ∙ sym m.first_by ∙ ap (λ (P : Positions). first_of (held_runs P)) (sym is);
          last-is = ap by st.last-is ∙ sym m.last-by ∙ ap (λ (P : Positions). last_of (held_runs P)) (sym is);
          empty-offset = λ z. absurd (c.some z);
        };
        holds = λ x l. ap (λ (P : Positions). P x) is ∙ m.agrees x l ∙ c.same x l;
      };
      still = c.still;
    }

-- ---- up
module _ {w u : List ℕ} {s : Footprint} {h k : World} {d : ℕ} (c : Cleared w u s h k (size - d) d (shift_left d)) (small : k.offset < size) (fits : d < size) where
  -- the first and the last position
  up_ends : Ends (held_in u k) k.first k.last
  up_ends = world-ends c.standing c.some small

  -- no position passes M
  pub up_fits : (k.first + d < size) × (k.last + d < size)
  up_fits = go up_ends (split (k.last + d) size)
    where
      go : Ends (held_in u k) k.first k.last → (k.last + d < size) ⊎ (size ≤ k.last + d) → (k.first + d < size) × (k.last + d < size)
      go en (inl l) = (omega arith, l)
      go en (inr l) = clash en.last (c.none k.last (omega arith) (omega arith))

  -- the world, moved
  pub up-became : {o : ℕ} {r : World} → 1 ≤ d → o ≡ logical_of k.offset d → r ≡ moved_world k o (k.first + d) (k.last + d) → Became w u s r (shift_left d (held_in w h))
  up-became {o} {r} far eo er =
      let Q : Positions = physical_in c.standing in
      let e : held_in u k ≡ turned k.offset Q = standing-held c.standing in
      let top : (y : ℕ) → size - d ≤ y → y < size → held_in u k y ≡ false = λ y l i. c.none y l (omega arith) in
      let a : (x : ℕ) → x < size → turned o Q x ≡ shift_left d (held_in u k) x =
      rw (eo, e) (shifted-left k.offset d Q small far fits (rw e at top)) in
      let xs : k.first < size = omega (arith, up_ends.order, up_ends.small) in
      subst (λ (z : World). Became w u s z (shift_left d (held_in w h))) (sym er)
      (moved-became {by = λ y. y + d} c
      (record {
        agrees = a;
        first_by = left-first d (held_in u k) (turned o Q) fits top a k.first xs up_ends.first;
        last-by = left-last d (held_in u k) (turned o Q) fits top a k.first xs up_ends.first;
      }))

-- ---- down
module _ {w u : List ℕ} {s : Footprint} {h k : World} {d : ℕ} (c : Cleared w u s h k 0 d (shift_right d)) (small : k.offset < size) (fits : d < size) where
  -- the first and the last position
  down_ends : Ends (held_in u k) k.first k.last
  down_ends = world-ends c.standing c.some small

  -- no position passes 0
  pub down_fits : (d ≤ k.first) × (d ≤ k.last)
  down_fits = go down_ends (split k.first d)
    where
      go : Ends (held_in u k) k.first k.last → (k.first < d) ⊎ (d ≤ k.first) → (d ≤ k.first) × (d ≤ k.last)
      go en (inl l) = clash en.first (c.none k.first (omega arith) (omega arith))
      go en (inr l) = (l, omega arith)

  -- the world, moved
  pub down-became : {o : ℕ} {r : World} → 1 ≤ d → o < size → logical_of o d ≡ k.offset → r ≡ moved_world k o (k.first - d) (k.last - d)
      → Became w u s r (shift_right d (held_in w h))
  down-became {o} {r} far os eo er =
      let Q : Positions = physical_in c.standing in
      let e : held_in u k ≡ turned k.offset Q = standing-held c.standing in
      let bottom : (y : ℕ) → y < d → held_in u k y ≡ false = λ y l. c.none y (omega arith) (omega arith) in
      let eo' : o ≡ physical_of k.offset d = omega arith in
      let a : (x : ℕ) → x < size → turned o Q x ≡ shift_right d (held_in u k) x =
      rw (eo', e) (shifted-right k.offset d Q small far fits (rw e at bottom)) in
      let xs : k.first < size = omega (arith, down_ends.order, down_ends.small) in
      subst (λ (z : World). Became w u s z (shift_right d (held_in w h))) (sym er)
      (moved-became {by = λ y. y - d} c
      (record {
        agrees = a;
        first_by = right-first d (held_in u k) (turned o Q) fits bottom a k.first xs down_ends.first;
        last-by = right-last d (held_in u k) (turned o Q) fits bottom a k.first xs down_ends.first;
      }))

-- ---- whether to move
-- the world stays if its positions do
stays : {w : List ℕ} {s : Footprint} {h : World} (R : Positions) → Standing w s h → ((x : ℕ) → x < size → held_in w h x ≡ R x) → Became w w s h R
stays R st f = record { shows = record { standing = st; holds = f }; still = still-same }

-- without a root nothing is held, and so afterwards
pub none_stays : {w : List ℕ} {h : World} (d : ℕ) (left : Bool) → h.root ≡ 0 → Moves w w h h (shift_by d left (held_in w h))
unfolding shift_by empty
none_stays {w} {h} d left z s limit lim =
    let f : (y : ℕ) → held_in w h y ≡ false = λ y. ap (λ (P : Positions). P y) (rootless-empty w h.root h.offset z) in
    stays (shift_by d left (held_in w h)) lim.standing (go left f)
  where
    go : (left : Bool) → ((y : ℕ) → held_in w h y ≡ false) → (x : ℕ) → x < size → held_in w h x ≡ shift_by d left (held_in w h) x
    go true f x l = f x ∙ sym (left-nothing d (held_in w h) (λ y _. f y) x l)
    go false f x l = f x ∙ sym (right-nothing d (held_in w h) (λ y _ t. f y) x)

-- by 0 each position stays
pub all_stay : {w : List ℕ} {h : World} {d : ℕ} (left : Bool) → d ≡ 0 → Moves w w h h (shift_by d left (held_in w h))
unfolding shift_by
all_stay {w} {h} {d} left z s limit lim = stays (shift_by d left (held_in w h)) lim.standing (go left)
  where
    go : (left : Bool) (x : ℕ) → x < size → held_in w h x ≡ shift_by d left (held_in w h) x
    go true x l = ap (held_in w h) (omega arith) ∙ sym (left_at d (held_in w h) x (omega arith))
    go false x l = ap (held_in w h) (omega arith) ∙ sym (right-at d (held_in w h) x (omega arith))

-- ---- either way
module _ {w : List ℕ} {h : World} {d : ℕ} (low high up : ℕ) (fits : d < size) (far : d ≡ 0 → ⊥) where
  -- what leaves may be cleared
  pub leaving-applies : {s : Footprint} {limit : ℕ} (left : Bool) → Leaves d left low high up → Limited w s h limit → Appliable w h low high false
  leaving-applies true l lim = up-applies lim low high (omega (arith, l.0, l.1)) (omega (arith, l.1))
  leaving-applies false l lim = rw l.0 (down-applies lim high (omega (arith, l.1)))

  module _ {s : Footprint} {limit : ℕ} (lim : Limited w s h limit) (nz : h.root ≡ 0 → ⊥) (small : h.offset < size) where
    -- all leave
    pub all-leave : {w' : List ℕ} {k : World} (left : Bool) → Leaves d left low high up → low ≤ h.first → h.last ≤ high → Became w w' s k empty
        → Became w w' s k (shift_by d left (held_in w h))
    unfolding shift_by
    all-leave true l lo hi e = up-empty h d (world-ends lim.standing nz small) (omega (arith, l.0)) e
    all-leave false l lo hi e = down-empty h d (world-ends lim.standing nz small) (omega (arith, l.1)) e

    -- none does
    pub none-leaves : (left : Bool) → Leaves d left low high up → (h.last < low) ⊎ (high < h.first) → Cleared w w s h h low d (shift_by d left)
    unfolding shift_by
    none-leaves true l (inl q) = rw l.0 (up-uncleared lim nz small fits (omega (arith, l.0)))
    none-leaves true l (inr q) = absurd (let en = world-ends lim.standing nz small in omega (arith, l.1, en.order, en.small))
    none-leaves false l (inl q) = absurd (omega (arith, l.0))
    none-leaves false l (inr q) = rw l.0 (down-uncleared lim nz small fits (omega (arith, l.1)))

    -- some do, and are cleared
    pub some-leave : {u : List ℕ} {k : World} (left : Bool) → Leaves d left low high up → (h.first < low) ⊎ (high < h.last)
        → Makes w u h k (set_range low (suc high - low) false (held_in w h)) → Cleared w u s h k low d (shift_by d left)
    unfolding shift_by
    some-leave {u} {k} true l (inl q) mk =
        subst (λ (a : ℕ). Cleared w u s h k a d (shift_left d)) (sym l.0)
        (up-cleared lim nz small fits low (suc high - low) (omega (arith, l.0)) l.0 (omega (arith, l.0, l.1)) mk)
    some-leave true l (inr q) mk = absurd (let en = world-ends lim.standing nz small in omega (arith, l.1, en.small))
    some-leave false l (inl q) mk = absurd (omega (arith, l.0))
    some-leave {u} {k} false l (inr q) mk =
        subst (λ (a : ℕ). Cleared w u s h k a d (shift_right d)) (sym l.0)
        (down-cleared lim nz small fits (suc high - 0) (omega (arith, l.1)) (omega (arith, l.1))
        (subst (λ (a : ℕ). Makes w u h k (set_range a (suc high - a) false (held_in w h))) l.0 mk))

  -- the rest is moved
  pub rest-moves : {u : List ℕ} {s : Footprint} {k : World} (left : Bool) → Leaves d left low high up → Cleared w u s h k low d (shift_by d left) → k.offset < size
      → Became w u s (moved_world k ((k.offset + up) % 2 ^ 64) ((k.first + up) % 2 ^ 64) ((k.last + up) % 2 ^ 64)) (shift_by d left (held_in w h))
  unfolding shift_by
  rest-moves {u} {s} {k} true l c small =
      let c' : Cleared w u s h k (size - d) d (shift_left d) = subst (λ (a : ℕ). Cleared w u s h k a d (shift_left d)) l.0 c in
      let f = up_fits c' small fits in
      up-became c' small fits (omega arith) (omega (arith, l.2))
      (ap₂ (λ (i j : ℕ). moved_world k ((k.offset + up) % 2 ^ 64) i j) (omega (arith, f, l.2)) (omega (arith, f, l.2)))
  rest-moves {u} {s} {k} false l c small =
      let c' : Cleared w u s h k 0 d (shift_right d) = subst (λ (a : ℕ). Cleared w u s h k a d (shift_right d)) l.0 c in
      let f = down_fits c' small fits in
      let e = down_ends c' small fits in
      down-became c' small fits (omega arith) (omega arith) (omega (arith, l.2))
      (ap₂ (λ (i j : ℕ). moved_world k ((k.offset + up) % 2 ^ 64) i j) (omega (arith, f, l.2, e.order, e.small)) (omega (arith, f, l.2, e.small)))
