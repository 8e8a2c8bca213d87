-- A map read into a world: one set where it has one value; else the window is cleared, and then each stretch that is to be held is set.
-- Then the world holds what is read so far, and what is left of the window is cleared. Assumes nothing.
use Rattle.changes.specs.Edits.{changed_to}
use Rattle.std.proofs.Common.{◌≡◌, ℕ, suc, ◌+◌, ◌-◌, ◌<◌, ◌≤◌, Bool, true, false, ◌⊎◌, List, sym, refl, ap, ◌∙◌, ap₂, inl, inr, arith}
use Rattle.model.specs.declared.between.Interval.{Interval}
use Rattle.model.specs.Numbers.{size}
use Rattle.model.specs.Range.{many}
use Rattle.model.proofs.Numbers.{split}
use Rattle.model.specs.Positions.{Positions, stretches, set_range, changes}
use Rattle.model.proofs.Runs.{stretches-cong}
use Rattle.model.specs.Bytes.{map_bit, mapped}
use Rattle.model.proofs.After.{set-inside, set_below, set-above, set-cong}
use Rattle.pool.specs.declared.World.{World}
use Rattle.pool.specs.Layout.{held_in}
use Rattle.pool.specs.Soundness.{Footprint, Limited, Editable}
use Rattle.pool.specs.Settle.{Became}
use Rattle.pool.proofs.Nodes.{still-then, still-same}
use Rattle.pool.proofs.Settling.{became-limited}
use Rattle.reports.specs.Reports.{StretchEnd}
use Rattle.changes.specs.Edits.{Makes, Edited, Appliable}
use Rattle.maps.specs.declared.stretches.Stretch.{Stretch}
use Rattle.maps.specs.Stretches.{NextStretch}
use Rattle.maps.specs.Window.{MapOfWindow, Part, MayMap}
use Rattle.maps.proofs.Windows.{mapped-below, mapped-above, mapped_at, changes-nothing}
use Rattle.maps.proofs.Surveying.{Border, border-first, border-next}
use Rattle.maps.proofs.OnTheWay.{on-the-way, at-the-start}

-- ---- what a change makes
-- a world that stays, and holds what is asked
stays : {w : List ℕ} {s : Footprint} {h : World} {limit : ℕ} {Q : Positions} → Limited w s h limit → ((x : ℕ) → x < size → held_in w h x ≡ Q x) → Became w w s h Q
stays l f = record { shows = record { standing = l.standing; holds = f }; still = still-same }

-- one change after another, and what is held in the end
became-then : {w w₁ w₂ : List ℕ} {s : Footprint} {k₁ k₂ : World} {P Q R : Positions} → Became w w₁ s k₁ P → Became w₁ w₂ s k₂ Q → ((x : ℕ) → x < size → Q x ≡ R x)
    → Became w w₂ s k₂ R
became-then b c f = record {
  shows = record { standing = c.shows.standing; holds = λ x l. c.shows.holds x l ∙ f x l };
  still = still-then b.still c.still;
}

-- reading one stretch more is a set
further : (base : ℕ) (bs : List ℕ) (P : Positions) (i k : ℕ) (v : Bool) → ((z : ℕ) → i ≤ z → z < i + k → map_bit bs z ≡ v)
    → (x : ℕ) → set_range (base + i) k v (mapped base i bs P) x ≡ mapped base (i + k) bs P x
further base bs P i k v f x = go (split x base) (split x (base + i)) (split x (base + (i + k)))
  where
    S : Positions
    S = mapped base i bs P

    go : (x < base) ⊎ (base ≤ x) → (x < base + i) ⊎ (base + i ≤ x) → (x < base + (i + k)) ⊎ (base + (i + k) ≤ x)
        → set_range (base + i) k v S x ≡ mapped base (i + k) bs P x
    go (inl a) b c = set_below (base + i) k v S x (omega arith) ∙ mapped-below base i bs P x a ∙ sym (mapped-below base (i + k) bs P x a)
    go (inr a) (inl b) c = set_below (base + i) k v S x b ∙ mapped_at base i bs P x a b ∙ sym (mapped_at base (i + k) bs P x a (omega arith))
    go (inr a) (inr b) (inl c) =
        set-inside (base + i) k v S x b (omega arith) ∙ sym (mapped_at base (i + k) bs P x a c ∙ f (x - base) (omega arith) (omega arith))
    go (inr a) (inr b) (inr c) = set-above (base + i) k v S x (omega arith) ∙ mapped-above base i bs P x b ∙ sym (mapped-above base (i + k) bs P x c)

-- of no bit, nothing is read
nothing_read : (base : ℕ) (bs : List ℕ) (P : Positions) (x : ℕ) → mapped base 0 bs P x ≡ P x
nothing_read base bs P x = go (split x base)
  where
    go : (x < base) ⊎ (base ≤ x) → mapped base 0 bs P x ≡ P x
    go (inl h) = mapped-below base 0 bs P x h
    go (inr h) = mapped-above base 0 bs P x (omega arith)

-- ---- a map of one value
module _ {w : List ℕ} {h : World} {base n : ℕ} {bs : List ℕ} {e : ℕ} {v : Bool} {u : Interval} (m : MayMap w h base n bs) (p : Part base 0 (n - 1) u)
    (st : StretchEnd (map_bit bs) (map_bit bs 0) 0 (n - 1) e) (all : e + 1 ≡ n) (value : v ≡ map_bit bs 0) where
  -- one set reads it
  one-reads : (x : ℕ) → set_range u.first.0 (many u) v (held_in w h) x ≡ mapped base n bs (held_in w h) x
  one-reads x =
      let q : many u ≡ n = omega (arith, p.first-is, p.last-is, m.2.window.some) in
      let r : 0 + n ≡ n = omega arith in
      ap (λ k. set_range u.first.0 k v (held_in w h) x) q ∙ ap (λ a. set_range a n v (held_in w h) x) p.first-is
      ∙ set-cong (base + 0) n v (held_in w h) (mapped base 0 bs (held_in w h)) x (sym (nothing_read base bs (held_in w h) x))
      ∙ further base bs (held_in w h) 0 n v (λ z l k. st.same z l (omega arith) ∙ sym value) x ∙ ap (λ k. mapped base k bs (held_in w h) x) r

  -- so it leaves as many runs
  one-leaves : stretches (set_range u.first.0 (many u) v (held_in w h)) ≡ stretches (mapped base n bs (held_in w h))
  one-leaves = stretches-cong (set_range u.first.0 (many u) v (held_in w h)) (mapped base n bs (held_in w h)) (λ x _. one-reads x)

  -- it fits
  pub one-settable : Appliable w h u.first.0 u.last.0 v
  one-settable = (m.0, m.1, record { limited = m.2.limited; ordered = u.ordered; few = omega (arith, m.2.few, one-leaves) })

  -- and it is done
  pub one-done : {w' : List ℕ} {k : World} → Makes w w' h k (set_range u.first.0 (many u) v (held_in w h)) → Makes w w' h k (mapped base n bs (held_in w h))
  one-done g s limit l f = became-then (stays l (λ x _. refl)) (g s limit l (omega (arith, one-leaves))) (λ x _. one-reads x)

-- ---- a map of both
-- the world a₁ in the nodes w₁, in which the window is cleared, became a in w, in which the first i bits are read
pub record Applying (w₁ w : List ℕ) (a₁ a : World) (base n : ℕ) (bs : List ℕ) (i : ℕ) : Type 0 where
  pub may : MayMap w₁ a₁ base n bs
  pub cleared : (x : ℕ) → base ≤ x → x < base + n → held_in w₁ a₁ x ≡ false
  pub upto : i ≤ n
  pub border : Border bs n i
  pub reads : (s : Footprint) (limit : ℕ) → Limited w₁ s a₁ limit → stretches (mapped base n bs (held_in w₁ a₁)) ≤ limit → Became w₁ w s a (mapped base i bs (held_in w₁ a₁))
  pub keeps : (s : Footprint) (limit : ℕ) → Limited w₁ s a₁ limit → stretches (mapped base n bs (held_in w₁ a₁)) ≤ limit → Limited w s a limit

-- clearing the window
module _ {w : List ℕ} {h : World} {base n : ℕ} {bs : List ℕ} {e : ℕ} {u : Interval} (m : MayMap w h base n bs) (p : Part base 0 (n - 1) u)
    (st : StretchEnd (map_bit bs) (map_bit bs 0) 0 (n - 1) e) (ne : e + 1 ≡ n → ⊥) where
  -- its positions
  win : MapOfWindow base n bs
  win = m.2.window

  -- leaves at most as many runs as there are at the end
  clear-leaves : stretches (set_range u.first.0 (many u) false (held_in w h)) ≤ stretches (mapped base n bs (held_in w h))
  clear-leaves =
      let z : u.first.0 ≡ base = omega (arith, p.first-is) in
      let q : many u ≡ n = omega (arith, p.first-is, p.last-is, win.some) in
      omega (
        arith,
        ap₂ (λ a k. stretches (set_range a k false (held_in w h))) z q,
        at-the-start base n bs (held_in w h) win.within st (omega (arith, st.upto, win.some)),
      )

  -- so it fits
  pub clearable : Appliable w h u.first.0 u.last.0 false
  clearable = (m.0, m.1, record { limited = m.2.limited; ordered = u.ordered; few = omega (arith, clear-leaves, m.2.few) })

  module _ {w₁ : List ℕ} {a₁ : World} (g : Makes w w₁ h a₁ (set_range u.first.0 (many u) false (held_in w h))) where
    -- what is held then
    clear-holds : (x : ℕ) → x < size → held_in w₁ a₁ x ≡ set_range u.first.0 (many u) false (held_in w h) x
    clear-holds = (g m.0 m.1 m.2.limited (omega (arith, clear-leaves, m.2.few))).shows.holds

    -- what is read into it is what is read into the world
    same_read : (x : ℕ) → x < size → mapped base n bs (held_in w₁ a₁) x ≡ mapped base n bs (held_in w h) x
    same_read x l = go (split x base) (split x (base + n))
      where
        go : (x < base) ⊎ (base ≤ x) → (x < base + n) ⊎ (base + n ≤ x) → mapped base n bs (held_in w₁ a₁) x ≡ mapped base n bs (held_in w h) x
        go (inl a) b =
            mapped-below base n bs (held_in w₁ a₁) x a ∙ clear-holds x l ∙ set_below u.first.0 (many u) false (held_in w h) x (omega (arith, p.first-is))
            ∙ sym (mapped-below base n bs (held_in w h) x a)
        go (inr a) (inl b) = mapped_at base n bs (held_in w₁ a₁) x a b ∙ sym (mapped_at base n bs (held_in w h) x a b)
        go (inr a) (inr b) =
            mapped-above base n bs (held_in w₁ a₁) x b ∙ clear-holds x l
            ∙ set-above u.first.0 (many u) false (held_in w h) x (omega (arith, p.first-is, p.last-is, win.some)) ∙ sym (mapped-above base n bs (held_in w h) x b)

    -- and leaves as many runs
    same-leaves : stretches (mapped base n bs (held_in w₁ a₁)) ≡ stretches (mapped base n bs (held_in w h))
    same-leaves = stretches-cong (mapped base n bs (held_in w₁ a₁)) (mapped base n bs (held_in w h)) same_read

    -- the world is within its limit
    then-limited : (s : Footprint) (limit : ℕ) → Limited w s h limit → stretches (mapped base n bs (held_in w h)) ≤ limit → Limited w₁ s a₁ limit
    then-limited s limit l f = became-limited l (g s limit l (omega (arith, clear-leaves))) (omega (arith, clear-leaves))

    -- of no bit
    pub applying-none : Applying w₁ w₁ a₁ a₁ base n bs 0
    applying-none = record {
      may = (m.0, m.1, record { limited = then-limited m.0 m.1 m.2.limited m.2.few; window = win; few = omega (arith, same-leaves, m.2.few) });
      cleared = λ x a b. clear-holds x (omega (arith, win.within)) ∙ set-inside u.first.0 (many u) false (held_in w h) x (omega (arith, p.first-is)) (omega (arith, p.first-is, p.last-is, win.some));
      upto = omega arith;
      border = border-first bs n;
      reads = λ s limit l f. stays l (λ x _. sym (nothing_read base bs (held_in w₁ a₁) x));
      keeps = λ s limit l f. l;
    }

    -- of all
    pub applying-done : {w₂ : List ℕ} {a₂ : World} {i : ℕ} → Applying w₁ w₂ a₁ a₂ base n bs i → n ≤ i → Makes w w₂ h a₂ (mapped base n bs (held_in w h))
    applying-done {w₂} {a₂} {i} a k s limit l f =
        let q : i ≡ n = omega (arith, a.upto) in
        became-then (g s limit l (omega (arith, clear-leaves))) (a.reads s limit (then-limited s limit l f) (omega (arith, same-leaves)))
        (λ x b. ap (λ j. mapped base j bs (held_in w₁ a₁) x) q ∙ same_read x b)

module _ {w₁ w : List ℕ} {a₁ a : World} {base n : ℕ} {bs : List ℕ} {i j : ℕ} {d : Stretch} (p : Applying w₁ w a₁ a base n bs i) (st : NextStretch bs n i d j) where
  -- what is held
  read-holds : (x : ℕ) → x < size → held_in w a x ≡ mapped base i bs (held_in w₁ a₁) x
  read-holds = (p.reads p.may.0 p.may.1 p.may.2.limited p.may.2.few).shows.holds

  -- one stretch more, whatever its value
  stretch-reads : (b : Bool) → d.value ≡ b → (x : ℕ) → x < size → set_range (base + i) (suc d.last - i) b (held_in w a) x ≡ mapped base j bs (held_in w₁ a₁) x
  stretch-reads b t x l =
      let k : ℕ = suc d.last - i in
      let q : i + k ≡ j = omega (arith, st.next-is, st.ends.from) in
      set-cong (base + i) k b (held_in w a) (mapped base i bs (held_in w₁ a₁)) x (read-holds x l)
      ∙ further base bs (held_in w₁ a₁) i k b (λ z m o. st.ends.same z m (omega arith) ∙ t) x
      ∙ ap (λ m. mapped base m bs (held_in w₁ a₁) x) q

  -- one that is to be held
  module _ {u : Interval} (part : Part base d.first d.last u) (t : d.value ≡ true) where
    -- is set where it lies
    set-reads : (x : ℕ) → x < size → set_range u.first.0 (many u) true (held_in w a) x ≡ mapped base j bs (held_in w₁ a₁) x
    set-reads x l =
        let f : u.first.0 ≡ base + i = omega (arith, part.first-is, st.first-is) in
        let q : many u ≡ suc d.last - i = omega (arith, part.last-is) in
        ap₂ (λ f k. set_range f k true (held_in w a) x) f q ∙ stretch-reads true t x l

    -- leaves at most as many runs as there are at the end
    stretch-leaves : stretches (set_range u.first.0 (many u) true (held_in w a)) ≤ stretches (mapped base n bs (held_in w₁ a₁))
    stretch-leaves =
        omega (
          arith,
          stretches-cong (set_range u.first.0 (many u) true (held_in w a)) (mapped base j bs (held_in w₁ a₁)) set-reads,
          on-the-way base n bs (held_in w₁ a₁) p.may.2.window.within j (omega (arith, st.next-is)) (omega (arith, st.within, st.next-is, st.ends.upto)) (border-next bs n st) p.cleared,
        )

    -- so it can be set
    pub stretch-settable : Appliable w a u.first.0 u.last.0 true
    stretch-settable = (
      p.may.0,
      p.may.1,
      record {
        limited = p.keeps p.may.0 p.may.1 p.may.2.limited p.may.2.few;
        ordered = u.ordered;
        few = omega (arith, stretch-leaves, p.may.2.few);
      },
    )

    -- it is set
    pub applying-set : {w' : List ℕ} {a' : World} → Makes w w' a a' (set_range u.first.0 (many u) true (held_in w a)) → Applying w₁ w' a₁ a' base n bs j
    applying-set g = record {
      may = p.may;
      cleared = p.cleared;
      upto = omega (arith, st.within, st.next-is, st.ends.upto);
      border = border-next bs n st;
      reads = λ s limit l f. became-then (p.reads s limit l f) (g s limit (p.keeps s limit l f) (omega (arith, stretch-leaves))) set-reads;
      keeps = λ s limit l f.
          became-limited (p.keeps s limit l f) (g s limit (p.keeps s limit l f) (omega (arith, stretch-leaves))) (omega (arith, stretch-leaves));
    }

  -- one that is not is clear already
  pub applying-left : d.value ≡ false → Applying w₁ w a₁ a base n bs j
  applying-left t = record {
    may = p.may;
    cleared = p.cleared;
    upto = omega (arith, st.within, st.next-is, st.ends.upto);
    border = border-next bs n st;
    reads = λ s limit l f.
        became-then (p.reads s limit l f) (stays (p.keeps s limit l f) (λ x _. refl))
        (λ x k. sym (clear x k (split x (base + i)) (split (base + d.last) x)) ∙ stretch-reads false t x k);
    keeps = p.keeps;
  }
    where
      k : ℕ
      k = suc d.last - i

      clear : (x : ℕ) → x < size → (x < base + i) ⊎ (base + i ≤ x) → (base + d.last < x) ⊎ (x ≤ base + d.last) → set_range (base + i) k false (held_in w a) x ≡ held_in w a x
      clear x l (inl h) m = set_below (base + i) k false (held_in w a) x h
      clear x l (inr h) (inl m) = set-above (base + i) k false (held_in w a) x (omega (arith, st.ends.from))
      clear x l (inr h) (inr m) =
          set-inside (base + i) k false (held_in w a) x h (omega arith)
          ∙ sym (read-holds x l ∙ mapped-above base i bs (held_in w₁ a₁) x h ∙ p.cleared x (omega arith) (omega (arith, st.within, st.ends.upto)))

-- ---- a map that changes nothing
-- the world holds already what is read
pub nothing-changed : {w : List ℕ} {h : World} {limit low : ℕ} (Q : Positions) → Editable w h limit → low ≡ changes (held_in w h) Q → low ≡ 0
    → Edited w w h limit Q (changed_to h (record { carry = 0; low = low }))
nothing-changed {w} {h} Q m e z =
    let same : (x : ℕ) → x < size → held_in w h x ≡ Q x = changes-nothing (held_in w h) Q (sym e ∙ z) in
    (omega (arith, m.1.fits, stretches-cong (held_in w h) Q same), λ s limit l f. stays l same, omega (arith, e))
