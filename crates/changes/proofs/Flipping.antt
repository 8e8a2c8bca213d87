-- Flipping a range of a world, stretch by stretch. What a flip leaves is told by the world's runs and by those of the range; on the
-- way the positions passed are a flipped range, which ends where the value changes, so that no run is added. Assumes nothing.
use Rattle.std.proofs.Common.{◌≡◌, ℕ, suc, ◌+◌, ◌-◌, ◌<◌, ◌≤◌, Bool, true, false, not, leb, ◌⊎◌, List, sym, ap, ◌∙◌, inl, inr, arith, le-leb}
use Rattle.model.specs.declared.Tally.{Tally}
use Rattle.model.specs.Numbers.{size}
use Rattle.model.proofs.Numbers.{split}
use Rattle.model.specs.Positions.{Positions, stretches, set_range, flip_range}
use Rattle.model.proofs.Counting.{one-bound}
use Rattle.model.proofs.Runs.{stretches-cong}
use Rattle.model.specs.Neighbours.{goes_on}
use Rattle.model.proofs.After.{set-cong, flip-below, flip-above, stretches-parts}
use Rattle.pool.specs.declared.World.{World}
use Rattle.pool.specs.Layout.{held_in}
use Rattle.pool.specs.Soundness.{Footprint, SameFrame, Standing, Limited}
use Rattle.pool.specs.Settle.{Became}
use Rattle.pool.proofs.Nodes.{still-then, still-same}
use Rattle.pool.proofs.Settling.{became-limited}
use Rattle.reports.specs.Reports.{Measured, StretchEnd}
use Rattle.reports.proofs.Ranks.{ranges-alternate}
use Rattle.changes.specs.declared.edit.Border.{Border}
use Rattle.changes.specs.Edits.{Makes, Appliable, Surrounds}
use Rattle.changes.proofs.SetRuns.{set-false-leaves}
use Rattle.changes.proofs.FlipRuns.{flip-leaves, flip-one-more, flip-none-more, flip-further}
use Rattle.changes.proofs.Fitting.{leb-like, logical-most, logical-few}

-- ---- the runs that a flip of a range leaves
-- far from the limit each flip fits
pub flip-fits-far : {w : List ℕ} {s : Footprint} {h : World} {limit : ℕ} (a b : ℕ) → Standing w s h → h.offset < size → a ≤ b → b < size → h.runs + 2 ≤ limit
    → true ≡ leb (stretches (flip_range a (suc b - a) (held_in w h))) limit
flip-fits-far {w} {s} {h} {limit} a b st l i k f =
    sym (le-leb (stretches (flip_range a (suc b - a) (held_in w h))) limit
    (omega (arith, flip-one-more (held_in w h) a (suc b - a) (omega arith) (omega arith), logical-most st l)))

-- whether a flip fits, by what is around the range and the gaps in it
pub flip-fits-counted : {P : Positions} {a b : ℕ} {r : Border} {free : Tally} → Surrounds P a b r → a ≤ b → b < size → Measured P false a (suc b - a) free
    → (k : ℕ) → leb (r.outside + r.over + free.runs) (k + r.beside) ≡ leb (stretches (flip_range a (suc b - a) P)) k
flip-fits-counted {P} {a} {b} {r} {free} s some fits m k =
    leb-like (stretches (flip_range a (suc b - a) P)) k (r.outside + r.over + free.runs) (k + r.beside) r.beside
    (omega (
      arith,
      s.outside-is,
      s.over-is,
      s.beside-is,
      m.runs-are,
      set-false-leaves P a (suc b - a) b (omega arith) (omega arith) fits,
      flip-leaves P a (suc b - a) b (omega arith) (omega arith) fits,
    )) (omega arith)

-- a range of a world has few gaps
pub gaps-few : {w : List ℕ} {s : Footprint} {h : World} {limit a b : ℕ} {free : Tally} → Limited w s h limit → a ≤ b → b < size
    → Measured (held_in w h) false a (suc b - a) free → free.runs ≤ 65569
gaps-few {w} {h = h} {a = a} {b = b} lim some fits m =
    omega (
      arith,
      m.runs-are,
      ranges-alternate (held_in w h) a b some,
      logical-few lim,
      stretches-parts (held_in w h) a (suc b - a) (omega arith) (omega arith),
      one-bound (goes_on (held_in w h) a),
      one-bound (goes_on (held_in w h) (a + (suc b - a))),
    )

-- ---- one stretch after another
-- the world h₀ became h, in which the positions from a up to x are flipped
pub record Flipping (w₀ w : List ℕ) (s : Footprint) (h₀ h : World) (limit a last x : ℕ) : Type 0 where
  pub limited : Limited w s h limit
  pub still : SameFrame w₀ w s
  pub from : a ≤ x
  pub upto : x ≤ last
  pub within : last < size
  pub holds : (y : ℕ) → y < size → held_in w h y ≡ flip_range a (x - a) (held_in w₀ h₀) y
  pub start : stretches (held_in w₀ h₀) ≤ limit
  pub finish : stretches (flip_range a (suc last - a) (held_in w₀ h₀)) ≤ limit

-- whatever share it has, and whatever limit
abbrev pub Flips : List ℕ → List ℕ → World → World → ℕ → ℕ → ℕ → Type 0
Flips w₀ w h₀ h a last x =
    (s : Footprint) (limit : ℕ) → Limited w₀ s h₀ limit → stretches (flip_range a (suc last - a) (held_in w₀ h₀)) ≤ limit
    → Flipping w₀ w s h₀ h limit a last x

-- none are flipped
pub flips-none : {w : List ℕ} {h : World} {a last : ℕ} → a ≤ last → last < size → Flips w w h h a last a
flips-none {w} {h} {a} {last} l k s limit lim few = record {
  limited = lim;
  still = still-same;
  from = omega arith;
  upto = l;
  within = k;
  holds = λ y i. sym (nothing y (split y a));
  start = lim.fits;
  finish = few;
}
  where
    nothing : (y : ℕ) → (y < a) ⊎ (a ≤ y) → flip_range a (a - a) (held_in w h) y ≡ held_in w h y
    nothing y (inl i) = flip-below a (a - a) (held_in w h) y i
    nothing y (inr i) = flip-above a (a - a) (held_in w h) y (omega arith)

module _ {w₀ w : List ℕ} {s : Footprint} {h₀ h : World} {limit a last x y : ℕ} {v : Bool} (f : Flipping w₀ w s h₀ h limit a last x)
    (en : StretchEnd (held_in w h) v x last y) where
  -- from x on all is as it was
  as_before : (z : ℕ) → x ≤ z → z < size → held_in w₀ h₀ z ≡ held_in w h z
  as_before z i l = sym (f.holds z l ∙ flip-above a (x - a) (held_in w₀ h₀) z (omega (arith, f.from)))

  -- with the stretch set to the other value, the positions up to its end are flipped
  set-flips : (z : ℕ) → z < size → set_range x (suc y - x) (not v) (held_in w h) z ≡ flip_range a (suc y - a) (held_in w₀ h₀) z
  set-flips z l =
      let p : a + (x - a) ≡ x = omega (arith, f.from) in
      let q : x - a + (suc y - x) ≡ suc y - a = omega (arith, f.from, en.from) in
      set-cong x (suc y - x) (not v) (held_in w h) (flip_range a (x - a) (held_in w₀ h₀)) z (f.holds z l)
      ∙ ap (λ i. set_range i (suc y - x) (not v) (flip_range a (x - a) (held_in w₀ h₀)) z) (sym p)
      ∙ flip-further (held_in w₀ h₀) a (x - a) (suc y - x) v
      (λ i j k. as_before i (omega arith) (omega (arith, f.within, en.from, en.upto)) ∙ en.same i (omega arith) (omega (arith, en.from))) z
      ∙ ap (λ n. flip_range a n (held_in w₀ h₀) z) q

  -- before the last stretch there are at most as many runs as at the start
  runs-before : y < last → stretches (flip_range a (suc y - a) (held_in w₀ h₀)) ≤ stretches (held_in w₀ h₀)
  runs-before l =
      let p : a + (suc y - a) ≡ suc y = omega (arith, f.from, en.from) in
      let q : a + (suc y - a) - 1 ≡ y = omega arith in
      flip-none-more (held_in w₀ h₀) a (suc y - a) (omega arith) (omega (arith, f.within))
      (ap (held_in w₀ h₀) p ∙ as_before (suc y) (omega (arith, en.from)) (omega (arith, f.within)) ∙ en.stop l
      ∙ ap not (sym (ap (held_in w₀ h₀) q ∙ as_before y en.from (omega (arith, f.within)) ∙ en.same y en.from (omega arith))))

  -- so what the stretch's set leaves fits
  stretch-few : stretches (set_range x (suc y - x) (not v) (held_in w h)) ≤ limit
  stretch-few = go (split y last)
    where
      same : stretches (set_range x (suc y - x) (not v) (held_in w h)) ≡ stretches (flip_range a (suc y - a) (held_in w₀ h₀))
      same = stretches-cong (set_range x (suc y - x) (not v) (held_in w h)) (flip_range a (suc y - a) (held_in w₀ h₀)) set-flips

      go : (y < last) ⊎ (last ≤ y) → stretches (set_range x (suc y - x) (not v) (held_in w h)) ≤ limit
      go (inl l) = omega (arith, same, runs-before l, f.start)
      go (inr l) =
          let e : y ≡ last = omega (arith, en.upto) in
          omega (arith, same, f.finish, ap (λ i. stretches (flip_range a (suc i - a) (held_in w₀ h₀))) e)

  -- and it may be applied
  pub stretch-applies : Appliable w h x y (not v)
  stretch-applies = (s, limit, record { limited = f.limited; ordered = en.from; few = stretch-few })

  module _ {w' : List ℕ} {k : World} (g : Makes w w' h k (set_range x (suc y - x) (not v) (held_in w h))) where
    -- what the set made of the world
    made : Became w w' s k (set_range x (suc y - x) (not v) (held_in w h))
    made = g s limit f.limited stretch-few

    -- one more stretch is flipped
    pub flipping-more : (y ≡ last → ⊥) → Flipping w₀ w' s h₀ k limit a last (y + 1)
    flipping-more ne = record {
      limited = became-limited f.limited made stretch-few;
      still = still-then f.still made.still;
      from = omega (arith, f.from, en.from);
      upto = let l : y < last = omega (arith, en.upto) in omega arith;
      within = f.within;
      holds = λ z i.
          let e : suc y - a ≡ y + 1 - a = omega arith in
          made.shows.holds z i ∙ set-flips z i ∙ ap (λ n. flip_range a n (held_in w₀ h₀) z) e;
      start = f.start;
      finish = f.finish;
    }

    -- all are
    pub flips-done : y ≡ last → Became w₀ w' s k (flip_range a (suc last - a) (held_in w₀ h₀))
    flips-done e = record {
      shows = record {
        standing = made.shows.standing;
        holds = λ z i. made.shows.holds z i ∙ set-flips z i ∙ ap (λ j. flip_range a (suc j - a) (held_in w₀ h₀) z) e;
      };
      still = still-then f.still made.still;
    }
