-- Runs laid one after the other, as they come, into the free chain that a world's nodes were given back to: they are what its first nodes hold, and
-- all of them together, which are canonical, become the world's. Assumes nothing.
use Rattle.std.proofs.Common.{◌≡◌, ℕ, ◌+◌, ◌^◌, ◌<◌, ◌≤◌, true, Option, Some, None, List, [], ◌∷◌, ◌++◌, length, refl, sym, ◌∙◌, subst, arith, length-append, map-id}
use Rattle.std.specs.Iterator.{Yields, YieldsFirst}
use Rattle.std.proofs.lemmas.Iterator.Consumers.{YieldsList-turn, YieldsList-end, YieldsList-from_first}
use Rattle.model.specs.declared.Run.{Run}
use Rattle.model.specs.Positions.{Positions, held_runs, stretches}
use Rattle.model.specs.Refusals.{ordered_from}
use Rattle.model.specs.RunList.{AllWords}
use Rattle.model.proofs.Codec.{ordered-canon}
use Rattle.model.proofs.Runs.{held_runs-canon, mem-held_runs}
use Rattle.run_index.specs.Cells.{Room}
use Rattle.run_index.specs.Strung.{FreeChain, Filled}
use Rattle.run_index.specs.Strung
use Rattle.run_index.proofs.Laying.{filled_none, filled-step, next-room, left_over}
use Rattle.run_lists.specs.declared.Runs.{Runs}
use Rattle.run_lists.specs.Listed.{left}
use Rattle.run_lists.proofs.Ordered.{words-more}
use Rattle.pool.specs.declared.World.{World}
use Rattle.pool.specs.declared.Links.{Links}
use Rattle.pool.specs.Layout.{links_of}
use Rattle.pool.specs.Free.{GivesBack}
use Rattle.pool.specs.Soundness.{Footprint}
use Rattle.pool.specs.Settle.{Lays, Linkable, LinksUp}
use Rattle.pool.proofs.Replacing.{replace-fillable, replace-linkable, replaced}
use Rattle.streams.specs.declared.sweep.Joint.{Joint}
use Rattle.streams.specs.Reading.{Draws}
use Rattle.streams.specs.Sweeping.{Joins}
use Rattle.streams.proofs.Streamed.{draws-list}
use Rattle.changes.specs.Overwriting.{Overwritable, Receives, Received, Roomy, Gathers}

-- ---- laying them
-- the n runs rs, whose ends are words, are in the first nodes of any free chain from head on that has as many, and the others are free from q on
pub record Laying (w₀ w : List ℕ) (head q n : ℕ) (rs : List Run) : Type 0 where
  pub many : length rs ≡ n
  pub words : AllWords rs
  pub fills : (ns : List ℕ) → FreeChain w₀ head ns → n ≤ length ns → Filled w₀ w head q n ns rs

-- none lies there yet
pub laying-none : {w : List ℕ} {head : ℕ} → Laying w w head head 0 []
laying-none = record { many = refl; words = tt; fills = λ ns c h. filled_none ns c }

-- and one more
pub laying-more : {w₀ w w' : List ℕ} {head q p n : ℕ} {rs : List Run} {r : Run} → Laying w₀ w head q n rs → r.start < 2 ^ 64 → r.«end» < 2 ^ 64
    → Strung.Lays w w' p q r.start r.«end» → Laying w₀ w' head p (n + 1) (rs ++ r ∷ [])
laying-more {rs = rs} {r = r} l f g ly = record {
  many = omega (arith, l.many, length-append rs (r ∷ []));
  words = words-more rs r l.words f g;
  fills = λ ns c h. filled-step c (l.fills ns c (omega arith)) (omega arith) ly;
}

-- ---- as they come, xs of rs so far
module _ {I : Type 0} {gives : I → Option Run → I → Type 0} {w : List ℕ} {h : World} {i j t : I} {rs : List Run} (o : Overwritable gives w h i rs) (at : j ≡ i)
    (xs : List Run) (y : Yields gives j xs t) where
  -- one more comes
  pub more-come : {x : Run} {u : I} → gives t (Some x) u → length xs < length rs
  more-come {x} {u} d =
      (YieldsList-turn {steps = gives} {v = λ r. r} {s = i} (record { runs = o.yields }) xs t (subst (λ a. Yields gives a xs t) at y) (Some x) u x refl d).0

  -- none does
  pub all-came : {u : I} → gives t None u → xs ≡ rs
  all-came {u} d =
      sym (map-id xs) ∙ (YieldsList-end {steps = gives} {v = λ r. r} {s = i} (record { runs = o.yields }) xs t (subst (λ a. Yields gives a xs t) at y) None u refl d).0

  module _ {w₁ w₂ : List ℕ} {x : Links} {k : Links} {q n : ℕ} (links : x ≡ links_of h) (gb : GivesBack w w₁ x k) (l : Laying w₁ w₂ k.free q n xs) where
    -- there is a node for one more
    pub overwrite-room : {r : Run} {u : I} → gives t (Some r) u → Room w₂ q
    overwrite-room d =
        let v = o.receives in
        let f = replace-fillable v.1 (rw links at gb) v.2 in
        let m : n < length f.0 = omega (arith, more-come d, l.many, f.2) in
        go f.0 m (l.fills f.0 f.1 (omega arith))
      where
        go : (ns : List ℕ) → n < length ns → Filled w₁ w₂ k.free q n ns xs → Room w₂ q
        go ns m g = next-room w₂ q g.ys g.free (omega (arith, left_over g))

    -- nodes are few
    pub overwrite-small : {r : Run} {u : I} → gives t (Some r) u → n < 65568
    overwrite-small d = let v = o.receives in omega (arith, more-come d, l.many, v.2, v.1.kept.part, v.1.kept.few)

    module _ {u : I} (end : gives t None u) where
      all : Laying w₁ w₂ k.free q n rs
      all = subst (Laying w₁ w₂ k.free q n) (all-came end) l

      laid : Lays w₁ w₂ k.free n rs
      laid ns c h = (q, all.fills ns c h)

      -- all of them can be linked up
      pub overwrite-linkable : Linkable w₂ k n
      overwrite-linkable =
          let v = o.receives in
          replace-linkable v.1 (rw links at gb) (omega (arith, all.many, v.2)) laid (o.canonical all.words)

      -- and the world has them
      pub overwritten : {w₃ : List ℕ} {r : World} → LinksUp w₂ w₃ k n r → Received w w₃ h (length rs) r rs
      overwritten lu s st few = replaced st (rw links at gb) (omega (arith, all.many, few)) laid (o.canonical all.words) lu

-- ---- what comes
-- the runs of a list, which are in order
pub list-overwrites : {L : Type 0} (runs : L → List Run) {w : List ℕ} {h : World} (i : Runs L) (rs : List Run) → left runs i ≡ rs → ordered_from 0 rs ≡ true
    → Receives w h (length rs) → Overwritable (YieldsFirst (left runs)) w h i rs
list-overwrites runs i rs e o v = record {
  yields = let l = YieldsList-from_first (λ r. r) (left runs) {s = i} rs e in l.runs;
  canonical = λ a. ordered-canon 0 rs a o;
  receives = v;
}

module _ {w : List ℕ} {s : Footprint} {h : World} {J : Positions} where
  -- the runs of two feeds joined
  pub joint-overwrites : {j : Joint} → Joins j 0 J → Roomy w s h J → Overwritable (Draws Joins) w h j (held_runs J)
  unfolding stretches
  joint-overwrites {j} d ro = record {
    yields = draws-list Joins J j d;
    canonical = λ a. held_runs-canon J;
    receives = (s, ro.standing, ro.enough);
  }

-- they hold what is joined
pub joint-became : {w w' : List ℕ} {h r : World} {J : Positions} → Received w w' h (length (held_runs J)) r (held_runs J) → Gathers w w' h r J
unfolding stretches
joint-became {J = J} v s ro =
    let b = v s ro.standing ro.enough in record {
      shows = record { standing = b.shows.standing; holds = λ y l. b.shows.holds y l ∙ mem-held_runs J y l };
      still = b.still;
    }
