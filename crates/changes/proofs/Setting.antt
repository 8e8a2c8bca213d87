-- Giving logical positions of a world a value. They lie at one physical range, or at two; what is written there is, turned, the set
-- asked for, and there are nodes enough on the way: one run more at most physically, and one more after the first of two ranges.
-- Assumes nothing.
use Rattle.std.proofs.Common.{◌≡◌, ℕ, suc, ◌-◌, ◌<◌, ◌≤◌, Bool, ◌⊎◌, List, sym, ap, ◌∙◌, subst, inl, inr, arith}
use Rattle.model.specs.Numbers.{size}
use Rattle.model.proofs.Numbers.{split}
use Rattle.model.specs.Positions.{Positions, set_range, stretches, mem}
use Rattle.model.proofs.Runs.{stretches-cong}
use Rattle.model.proofs.After.{set-cong}
use Rattle.run_index.specs.Tree.{runs, inorder}
use Rattle.pool.specs.declared.World.{World}
use Rattle.pool.specs.declared.Links.{Links}
use Rattle.pool.specs.Layout.{links_of, turned, held_in}
use Rattle.pool.specs.Soundness.{Footprint, Represents, Standing, Limited}
use Rattle.pool.specs.Settle.{Became, Refreshes, Rooted, Resettable}
use Rattle.pool.specs.Free.{Sprouts}
use Rattle.pool.proofs.Turn.{Lies, first_below, parted-length}
use Rattle.pool.proofs.Nodes.{still-then}
use Rattle.pool.proofs.Opening.{physical_in, standing-held, standing-none, standing-some}
use Rattle.changes.specs.Change.{MaySet, Settable, Holding, Sets}
use Rattle.changes.specs.Edits.{Reached, PutsIn, Grows}
use Rattle.changes.proofs.TurnedSet.{turned-cong, turned-set-whole, turned-set-first, turned-set-parted}
use Rattle.changes.proofs.SetRuns.{set-one-more, physical-one-more}

-- what the links of a world lead to is kept
pub links-kept : {w : List ℕ} {s : Footprint} {h : World} {x : Links} → x ≡ links_of h → (st : Standing w s h) → Represents w s x st.tree st.free
links-kept {w} {s} e st = subst (λ (y : Links). Represents w s y st.tree st.free) (sym e) st.kept

-- the world that is brought into agreement holds them
pub reached-became : {w w' : List ℕ} {s : Footprint} {y : Links} {o : ℕ} {P : Positions} {k : World} → Reached w w' s y o P → Refreshes w' y o k → Became w w' s k P
reached-became {s = s} r re =
    let sh = re s r.tree r.nodes r.kept in
    record { shows = record { standing = sh.standing; holds = λ x l. sh.holds x l ∙ r.holds x l }; still = r.still }

-- its tree is the one at the links
pub puts-grows : (w w' : List ℕ) (h k : World) (a b : ℕ) (v : Bool) {y : Links} → PutsIn w w' h y.root a b v → Rooted y h.offset k → Grows w w' h k a b v
puts-grows w w' h k a b v p r = (subst (λ q. PutsIn w w' h q a b v) (sym r.root_is) p, r.no-offset)

-- the world tells of what was held, so little is left to find out
pub reached-resettable : {w w' : List ℕ} {s : Footprint} {h : World} {y : Links} (a b : ℕ) (v : Bool) → Standing w s h → h.offset < size → a ≤ b → b < size
    → Reached w w' s y h.offset (set_range a (suc b - a) v (held_in w h)) → Resettable w' y h a b v
reached-resettable {w} {w'} {s} {h} a b v st small le below r = (
  s,
  r.tree,
  r.nodes,
  held_in w h,
  r.kept,
  record {
    ordered = le;
    below = below;
    first-was = st.first-is;
    last-was = st.last-is;
    none-were = λ z. standing-none st (sym st.runs-are ∙ z);
    some-were = λ nz. standing-some st small (some nz (split 0 (runs st.tree)));
    set_to = r.holds;
  },
)
  where
    some : (h.runs ≡ 0 → ⊥) → (0 < runs st.tree) ⊎ (runs st.tree ≤ 0) → 1 ≤ runs st.tree
    some nz (inl l) = l
    some nz (inr l) = absurd (nz (omega (arith, st.runs-are)))

-- what Holding tells of the logical positions
holding-reached : {w w' : List ℕ} {s : Footprint} {y : Links} {X P : Positions} (o : ℕ) → Holding w w' s y X
    → ((x : ℕ) → x < size → turned o X x ≡ P x) → Reached w w' s y o P
holding-reached {X = X} o k f = record {
  tree = k.tree;
  nodes = k.nodes;
  kept = k.kept;
  holds = λ x l. turned-cong o (mem (inorder k.tree)) X k.positions-are x l ∙ f x l;
  still = k.still;
}

-- without an offset the range lies where it is
unturned : {o a b s e : ℕ} → Lies o a (suc b - a) s e → o ≡ 0 → a ≤ b → (s ≡ a) × (e ≡ b)
unturned l z le = (omega (arith, l.fits, l.first-at), omega (arith, l.fits, l.last-at))

-- so it is one range
pub never-parted : {o a b s e : ℕ} → Lies o a (suc b - a) s e → o ≡ 0 → a ≤ b → e < s → ⊥
never-parted l z le lt = let u = unturned l z le in omega (arith, u.0, u.1)

-- and what is put in there is put in
pub whole-puts : (w w' : List ℕ) (h : World) (q : ℕ) (v : Bool) {x : Links} {a b s e : ℕ} → x ≡ links_of h → Lies h.offset a (suc b - a) s e → a ≤ b
    → Sprouts w w' x.root q s e v → PutsIn w w' h q a b v
whole-puts w w' h q v {x} {a} {b} {s} {e} ex l le g z =
    let u = unturned l z le in
    subst (λ p. Sprouts w w' p q a b v) (ap (λ (y : Links). y.root) ex)
    (subst (λ i. Sprouts w w' x.root q i b v) u.0 (subst (λ j. Sprouts w w' x.root q s j v) u.1 g))

module _ {w : List ℕ} {h : World} {x : Links} {a n s e : ℕ} (v : Bool) (ex : x ≡ links_of h) (lies : Lies h.offset a n s e) {sh : Footprint} {limit : ℕ} (lim : Limited w sh h limit) where
  -- its physical positions
  abbrev places : Positions
  places = physical_in lim.standing

  -- the set asked for, of the tree's positions turned
  asked-held : (m z : ℕ) → set_range a m v (turned h.offset places) z ≡ set_range a m v (held_in w h) z
  asked-held m z = ap (λ P. set_range a m v P z) (sym (standing-held lim.standing))

  -- ---- one physical range
  module _ (whole : s ≤ e) where
    -- it is the set asked for
    whole-turned : (z : ℕ) → z < size → turned h.offset (set_range s (suc e - s) v places) z ≡ set_range a n v (held_in w h) z
    whole-turned z l = turned-set-whole lies v places z l whole ∙ asked-held n z

    module _ (fits : stretches (set_range a n v (held_in w h)) ≤ limit) where
      -- there are nodes enough
      whole-may : MaySet w sh x s e v lim.standing.tree lim.standing.free
      whole-may =
          let X : Positions = set_range s (suc e - s) v places in
          record {
            kept = links-kept ex lim.standing;
            below = omega (arith, lies.last-at);
            fits = omega (
              arith,
              fits,
              lim.enough,
              physical-one-more h.offset X lies.small,
              stretches-cong (turned h.offset X) (set_range a n v (held_in w h)) whole-turned,
            );
          }

      -- the same, as the call asks it
      pub whole-settable : Settable w x s e v
      whole-settable = (sh, lim.standing.tree, lim.standing.free, whole-may)

      -- and it is reached
      pub whole-reached : {w' : List ℕ} {y : Links} → Sets w w' x y s e v → Reached w w' sh y h.offset (set_range a n v (held_in w h))
      whole-reached t = holding-reached h.offset (t sh lim.standing.tree lim.standing.free whole-may) whole-turned

  -- ---- two physical ranges
  module _ (parted : e < s) where
    -- the first one, as the call has its length
    first-length : suc (size - 1) - s ≡ size - s
    first-length = omega arith

    -- it is a set of the first part
    first-turned : (z : ℕ) → z < size → turned h.offset (set_range s (suc (size - 1) - s) v places) z ≡ set_range a (size - s) v (held_in w h) z
    first-turned z l =
        ap (λ k. turned h.offset (set_range s k v places) z) first-length
        ∙ turned-set-first lies v places z l parted ∙ asked-held (size - s) z

    -- that adds one run at most
    first-may : MaySet w sh x s (size - 1) v lim.standing.tree lim.standing.free
    first-may =
        let X : Positions = set_range s (suc (size - 1) - s) v places in
        record {
          kept = links-kept ex lim.standing;
          below = omega arith;
          fits = omega (
            arith,
            lim.fits,
            lim.enough,
            set-one-more (held_in w h) a (size - s) v (omega (arith, first_below lies)) (omega (arith, lies.fits, parted-length lies parted)),
            physical-one-more h.offset X lies.small,
            stretches-cong (turned h.offset X) (set_range a (size - s) v (held_in w h)) first-turned,
          );
        }

    -- the same, as the call asks it
    pub first-settable : Settable w x s (size - 1) v
    first-settable = (sh, lim.standing.tree, lim.standing.free, first-may)

    module _ {w₁ : List ℕ} {y : Links} (t : Sets w w₁ x y s (size - 1) v) where
      -- what is held after the first
      held_first : Holding w w₁ sh y (set_range s (suc (size - 1) - s) v places)
      held_first = t sh lim.standing.tree lim.standing.free first-may

      -- the physical positions then
      abbrev places_first : Positions
      places_first = mem (inorder held_first.tree)

      -- the second one, as the call has its length
      second-length : suc e - 0 ≡ suc e
      second-length = omega arith

      -- both are the set asked for
      both-turned : (z : ℕ) → z < size → turned h.offset (set_range 0 (suc e - 0) v places_first) z ≡ set_range a n v (held_in w h) z
      both-turned z l =
          ap (λ k. turned h.offset (set_range 0 k v places_first) z) second-length
          ∙ turned-cong h.offset (set_range 0 (suc e) v places_first) (set_range 0 (suc e) v (set_range s (size - s) v places))
          (λ q k. set-cong 0 (suc e) v places_first (set_range s (size - s) v places) q
          (held_first.positions-are q k ∙ ap (λ m. set_range s m v places q) first-length)) z l
          ∙ turned-set-parted lies v places z l parted ∙ asked-held n z

      module _ (fits : stretches (set_range a n v (held_in w h)) ≤ limit) where
        -- there are nodes enough for the second
        second-may : MaySet w₁ sh y 0 e v held_first.tree held_first.nodes
        second-may =
            let X : Positions = set_range 0 (suc e - 0) v places_first in
            record {
              kept = held_first.kept;
              below = omega (arith, first_below lies);
              fits = omega (
                arith,
                fits,
                lim.enough,
                physical-one-more h.offset X lies.small,
                stretches-cong (turned h.offset X) (set_range a n v (held_in w h)) both-turned,
              );
            }

        -- the same, as the call asks it
        pub second-settable : Settable w₁ y 0 e v
        second-settable = (sh, held_first.tree, held_first.nodes, second-may)

        -- and it is reached
        pub parted-reached : {w₂ : List ℕ} {z : Links} → Sets w₁ w₂ y z 0 e v → Reached w w₂ sh z h.offset (set_range a n v (held_in w h))
        parted-reached u =
            let r = holding-reached h.offset (u sh held_first.tree held_first.nodes second-may) both-turned in
            record { tree = r.tree; nodes = r.nodes; kept = r.kept; holds = r.holds; still = still-then held_first.still r.still }
