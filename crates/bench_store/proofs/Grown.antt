-- Words are a sound pool where their length and the check say so. A set of world 0 of a sound pool that is admitted can be closed, and the
-- world then holds it; one that is refused leaves all words. World 0 can be searched. The nodes are lent as a part of the words.
-- Assumes nothing.
use Rattle.changes.specs.Edits.{changed_to}
use Rattle.std.specs.Prelude.{Option, None}
use Rattle.changes.specs.declared.edit.Edit.{Edit}
use Rattle.std.proofs.Common.{◌≡◌, ℕ, ◌≤◌, ◌<◌, Bool, true, false, List, [], ◌∷◌, length}
use Rattle.std.proofs.Common.{sym, refl, ap, ◌∙◌, subst, subst₂, arith, le-ltb, eq-eqb, ne_eqb}
use native.Mathlib.Decide.{ℕ_discrete}
use Rattle.model.specs.declared.Count.{Count}
use Rattle.model.specs.Positions.{Positions, empty, set_range, stretches}
use Rattle.model.specs.Refusals.{bad_limits}
use Rattle.model.specs.Pools.{limits_from, limits_of, empty_worlds, alone}
use Rattle.run_index.specs.Cells.{cell_at}
use Rattle.pool.specs.declared.World.{World}
use Rattle.pool.specs.Layout.{capacity, nodes, allowance, held_in, held_by}
use Rattle.pool.specs.Soundness.{Sound, Stands, Limited, Editable, footprint_of}
use Rattle.pool.specs.Free.{Makeable, Pooled, Emptied}
use Rattle.pool.specs.Settle.{Settled, Became, Openable, Opened, Closing}
use Rattle.pool.proofs.Truths.{never}
use Rattle.pool.proofs.Nodes.{sized-length}
use Rattle.pool.proofs.Parts.{lent, back, lent-nodes, back-same, back-nodes, back-front, back_long, cells-before}
use Rattle.pool.specs.Decision.{sound_b}
use Rattle.pool.proofs.Whole.{sound_b-yes}
use Rattle.changes.specs.Edits.{Edited}
use Rattle.bench_store.specs.Growing.{is_pool, Renewed, Tried}

-- ---- a new pool
-- floor 0 and the capacity as the ceiling are not refused
good : (c : ℕ) → bad_limits c (limits_of (0 ∷ c ∷ [])) ≡ false
unfolding bad_limits limits_of limits_from
good c = rw (le-ltb c 0 (omega arith))

pub makeable : (w : List ℕ) (c : ℕ) → c ≡ capacity w → (c ≡ 0 → ⊥) → Makeable w (0 ∷ c ∷ []) 1
makeable w c e h = record { sized = omega (arith, h); many = refl; good = ap (λ k. bad_limits k (limits_of (0 ∷ c ∷ []))) (sym e) ∙ good c }

-- these limits make one empty world
one-world : (c : ℕ) → empty_worlds (limits_of (0 ∷ c ∷ [])) ≡ alone c empty
unfolding empty_worlds limits_of limits_from
one-world c = refl

pub renewed : (w w' : List ℕ) (c : ℕ) → c ≡ capacity w → Emptied w w' (limits_of (0 ∷ c ∷ [])) → Renewed w w' true
renewed w w' c e made = subst (λ k. Pooled w w' (alone k empty)) e (subst (Pooled w w') (one-world c) made)

-- ---- the check
-- the length is a pool's: the rest decides
pub has-length : (w : List ℕ) → (capacity w ≡ 0 → ⊥) → sound_b w ≡ is_pool w
has-length w h = rw (ne_eqb (capacity w) 0 h)

-- it is not
pub no-length : (w : List ℕ) → capacity w ≡ 0 → false ≡ is_pool w
no-length w e = rw (eq-eqb (capacity w) 0 e)

-- what passes is sound
pub found-sound : (w : List ℕ) → is_pool w ≡ true → Sound w
found-sound w e = go (ℕ_discrete (capacity w) 0)
  where
    go : Dec (capacity w ≡ 0) → Sound w
    go (yes z) = never (no-length w z ∙ e)
    go (no some) = sound_b-yes w (omega arith) (has-length w some ∙ e)

-- ---- world 0
-- a sound pool has it
pub opened : {w : List ℕ} → Sound w → Openable w 0
opened so = record { sound = so; named = so.some }

-- and nodes to be lent
pub nodes-there : {w : List ℕ} → Sound w → 128 ≤ length w
nodes-there {w} so = omega (arith, (sized-length w so.sized).0)

module _ {w : List ℕ} {h : World} (op : Opened w 0 h) where
  -- in the part that is lent it is within its allowance
  limited : Limited (lent w) (footprint_of w 0) h (allowance w 0)
  limited = subst (λ v. Limited v (footprint_of w 0) h (allowance w 0)) (sym (lent-nodes w)) op.limited

  -- it holds there what the pool's world does
  pub lent-held : held_in (lent w) h ≡ held_by w 0
  lent-held = ap (λ v. held_in v h) (lent-nodes w) ∙ op.held

  -- a set of it is one of the pool's world
  pub tried-there : (w' : List ℕ) (b : Bool) (a n : ℕ) → Tried w w' (set_range a n true (held_in (lent w) h)) b
      → Tried w w' (set_range a n true (held_by w 0)) b
  tried-there w' b a n t = subst (λ P. Tried w w' (set_range a n true P) b) lent-held t

  -- and stands
  pub open-stands : Stands (lent w) h
  open-stands = (footprint_of w 0, limited.standing)

  module _ {limit : ℕ} (el : limit ≡ allowance w 0) where
    -- it may be edited
    pub editable : Editable (lent w) h limit
    editable = (footprint_of w 0, subst (Limited (lent w) (footprint_of w 0) h) (sym el) limited)

    module _ (so : Sound w) (ys : List ℕ) (Q : Positions) (e : Option Edit) (ed : Edited (lent w) ys h limit Q e) where
      -- refused, all is as it was
      refused : e ≡ None → (limit < stretches Q) × (ys ≡ lent w)
      refused q = subst (Edited (lent w) ys h limit Q) q ed

      pub full-same : e ≡ None → Tried w (back w ys) Q false
      full-same q = (subst (λ m. m < stretches Q) el (refused q).0, ap (back w) (refused q).1 ∙ back-same w)

      -- else it can be closed
      module _ {k : World} {n : Count} (q : e ≡ changed_to k n) where
        told : Edited (lent w) ys h limit Q (changed_to k n)
        told = subst (Edited (lent w) ys h limit Q) q ed

        few : stretches Q ≤ allowance w 0
        few = subst (λ m. stretches Q ≤ m) el told.0

        became : Became (lent w) ys (footprint_of w 0) k Q
        became = told.1 (footprint_of w 0) (allowance w 0) limited few

        same_number : k.tag ≡ 0
        same_number = became.shows.standing.kept.tagged

        -- no world has the words before the first node
        same-before : cell_at (nodes (back w ys)) 0 ≡ cell_at (nodes w) 0
        same-before =
            ap (λ v. cell_at v 0) (back-nodes w ys (nodes-there so)) ∙ became.still.cells 0 (λ p. absurd (omega arith))
            ∙ ap (λ v. cell_at v 0) (lent-nodes w)

        became-nodes : Became (nodes w) (nodes (back w ys)) (footprint_of w 0) k Q
        became-nodes = subst₂ (λ a b. Became a b (footprint_of w 0) k Q) (lent-nodes w) (sym (back-nodes w ys (nodes-there so))) became

        pub changed-closing : Closing w (back w ys) k Q
        changed-closing = record {
          openable = subst (Openable w) (sym same_number) (opened so);
          before = cells-before w (back w ys) (back-front w ys (nodes-there so)) same-before;
          long = back_long w ys (nodes-there so) became.still.long;
          became = subst (λ j. Became (nodes w) (nodes (back w ys)) (footprint_of w j) k Q) (sym same_number) became-nodes;
          few = subst (λ j. stretches Q ≤ allowance w j) (sym same_number) few;
        }

        -- and then holds it
        pub changed-tried : {w' : List ℕ} → Settled w w' k.tag Q → Tried w w' Q true
        changed-tried {w'} S = (few, subst (λ j. Settled w w' j Q) same_number S)
