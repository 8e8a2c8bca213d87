-- A call meets its contract: what the model is fed of words that were looked at, and what a reporting call then answers. Each is the model's own
-- definitions, at the words' capacity and soundness. Assumes nothing.
use Rattle.std.specs.Prelude.{Option, None, Some}
use Prim.Native.Nat.{ℕ, ◌≤◌, ◌<◌}
use mathlib.Core.Path.{◌≡◌, refl, sym, ap, ap₂, ◌∙◌, subst}
use mathlib.Core.Bool.{Bool, true, false, cond}
use mathlib.Core.List.{List, []}
use native.Mathlib.Omega.{arith}
use borrow.Author.Tests.{eq-eqb, ne_eqb}
use Rattle.model.specs.Numbers.{size}
use Rattle.model.specs.Positions.{Positions}
use Rattle.model.specs.Refusals.{Condition, refusal}
use Rattle.model.specs.Call.{Fed, wrong_length, unsound, unopened, Call, Result, Answer, refused, gave}
use Rattle.model.specs.Model.{Effect, asking, plan, Outcome, settle, look, or_else, serve}
use Rattle.model.specs.Pools.{world_of, fed_by}
use Rattle.pool.specs.declared.World.{World}
use Rattle.pool.specs.declared.Set.{Set}
use Rattle.pool.specs.Layout.{capacity, opened_at, held, held_in, held_by, worlds_of}
use Rattle.pool.specs.Soundness.{Sound}
use Rattle.pool.specs.Decision.{sound_b}
use Rattle.pool.specs.Settle.{Settled, Openable, Opened}
use Rattle.pool.proofs.Parts.{lent}
use Rattle.pool.proofs.WorldLists.{opened-world, unopened-world}
use Rattle.pool.proofs.Whole.{sound_b-no}
use Rattle.interval_bit_set.specs.Met.{Site, fed_of, fed_at, full_at, outcome_of, Leaves, Met, Readable}
use Rattle.interval_bit_set.proofs.Doors.{lent-held}

-- ---- what the model is fed
-- words of no pool's length
pub fed-short : (w : List ℕ) (i : ℕ) → capacity w ≡ 0 → fed_of w i ≡ wrong_length
unfolding fed_of
fed-short w i e = ap (λ t. cond t wrong_length (cond (sound_b w) (fed_by (world_of (worlds_of w) i)) unsound)) (eq-eqb (capacity w) 0 e)

-- words of a pool's length, by the test of soundness
fed_by_lem : (w : List ℕ) (i : ℕ) (t : Bool) → 1 ≤ capacity w → sound_b w ≡ t → fed_of w i ≡ cond t (fed_by (world_of (worlds_of w) i)) unsound
unfolding fed_of
fed_by_lem w i t h e =
    ap₂ (λ z s. cond z wrong_length (cond s (fed_by (world_of (worlds_of w) i)) unsound)) (ne_eqb (capacity w) 0 (λ z. omega arith)) e

-- those that the test finds unsound
pub fed-unsound : (w : List ℕ) (i : ℕ) → 1 ≤ capacity w → sound_b w ≡ false → fed_of w i ≡ unsound
fed-unsound w i h e = fed_by_lem w i false h e

-- a sound pool is fed as its worlds
pub fed-sound : (w : List ℕ) (i : ℕ) → Sound w → fed_of w i ≡ fed_by (world_of (worlds_of w) i)
fed-sound w i S = fed_by_lem w i true S.sized (sound_b-no w S)

-- where world i was not opened
pub fed-unopened : (w : List ℕ) (i : ℕ) → Sound w → opened_at w ≤ i → fed_of w i ≡ unopened
fed-unopened w i S h = fed-sound w i S ∙ ap fed_by (unopened-world w i h)

-- and where it was: then it is readable
pub readable : {w : List ℕ} {i : ℕ} → Openable w i → Readable w i
readable {w} {i} o = record { openable = o; fed = fed-sound w i o.sound ∙ ap fed_by (opened-world w i o.named) }

-- ---- the contract
-- it holds of an outcome whose positions are left
pub met_by : {w w' : List ℕ} {i : ℕ} {c : Call Site} (o : Outcome) → outcome_of w i c ≡ o → Leaves w w' i o.positions o.answer → Met w i c o.answer w'
met_by {w} {w'} {i} o e l = record {
  answered = sym (ap (λ p. p.answer) e);
  left = subst (λ p. Leaves w w' i p.positions o.answer) (sym e) l;
}

-- a pool settles as it is
pub settled_same : {w : List ℕ} {i : ℕ} → Sound w → Settled w w i (held_by w i)
settled_same S = record {
  sound = S;
  holds = λ x h. refl;
  opened = refl;
  others = λ j l ne. refl;
  floors = λ j l. refl;
  ceilings = λ j l. refl;
  long = refl;
}

-- and with positions that are the same below 2^64
pub settled-as : {w w' : List ℕ} {i : ℕ} {P Q : Positions} → Settled w w' i P → ((x : ℕ) → x < size → P x ≡ Q x) → Settled w w' i Q
settled-as S e = record {
  sound = S.sound;
  holds = λ x h. S.holds x h ∙ e x h;
  opened = S.opened;
  others = S.others;
  floors = S.floors;
  ceilings = S.ceilings;
  long = S.long;
}

-- an answer that is no refusal
abbrev Plain : Answer → Type 0
Plain (refused n) = ⊥
Plain (gave r) = Unit {0}

-- no refusal is a result
pub refused-not : {n : ℕ} {r : Result} → refused n ≡ gave r → ⊥
refused-not e = subst Plain (sym e) tt

-- ---- calls that report
-- the call c reads nothing that refuses, has the conditions cs, and gives A of the positions held
pub record Reports (w : List ℕ) (i : ℕ) (c : Call Site) (cs : List Condition) (A : Positions → Result) : Type 0 where
  pub further : List Fed
  pub read : look further ≡ None
  pub said : plan fed_at c ≡ record { further = further; earns = λ P. cs; effect = Effect.stays; gives = A }

-- one that reads no further world
pub asks : {w : List ℕ} {i : ℕ} {c : Call Site} {cs : List Condition} {A : Positions → Result} → plan fed_at c ≡ asking cs A → Reports w i c cs A
asks e = record { further = []; read = refl; said = e }

module _ {w : List ℕ} {i : ℕ} {c : Call Site} {cs : List Condition} {A : Positions → Result} (says : Reports w i c cs A) (R : Readable w i) where
  -- what the model says of it at a world that can be read
  reports-outcome : (o : Option ℕ) → refusal cs ≡ o → outcome_of w i c ≡ settle o (held_by w i) (A (held_by w i)) (held_by w i)
  unfolding outcome_of serve
  reports-outcome o e =
      ap₂ (serve (full_at w i)) R.fed says.said
      ∙ ap (λ l. settle (or_else l (refusal cs)) (held_by w i) (A (held_by w i)) (held_by w i)) says.read
      ∙ ap (λ y. settle y (held_by w i) (A (held_by w i)) (held_by w i)) e

  -- it is refused by its conditions
  pub refused-by : (n : ℕ) → refusal cs ≡ Some n → Met w i c (refused n) w
  refused-by n e = met_by _ (reports-outcome (Some n) e) refl

  -- and else it gives what is due of its positions, which stay
  pub met : {a : Result} → refusal cs ≡ None → a ≡ A (held_by w i) → Met w i c (gave a) w
  met e f = subst (λ b. Met w i c (gave b) w) (sym f) (met_by _ (reports-outcome None e) (settled_same R.openable.sound))

  -- the same of what is due of the positions of the world in the part that is lent
  pub met-in : {h : World} {a : Result} → Opened w i h → refusal cs ≡ None → a ≡ A (held_in (lent w) h) → Met w i c (gave a) w
  met-in op e f = met e (f ∙ ap A (lent-held op))

  -- the same of the positions of a set that was read
  pub met-read : (s : Set) {a : Result} → held s ≡ held_by w i → refusal cs ≡ None → a ≡ A (held s) → Met w i c (gave a) w
  met-read s e f g = met f (g ∙ ap A e)
