-- A call that tidies after its work keeps its promise: the pool that it left has every world as it was. Assumes nothing.
use Rattle.std.specs.Prelude.{Ok, Err}
use Prim.Native.Nat.{ℕ, ◌<◌}
use mathlib.Core.Path.{◌≡◌, sym, ap, ap₂, ◌∙◌, subst}
use mathlib.Core.List.{List}
use native.Mathlib.Omega.{arith}
use Rattle.model.specs.Numbers.{most_worlds}
use Rattle.model.specs.Positions.{Positions}
use Rattle.model.specs.Call.{Call, Result, gave}
use Rattle.model.specs.Answers.{OrRefusal, answer_by}
use Rattle.model.specs.Pools.{PlainWorld}
use Rattle.pool.specs.Layout.{opened_at, floor_at, ceiling_at, held_by, plain_at, worlds_from, worlds_of}
use Rattle.pool.specs.Free.{Pooled}
use Rattle.pool.specs.Settle.{Settled}
use Rattle.pool.proofs.WorldLists.{worlds-same}
use Rattle.interval_bit_set.specs.Met.{Site, Met}
use Rattle.interval_bit_set.specs.Look.{Checked}
use Rattle.interval_bit_set.proofs.Looking.{gave-opened}
use Rattle.pool.specs.Relink.{Tidied}
use Rattle.interval_bit_set.specs.Tidy.{TidiesIf, Ended}

-- what settled before stays so
pub settled-tidied : {w w₁ w₂ : List ℕ} {i : ℕ} {P : Positions} → i < opened_at w → Settled w w₁ i P → Tidied w₁ w₂ → Settled w w₂ i P
settled-tidied {i = i} l S t = record {
  sound = t.sound;
  holds = λ x u. ap (λ (Q : Positions). Q x) (t.held i (omega (arith, S.opened))) ∙ S.holds x u;
  opened = t.opened ∙ S.opened;
  others = λ j b ne. t.held j (omega (arith, S.opened)) ∙ S.others j b ne;
  floors = λ j b. t.floors j b ∙ S.floors j b;
  ceilings = λ j b. t.ceilings j b ∙ S.ceilings j b;
  long = t.long ∙ S.long;
}

-- ---- the end of a call on a world, where f says what a T is
module _ {T : Type 0} (f : T → Result) {w w₁ : List ℕ} {i : ℕ} {c : Call Site} where
  -- it is met where the pool that it left is tidied
  pub met-after : {w₂ : List ℕ} {worn : ℕ} (r : OrRefusal T) {r' : OrRefusal T} → Checked w → Met w i c (answer_by (λ x. gave (f x)) r) w₁ → Ended w₁ w₂ worn r r'
      → Met w i c (answer_by (λ x. gave (f x)) r') w₂
  met-after {w₂} {worn} r {r'} k m e = subst (λ s. Met w i c (answer_by (λ x. gave (f x)) s) w₂) (sym e.answered) (go r m e.tidies)
    where
      go : (s : OrRefusal T) → Met w i c (answer_by (λ x. gave (f x)) s) w₁ → TidiesIf w₁ w₂ worn s → Met w i c (answer_by (λ x. gave (f x)) s) w₂
      go (Ok x) m t = record { answered = m.answered; left = settled-tidied (gave-opened k m) m.left t.tidied }
      go (Err e) m t = record { answered = m.answered; left = t ∙ m.left }

-- a pool has the same worlds then
worlds-tidied : {w w' : List ℕ} → Tidied w w' → worlds_of w' ≡ worlds_of w
unfolding worlds_of
worlds-tidied {w} {w'} t = ap (worlds_from w' 0) t.opened ∙ worlds-same w' w 0 (opened_at w) (λ j a b. same j (omega arith))
  where
    same : (j : ℕ) → j < opened_at w → plain_at w' j ≡ plain_at w j
    same j l =
        let small : j < most_worlds = omega (arith, t.opened, t.sound.few) in
        ap₂ (λ R f. record { positions = R; floor = f; ceiling = ceiling_at w' j }) (t.held j l) (t.floors j small)
        ∙ ap (λ c. record { positions = held_by w j; floor = floor_at w j; ceiling = c }) (t.ceilings j small)

pub pooled-tidied : {w w₁ w₂ : List ℕ} {ws : List PlainWorld} → Pooled w w₁ ws → Tidied w₁ w₂ → Pooled w w₂ ws
pooled-tidied p t = record { sound = t.sound; worlds = worlds-tidied t ∙ p.worlds; long = t.long ∙ p.long }
