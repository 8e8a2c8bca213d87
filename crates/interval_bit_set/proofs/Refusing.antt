-- The order of refusals: what the causes before too many runs give is given, and where they give nothing, the others count.
-- Each law goes through the causes one by one. Assumes nothing.
use Rattle.std.specs.Prelude.{Option, None, Some}
use Prim.Native.Nat.{ℕ}
use mathlib.Core.Path.{◌≡◌, refl, ap, ◌∙◌}
use mathlib.Core.Bool.{Bool, true, false, cond, ◌||◌}
use mathlib.Core.List.{List, [], ◌∷◌, ◌++◌}
use native.Mathlib.Omega.{arith}
use Rattle.model.specs.Refusals.{
  Cause,
  before_capacity,
  from_capacity,
  Condition,
  ◌when◌,
  given,
  first_given,
  number_of,
  refusal,
  shape_conditions,
  set_conditions,
}
use Rattle.model.specs.Refusals

-- what the first causes give is given
first_some : (ks js : List Cause) (cs : List Condition) (n : ℕ) → first_given ks cs ≡ Some n → first_given (ks ++ js) cs ≡ Some n
first_some [] js cs n e = let z : ◌≡◌ {A = ℕ} 0 1 = cc in absurd (omega arith)
first_some (k ∷ ks) js cs n e = go (given k cs) (first_some ks js cs n) e
  where
    go : (b : Bool) → (first_given ks cs ≡ Some n → first_given (ks ++ js) cs ≡ Some n) → cond b (Some (number_of k)) (first_given ks cs) ≡ Some n
        → cond b (Some (number_of k)) (first_given (ks ++ js) cs) ≡ Some n
    go true f p = p
    go false f p = f p

-- where they give nothing, the others count
first-none : (ks js : List Cause) (cs : List Condition) → first_given ks cs ≡ None → first_given (ks ++ js) cs ≡ first_given js cs
first-none [] js cs e = refl
first-none (k ∷ ks) js cs e = go (given k cs) (first-none ks js cs) e
  where
    go : (b : Bool) → (first_given ks cs ≡ None → first_given (ks ++ js) cs ≡ first_given js cs) → cond b (Some (number_of k)) (first_given ks cs) ≡ None
        → cond b (Some (number_of k)) (first_given (ks ++ js) cs) ≡ first_given js cs
    go true f p = let z : ◌≡◌ {A = ℕ} 0 1 = cc in absurd (omega arith)
    go false f p = f p

-- where all give nothing, they do
all_none : (ks js : List Cause) (cs : List Condition) → first_given (ks ++ js) cs ≡ None → first_given ks cs ≡ None
all_none [] js cs e = refl
all_none (k ∷ ks) js cs e = go (given k cs) (all_none ks js cs) e
  where
    go : (b : Bool) → (first_given (ks ++ js) cs ≡ None → first_given ks cs ≡ None) → cond b (Some (number_of k)) (first_given (ks ++ js) cs) ≡ None
        → cond b (Some (number_of k)) (first_given ks cs) ≡ None
    go true f p = p
    go false f p = f p

-- where the others give nothing, what all give is what they do
pub first_alone : (ks js : List Cause) (cs : List Condition) → first_given js cs ≡ None → first_given (ks ++ js) cs ≡ first_given ks cs
first_alone [] js cs e = e
first_alone (k ∷ ks) js cs e = ap (cond (given k cs) (Some (number_of k))) (first_alone ks js cs e)

-- ---- of calls that too many runs refuse, with other conditions beside
module _ (cs : List Condition) where
  -- these come before that
  pub refused-before : (t : Bool) {n : ℕ} → first_given before_capacity cs ≡ Some n → refusal (Refusals.capacity when t ∷ cs) ≡ Some n
  refused-before t {n} e = first_some before_capacity from_capacity (Refusals.capacity when t ∷ cs) n e

  -- those of none that is given
  pub none_before : refusal cs ≡ None → first_given before_capacity cs ≡ None
  none_before e = all_none before_capacity from_capacity cs e

  -- it counts where they do not
  pub refused_full : first_given before_capacity cs ≡ None → refusal (Refusals.capacity when true ∷ cs) ≡ Some 8
  refused_full e = first-none before_capacity from_capacity (Refusals.capacity when true ∷ cs) e

-- ---- of calls that have to have room in a slice, with other conditions beside
-- what comes before too many runs comes before that
pub refused-earlier : (cs : List Condition) (t : Bool) {n : ℕ} → first_given before_capacity cs ≡ Some n → refusal (Refusals.output_short when t ∷ cs) ≡ Some n
refused-earlier cs t {n} e = first_some before_capacity from_capacity (Refusals.output_short when t ∷ cs) n e

-- beside the conditions of a written set it counts where they do not
pub refused-short : (bs : List ℕ) → refusal (set_conditions bs) ≡ None → refusal (Refusals.output_short when true ∷ set_conditions bs) ≡ Some 2
refused-short bs e =
    first-none before_capacity from_capacity (Refusals.output_short when true ∷ set_conditions bs) (none_before (set_conditions bs) e)

-- beside those of a set's shape it counts so for either of two slices
pub refused-room : (bs : List ℕ) (a b : Bool) → refusal (shape_conditions bs) ≡ None
    → refusal (Refusals.output_short when a ∷ Refusals.output_short when b ∷ shape_conditions bs) ≡ cond {A = Option ℕ} (a || b) (Some 2) None
refused-room bs a b e =
    first-none before_capacity from_capacity (Refusals.output_short when a ∷ Refusals.output_short when b ∷ shape_conditions bs) (none_before (shape_conditions bs) e)
    ∙ go a b
  where
    go : (a b : Bool) → cond {A = Option ℕ} (a || (b || false)) (Some 2) None ≡ cond {A = Option ℕ} (a || b) (Some 2) None
    go true b = refl
    go false true = refl
    go false false = refl
