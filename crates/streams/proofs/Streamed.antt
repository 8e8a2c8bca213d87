-- Reading runs one after the other: what was read up to a position is the list of the runs there, as long as no run goes on past that
-- position; so each run that is handed out is put at the end, and with nothing left the list is that of all runs. From the laws of ranges that
-- lie side by side. Assumes nothing.
use Rattle.std.specs.Prelude.{None, Some}
use Rattle.std.specs.Iterator.{AlwaysYields}
use Rattle.std.proofs.lemmas.List.{append_cancel_left}
use Prim.Native.Nat.{ℕ, suc, ◌+◌, ◌-◌, ◌≤◌, ◌<◌}
use mathlib.Core.Path.{◌≡◌, refl, sym, ap, subst, ◌∙◌}
use mathlib.Core.Logic.{◌⊎◌, inl, inr}
use mathlib.Core.Bool.{true, false}
use mathlib.Core.List.{List, [], ◌∷◌, ◌++◌, append-nil, append_assoc}
use native.Mathlib.Omega.{arith}
use lib.ListN.{length, length-append}
use Rattle.model.specs.declared.Run.{Run}
use Rattle.model.specs.Numbers.{size}
use Rattle.model.proofs.Numbers.{split}
use Rattle.model.specs.Positions.{Positions, run, runs_in, held_runs}
use Rattle.model.proofs.Runs.{runs_in-none, runs_in-join, runs_in-first}
use Rattle.streams.specs.Reading.{Clear, RunFrom, Draws}

-- rs are the runs of J below x, and none of them goes on at x
pub record Passed (x : ℕ) (J : Positions) (rs : List Run) : Type 0 where
  pub within : x ≤ size
  pub runs-are : runs_in J true 0 x ≡ rs
  pub seam : x < size → (x ≡ 0) ⊎ (J x ≡ false)

pub passed_none : (J : Positions) → Passed 0 J []
passed_none J = record { within = omega arith; runs-are = runs_in-none J true 0 0 (λ x h l. absurd (omega arith)); seam = λ _. inl refl }

module _ {x : ℕ} {J : Positions} {rs : List Run} (p : Passed x J rs) where
  -- the runs below t are those below x and those from x on
  joined : x < size → (t : ℕ) → x ≤ t → runs_in J true 0 t ≡ rs ++ runs_in J true x (t - x)
  joined s t h =
      let q : t ≡ x + (t - x) = omega arith in
      let e : 0 + x ≡ x = omega arith in
      ap (runs_in J true 0) q ∙ runs_in-join J true 0 x (t - x) (seamed (p.seam s))
      ∙ ap (λ (y : ℕ). runs_in J true 0 x ++ runs_in J true y (t - x)) e ∙ ap (λ (l : List Run). l ++ runs_in J true x (t - x)) p.runs-are
    where
      seamed : (x ≡ 0) ⊎ (J x ≡ false) → (J (0 + x) ≡ false) ⊎ ((y : ℕ) → suc y ≡ 0 + x → 0 ≤ y → J y ≡ false)
      seamed (inl z) = inr (λ y e g. absurd (omega arith))
      seamed (inr f) = inl (let e : 0 + x ≡ x = omega arith in ap J e ∙ f)

  -- nothing from x on
  pub passed-all : Clear x J → held_runs J ≡ rs
  unfolding held_runs
  passed-all c = go (split x size)
    where
      go : (x < size) ⊎ (size ≤ x) → runs_in J true 0 size ≡ rs
      go (inl l) =
          joined l size (omega arith) ∙ ap (λ (l : List Run). rs ++ l) (runs_in-none J true x (size - x) (λ y s t. c y s (omega arith)))
          ∙ append-nil rs
      go (inr g) = let e : size ≡ x = omega (arith, p.within) in ap (runs_in J true 0) e ∙ p.runs-are

  module _ {a b : ℕ} (r : RunFrom x a b J) where
    -- the first run from x on, and what follows it below t
    found : (t : ℕ) → b < t → t ≤ size → runs_in J true 0 t ≡ rs ++ (run a b ∷ runs_in J true (suc b) (t - suc b))
    found t h k =
        let e : x + (t - x) ≡ t = omega (arith, r.onward, r.ordered) in
        joined (omega (arith, r.onward, r.ordered, r.small)) t (omega (arith, r.onward, r.ordered))
        ∙ ap (λ (l : List Run). rs ++ l)
        (runs_in-first J true x (t - x) a b r.onward r.ordered (omega arith) r.clear r.held (λ g. r.stops (omega arith))
        ∙ ap (λ (s : ℕ). run a b ∷ runs_in J true (suc b) (s - suc b)) e)

    -- it is the last one below the position after it
    below : runs_in J true 0 (suc b) ≡ rs ++ (run a b ∷ [])
    below =
        found (suc b) (omega arith) (omega (arith, r.small))
        ∙ ap (λ (l : List Run). rs ++ (run a b ∷ l)) (runs_in-none J true (suc b) (suc b - suc b) (λ y s t. absurd (omega arith)))

    pub passed-more : Passed (suc b) J (rs ++ (run a b ∷ []))
    passed-more = record { within = r.small; runs-are = below; seam = λ h. inr (r.stops h) }

    -- it is the next one of all
    pub passed-next : held_runs J ≡ rs ++ (run a b ∷ runs_in J true (suc b) (size - suc b))
    unfolding held_runs
    passed-next = found size r.small (omega arith)

-- a reading that stands behind the runs rs of J
pub record Streaming {A : Type 0} (Has : A → ℕ → Positions → Type 0) (r : A) (J : Positions) (rs : List Run) : Type 0 where
  pub at : ℕ
  pub passed : Passed at J rs
  pub has : Has r at J

module _ {A : Type 0} {Has : A → ℕ → Positions → Type 0} {J : Positions} where
  -- nothing more comes, or the next run of J
  stream-all : {r r' : A} {rs : List Run} → Streaming Has r J rs → Draws Has r None r' → held_runs J ≡ rs
  stream-all s d = passed-all s.passed (d s.at J s.has).0

  stream-next : {r r' : A} {rs : List Run} {u : Run} → Streaming Has r J rs → Draws Has r (Some u) r' → (more : List Run) × (held_runs J ≡ rs ++ (u ∷ more))
  stream-next s d = (_, passed-next s.passed (d s.at J s.has).0)

  stream-more : {r r' : A} {rs : List Run} {u : Run} → Streaming Has r J rs → Draws Has r (Some u) r' → Streaming Has r' J (rs ++ (u ∷ []))
  stream-more {u = u} s d = record { at = suc u.«end»; passed = passed-more s.passed (d s.at J s.has).0; has = (d s.at J s.has).1 }

  -- what is left comes, run by run
  rest-comes : (more rs : List Run) (r : A) → Streaming Has r J rs → held_runs J ≡ rs ++ more → AlwaysYields (Draws Has) (λ u. u) r more
  rest-comes [] rs r s e = λ u r' d. let n = stream-next s d in absurd (omega (arith, simp length-append at (ap length (sym e ∙ n.1))))
  rest-comes (y ∷ more) rs r s e = (
    (λ r' d. absurd (omega (arith, simp length-append at (ap length (sym (stream-all s d) ∙ e))))),
    λ u r' d.
        let n = stream-next s d in
        let same : y ∷ more ≡ u ∷ n.0 = append_cancel_left rs (y ∷ more) (u ∷ n.0) (sym e ∙ n.1) in
        let here : u ≡ y = cc in
        (here, rest-comes more (rs ++ (y ∷ [])) r' (subst (λ v. Streaming Has r' J (rs ++ (v ∷ []))) here (stream-more s d)) (e ∙ sym (append_assoc rs (y ∷ []) more))),
  )

-- A READING from the first position on yields the runs of J
pub draws-list : {A : Type 0} (Has : A → ℕ → Positions → Type 0) (J : Positions) (r : A) → Has r 0 J → AlwaysYields (Draws Has) (λ u. u) r (held_runs J)
draws-list Has J r h = rest-comes (held_runs J) [] r (record { at = 0; passed = passed_none J; has = h }) refl
