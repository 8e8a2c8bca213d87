-- Runs and their ends from the next and the previous position of a value: what precedes the next one, or follows the previous one, has the
-- other value, and so has what follows a run. Assumes nothing.
use Rattle.std.specs.Prelude.{Option, None, Some, MatchOption}
use Rattle.std.specs.Bool.{then_some}
use Rattle.std.proofs.Common.{◌≡◌, ℕ, suc, ◌-◌, ◌<◌, ◌≤◌, Bool, true, false, not, leb, ◌⊎◌, sym, refl, ap, ◌∙◌, subst, inl, inr, arith, leb-true, leb-false}
use Rattle.model.specs.declared.Logical.{Logical}
use Rattle.model.specs.Numbers.{size}
use Rattle.model.proofs.Numbers.{split}
use Rattle.model.specs.Positions.{Positions, run, find, runs_in, first_run, last_run, run_at}
use Rattle.model.proofs.Runs.{runs_in-none, first_run-is, last_run-is, run_at-is}
use Rattle.model.proofs.Finds.{find-is, find_none, find_runs}
use Rattle.reports.specs.Reports.{logical_number, Next, Previous, StretchStart, StretchEnd}
use Rattle.reports.proofs.Seeking.{Past, Short, none-next, none-previous}
use Rattle.reports.proofs.Joins.{FoundIn, find-only, start_none}

-- ---- what a test t lets through
module _ {n r : Option Logical} {R : Logical → Type 0} (t : ℕ → Bool) (m : MatchOption n (r ≡ None) R)
    (f : (y : Logical) → R y → r ≡ then_some (t y.0) y) where
  -- was found, and meets it
  pub kept : {x : Logical} → r ≡ Some x → (n ≡ Some x) × (t x.0 ≡ true)
  kept {x} e = go n m
    where
      pick : (y : Logical) (b : Bool) → t y.0 ≡ b → r ≡ then_some b y → (Some y ≡ Some x) × (t x.0 ≡ true)
      pick y true i g = let k : y ≡ x = cc in (ap Some k, ap (λ (z : Logical). t z.0) (sym k) ∙ i)
      pick y false i g = absurd (cc)

      go : (o : Option Logical) → MatchOption o (r ≡ None) R → (o ≡ Some x) × (t x.0 ≡ true)
      go None g = absurd (cc)
      go (Some y) q = pick y (t y.0) refl (f y q)

  -- where nothing is let through, nothing was found, or it does not meet the test
  pub dropped : r ≡ None → (n ≡ None) ⊎ ((y : Logical) × (n ≡ Some y) × (t y.0 ≡ false))
  dropped e = go n m
    where
      pick : (y : Logical) (b : Bool) → t y.0 ≡ b → r ≡ then_some b y
          → (Some y ≡ None) ⊎ ((z : Logical) × (Some y ≡ Some z) × (t z.0 ≡ false))
      pick y true i g = absurd (cc)
      pick y false i g = inr (y, refl, i)

      go : (o : Option Logical) → MatchOption o (r ≡ None) R → (o ≡ None) ⊎ ((y : Logical) × (o ≡ Some y) × (t y.0 ≡ false))
      go None g = inl refl
      go (Some y) q = pick y (t y.0) refl (f y q)

module _ (P : Positions) (v : Bool) (a b : ℕ) (n : Option Logical) {r : Option Logical} {R : Logical → Type 0} where
  -- the next position of the value from a on is found up to b, unless it is past b
  pub found_in : b < size → Next P v a (logical_number n) → MatchOption n (r ≡ None) R → ((y : Logical) → R y → r ≡ then_some (leb y.0 b) y)
      → logical_number r ≡ find P v a (suc b - a)
  found_in l m f q = go r refl
    where
      go : (o : Option Logical) → r ≡ o → logical_number r ≡ find P v a (suc b - a)
      go (Some x) e =
          let k = kept (λ y. leb y b) f q e in
          let j : Next P v a (Some x.0) = subst (λ o. Next P v a (logical_number o)) k.0 m in
          let u : x.0 ≤ b = leb-true x.0 b k.1 in
          ap logical_number e ∙ sym (find-is P v a (suc b - a) x.0 j.0 (omega (arith, j.0)) j.2 j.3)
      go None e =
          let past : Past b (logical_number n) = none (dropped (λ y. leb y b) f q e) in
          ap logical_number e ∙ sym (find_none P v a (suc b - a) (λ y i j. none-next P v (logical_number n) m past y i (omega arith) (omega arith)))
        where
          none : (n ≡ None) ⊎ ((y : Logical) × (n ≡ Some y) × (leb y.0 b ≡ false)) → Past b (logical_number n)
          none (inl i) = inl (ap logical_number i)
          none (inr (y, i, j)) = inr (y.0, ap logical_number i, leb-false y.0 b j)

module _ (P : Positions) (v : Bool) (a b : ℕ) where
  -- ---- the first run from a to b
  -- there is none
  pub no-first-run : find P v a (suc b - a) ≡ None → None ≡ first_run (runs_in P v a (suc b - a))
  no-first-run e = sym (start_none (first_run (runs_in P v a (suc b - a))) (sym (find_runs P v a (suc b - a)) ∙ e))

  -- it starts with the first position of the value
  pub first-run-found : {x y : ℕ} → a ≤ b → find P v a (suc b - a) ≡ Some x → StretchEnd P v x b y → Some (run x y) ≡ first_run (runs_in P v a (suc b - a))
  first-run-found {x} {y} h e st =
      let f : FoundIn P v a (suc b - a) x = find-only P v a (suc b - a) x e in
      sym (first_run-is P v a (suc b - a) x y f.from st.from (omega (arith, st.upto)) f.under st.same (λ i. st.stop (omega arith)))

  -- ---- the last run from a to b
  -- there is none
  pub no-last-run : {n : Option Logical} → Previous P v b (logical_number n) → (n ≡ None) ⊎ ((y : Logical) × (n ≡ Some y) × (leb a y.0 ≡ false))
      → None ≡ last_run (runs_in P v a (suc b - a))
  no-last-run {n} m u = sym (ap last_run (runs_in-none P v a (suc b - a) (λ y i j. none-previous P v (logical_number n) m (short u) y i (omega arith))))
    where
      short : (n ≡ None) ⊎ ((y : Logical) × (n ≡ Some y) × (leb a y.0 ≡ false)) → Short a (logical_number n)
      short (inl i) = inl (ap logical_number i)
      short (inr (y, i, j)) = inr (y.0, ap logical_number i, leb-false a y.0 j)

  -- it ends with the last position of the value
  pub last-run-found : {n : Option Logical} {x : Logical} {y : ℕ} → Previous P v b (logical_number n) → n ≡ Some x → StretchStart P v a x.0 y
      → Some (run y x.0) ≡ last_run (runs_in P v a (suc b - a))
  last-run-found {n} {x} {y} m e st =
      let j : Previous P v b (Some x.0) = subst (λ o. Previous P v b (logical_number o)) e m in
      sym (last_run-is P v a (suc b - a) y x.0 st.from st.upto (omega (arith, j.0, st.from, st.upto)) (λ z c d. j.2 z c (omega arith)) st.same st.stop)

-- ---- the run around x
-- from where its stretch starts to where it ends
pub run-around : {x l h : ℕ} (P : Positions) (v : Bool) → v ≡ P x → StretchStart P v 0 x l → StretchEnd P v x (size - 1) h → run l h ≡ run_at P x
run-around {x} {l} {h} P v e low high =
    sym (run_at-is P x l h low.upto high.from (omega (arith, high.upto)) (λ y i j. go y i j (split y x) ∙ e) (λ y i. low.stop y (omega arith) i ∙ ap not e)
    (λ i. high.stop (omega arith) ∙ ap not e))
  where
    go : (y : ℕ) → l ≤ y → y ≤ h → (y < x) ⊎ (x ≤ y) → P y ≡ v
    go y i j (inl k) = low.same y i (omega arith)
    go y i j (inr k) = high.same y k j
