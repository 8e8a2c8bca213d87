-- One more entry adds at most one run to a union. So a list has at most as many runs as entries. Assumes nothing.
use Rattle.std.proofs.Common.{ℕ, zero, suc, ◌+◌, ◌-◌, ◌≤◌, ◌<◌, min, max, ◌≡◌, refl, sym, ap, ◌∙◌, subst, ◌⊎◌, inl, inr, Bool, true, cond, ◌||◌, List, [], ◌∷◌, ◌++◌, arith}
use Rattle.std.proofs.Common.{length, get_or, take, take-suc, lt-ltb}
use Rattle.std.proofs.lemmas.Bool.Decides.{nat_tests}
use Rattle.std.proofs.lemmas.Grind.{common_steps}
use Rattle.model.specs.declared.Run.{Run}
use Rattle.model.specs.Numbers.{size}
use Rattle.model.specs.Positions.{Positions, run, inside, among, held_runs, stretches, set_range, mem}
use Rattle.model.specs.RunList.{insert}
use Rattle.model.proofs.Numbers.{split}
use Rattle.model.proofs.Edit.{set_to, on_range, set_runs, set_runs-canon, set_runs-mem}
use Rattle.model.proofs.Runs.{held_runs-canon, mem-held_runs, stretches-cong, stretches-is, mem-append}
use Rattle.model.specs.Spawning.{runs_after}

-- ---- a range set to true
-- joining it to a list of runs makes at most one more
insert-few : (a b : ℕ) (rs : List Run) → length (insert a b rs) ≤ suc (length rs)
unfolding insert
insert-few a b [] = omega arith
insert-few a b (r ∷ rs) = grind (arith, nat_tests, insert-few a b rs, insert-few (min a r.start) (max b r.«end») rs)

-- and so does one that is cut to the positions
set-few : (a n : ℕ) (rs : List Run) → length (set_runs size a n true rs) ≤ suc (length rs)
unfolding set_runs on_range set_to
set-few a n rs = grind (arith, nat_tests, insert-few)

-- so a range set to true adds at most one run
set-adds : (a n : ℕ) (P : Positions) → stretches (set_range a n true P) ≤ suc (stretches P)
unfolding stretches set_range
set-adds a n P =
    let s = stretches-is (set_range a n true P) (set_runs size a n true (held_runs P)) (set_runs-canon size a n true (held_runs P) (held_runs-canon P))
    (λ x h.
    set_runs-mem size a n true (held_runs P) (held_runs-canon P) x
    ∙ rw (lt-ltb x size h, mem-held_runs P x h) refl) in
    omega (arith, set-few a n (held_runs P))

-- ---- an entry
-- the positions of a run, as a range
pub among-run : (r : Run) (x : ℕ) → among r.start (suc r.«end» - r.start) x ≡ inside r.start r.«end» x
among-run r x = grind (arith, nat_tests)

-- a set that holds an entry besides another set has at most one run more
pub adds_one : (r : Run) (P Q : Positions) → ((x : ℕ) → x < size → Q x ≡ (inside r.start r.«end» x || P x)) → stretches Q ≤ suc (stretches P)
unfolding set_range
adds_one r P Q f =
    subst (λ k. k ≤ suc (stretches P)) (sym (stretches-cong Q (set_range r.start (suc r.«end» - r.start) true P) same))
    (set-adds r.start (suc r.«end» - r.start) P)
  where
    either : (b c : Bool) → (b || c) ≡ cond b true c
    either b c = grind arith

    same : (x : ℕ) → x < size → Q x ≡ set_range r.start (suc r.«end» - r.start) true P x
    same x h = f x h ∙ either (inside r.start r.«end» x) (P x) ∙ ap (λ b. cond b true (P x)) (sym (among-run r x))

-- ---- a list of entries
-- none has no run
pub none-held : stretches (mem []) ≡ 0
unfolding mem
none-held = stretches-is (mem []) [] tt (λ x h. refl)

-- there are at most as many runs as entries
pub runs-few : (es : List Run) → stretches (mem es) ≤ length es
unfolding mem
runs-few [] = omega (arith, none-held)
runs-few (r ∷ es) = omega (arith, adds_one r (mem es) (mem (r ∷ es)) (λ x h. refl), runs-few es)

-- the next entry adds at most one
pub runs-step : (es : List Run) (n : ℕ) → runs_after es (suc n) ≤ suc (runs_after es n)
unfolding mem
runs-step es n = go (split n (length es))
  where
    last : (r : Run) (rs : List Run) (x : ℕ) → mem (rs ++ r ∷ []) x ≡ (inside r.start r.«end» x || mem rs x)
    last r rs x = grind (arith, mem-append rs (r ∷ []) x)

    go : (n < length es) ⊎ (length es ≤ n) → runs_after es (suc n) ≤ suc (runs_after es n)
    go (inl h) =
        subst (λ rs. stretches (mem rs) ≤ suc (runs_after es n)) (sym (take-suc es n (run 0 0) h))
        (adds_one (get_or es n (run 0 0)) (mem (take n es)) (mem (take n es ++ get_or es n (run 0 0) ∷ [])) (λ x l. last (get_or es n (run 0 0)) (take n es) x))
    go (inr h) = grind (arith, common_steps)

-- d of them at most d
pub runs-leap : (es : List Run) (n d : ℕ) → runs_after es (n + d) ≤ runs_after es n + d
runs-leap es n zero = let e : n + 0 ≡ n = omega arith in omega (arith, ap (runs_after es) e)
runs-leap es n (suc d) = let e : n + suc d ≡ suc (n + d) = omega arith in omega (arith, ap (runs_after es) e, runs-step es (n + d), runs-leap es n d)
