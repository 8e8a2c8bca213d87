-- Moved ranges: where a set reads at a, a + 1, .. what another reads at b, b + 1, .., every report of one range is that of the other,
-- moved from b to a. The moved list of runs is canonical and has the right positions, so it is the list of runs; the other reports
-- are read off the runs. Assumes nothing.
use Rattle.std.specs.Prelude.{option_map}
use Rattle.std.specs.Prelude.{Option, None, Some}
use Prim.Native.Nat.{ℕ, suc, ◌+◌, ◌-◌, ◌≤◌, ◌<◌}
use mathlib.Core.Path.{◌≡◌, refl, sym, ap, ap₂, ◌∙◌, subst}
use mathlib.Core.Logic.{◌⊎◌, inl, inr}
use mathlib.Core.Bool.{Bool, ◌&&◌, ◌||◌, beq}
use mathlib.Core.List.{List, [], ◌∷◌}
use native.Mathlib.Omega.{arith}
use lib.ListN.{length}
use Rattle.model.specs.declared.Run.{Run}
use Rattle.model.proofs.Numbers.{split}
use Rattle.model.specs.Positions.{Positions, run, inside, count, find, select, runs_in, run_count, first_run, last_after, last_run, mem}
use Rattle.model.proofs.Counting.{Place, below, within, above, place, inside-yes, inside-below, inside-above, among-yes}
use Rattle.model.proofs.Runs.{runs_in-canon, runs_in-mem, runs_in-is}
use Rattle.model.proofs.Finds.{find_runs, count_runs, select-runs, select_runs, select_runs-in, select_runs-past, start_of}
use Rattle.model.specs.RunList.{Canon}
use Rattle.model.proofs.RunList.{widths}

-- the n positions of P from a are those of Q from b
abbrev pub Alike : Positions → Positions → ℕ → ℕ → ℕ → Type 0
Alike P Q a b n = (i : ℕ) → i < n → P (a + i) ≡ Q (b + i)

-- a position moved from b to a
abbrev pub move : ℕ → ℕ → ℕ → ℕ
move b a x = x - b + a

-- a run moved from b to a
abbrev pub move_run : ℕ → ℕ → Run → Run
move_run b a r = run (move b a r.start) (move b a r.«end»)

-- runs moved from b to a
unfoldable pub move_runs : ℕ → ℕ → List Run → List Run
move_runs b a [] = []
move_runs b a (r ∷ rs) = move_run b a r ∷ move_runs b a rs

-- a moved list is canonical
moved-canon : (b a total k : ℕ) (rs : List Run) → b ≤ k → Canon total k rs → Canon (move b a total) (move b a k) (move_runs b a rs)
unfolding move_runs
moved-canon b a total k [] h c = tt
moved-canon b a total k (r ∷ rs) h c = (
  omega (arith, c.0),
  omega (arith, c.0, c.1),
  omega (arith, c.0, c.1, c.2),
  subst (λ j. Canon (move b a total) j (move_runs b a rs)) (omega (arith, c.0, c.1)) (moved-canon b a total (r.«end» + 2) rs (omega (arith, c.0, c.1)) c.3),
)

-- a moved run has the moved positions
moved_inside : (b a s e i : ℕ) → b ≤ s → s ≤ e → inside (move b a s) (move b a e) (a + i) ≡ inside s e (b + i)
moved_inside b a s e i h k = go (place s e (b + i))
  where
    go : Place s e (b + i) → inside (move b a s) (move b a e) (a + i) ≡ inside s e (b + i)
    go (below p q) = inside-below (move b a s) (move b a e) (a + i) (omega arith) ∙ sym q
    go (within p t q) = inside-yes (move b a s) (move b a e) (a + i) (omega arith) (omega arith) ∙ sym q
    go (above p q) = inside-above (move b a s) (move b a e) (a + i) (omega arith) ∙ sym q

-- a moved list has the moved positions
moved-mem : (b a total k : ℕ) (rs : List Run) (i : ℕ) → b ≤ k → Canon total k rs → mem (move_runs b a rs) (a + i) ≡ mem rs (b + i)
unfolding move_runs mem
moved-mem b a total k [] i h c = refl
moved-mem b a total k (r ∷ rs) i h c =
    ap₂ ◌||◌ (moved_inside b a r.start r.«end» i (omega (arith, c.0)) c.1) (moved-mem b a total (r.«end» + 2) rs i (omega (arith, c.0, c.1)) c.3)

-- a moved list is as wide
moved-widths : (b a total k : ℕ) (rs : List Run) → b ≤ k → Canon total k rs → widths (move_runs b a rs) ≡ widths rs
unfolding move_runs widths
moved-widths b a total k [] h c = refl
moved-widths b a total k (r ∷ rs) h c =
    omega (arith, c.0, c.1, moved-widths b a total (r.«end» + 2) rs (omega (arith, c.0, c.1)) c.3)

-- a moved list is as long
pub moved_length : (b a : ℕ) (rs : List Run) → length (move_runs b a rs) ≡ length rs
unfolding move_runs
moved_length b a [] = refl
moved_length b a (r ∷ rs) = ap suc (moved_length b a rs)

-- the first run of a moved list
pub moved-first : (b a : ℕ) (rs : List Run) → first_run (move_runs b a rs) ≡ option_map (move_run b a) (first_run rs)
unfolding move_runs
moved-first b a [] = refl
moved-first b a (r ∷ rs) = refl

-- the last run of a moved list
pub moved-last : (b a : ℕ) (rs : List Run) → last_run (move_runs b a rs) ≡ option_map (move_run b a) (last_run rs)
unfolding move_runs
moved-last b a [] = refl
moved-last b a (r ∷ rs) = ap Some (go r rs)
  where
    go : (r : Run) (rs : List Run) → last_after (move_run b a r) (move_runs b a rs) ≡ move_run b a (last_after r rs)
    go r [] = refl
    go r (s ∷ rs) = go s rs

-- the k-th position of a moved list
moved_select : (b a total j : ℕ) (rs : List Run) (k : ℕ) → b ≤ j → Canon total j rs → select_runs (move_runs b a rs) k ≡ option_map (move b a) (select_runs rs k)
unfolding move_runs select_runs
moved_select b a total j [] k h c = refl
moved_select b a total j (r ∷ rs) k h c =
    go (split k (r.«end» + 1 - r.start)) (moved_select b a total (r.«end» + 2) rs (k - (r.«end» + 1 - r.start)) (omega (arith, c.0, c.1)) c.3)
  where
    m : ℕ
    m = k - (r.«end» + 1 - r.start)

    go : (k < r.«end» + 1 - r.start) ⊎ (r.«end» + 1 - r.start ≤ k) → select_runs (move_runs b a rs) m ≡ option_map (move b a) (select_runs rs m)
        → select_runs (move_run b a r ∷ move_runs b a rs) k ≡ option_map (move b a) (select_runs (r ∷ rs) k)
    go (inl l) ih =
        select_runs-in (move_run b a r) (move_runs b a rs) k (omega (arith, c.0, c.1)) ∙ ap Some (omega (arith, c.0))
        ∙ sym (ap (option_map (move b a)) (select_runs-in r rs k l))
    go (inr l) ih =
        select_runs-past (move_run b a r) (move_runs b a rs) k (omega (arith, c.0, c.1)) ∙ ap (select_runs (move_runs b a rs)) (omega (arith, c.0, c.1)) ∙ ih
        ∙ sym (ap (option_map (move b a)) (select_runs-past r rs k l))

-- ---- the reports of a moved range
module _ (P Q : Positions) (v : Bool) (a b n : ℕ) (alike : Alike P Q a b n) where
  canonical : Canon (b + n) b (runs_in Q v b n)
  canonical = runs_in-canon Q v (b + n) b n (omega arith)

  -- ranges
  pub runs_in-moved : runs_in P v a n ≡ move_runs b a (runs_in Q v b n)
  runs_in-moved =
      runs_in-is P v a n (move_runs b a (runs_in Q v b n)) (subst (λ t. Canon t a (move_runs b a (runs_in Q v b n))) (omega arith)
      (subst (λ j. Canon (move b a (b + n)) j (move_runs b a (runs_in Q v b n))) (omega arith) (moved-canon b a (b + n) b (runs_in Q v b n) (omega arith) canonical)))
      (λ x h l. at x (x - a) (omega arith) (omega arith))
    where
      at : (x i : ℕ) → x ≡ a + i → i < n → mem (move_runs b a (runs_in Q v b n)) x ≡ beq (P x) v
      at x i e l =
          ap (mem (move_runs b a (runs_in Q v b n))) e ∙ moved-mem b a (b + n) b (runs_in Q v b n) i (omega arith) canonical ∙ runs_in-mem Q v b n (b + i)
          ∙ ap (λ t. t && beq (Q (b + i)) v) (among-yes b n (b + i) (omega arith) (omega arith))
          ∙ sym (ap (λ p. beq p v) (ap P e ∙ alike i l))

  -- count
  pub count-moved : count P v a n ≡ count Q v b n
  count-moved =
      count_runs P v a n ∙ ap widths runs_in-moved ∙ moved-widths b a (b + n) b (runs_in Q v b n) (omega arith) canonical ∙ sym (count_runs Q v b n)

  -- the number of runs
  pub run_count-moved : run_count P v a n ≡ run_count Q v b n
  unfolding run_count
  run_count-moved = ap length runs_in-moved ∙ moved_length b a (runs_in Q v b n)

  -- the first run
  pub first_run-moved : first_run (runs_in P v a n) ≡ option_map (move_run b a) (first_run (runs_in Q v b n))
  first_run-moved = ap first_run runs_in-moved ∙ moved-first b a (runs_in Q v b n)

  -- the last run
  pub last_run-moved : last_run (runs_in P v a n) ≡ option_map (move_run b a) (last_run (runs_in Q v b n))
  last_run-moved = ap last_run runs_in-moved ∙ moved-last b a (runs_in Q v b n)

  -- find
  pub find-moved : find P v a n ≡ option_map (move b a) (find Q v b n)
  find-moved = find_runs P v a n ∙ ap start_of first_run-moved ∙ go (first_run (runs_in Q v b n)) ∙ sym (ap (option_map (move b a)) (find_runs Q v b n))
    where
      go : (r : Option Run) → start_of (option_map (move_run b a) r) ≡ option_map (move b a) (start_of r)
      go None = refl
      go (Some r) = refl

  -- select
  pub select-moved : (k : ℕ) → select P v a n k ≡ option_map (move b a) (select Q v b n k)
  select-moved k =
      select-runs P v a n k ∙ ap (λ rs. select_runs rs k) runs_in-moved ∙ moved_select b a (b + n) b (runs_in Q v b n) k (omega arith) canonical
      ∙ sym (ap (option_map (move b a)) (select-runs Q v b n k))
