-- What is reported of an opened world: all its runs and positions, and a listing that a draw shortens by its first run. Assumes nothing.
use Rattle.std.specs.Prelude.{Option, None, Some, Ok, Err, IsOk, MatchOption}
use Prim.Native.Nat.{ℕ, suc, ◌+◌, ◌-◌, ◌≤◌, ◌<◌}
use mathlib.Core.Path.{◌≡◌, refl, sym, ap, ◌∙◌, subst}
use mathlib.Core.Logic.{◌⊎◌, inl, inr}
use mathlib.Core.Bool.{Bool, true, cond, ◌&&◌, beq}
use mathlib.Core.List.{List, [], ◌∷◌, ◌++◌}
use native.Mathlib.Omega.{arith}
use lib.Dec.{ltb}
use borrow.Author.Tests.{lt-ltb, le-ltb}
use Rattle.std.specs.declared.ops.Bound.TheVariants.{Unbounded}
use Rattle.model.specs.declared.Run.{Run}
use Rattle.model.specs.declared.Listing.{Listing}
use Rattle.model.specs.declared.Tally.{Tally}
use Rattle.model.specs.declared.Drawn.{Drawn}
use Rattle.model.specs.Numbers.{size, worth}
use Rattle.model.proofs.Numbers.{split}
use Rattle.model.specs.Positions.{Positions, runs_in, remaining, past_first, ended, count, run_count, stretches, held_runs, mem}
use Rattle.model.specs.Positions
use Rattle.model.proofs.Counting.{among-yes}
use Rattle.model.proofs.Runs.{runs_in-canon, runs_in-mem, runs_in-is, runs_in-none}
use Rattle.model.specs.RunList.{Canon}
use Rattle.model.proofs.RunList.{canon-weaken, mem-above}
use Rattle.model.specs.Call.{Call, Result, tallied, listing, drawn, Answer, gave}
use Rattle.model.specs.Model.{drawn_first}
use Rattle.model.specs.Answers.{OrRefusal, answer_by, tallied_answer, listed_answer, drawn_answer}
use Rattle.pool.specs.Layout.{held_by}
use Rattle.pool.specs.Settle.{Openable}
use Rattle.reports.specs.Reports.{Measured}
use Rattle.listset.specs.Text.{count_lines, run_lines, set_lines}
use Rattle.interval_bit_set.specs.Met.{Site, Met}
use Rattle.interval_bit_set.proofs.Meeting.{refused-not, readable, Reports, asks, met}

-- what follows the first run
runs_in-rest : (P : Positions) (v : Bool) (a n : ℕ) (r : Run) (rs : List Run) → runs_in P v a n ≡ r ∷ rs
    → (a ≤ r.«end») × (r.«end» < a + n) × (runs_in P v (suc r.«end») (a + n - suc r.«end») ≡ rs)
runs_in-rest P v a n r rs e = (
  omega (arith, c.0, c.1),
  c.2,
  runs_in-is P v (suc r.«end») (a + n - suc r.«end») rs
      (subst (λ t. Canon t (suc r.«end») rs) {x = a + n} {y = suc r.«end» + (a + n - suc r.«end»)} (omega (arith, c.2)) (canon-weaken (a + n) (r.«end» + 2) (suc r.«end») rs (omega arith) c.3))
      (λ x l h.
      sym (mem-above r rs x l) ∙ ap (λ ss. mem ss x) (sym e) ∙ runs_in-mem P v a n x
      ∙ ap (λ t. t && beq (P x) v) (among-yes a n x (omega (arith, c.0, c.1)) (omega (arith, c.2)))),
)
  where
    c : Canon (a + n) a (r ∷ rs)
    c = subst (Canon (a + n) a) e (runs_in-canon P v (a + n) a n (omega arith))

-- a listing past its first run has the others
pub remaining-past : (P : Positions) (l : Listing) (r : Run) (rs : List Run) → remaining P l ≡ r ∷ rs → remaining P (past_first l (Some r)) ≡ rs
unfolding remaining past_first
remaining-past P l r rs e = go (split r.«end» l.last)
  where
    v : Bool
    v = l.value

    n : ℕ
    n = suc l.last - l.first

    h : (l.first ≤ r.«end») × (r.«end» < l.first + n) × (runs_in P v (suc r.«end») (l.first + n - suc r.«end») ≡ rs)
    h = runs_in-rest P v l.first n r rs e

    further : Listing
    further = record { first = suc r.«end»; last = l.last; value = v }

    go : (r.«end» < l.last) ⊎ (l.last ≤ r.«end») → remaining P (cond (ltb r.«end» l.last) further (ended v)) ≡ rs
    go (inl g) =
        ap (λ t. remaining P (cond t further (ended v))) (lt-ltb r.«end» l.last g)
        ∙ ap (runs_in P v (suc r.«end»)) (omega (arith, h.0, h.1)) ∙ h.2
    go (inr g) =
        ap (λ t. remaining P (cond t further (ended v))) (le-ltb r.«end» l.last g)
        ∙ runs_in-none P v 1 0 (λ x k m. absurd (omega arith))
        ∙ sym (runs_in-none P v (suc r.«end») (l.first + n - suc r.«end») (λ x k m. absurd (omega (arith, h.0, h.1)))) ∙ h.2

-- the runs of a tally of all held positions are its stretches
all-stretches : {P : Positions} {t : Tally} → Measured P true 0 size t → t.runs ≡ stretches P
unfolding stretches held_runs run_count
all-stretches m = m.runs-are

-- the lines of a set by that tally
pub set-told : {P : Positions} {t : Tally} → Measured P true 0 size t → count_lines t.runs (worth t.count) ++ run_lines (held_runs P) ≡ set_lines P
unfolding set_lines
set-told {P} {t} m =
    ap (λ k. count_lines k (worth t.count) ++ run_lines (held_runs P)) (all-stretches m)
    ∙ ap (λ k. count_lines (stretches P) k ++ run_lines (held_runs P)) m.count-is

-- an answer that is given is no refusal
pub granted : {T : Type 0} (f : T → Answer) {r : Result} (n : OrRefusal T) → answer_by f n ≡ gave r → IsOk n
granted f (Ok x) e = refl
granted f (Err q) e = absurd (refused-not e)

-- what the calls answer of a world that was opened in a sound pool: none is refused, and a draw gives the first run that is left
module _ (w : List ℕ) {i : ℕ} (op : Openable w i) where
  answers : {c : Call Site} {A : Positions → Result} {a : Answer} → Reports w i c [] A → Met w i c a w → a ≡ gave (A (held_by w i))
  answers says m = m.answered ∙ sym (met says (readable op) refl refl).answered

  module _ (n : OrRefusal Tally) (m : Met w i (Call.tally Unbounded Unbounded true) (tallied_answer n) w) where
    pub tally-granted : IsOk n
    tally-granted = granted _ n (answers (asks refl) m)

    pub tally-told : {t : Tally} → n ≡ Ok t → Measured (held_by w i) true 0 size t
    tally-told {t} e =
        let h : gave (tallied (worth t.count) t.runs) ≡ gave (tallied (count (held_by w i) true 0 size) (run_count (held_by w i) true 0 size)) =
        ap tallied_answer (sym e) ∙ answers (asks refl) m in
        let k : worth t.count ≡ count (held_by w i) true 0 size = cc in
        let r : t.runs ≡ run_count (held_by w i) true 0 size = cc in
        record { count-is = k; runs-are = r }

  module _ (n : OrRefusal Listing) (m : Met w i (Call.ranges Unbounded Unbounded true) (listed_answer n) w) where
    pub listing-granted : IsOk n
    listing-granted = granted _ n (answers (asks refl) m)

    pub listing-told : {k : Listing} → n ≡ Ok k → remaining (held_by w i) k ≡ held_runs (held_by w i)
    unfolding remaining held_runs
    listing-told {k} e =
        let h : gave (listing k) ≡ gave (listing (record { first = 0; last = size - 1; value = true })) =
        ap listed_answer (sym e) ∙ answers (asks refl) m in
        let g : k ≡ record { first = 0; last = size - 1; value = true } = cc in
        ap (remaining (held_by w i)) g

  module _ (n : OrRefusal Drawn) {l : Listing} (m : Met w i (Call.draw_front l) (drawn_answer n) w) where
    pub draw-granted : IsOk n
    draw-granted = granted _ n (answers (asks refl) m)

    pub draw-told : {d : Drawn} → n ≡ Ok d → MatchOption d.run (remaining (held_by w i) l ≡ []) (λ r. remaining (held_by w i) l ≡ r ∷ remaining (held_by w i) d.rest)
    unfolding drawn_first
    draw-told {d} e = go (remaining (held_by w i) l) refl
      where
        P : Positions
        P = held_by w i

        o : Option Run
        o = d.run

        l' : Listing
        l' = d.rest

        told : gave (drawn o l') ≡ gave (drawn (Positions.first_run (remaining P l)) (past_first l (Positions.first_run (remaining P l))))
        told = ap drawn_answer (sym e) ∙ answers (asks refl) m

        go : (rs : List Run) → remaining P l ≡ rs → MatchOption o (remaining P l ≡ []) (λ r. remaining P l ≡ r ∷ remaining P l')
        go [] f =
            let h : gave (drawn o l') ≡ gave (drawn None (past_first l None)) =
            told ∙ ap (λ ss. gave (drawn (Positions.first_run ss) (past_first l (Positions.first_run ss)))) f in
            let k : None ≡ o = cc in
            subst (λ q. MatchOption q (remaining P l ≡ []) (λ r. remaining P l ≡ r ∷ remaining P l')) k f
        go (r ∷ rs) f =
            let h : gave (drawn o l') ≡ gave (drawn (Some r) (past_first l (Some r))) =
            told ∙ ap (λ ss. gave (drawn (Positions.first_run ss) (past_first l (Positions.first_run ss)))) f in
            let k : Some r ≡ o = cc in
            let g : past_first l (Some r) ≡ l' = cc in
            subst (λ q. MatchOption q (remaining P l ≡ []) (λ r. remaining P l ≡ r ∷ remaining P l')) k
            (f ∙ ap (λ ss. r ∷ ss) (sym (remaining-past P l r rs f)) ∙ ap (λ k. r ∷ remaining P k) g)
