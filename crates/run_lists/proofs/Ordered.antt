-- The order of a run list, tested from the first run on: the order of the whole is that of what is left, after the end of the run tested
-- last. So one test more, of any reader, settles the whole or leaves one run less. Assumes nothing.
use Rattle.std.proofs.Common.{ℕ, suc, ◌+◌, ◌*◌, ◌^◌, ◌≤◌, ◌<◌, ◌≡◌, refl, sym, ap, subst, ◌∙◌, Bool, true, false, not, ◌&&◌, List, [], ◌∷◌, ◌++◌, arith, leb, length, take}
use Rattle.std.proofs.Common.{drop, get_or, drop_of_length-le, drop-cons, take-suc, take_all, Option, Some, None}
use Rattle.model.specs.declared.Run.{Run}
use Rattle.model.specs.Numbers.{size}
use Rattle.model.specs.Positions.{Positions, run, stretches, held_runs, mem}
use Rattle.model.specs.RunList.{AllWords, Canon}
use Rattle.model.specs.Refusals.{ordered_from, disordered}
use Rattle.model.proofs.Runs.{stretches-is, held_runs-canon}
use Rattle.model.proofs.Codec.{ordered-canon}
use Rattle.run_lists.specs.Listed.{least_after}

-- one run more whose ends are words
pub words-more : (rs : List Run) (r : Run) → AllWords rs → r.start < 2 ^ 64 → r.«end» < 2 ^ 64 → AllWords (rs ++ (r ∷ []))
words-more [] r a f g = (f, g, tt)
words-more (q ∷ rs) r a f g = (a.0, a.1, words-more rs r a.2 f g)

-- i runs passed, all of them words, and the last of them, if there is one, ended at last
pub record Passed (rs : List Run) (i : ℕ) (last : Option ℕ) : Type 0 where
  pub words : AllWords (take i rs)
  pub rest : ordered_from 0 rs ≡ ordered_from (least_after last) (drop i rs)

-- none was tested yet
pub passed_none : (rs : List Run) → Passed rs 0 None
passed_none rs = record { words = tt; rest = refl }

module _ {rs : List Run} {i : ℕ} {last : Option ℕ} (p : Passed rs i last) where
  -- all have passed
  pub passed-all : length rs ≤ i → true ≡ ordered_from 0 rs
  unfolding ordered_from
  passed-all h = sym (p.rest ∙ rw (drop_of_length-le rs h))

  pub passed-words : length rs ≤ i → AllWords rs
  passed-words h = subst AllWords (take_all i rs h) p.words

  module _ {t : Run} {r : Bool} (h : i < length rs) (e : t ≡ get_or rs i (run 0 0)) (q : r ≡ (leb (least_after last) t.start && leb t.start t.«end»)) where
    -- the order is that of run i and of those after it
    passed-next : ordered_from 0 rs ≡ (r && ordered_from (t.«end» + 2) (drop (suc i) rs))
    unfolding ordered_from
    passed-next =
        p.rest ∙ rw (drop-cons rs i (run 0 0) h, ← e, q) (go (leb (least_after last) t.start) (leb t.start t.«end») (ordered_from (t.«end» + 2) (drop (suc i) rs)))
      where
        go : (x y z : Bool) → (x && (y && z)) ≡ ((x && y) && z)
        go true y z = refl
        go false y z = refl

    -- run i passes
    pub passed-step : t.start < 2 ^ 64 → t.«end» < 2 ^ 64 → r ≡ true → Passed rs (i + 1) (Some t.«end»)
    passed-step f g o =
        let j : suc i ≡ i + 1 = omega arith in
        let more : take (suc i) rs ≡ take i rs ++ (t ∷ []) = rw (take-suc rs i (run 0 0) h, e) in
        record { words = rw (← j, more) (words-more (take i rs) t p.words f g); rest = passed-next ∙ rw (o, j) }

    -- run i does not pass, so the list is not in order
    pub passed-fail : r ≡ false → false ≡ ordered_from 0 rs
    passed-fail o = sym (passed-next ∙ rw o)

-- ---- runs in order
module _ (rs : List Run) where
  -- their set has as many
  pub ordered-stretches : AllWords rs → ordered_from 0 rs ≡ true → stretches (mem rs) ≡ length rs
  ordered-stretches a o = stretches-is (mem rs) rs (ordered-canon 0 rs a o) (λ x h. refl)

  -- what a test of it finds
  pub disorder-is : {r : Bool} → r ≡ ordered_from 0 rs → (b : Bool) → not r ≡ b → disordered rs ≡ b
  unfolding disordered
  disorder-is tested b h = ap not (sym tested) ∙ h

-- canonical runs have gaps between them, so they are few
canon-few : (total k : ℕ) (rs : List Run) → Canon total k rs → k ≤ total + 1 → 2 * length rs + k ≤ total + 1
canon-few total k [] c h = omega arith
canon-few total k (r ∷ rs) c h = let i = canon-few total (r.«end» + 2) rs c.3 (omega (arith, c.2)) in omega (arith, c.0, c.1)

pub stretches-few : (J : Positions) → stretches J < size
unfolding stretches
stretches-few J = let h = canon-few size 0 (held_runs J) (held_runs-canon J) (omega arith) in omega arith
