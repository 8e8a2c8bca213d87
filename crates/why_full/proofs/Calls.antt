-- The model's own calls, set to true one by one from an empty world: which of them is refused. The entries that lead are refused at their last
-- call, and no shorter list is. Assumes nothing.
use Rattle.std.proofs.Common.{Option, None, Some, ℕ, zero, suc, ◌+◌, ◌≤◌, ◌<◌, ◌≡◌, refl, sym, ap, ap₂, ◌∙◌, subst, Bool, true, false, cond, ◌||◌, List, []}
use Rattle.std.proofs.Common.{◌∷◌, ◌++◌, arith, ltb, length, take, length-take, get_or-take, lt-ltb, le-ltb}
use lib.Seq.{append_snoc}
use Rattle.model.specs.declared.Run.{Run}
use Rattle.model.specs.Numbers.{size}
use Rattle.model.specs.Range.{first_allowed, extent}
use Rattle.model.specs.Positions.{Positions, inside, among, stretches, empty, set_range, mem, bounded, changes}
use Rattle.model.specs.RunList.{AllWords}
use Rattle.model.specs.Refusals.{capacity, ◌when◌, refusal, too_many}
use Rattle.model.specs.Call.{holding, set, number, refused, gave}
use Rattle.model.specs.Model.{Outcome, planned, settle, serve}
use Rattle.model.specs.Pools.{answers, alone}
use Rattle.std.proofs.lemmas.Bool.Decides.{nat_tests}
use Rattle.model.proofs.Pools.{step-alone}
use Rattle.model.proofs.Runs.{stretches-cong, mem-append}
use Rattle.union.specs.Entries.{In}
use Rattle.union.proofs.Entries.{in_head, in_tail}
use Rattle.model.specs.declared.between.Range.{Range}
use Rattle.model.specs.Spawning.{sets_of, entry_of, entries_of, first_refused, places, why_full_up_to, why_full, pick, AllGiven, StopsAt}
use Rattle.why_full.specs.Placing.{Climbing}
use Rattle.why_full.proofs.Refusing.{Refused, refused-only, refused-is, none_before}
use Rattle.why_full.proofs.Ranges.{entries-length, entries-at, entries-take}
use Rattle.why_full.proofs.Leading.{places-rising, places-within}
use Rattle.why_full.proofs.Sublists.{entries_at, pick-length, refused-places, refused-sublist, short-runs}

-- ---- one call
-- the positions of a range are those of its entry
entry-among : (r : Range) (x : ℕ) → among (first_allowed r.lower) (extent r.lower r.upper) x ≡ inside (entry_of r).start (entry_of r).«end» x
unfolding entry_of
entry-among r x = grind (arith, nat_tests)

-- the positions after a range is set to true
abbrev raised : Positions → Range → Positions
raised P r = set_range (first_allowed r.lower) (extent r.lower r.upper) true P

-- are those before and its entry's
raised-mem : (es : List Run) (P : Positions) (r : Range) (x : ℕ) → P x ≡ mem es x → raised P r x ≡ mem (es ++ entry_of r ∷ []) x
unfolding set_range mem
raised-mem es P r x e =
    ap₂ (λ b c. cond b true c) (entry-among r x) e ∙ either (inside (entry_of r).start (entry_of r).«end» x) (mem es x)
    ∙ sym (mem-append es (entry_of r ∷ []) x)
  where
    either : (b c : Bool) → cond b true c ≡ (c || (b || false))
    either b c = grind arith

-- a call is refused with 8 where it makes more than C runs, and else it is given and changes the positions
abbrev outcome : Positions → Range → Bool → Outcome
outcome P r b =
    cond b (record { answer = refused 8; positions = P }) (record { answer = gave (number (changes P (raised P r))); positions = bounded (raised P r) })

served : (C : ℕ) (P : Positions) (r : Range) → serve (ltb C) (holding P) (planned (set r.lower r.upper true)) ≡ outcome P r (ltb C (stretches (raised P r)))
unfolding serve too_many
served C P r = go (ltb C (stretches (raised P r)))
  where
    go : (b : Bool)
        → settle (refusal (capacity when b ∷ [])) P (number (changes P (raised P r))) (bounded (raised P r)) ≡ outcome P r b
    go true = refl
    go false = refl

-- so a list of calls answers that first
answers_next : (C : ℕ) (P : Positions) (r : Range) (rs : List Range) (b : Bool) → ltb C (stretches (raised P r)) ≡ b
    → answers C (alone C P) (sets_of (r ∷ rs)) ≡ (outcome P r b).answer ∷ answers C (alone C (outcome P r b).positions) (sets_of rs)
unfolding answers sets_of
answers_next C P r rs b e =
    ap (λ o. o.answer ∷ answers C o.worlds (sets_of rs)) (step-alone C P (planned (set r.lower r.upper true)))
    ∙ ap (λ o. o.answer ∷ answers C (alone C o.positions) (sets_of rs)) (served C P r ∙ ap (outcome P r) e)

-- ---- a list of calls, where the entries es are set already
module _ (C : ℕ) where
  -- the positions are those of the entries
  abbrev Holding : Positions → List Run → Type 0
  Holding P es = (x : ℕ) → x < size → P x ≡ mem es x

  -- the runs after one call more
  runs-next : (es : List Run) (P : Positions) (r : Range) → Holding P es → stretches (raised P r) ≡ stretches (mem (es ++ entry_of r ∷ []))
  runs-next es P r h = stretches-cong (raised P r) (mem (es ++ entry_of r ∷ [])) (λ x l. raised-mem es P r x (h x l))

  -- and the positions
  holding-next : (es : List Run) (P : Positions) (r : Range) → Holding P es → Holding (bounded (raised P r)) (es ++ entry_of r ∷ [])
  unfolding bounded
  holding-next es P r h x l = rw (lt-ltb x size l) (raised-mem es P r x (h x l))

  -- the entries one by one
  shift : (es : List Run) (e : Run) (xs : List Run) (n : ℕ) → (es ++ e ∷ []) ++ take n xs ≡ es ++ take (suc n) (e ∷ xs)
  shift es e xs n = append_snoc es e (take n xs)

  -- no call is refused
  all-given : (es : List Run) (P : Positions) (rs : List Range) → Holding P es → ((n : ℕ) → n ≤ length rs → stretches (mem (es ++ take n (entries_of rs))) ≤ C)
      → AllGiven (answers C (alone C P) (sets_of rs))
  unfolding answers sets_of entries_of
  all-given es P [] h f = tt
  all-given es P (r ∷ rs) h f =
      subst AllGiven (sym (answers_next C P r rs false (le-ltb C (stretches (raised P r)) (omega (arith, runs-next es P r h, f 1 (omega arith))))))
      (all-given (es ++ entry_of r ∷ []) (bounded (raised P r)) rs (holding-next es P r h)
      (λ n l. subst (λ xs. stretches (mem xs) ≤ C) (sym (shift es (entry_of r) (entries_of rs) n)) (f (suc n) (omega arith))))

  -- the call at place k is the first that is
  stops_at : (es : List Run) (P : Positions) (rs : List Range) (k : ℕ) → Holding P es → k < length rs → C < stretches (mem (es ++ take (suc k) (entries_of rs)))
      → ((n : ℕ) → n ≤ k → stretches (mem (es ++ take n (entries_of rs))) ≤ C) → StopsAt k (answers C (alone C P) (sets_of rs))
  unfolding answers sets_of entries_of
  stops_at es P [] k h l e f = absurd (omega arith)
  stops_at es P (r ∷ rs) zero h l e f =
      subst (StopsAt zero) (sym (answers_next C P r rs true (lt-ltb C (stretches (raised P r)) (omega (arith, runs-next es P r h))))) refl
  stops_at es P (r ∷ rs) (suc k) h l e f =
      subst (StopsAt (suc k)) (sym (answers_next C P r rs false (le-ltb C (stretches (raised P r)) (omega (arith, runs-next es P r h, f 1 (omega arith))))))
      (stops_at (es ++ entry_of r ∷ []) (bounded (raised P r)) rs k (holding-next es P r h) (omega arith)
      (subst (λ xs. C < stretches (mem xs)) (sym (shift es (entry_of r) (entries_of rs) (suc k))) e)
      (λ n m. subst (λ xs. stretches (mem xs) ≤ C) (sym (shift es (entry_of r) (entries_of rs) n)) (f (suc n) (omega arith))))

  -- an empty world holds no entry
  holding-none : Holding empty []
  unfolding empty mem
  holding-none x l = refl

  -- THE FIRST REFUSED CALL of the model is at the place that `first_refused` names
  pub list-stops : (rs : List Range) (f : ℕ) → first_refused C (entries_of rs) ≡ Some f → StopsAt f (answers C (alone C empty) (sets_of rs))
  list-stops rs f e =
      let r = refused-only C (entries_of rs) f e in
      stops_at [] empty rs f holding-none (omega (arith, r.within, entries-length rs)) r.exceeds r.before

  -- where it names none, none is refused
  pub list-given : (rs : List Range) → first_refused C (entries_of rs) ≡ None → AllGiven (answers C (alone C empty) (sets_of rs))
  list-given rs e = all-given [] empty rs holding-none (λ n l. none_before C (entries_of rs) e n (omega (arith, entries-length rs)))

  -- NO SHORTER LIST IS REFUSED: none of at most C ranges, so no sublist of at most C
  pub short-given : (rs : List Range) → length rs ≤ C → AllGiven (answers C (alone C empty) (sets_of rs))
  short-given rs l = all-given [] empty rs holding-none (λ n m. short-runs C (entries_of rs) (omega (arith, entries-length rs)) n)

  -- of any list
  pub sublist-given : (d : Range) (rs : List Range) (ps : List ℕ) → length ps ≤ C → AllGiven (answers C (alone C empty) (sets_of (pick d rs ps)))
  sublist-given d rs ps l = short-given (pick d rs ps) (omega (arith, pick-length d rs ps))

-- ---- the sublist
-- the entries of the ranges at places
pick-entries : (d : Range) (rs : List Range) (ps : List ℕ) → ((p : ℕ) → In p ps → p < length rs) → entries_of (pick d rs ps) ≡ entries_at (entries_of rs) ps
unfolding entries_of
pick-entries d rs [] f = refl
pick-entries d rs (p ∷ ps) f =
    ap₂ (λ e es. e ∷ es) (sym (entries-at rs p d (f p (in_head p ps)))) (pick-entries d rs ps (λ q m. f q (in_tail q p ps m)))

-- places among the first n are those of the whole list
pick-take : (d : Range) (n : ℕ) (rs : List Range) (ps : List ℕ) → ((p : ℕ) → In p ps → p < n) → pick d (take n rs) ps ≡ pick d rs ps
pick-take d n rs [] f = refl
pick-take d n rs (p ∷ ps) f = ap₂ (λ e es. e ∷ es) (get_or-take n rs p d (f p (in_head p ps))) (pick-take d n rs ps (λ q m. f q (in_tail q p ps m)))

-- ---- why the list stops
module _ (C : ℕ) (rs : List Range) (w : AllWords (entries_of rs)) (few : length rs < size) where
  -- an answer is the list of the places of those that lead, up to the first refused call
  record Stopped (ps : List ℕ) : Type 0 where
    at : ℕ
    refused-at : Refused C (entries_of rs) at
    are : ps ≡ places (take (suc at) (entries_of rs))

  stopped : (ps : List ℕ) → why_full C (entries_of rs) ≡ Some ps → Stopped ps
  unfolding why_full
  stopped ps e = go (first_refused C (entries_of rs)) refl e
    where
      go : (o : Option ℕ) → first_refused C (entries_of rs) ≡ o → why_full_up_to (entries_of rs) o ≡ Some ps → Stopped ps
      go None q d = let z : ◌≡◌ {A = ℕ} 0 1 = cc in absurd (omega arith)
      go (Some f) q d = record { at = f; refused-at = refused-only C (entries_of rs) f q; are = cc }

  -- IT HAS C + 1 PLACES
  pub why-length : (ps : List ℕ) → why_full C (entries_of rs) ≡ Some ps → length ps ≡ C + 1
  why-length ps e =
      let a = stopped ps e in
      ap length a.are ∙ refused-places C (entries_of rs) a.at w (omega (arith, entries-length rs)) a.refused-at

  -- they are rising, and places of the list
  pub why-rising : (ps : List ℕ) → why_full C (entries_of rs) ≡ Some ps → Climbing 0 ps
  why-rising ps e = let a = stopped ps e in subst (Climbing 0) (sym a.are) (places-rising (take (suc a.at) (entries_of rs)))

  pub why-within : (ps : List ℕ) → why_full C (entries_of rs) ≡ Some ps → (p : ℕ) → In p ps → p < length rs
  why-within ps e p m =
      let a = stopped ps e in
      let up_to = take (suc a.at) (entries_of rs) in
      omega (arith, places-within up_to p (subst (In p) a.are m), length-take (suc a.at) (entries_of rs), entries-length rs)

  -- THE SUBLIST IS REFUSED, at its last call and not before
  pub why-stops : (d : Range) (ps : List ℕ) → why_full C (entries_of rs) ≡ Some ps → StopsAt C (answers C (alone C empty) (sets_of (pick d rs ps)))
  why-stops d ps e = let a = stopped ps e in go a.at a.refused-at a.are
    where
      go : (f : ℕ) → Refused C (entries_of rs) f → ps ≡ places (take (suc f) (entries_of rs)) → StopsAt C (answers C (alone C empty) (sets_of (pick d rs ps)))
      go f r q = list-stops C (pick d rs ps) C (ap (first_refused C) same ∙ refused-is C (entries_at up_to (places up_to)) C sub)
        where
          up_to : List Run
          up_to = take (suc f) (entries_of rs)

          sub : Refused C (entries_at up_to (places up_to)) C
          sub = refused-sublist C (entries_of rs) f w (omega (arith, entries-length rs)) r

          within : (p : ℕ) → In p ps → p < length up_to
          within p m = places-within up_to p (subst (In p) q m)

          same : entries_of (pick d rs ps) ≡ entries_at up_to (places up_to)
          same =
              ap entries_of (sym (pick-take d (suc f) rs ps (λ p m. omega (arith, within p m, length-take (suc f) (entries_of rs)))))
              ∙ pick-entries d (take (suc f) rs) ps (λ p m. omega (arith, within p m, ap length (entries-take rs (suc f)), entries-length (take (suc f) rs)))
              ∙ ap₂ entries_at (entries-take rs (suc f)) q

  -- NO SHORTER ONE IS
  pub why-least : (d : Range) (ps qs : List ℕ) → why_full C (entries_of rs) ≡ Some ps → length qs < length ps → AllGiven (answers C (alone C empty) (sets_of (pick d rs qs)))
  why-least d ps qs e l = sublist-given C d rs qs (omega (arith, why-length ps e))
