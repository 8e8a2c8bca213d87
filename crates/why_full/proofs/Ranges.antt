-- The entries of a list of ranges that is lent as words. Assumes nothing.
use Rattle.std.proofs.Common.{ℕ, zero, suc, ◌+◌, ◌*◌, ◌/◌, ◌≤◌, ◌<◌, ◌≡◌, refl, ap, ◌∙◌, List, [], ◌∷◌, zero-add, arith, length, get_or, take, length-take-le, get_or-take}
use Rattle.std.proofs.lemmas.Bool.Decides.{nat_tests}
use Rattle.model.specs.declared.Run.{Run}
use Rattle.model.specs.declared.Span.{Span}
use Rattle.model.specs.declared.Span.TheVariants.{Empty, Reversed, Closed}
use Rattle.model.specs.Numbers.{size}
use Rattle.model.specs.Positions.{run}
use Rattle.model.specs.Range.{past_allowed, span_of}
use Rattle.model.specs.RunList.{AllWords}
use Rattle.model.specs.Range.{named, bound_by, nowhere, range_by}
use Rattle.union.specs.Entries.{entry}
use Rattle.model.specs.declared.between.Range.{Range}
use Rattle.model.specs.Spawning.{range_at, ranges_from, ranges_of, entry_of, entries_of}
use Rattle.why_full.specs.Placing.{first_entries}

-- ---- one range
-- the run of a range as `normalize` answers it
abbrev pub run_of : Span → Run
run_of (Closed a b) = run a b
run_of Empty = run 1 0
run_of Reversed = run 1 0

-- is its entry
pub entry_span : (r : Range) → entry_of r ≡ run_of (span_of r.lower r.upper)
unfolding entry_of
entry_span r = grind (arith, nat_tests)

-- no upper bound of a word allows a position that is none
past-most : (k v k' v' : ℕ) → v' < size → past_allowed (range_by k v k' v').upper ≤ size
unfolding bound_by range_by
past-most k v k' v' h = grind (arith, nat_tests)

-- so the ends of its entry are words
entry-most : (r : Range) → past_allowed r.upper ≤ size → ((entry_of r).start < size) × ((entry_of r).«end» < size)
unfolding entry_of
entry-most r h = (grind (arith, nat_tests), grind (arith, nat_tests))

-- ---- a list of them
-- as many as were asked for
ranges-length : (ws : List ℕ) (k n : ℕ) → length (ranges_from ws k n) ≡ n
unfolding ranges_from
ranges-length ws k zero = refl
ranges-length ws k (suc n) = ap suc (ranges-length ws (suc k) n)

-- an entry for each
pub entries-length : (rs : List Range) → length (entries_of rs) ≡ length rs
unfolding entries_of
entries-length [] = refl
entries-length (r ∷ rs) = ap suc (entries-length rs)

-- one at each place
pub entries-at : (rs : List Range) (i : ℕ) (d : Range) → i < length rs → entry (entries_of rs) i ≡ entry_of (get_or rs i d)
unfolding entries_of
entries-at [] i d h = absurd (omega arith)
entries-at (r ∷ rs) zero d h = refl
entries-at (r ∷ rs) (suc i) d h = entries-at rs i d (omega arith)

-- the first ones are those of the first ranges
pub entries-take : (rs : List Range) (n : ℕ) → entries_of (take n rs) ≡ take n (entries_of rs)
unfolding entries_of
entries-take [] zero = refl
entries-take [] (suc n) = refl
entries-take (r ∷ rs) zero = refl
entries-take (r ∷ rs) (suc n) = ap (λ es. entry_of r ∷ es) (entries-take rs n)

-- ---- the list that words hold
from_at : (ws : List ℕ) (k n i : ℕ) → i < n → entry (entries_of (ranges_from ws k n)) i ≡ entry_of (range_at ws (k + i))
unfolding entries_of ranges_from
from_at ws k zero i h = absurd (omega arith)
from_at ws k (suc n) zero h = ap (λ j. entry_of (range_at ws j)) (omega arith)
from_at ws k (suc n) (suc i) h = from_at ws (suc k) n i (omega arith) ∙ ap (λ j. entry_of (range_at ws j)) (omega arith)

-- as many entries as there are whole fours
pub listed-length : (ws : List ℕ) → length (entries_of (ranges_of ws)) ≡ length ws / 4
unfolding ranges_of
listed-length ws = entries-length (ranges_from ws 0 (length ws / 4)) ∙ ranges-length ws 0 (length ws / 4)

-- a four makes an entry
pub listed_at : (ws : List ℕ) (i : ℕ) → 4 * i + 4 ≤ length ws → entry (entries_of (ranges_of ws)) i ≡ entry_of (range_at ws i)
unfolding ranges_of
listed_at ws i h = from_at ws 0 (length ws / 4) i (omega arith) ∙ ap (λ j. entry_of (range_at ws j)) (zero-add i)

-- the ends of all are words
from-words : (ws : List ℕ) (k n : ℕ) → ((i : ℕ) → get_or ws i 0 < size) → AllWords (entries_of (ranges_from ws k n))
unfolding entries_of ranges_from
from-words ws k zero f = tt
from-words ws k (suc n) f =
    let e = entry-most (range_at ws k) (past-most (get_or ws (4 * k) 0) (get_or ws (4 * k + 1) 0) (get_or ws (4 * k + 2) 0) (get_or ws (4 * k + 3) 0) (f (4 * k + 3))) in
    (e.0, e.1, from-words ws (suc k) n f)

pub listed-words : (ws : List ℕ) → ((i : ℕ) → get_or ws i 0 < size) → AllWords (entries_of (ranges_of ws))
unfolding ranges_of
listed-words ws f = from-words ws 0 (length ws / 4) f

-- the first of them, too
pub take_words : (n : ℕ) (es : List Run) → AllWords es → AllWords (take n es)
take_words zero es w = tt
take_words (suc n) [] w = tt
take_words (suc n) (e ∷ es) w = (w.0, w.1, take_words n es w.2)

-- ---- the first n of them
module _ (n : ℕ) (ws : List ℕ) (h : 4 * n ≤ length ws) where
  -- are n
  pub first_length : length (first_entries n ws) ≡ n
  first_length = length-take-le n (entries_of (ranges_of ws)) (omega (arith, listed-length ws))

  -- each is one of the list's
  pub first-at : (i : ℕ) → i < n → entry (first_entries n ws) i ≡ entry (entries_of (ranges_of ws)) i
  first-at i l = get_or-take n (entries_of (ranges_of ws)) i (run 0 0) l

  -- their ends are words
  pub first-words : ((i : ℕ) → get_or ws i 0 < size) → AllWords (first_entries n ws)
  first-words f = take_words n (entries_of (ranges_of ws)) (listed-words ws f)
