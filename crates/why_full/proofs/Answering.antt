-- What a caller of `up_to_refused` and `put_places` has of them: no call is refused, or the places are those of `why_full`, and C + 1. Assumes nothing.
use Rattle.std.proofs.Common.{Option, None, Some, ℕ, suc, ◌+◌, ◌*◌, ◌≤◌, ◌<◌, ◌≡◌, refl, sym, ap, subst, List, arith, length, get_or}
use Rattle.model.specs.declared.Run.{Run}
use Rattle.model.specs.Numbers.{size}
use Rattle.model.specs.Spawning.{ranges_of, entries_of, first_refused, count_up_to, up_to_refused, places, why_full_up_to, why_full}
use Rattle.why_full.specs.Placing.{first_entries}
use Rattle.why_full.proofs.Refusing.{Refused, refused-only}
use Rattle.why_full.proofs.Ranges.{listed-length, listed-words}
use Rattle.why_full.proofs.Sublists.{refused-places}

-- no entry is counted: no call is refused
pub why-none : (C : ℕ) (es : List Run) → 0 ≡ up_to_refused C es → why_full C es ≡ None
unfolding up_to_refused why_full
why-none C es e = go (first_refused C es) e
  where
    go : (o : Option ℕ) → 0 ≡ count_up_to o → why_full_up_to es o ≡ None
    go None e = refl
    go (Some f) e = absurd (omega arith)

-- n entries of a list that words hold are counted
pub record Answered (C : ℕ) (ws : List ℕ) (n : ℕ) : Type 0 where
  pub within : 4 * n ≤ length ws
  pub why : why_full C (entries_of (ranges_of ws)) ≡ Some (places (first_entries n ws))
  pub long : length (places (first_entries n ws)) ≡ C + 1

pub why-some : (C : ℕ) (ws : List ℕ) (n : ℕ) → ((i : ℕ) → get_or ws i 0 < size) → length ws < size → 0 < n → n ≡ up_to_refused C (entries_of (ranges_of ws)) → Answered C ws n
unfolding up_to_refused why_full
why-some C ws n w few some_one e = go (first_refused C (entries_of (ranges_of ws))) refl e
  where
    found : (f : ℕ) → Refused C (entries_of (ranges_of ws)) f → first_refused C (entries_of (ranges_of ws)) ≡ Some f → Answered C ws (suc f)
    found f r q = record {
      within = omega (arith, r.within, listed-length ws);
      why = ap (why_full_up_to (entries_of (ranges_of ws))) q;
      long = refused-places C (entries_of (ranges_of ws)) f (listed-words ws w) (omega (arith, listed-length ws)) r;
    }

    go : (o : Option ℕ) → first_refused C (entries_of (ranges_of ws)) ≡ o → n ≡ count_up_to o → Answered C ws n
    go None q d = absurd (omega arith)
    go (Some f) q d = subst (Answered C ws) (sym d) (found f (refused-only C (entries_of (ranges_of ws)) f q) q)
