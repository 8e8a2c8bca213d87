-- The lines of a listing, put one after another: what is put and what is left make up the whole. Assumes nothing.
use mathlib.Core.Path.{◌≡◌, refl, sym, ap, ◌∙◌}
use mathlib.Core.List.{List, [], ◌∷◌, ◌++◌, append_assoc, append-nil}
use Rattle.std.specs.Prelude.{ℕ, Ok, Err, IsErr}
use Rattle.arrayvec.specs.ArrayString.{ArrayString}
use Rattle.arrayvec.specs.declared.errors.CapacityError.{CapacityError}
use Rattle.model.specs.declared.Run.{Run}
use Rattle.model.specs.declared.Listing.{Listing}
use Rattle.model.specs.Positions.{Positions, remaining}
use Rattle.listset.specs.Text.{run_line, run_lines}
use Rattle.listset.specs.Put.{Puts}
use Rattle.listset.proofs.Putting.{Put, put-nothing, and_then, cut_short, same_text}

-- the first runs of a listing are put, and the others are left
pub record Progress (P : Positions) (old : ArrayString) (first : Listing) (new : ArrayString) (left : Listing) : Type 0 where
  pub text : List ℕ
  pub put : Puts old text new (Ok tt)
  pub whole : text ++ run_lines (remaining P left) ≡ run_lines (remaining P first)

pub progress_start : (P : Positions) (old : ArrayString) (l : Listing) → Progress P old l old l
progress_start P old l = record { text = []; put = put-nothing old; whole = refl }

module _ {P : Positions} {old : ArrayString} {first : Listing} {new : ArrayString} {left : Listing} (p : Progress P old first new left) where
  -- what is put with the next line
  module _ (r : Run) (rs : List Run) (next : remaining P left ≡ r ∷ rs) where
    with-line : p.text ++ run_line r ++ run_lines rs ≡ run_lines (remaining P first)
    unfolding run_lines
    with-line = append_assoc p.text (run_line r) (run_lines rs) ∙ ap (λ ss. p.text ++ run_lines ss) (sym next) ∙ p.whole

  pub progress_step : {r : Run} {left' : Listing} {new' : ArrayString} → remaining P left ≡ r ∷ remaining P left' → Puts new (run_line r) new' (Ok tt)
      → Progress P old first new' left'
  progress_step {r} {left'} next q = record { text = p.text ++ run_line r; put = and_then p.put q; whole = with-line r (remaining P left') next }

  -- there is no room for the next line
  pub progress-short : {q : Run} {rs : List Run} {new' : ArrayString} {e : CapacityError Unit} {r : Put} → remaining P left ≡ q ∷ rs
      → Puts new (run_line q) new' (Err e) → IsErr r → Puts old (run_lines (remaining P first)) new' r
  progress-short {q} {rs} next n h = same_text (with-line q rs next) (cut_short (run_lines rs) (and_then p.put n) h)

  pub progress-end : remaining P left ≡ [] → Puts old (run_lines (remaining P first)) new (Ok tt)
  unfolding run_lines
  progress-end none = same_text (sym (append-nil p.text) ∙ ap (λ ss. p.text ++ run_lines ss) (sym none) ∙ p.whole) p.put
