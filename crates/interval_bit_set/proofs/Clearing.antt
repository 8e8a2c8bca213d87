-- Clearing a map, by the tests that come before it: it is handled as the model says. Assumes nothing.
use Rattle.std.proofs.Common.{◌≡◌, ℕ, true, false, ◌||◌, List, sym, ap, ◌∙◌, ap₂}
use Rattle.model.specs.Refusals.{bad_window, bad_map}
use Rattle.model.specs.Call.{number, refused, gave}
use Rattle.model.specs.Handled.{Handled}
use Rattle.model.specs.Clearing.{clear_map}
use Rattle.model.proofs.Clearing.{clear-refused, clear-done}
use Rattle.codec.specs.Padding.{Clears}
use Rattle.interval_bit_set.specs.Handles.{Handles}

module _ (base n : ℕ) (bs : List ℕ) where
  -- refused with 6, it leaves the map
  refused-both : (bad_window base n || bad_map n bs) ≡ true → Handles (clear_map base n bs) (refused 6) bs
  refused-both e =
      let h = sym (clear-refused base n bs e) in
      record { answered = ap (λ (o : Handled). o.answer) h; left = ap (λ (o : Handled). o.slice) h }

  -- where the window is none
  pub clear-no-window : bad_window base n ≡ true → Handles (clear_map base n bs) (refused 6) bs
  clear-no-window e = refused-both (ap (λ b. b || bad_map n bs) e)

  -- or the map has another length
  pub clear-no-map : bad_window base n ≡ false → bad_map n bs ≡ true → Handles (clear_map base n bs) (refused 6) bs
  clear-no-map e f = refused-both (ap₂ (λ b m. b || m) e f)

  -- and else it clears
  pub clear-handles : {r : ℕ} {bs' : List ℕ} → bad_window base n ≡ false → bad_map n bs ≡ false → Clears n bs r bs' → Handles (clear_map base n bs) (gave (number r)) bs'
  clear-handles e f c =
      let h = sym (clear-done base n bs (ap₂ (λ b m. b || m) e f)) in
      record { answered = ap (λ k. gave (number k)) c.counted ∙ ap (λ (o : Handled). o.answer) h; left = c.left ∙ ap (λ (o : Handled). o.slice) h }
