-- Strict calls: a reversed range is refused with 14, and of any other the model's outcome is that of the call that is not strict.
-- Assumes nothing.
use Rattle.std.specs.Prelude.{◌≡◌, ℕ, Bool, true, false, List, [], ◌∷◌}
use mathlib.Core.Path.{refl, sym, ap, ◌∙◌, subst}
use Rattle.model.specs.Ends.{Bound}
use Rattle.model.specs.Range.{first_allowed, extent, reversed}
use Rattle.model.specs.Refusals.{before_capacity, range_reversed, ◌when◌, first_given, refusal}
use Rattle.model.specs.Call.{Call, Answer, refused}
use Rattle.model.specs.Positions.{set_range, flip_range}
use Rattle.model.specs.Model.{asking, changing, counting, tally_of, serve}
use Rattle.interval_bit_set.specs.Met.{Site, fed_of, full_at, outcome_of, Leaves, Met, Readable}
use Rattle.interval_bit_set.proofs.Meeting.{asks, refused-by}
use Rattle.interval_bit_set.proofs.Changing.{alters, refused-first}

-- a call whose outcome is another's is met as that is
met-same : {w w' : List ℕ} {i : ℕ} {c d : Call Site} {a : Answer} → outcome_of w i d ≡ outcome_of w i c → Met w i d a w' → Met w i c a w'
met-same {w} {w'} {i} {a = a} e m = record { answered = m.answered ∙ ap (λ o. o.answer) e; left = subst (λ o. Leaves w w' i o.positions a) e m.left }

module _ {w : List ℕ} {i : ℕ} {l u : Bound} where
  -- a reversed range
  module _ (R : Readable w i) (e : true ≡ reversed l u) where
    pub set-reversed : (v : Bool) → Met w i (Call.set_strict l u v) (refused 14) w
    set-reversed v = refused-first (alters refl) R (ap (λ t. first_given before_capacity (range_reversed when t ∷ [])) (sym e))

    pub flip-reversed : Met w i (Call.flip_strict l u) (refused 14) w
    flip-reversed = refused-first (alters refl) R (ap (λ t. first_given before_capacity (range_reversed when t ∷ [])) (sym e))

    pub tally-reversed : (v : Bool) → Met w i (Call.tally_strict l u v) (refused 14) w
    tally-reversed v = refused-by (asks refl) R 14 (ap (λ t. refusal (range_reversed when t ∷ [])) (sym e))

  -- any other
  module _ {w' : List ℕ} {a : Answer} (e : false ≡ reversed l u) where
    pub set-straight : {v : Bool} → Met w i (Call.set l u v) a w' → Met w i (Call.set_strict l u v) a w'
    unfolding outcome_of serve
    set-straight {v} m = met-same (ap (λ t. serve (full_at w i) (fed_of w i) (counting (range_reversed when t ∷ []) (set_range (first_allowed l) (extent l u) v))) e) m

    pub flip-straight : Met w i (Call.flip l u) a w' → Met w i (Call.flip_strict l u) a w'
    unfolding outcome_of serve
    flip-straight m = met-same (ap (λ t. serve (full_at w i) (fed_of w i) (changing (range_reversed when t ∷ []) (flip_range (first_allowed l) (extent l u)))) e) m

    pub tally-straight : {v : Bool} → Met w i (Call.tally l u v) a w' → Met w i (Call.tally_strict l u v) a w'
    unfolding outcome_of serve
    tally-straight {v} m = met-same (ap (λ t. serve (full_at w i) (fed_of w i) (asking (range_reversed when t ∷ []) (tally_of l u v))) e) m
