-- A frame that is done has served all its calls. Assumes nothing.
use Rattle.std.specs.Prelude.{ℕ, List, [], ◌∷◌, ◌≡◌, Option, None, Some}
use mathlib.Core.Path.{refl, sym, ◌∙◌}
use Rattle.model.specs.Bytes.{into_front}
use Rattle.model.specs.Call.{done, gave}
use Rattle.model.specs.Model.{or_else}
use Rattle.model.specs.Pools.{PlainWorld, answers, after}
use Rattle.model.specs.Refusals.{output_short, ◌when◌, refusal, no_room}
use Rattle.pool.specs.Layout.{capacity, worlds_of}
use Rattle.interval_bit_set.specs.Met.{faults}
use Rattle.interval_bit_set.proofs.Meeting.{refused-not}
use Rattle.flat.specs.Records.{records_of}
use Rattle.frame.specs.Frame.{Framed, frame_outcome, frame_of, settle_frame}
use Rattle.frame.specs.Records.{calls_of}

-- what is not refused writes all that is due
settled : (y : Option ℕ) (ws vs : List PlainWorld) (due out : List ℕ) → gave done ≡ (settle_frame y ws vs due out).answer
    → (settle_frame y ws vs due out).slice ≡ into_front due out
settled None ws vs due out e = refl
settled (Some n) ws vs due out e = absurd (refused-not (sym e))

pub all-written : {w calls out w' out' : List ℕ} → Framed w calls out (gave done) w' out'
    → out' ≡ into_front (records_of (answers (capacity w) (worlds_of w) (calls_of calls))) out
unfolding frame_outcome frame_of
all-written {w} {calls} {out} F =
    let due : List ℕ = records_of (answers (capacity w) (worlds_of w) (calls_of calls)) in
    F.wrote
    ∙ settled (or_else (faults (w ∷ [])) (refusal (output_short when no_room out due ∷ []))) (worlds_of w)
    (after (capacity w) (worlds_of w) (calls_of calls)) due out F.answered
