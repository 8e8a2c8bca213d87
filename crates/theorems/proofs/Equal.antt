-- Equal positions, equal answers: what the model gives of a report is told by what it is fed of the world and by the
-- call's plan. An opened world of a sound pool is fed as its positions, and how many runs are too many is not asked.
-- Assumes nothing.
use mathlib.Core.Path.{◌≡◌, sym, ap, ap₂, ◌∙◌}
use Rattle.model.specs.Call.{holding}
use Rattle.model.specs.Model.{plan, serve}
use Rattle.interval_bit_set.specs.Met.{fed_at, fed_of, full_at, outcome_of}
use Rattle.interval_bit_set.proofs.Meeting.{readable}
use Rattle.theorems.specs.Equal.{Equal-answers}
use Rattle.theorems.proofs.Serving.{any-limit}

pub equal-answers : Equal-answers
unfolding outcome_of
equal-answers w v i j c d a b w' v' S l T m held k same M N =
    let R = readable (record { sound = S; named = l }) in
    let Q = readable (record { sound = T; named = m }) in
    let fed : fed_of w i ≡ fed_of v j = R.fed ∙ ap holding held ∙ sym Q.fed in
    M.answered
    ∙ ap (λ o. o.answer) (any-limit (full_at w i) (full_at v j) (fed_of w i) (plan fed_at c) k)
    ∙ ap₂ (λ s p. (serve (full_at v j) s p).answer) fed same
    ∙ sym N.answered
