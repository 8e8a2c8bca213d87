-- `frame`: a pool that fails the check is refused, then a slice without room; else every record is served, and the pool tidied. Assumes nothing.
use Rattle.std.proofs.Common.{sym, subst, rules}
use Rattle.model.specs.Answers.{completed_answer}
use Rattle.interval_bit_set.proofs.Passing.{handed-on}
use Rattle.frame.specs.Frame.{Framed}
use Rattle.frame.proofs.Framing.{turned-away, no_room_lem, playable, framed}
use Rattle.frame.proofs.frame.Goals as goal

pub returns-in_err-worn : goal.returns-in_err-worn
returns-in_err-worn c =
    subst (λ a. Framed c.args.words.now c.args.calls.now c.args.answers.now (completed_answer a) c.args.words.now c.args.answers.now)
    (sym (handed-on c.from_residual.result c.from_residual.ensures.1 (λ e p. p)))
    (turned-away c.args.words.now c.args.calls.now c.args.answers.now c.in_err-worn.ensures)

pub returns-then-answers-calls : goal.returns-then-answers-calls
returns-then-answers-calls c = no_room_lem c.args.words.now c.args.calls.now c.args.answers.now c.in_ok-worn.ensures.0.0 c.if-answers-calls.true

pub invariant_of-pool : goal.invariant_of-pool
invariant_of-pool c = record { checked = c.in_ok-worn.ensures.0.0 }

pub play-requires : goal.play-requires
play-requires c = playable c.args.words.now c.args.calls.now c.args.answers.now c.if-answers-calls.false

pub returns : goal.returns
returns c =
    let w = c.args.words.now in
    let cs = c.args.calls.now in
    let out = c.args.answers.now in
    let m : Framed w cs out (completed_answer c.end.result) c.end.new.self.words.now c.play.new.answers =
    subst (λ r. Framed w cs out (completed_answer r) c.end.new.self.words.now c.play.new.answers) (sym c.end.ensures.ended.answered)
    (framed w cs out c.in_ok-worn.ensures.0.0 c.if-answers-calls.false c.play.ensures.plays c.end.ensures.ended.tidies.tidied) in
    search (rules, m)
