-- 1 of any pool comes before 7 of any. Assumes nothing.
use Rattle.std.specs.Prelude.{[], ◌∷◌}
use Rattle.interval_bit_set.proofs.Looking.{short-yes, short-no, checks-out}
use Rattle.interval_bit_set.proofs.checked.check_two.Goals as goal

pub returns-in_err-sized : goal.returns-in_err-sized
returns-in_err-sized c =
    checks-out c.args.words.now (c.args.a.now ∷ []) _ c.from_residual.ensures.1 (λ r p. p)
    (rw (
      short-yes c.args.words.now c.in_err-sized.ensures.err.1,
      c.in_err-sized.ensures.err.0,
    ))

pub returns-in_err-sized-2 : goal.returns-in_err-sized-2
returns-in_err-sized-2 c =
    checks-out c.args.words.now (c.args.a.now ∷ []) _ c.from_residual-in_err-sized-2.ensures.1 (λ r p. p)
    (rw (
      short-no c.args.words.now c.in_ok-sized.ensures.ok,
      short-yes c.args.a.now c.in_err-sized-2.ensures.err.1,
      c.in_err-sized-2.ensures.err.0,
    ))

pub returns-in_err-worn : goal.returns-in_err-worn
returns-in_err-worn c =
    checks-out c.args.words.now (c.args.a.now ∷ []) _ c.from_residual-in_err-worn.ensures.1 (λ r p. p)
    (rw (
      short-no c.args.words.now c.in_ok-sized.ensures.ok,
      short-no c.args.a.now c.in_ok-sized-2.ensures.ok,
      c.in_err-worn.ensures.0,
      c.in_err-worn.ensures.1,
    ))

pub returns-in_err-sound : goal.returns-in_err-sound
returns-in_err-sound c =
    checks-out c.args.words.now (c.args.a.now ∷ []) _ c.from_residual-in_err-sound.ensures.1 (λ r p. p)
    (rw (
      short-no c.args.words.now c.in_ok-sized.ensures.ok,
      short-no c.args.a.now c.in_ok-sized-2.ensures.ok,
      c.in_ok-worn.ensures.0,
      c.in_err-sound.ensures.0,
      c.in_err-sound.ensures.1,
    ))

pub returns : goal.returns
returns c = (
  (
    record { sized = c.in_ok-sized.ensures.ok; passed = c.in_ok-worn.ensures.0 },
    (
      record { sized = c.in_ok-sized-2.ensures.ok; passed = c.in_ok-sound.ensures.0 },
      tt,
    ),
  ),
  c.in_ok-worn.ensures.1,
)
