-- 1 for words of no pool's length, and else what the test of soundness tells. Assumes nothing.
use Rattle.std.specs.Prelude.{[]}
use Rattle.interval_bit_set.proofs.Looking.{short-yes, checks-out, sound-checks}
use Rattle.interval_bit_set.proofs.checked.check.Goals as goal

pub returns-in_err-sized : goal.returns-in_err-sized
returns-in_err-sized c =
    let e = c.in_err-sized.ensures.err in
    checks-out c.args.words.now [] _ c.from_residual.ensures.1 (λ r p. p) (rw (short-yes c.args.words.now e.1, e.0))

pub returns : goal.returns
returns c = sound-checks _ _ c.in_ok-sized.ensures.ok c.sound.ensures
