-- `play` meets its contract. The loop's invariant: i records were served as the model serves their calls. Assumes nothing.
use Rattle.std.specs.Prelude.{◌≡◌, ◌/◌, length}
use mathlib.Core.Path.{refl, ◌∙◌}
use native.Mathlib.Omega.{arith}
use Rattle.interval_bit_set.proofs.Looking.{checked-sound}
use Rattle.frame.specs.Records.{entry_at}
use Rattle.frame.proofs.Replies.{record-at}
use Rattle.frame.proofs.Playing.{none-played, more-played, all-played}
use Rattle.frame.proofs.play.Goals as goal
use Rattle.frame.proofs.play.Goals.{After-from}

-- the record is read as the one of the same number in the list
entry : (c : After-from) → c.from.result ≡ entry_at c.args.calls.now c.loop-i.i
entry c =
    c.from.ensures ∙ rw c.as_chunks.ensures.front (record-at c.args.calls.now (length c.args.calls.now / 8) c.loop-i.i (omega (arith, c.as_chunks.ensures.front_len, c.loop-i-test.true)))

pub loop-i-init : goal.loop-i-init
loop-i-init c =
    record { playing = none-played c.args.calls.now c.args.answers.now (length c.args.calls.now / 8) (checked-sound c.args.pool.now.checked); same_loan = refl }

pub loop-i-preserved : goal.loop-i-preserved
loop-i-preserved c =
    record {
      playing = more-played c.loop-i.invariant.playing (omega (arith, c.as_chunks.ensures.front_len, c.loop-i-test.true)) c.requires.room (entry (goal.at.loop-i-preserved c).After-from) c.serve-r.ensures.serves c.put.ensures;
      same_loan = c.serve-r.ensures.same_loan ∙ c.loop-i.invariant.same_loan;
    }

pub returns-clause-plays : goal.returns-clause-plays
returns-clause-plays c = all-played c.loop-i.invariant.playing (omega (arith, c.as_chunks.ensures.front_len, c.loop-i-test.false))
