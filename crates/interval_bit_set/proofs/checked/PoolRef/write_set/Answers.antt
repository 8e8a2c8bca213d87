-- `write_set` meets its contract: a world has no more runs than a pool has nodes, so the bytes due fit a word; the slice has room for
-- them or is too short. Assumes nothing.
use Rattle.std.proofs.Common.{◌≡◌, ◌+◌, ◌*◌, length, refl, ap, ◌∙◌, arith}
use Rattle.model.specs.Positions.{held_runs}
use Rattle.model.specs.Bytes.{encode}
use Rattle.model.specs.Call.{Call}
use Rattle.pool.specs.Layout.{held_by}
use Rattle.interval_bit_set.proofs.Doors.{lent-stands}
use Rattle.interval_bit_set.proofs.Putting.{few-runs, set-length, put-short, put-done}
use Rattle.interval_bit_set.proofs.Looking.{found}
use Rattle.interval_bit_set.proofs.Handing.{put-shut}
use Rattle.interval_bit_set.proofs.checked.PoolRef.write_set.Goals as goal
use Rattle.interval_bit_set.proofs.checked.PoolRef.write_set.Goals.{After-length_of-due}

-- the bytes due are those of the world's set
due : (c : After-length_of-due) → 5 + 16 * c.run_count-n.result
    ≡ (let a = c.args in length (encode a.edition (held_runs (held_by a.self.words.now a.world))))
due c = ap (λ n. 5 + 16 * n) c.run_count-n.ensures ∙ set-length c.in_ok-h.ensures.1 c.args.edition

pub run_count-n-requires : goal.run_count-n-requires
run_count-n-requires c = lent-stands c.in_ok-h.ensures.1

pub length_of-due-requires : goal.length_of-due-requires
length_of-due-requires c = omega (arith, few-runs c.in_ok-h.ensures.1)

pub returns-then-out-due : goal.returns-then-out-due
returns-then-out-due c =
    put-short c.args.out.now (Call.write_set c.args.edition) (λ P. encode c.args.edition (held_runs P)) refl
    (found c.args.self.checked c.in_ok-h.ensures.0) (c.length_of-due.ensures ∙ due (goal.at.returns-then-out-due c).After-length_of-due) c.if-out-due.true refl

pub write_set-requires-clause-stands : goal.write_set-requires-clause-stands
write_set-requires-clause-stands c =
    lent-stands c.in_ok-h.ensures.1

pub returns : goal.returns
returns c =
    put-done c.args.out.now (Call.write_set c.args.edition) (λ P. encode c.args.edition (held_runs P)) refl
    (found c.args.self.checked c.in_ok-h.ensures.0) (c.length_of-due.ensures ∙ due (goal.at.returns c).After-length_of-due) c.in_ok-h.ensures.1 refl c.if-out-due.false c.write_set.ensures

pub returns-in_err-h : goal.returns-in_err-h
returns-in_err-h c = put-shut _ c.from_residual.ensures.1 (λ e p. p) refl c.args.self.checked c.in_err-h.ensures
