-- `convert` meets its contract: what the bytes earn is refused before a slice that is too short, and else their set is written in the other
-- edition. Assumes nothing.
use Rattle.std.proofs.Common.{sym, subst}
use Rattle.model.specs.Answers.{written_answer}
use Rattle.model.specs.Converting.{convert}
use Rattle.interval_bit_set.specs.Handles.{Handles}
use Rattle.interval_bit_set.proofs.Passing.{handed-on}
use Rattle.interval_bit_set.proofs.Converting.{convert-turned, convert-short, convert-handles}
use Rattle.interval_bit_set.proofs.bytes.convert.Goals as goal

pub returns-in_err-told : goal.returns-in_err-told
returns-in_err-told c =
    let a = c.args in
    subst (λ r. Handles (convert a.bytes.now a.out.now) (written_answer r a.out.now) a.out.now)
    (sym (handed-on c.from_residual.result c.from_residual.ensures.1 (λ e p. p))) (convert-turned _ a.out.now _ c.in_err-told.ensures)

pub returns-then-out-bytes : goal.returns-then-out-bytes
returns-then-out-bytes c = convert-short _ c.args.out.now c.in_ok-told.ensures.1 c.if-out-bytes.true

pub returns : goal.returns
returns c =
    let sh = c.in_ok-told.ensures in
    convert-handles _ c.args.out.now sh.1 c.if-out-bytes.false (rw sh.0 at c.convert.ensures)
