-- `mend`: a pool that fails the check is refused, and the slices stay; another is mended, and putting the free chain in order leaves every world. Assumes
-- nothing.
use Rattle.std.specs.Prelude.{ℕ, List}
use Rattle.std.proofs.Common.{refl, sym, subst, rules}
use Rattle.model.specs.declared.Mended.{Mended}
use Rattle.model.specs.Call.{Result, mended}
use Rattle.interval_bit_set.specs.Out.{Mends, Unmended}
use Rattle.interval_bit_set.proofs.Looking.{fault-out}
use Rattle.interval_bit_set.proofs.Passing.{handed-on}
use Rattle.interval_bit_set.proofs.Tidying.{met-after}
use Rattle.interval_bit_set.proofs.mend.mend.Goals as goal

pub invariant_of-pool : goal.invariant_of-pool
invariant_of-pool c = record { checked = c.in_ok-worn.ensures.0.0 }

pub returns-in_err-worn : goal.returns-in_err-worn
returns-in_err-worn c = record {
  met = fault-out _ _ c.from_residual.ensures.1 (λ e p. p) refl c.in_err-worn.ensures;
  unmended = rw (handed-on c.from_residual.result c.from_residual.ensures.1 (λ e p. p)) (refl, refl);
}

-- what it gives, with the slices as they are left
given : (out report : List ℕ) → Mended → Result
given out report m = mended m.bytes out m.report report

pub returns : goal.returns
unfolding given
returns c =
    let out = c.mend-answer.new.out in
    let report = c.mend-answer.new.report in
    let m : Mends c.args.words.now c.args.world c.args.bytes.now c.args.out.now c.args.report.now c.end.result c.end.new.self.words.now out report =
    record {
      met = met-after (given out report) c.mend-answer.result c.in_ok-worn.ensures.0.0 c.mend-answer.ensures.mends.met c.end.ensures.ended;
      unmended = subst (λ r. Unmended r c.args.out.now out c.args.report.now report) (sym c.end.ensures.ended.answered) c.mend-answer.ensures.mends.unmended;
    } in
    search (rules, m)
