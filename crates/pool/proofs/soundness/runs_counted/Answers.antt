-- `runs_counted` meets its contract. The loop's invariant: the worlds before k fit, and what they have and claim is counted. Assumes nothing.
use Rattle.pool.proofs.Base.{◌≡◌, ap, ◌∙◌, arith, runs_of}
use Rattle.pool.proofs.Placed.{checking-none, checked, place-fails, claim-fails, runs-few, checking-more}
use Rattle.pool.proofs.soundness.runs_counted.Goals as goal

pub loop-k-init : goal.loop-k-init
loop-k-init c = checking-none _ _ c.of_length-left.ensures

pub returns-in_err-place : goal.returns-in_err-place
returns-in_err-place c = c.from_residual.ensures ∙ place-fails _ _ _ _ c.loop-k.invariant _ c.loop-k-test.true c.in_err-place.ensures

pub returns-in_err-left : goal.returns-in_err-left
returns-in_err-left c =
    let over = c.in_err-left.ensures in
    c.from_residual-in_err-left.ensures
    ∙ claim-fails _ _ _ _ c.loop-k.invariant _ c.loop-k-test.true _ c.in_ok-place.ensures (omega arith)

pub overflow_add-runs : goal.overflow_add-runs
overflow_add-runs c =
    let few = runs-few _ _ _ _ c.loop-k.invariant _ c.loop-k-test.true _ c.in_ok-place.ensures c.requires.n_le_most_worlds in
    omega arith

pub loop-k-preserved : goal.loop-k-preserved
loop-k-preserved c = checking-more _ _ _ _ c.loop-k.invariant _ c.loop-k-test.true _ c.in_ok-place.ensures _ c.in_ok-left.ensures

pub returns : goal.returns
returns c =
    let e : c.loop-k.k ≡ c.args.n = omega (arith, c.loop-k-test.false, c.loop-k.auto.k-end) in
    checked _ _ _ _ c.loop-k.invariant ∙ ap (runs_of c.args.words.now) e
