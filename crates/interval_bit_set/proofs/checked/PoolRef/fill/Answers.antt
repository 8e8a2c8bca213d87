-- `fill` meets its contract: a window that is none is refused, and of another a thousand times its count and its length fit a word.
-- Assumes nothing.
use Rattle.std.proofs.Common.{not}
use Rattle.std.specs.Prelude.{◌≡◌, false}
use mathlib.Core.Path.{refl, ap}
use native.Mathlib.Omega.{arith}
use Rattle.model.specs.Refusals.{bad_window}
use Rattle.model.specs.Call.{number}
use Rattle.interval_bit_set.proofs.Windows.{fitting, window-refused, window-passes, fill-fits, fill_is, bad-by}
use Rattle.interval_bit_set.proofs.Meeting.{refused-by, met-read, asks}
use Rattle.interval_bit_set.proofs.Looking.{found, shut-out}
use Rattle.interval_bit_set.proofs.checked.PoolRef.fill.Goals as goal
use Rattle.interval_bit_set.proofs.checked.PoolRef.fill.Goals.{Else-not-window_fits}

-- it is one
good : (r : Else-not-window_fits) → bad_window r.args.base r.args.length ≡ false
good r = bad-by _ _ _ r.window_fits.ensures (ap not r.if-not-window_fits.false)

pub returns-then-not-window_fits : goal.returns-then-not-window_fits
returns-then-not-window_fits c = refused-by (asks refl) (found c.args.self.checked c.in_ok-set.ensures.0) 6 (window-refused _ _ (bad-by _ _ _ c.window_fits.ensures (ap not c.if-not-window_fits.true)))

pub overflow_sub-window : goal.overflow_sub-window
overflow_sub-window c = (fitting _ _ (good (goal.at.overflow_sub-window c).Else-not-window_fits)).some

pub overflow_add-window : goal.overflow_add-window
overflow_add-window c = let f = fitting _ _ (good (goal.at.overflow_add-window c).Else-not-window_fits) in omega arith

pub overflow_mul-result : goal.overflow_mul-result
overflow_mul-result c =
    let h = fill-fits _ _ _ _ (fitting _ _ (good (goal.at.overflow_mul-result c).Else-not-window_fits)) c.tally-t.ensures.count-is in
    omega arith

pub overflow_sub-result : goal.overflow_sub-result
overflow_sub-result c = let f = fitting _ _ (good (goal.at.overflow_sub-result c).Else-not-window_fits) in omega arith

pub overflow_add-result : goal.overflow_add-result
overflow_add-result c =
    let h = fill-fits _ _ _ _ (fitting _ _ (good (goal.at.overflow_add-result c).Else-not-window_fits)) c.tally-t.ensures.count-is in
    omega arith

pub returns : goal.returns
returns c =
    met-read (asks refl) (found c.args.self.checked c.in_ok-set.ensures.0) c.in_ok-set.set c.in_ok-set.ensures.1 (window-passes _ _ (good (goal.at.returns c).Else-not-window_fits))
    (ap number (fill_is _ _ _ _ (fitting _ _ (good (goal.at.returns c).Else-not-window_fits)) c.tally-t.ensures.count-is))

pub nonzero_div-result : goal.nonzero_div-result
nonzero_div-result c = (fitting _ _ (good (goal.at.nonzero_div-result c).Else-not-window_fits)).some

pub returns-in_err-set : goal.returns-in_err-set
returns-in_err-set c = shut-out _ _ c.from_residual.ensures.1 (λ e p. p) refl c.args.self.checked c.in_err-set.ensures
