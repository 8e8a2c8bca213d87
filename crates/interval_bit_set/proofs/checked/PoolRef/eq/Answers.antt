-- `eq`: of two worlds that were opened it tells whether their XOR has no run. Assumes nothing.
use Rattle.std.proofs.Common.{refl, ap, [], ◌∷◌}
use Rattle.model.specs.Call.{value}
use Rattle.interval_bit_set.specs.Met.{site}
use Rattle.interval_bit_set.proofs.Joins.{view-rooted}
use Rattle.interval_bit_set.proofs.Comparing.{equal-says, same-as}
use Rattle.interval_bit_set.proofs.Looking.{found, shut-one, shut-first}
use Rattle.interval_bit_set.proofs.Meeting.{met}
use Rattle.interval_bit_set.proofs.checked.PoolRef.eq.Goals as goal

pub returns-in_err-x : goal.returns-in_err-x
returns-in_err-x c = shut-one _ (site c.args.b.words.now c.args.j ∷ []) _ c.from_residual.ensures.1 (λ e p. p) refl (c.args.self.checked, (c.args.b.checked, tt)) c.in_err-x.ensures

pub returns-in_err-y : goal.returns-in_err-y
returns-in_err-y c =
    shut-first _ (site c.args.b.words.now c.args.j) [] _ c.from_residual-in_err-y.ensures.1 (λ e p. p) refl (c.args.self.checked, (c.args.b.checked, tt)) c.in_ok-x.ensures.0 c.in_err-y.ensures

pub fits-requires : goal.fits-requires
fits-requires c = record { left = view-rooted c.in_ok-x.ensures.1; right = view-rooted c.in_ok-y.ensures.1 }

pub returns : goal.returns
returns c =
    let q = found c.args.b.checked c.in_ok-y.ensures.0 in
    met (equal-says q) (found c.args.self.checked c.in_ok-x.ensures.0) refl (ap value (same-as q c.in_ok-x.ensures.1 c.in_ok-y.ensures.1 c.fits.ensures))
