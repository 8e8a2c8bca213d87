-- `not`: what is in just one of an opened world and all positions is its complement. Assumes nothing.
use Rattle.std.proofs.Common.{refl, arith, [], ◌∷◌}
use Rattle.interval_bit_set.specs.Met.{site}
use Rattle.interval_bit_set.proofs.Joins.{view-rooted, complement-alike}
use Rattle.interval_bit_set.proofs.Overwriting.{carried, carried-kept, makes, reads-nothing}
use Rattle.interval_bit_set.proofs.Looking.{found, shut-one, shut-first}
use Rattle.interval_bit_set.proofs.checked.Pool.not.Goals as goal

pub returns-in_err-opened-clause-met : goal.returns-in_err-opened-clause-met
returns-in_err-opened-clause-met c = shut-one _ (site c.args.a.words.now c.args.i ∷ []) _ c.from_residual.ensures.1 (λ e p. p) refl (c.args.self.now.checked, (c.args.a.checked, tt)) c.in_err-opened.ensures

pub returns-in_err-x-clause-met : goal.returns-in_err-x-clause-met
returns-in_err-x-clause-met c =
    shut-first _ (site c.args.a.words.now c.args.i) [] _ c.from_residual-in_err-x.ensures.1 (λ e p. p) refl (c.args.self.now.checked, (c.args.a.checked, tt)) c.in_ok-opened.ensures.0 c.in_err-x.ensures

pub gathered-requires-clause-readable : goal.gathered-requires-clause-readable
gathered-requires-clause-readable c = found c.args.self.now.checked c.in_ok-opened.ensures.0

pub gathered-requires-clause-sources : goal.gathered-requires-clause-sources
gathered-requires-clause-sources c = record { left = view-rooted c.in_ok-x.ensures.1; right = omega arith }

pub returns-clause-met : goal.returns-clause-met
returns-clause-met c =
    let p = found c.args.a.checked c.in_ok-x.ensures.0 in
    carried (makes refl (reads-nothing [] p refl)) (found c.args.self.now.checked c.in_ok-opened.ensures.0) _ refl (complement-alike p c.in_ok-x.ensures.1) c.gathered.result c.gathered.ensures

pub invariant_of-self : goal.invariant_of-self
invariant_of-self c = record { checked = carried-kept _ _ _ c.args.self.now.checked c.gathered.ensures }
