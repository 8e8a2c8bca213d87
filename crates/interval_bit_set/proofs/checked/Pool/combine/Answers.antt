-- `combine`: two opened worlds, each read by its view, are joined if the allowance admits it. Assumes nothing.
use Rattle.std.proofs.Common.{refl, ap₂, [], ◌∷◌}
use Rattle.model.specs.Positions.{combined}
use Rattle.interval_bit_set.specs.Met.{site, fed_of}
use Rattle.interval_bit_set.proofs.Joins.{view-rooted, read_as}
use Rattle.interval_bit_set.proofs.Overwriting.{carried, carried-kept, makes, reads-nothing}
use Rattle.interval_bit_set.proofs.Looking.{found, shut-one, shut-first, shut-second}
use Rattle.interval_bit_set.proofs.checked.Pool.combine.Goals as goal

pub returns-in_err-opened-clause-met : goal.returns-in_err-opened-clause-met
returns-in_err-opened-clause-met c =
    shut-one _ (site c.args.a.words.now c.args.i ∷ site c.args.b.words.now c.args.j ∷ []) _ c.from_residual.ensures.1 (λ e p. p) refl
    (c.args.self.now.checked, (c.args.a.checked, (c.args.b.checked, tt))) c.in_err-opened.ensures

pub returns-in_err-x-clause-met : goal.returns-in_err-x-clause-met
returns-in_err-x-clause-met c =
    shut-first _ (site c.args.a.words.now c.args.i) (site c.args.b.words.now c.args.j ∷ []) _ c.from_residual-in_err-x.ensures.1 (λ e p. p) refl (c.args.self.now.checked, (c.args.a.checked, (c.args.b.checked, tt)))
    c.in_ok-opened.ensures.0 c.in_err-x.ensures

pub returns-in_err-y-clause-met : goal.returns-in_err-y-clause-met
returns-in_err-y-clause-met c =
    shut-second _ (site c.args.a.words.now c.args.i) (site c.args.b.words.now c.args.j) _ c.from_residual-in_err-y.ensures.1 (λ e p. p) refl (c.args.self.now.checked, (c.args.a.checked, (c.args.b.checked, tt)))
    c.in_ok-opened.ensures.0 c.in_ok-x.ensures.0 c.in_err-y.ensures

pub gathered-requires-clause-readable : goal.gathered-requires-clause-readable
gathered-requires-clause-readable c = found c.args.self.now.checked c.in_ok-opened.ensures.0

pub gathered-requires-clause-sources : goal.gathered-requires-clause-sources
gathered-requires-clause-sources c = record { left = view-rooted c.in_ok-x.ensures.1; right = view-rooted c.in_ok-y.ensures.1 }

pub returns-clause-met : goal.returns-clause-met
returns-clause-met c =
    let p = found c.args.a.checked c.in_ok-x.ensures.0 in
    let q = found c.args.b.checked c.in_ok-y.ensures.0 in
    carried (makes refl (reads-nothing (fed_of c.args.b.words.now c.args.j ∷ []) p (reads-nothing [] q refl))) (found c.args.self.now.checked c.in_ok-opened.ensures.0) _ refl
    (λ x h. ap₂ (λ P Q. combined c.args.op P Q x) (read_as p c.in_ok-x.ensures.1) (read_as q c.in_ok-y.ensures.1)) c.gathered.result c.gathered.ensures

pub invariant_of-self : goal.invariant_of-self
invariant_of-self c = record { checked = carried-kept _ _ _ c.args.self.now.checked c.gathered.ensures }
