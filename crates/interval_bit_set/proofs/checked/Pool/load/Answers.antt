-- `load`: what the bytes earn is refused before more runs than the world may have, and else it is given their runs. Assumes nothing.
use Rattle.std.proofs.Common.{List, drop, refl, ap, ◌∙◌}
use Rattle.model.specs.declared.Run.{Run}
use Rattle.model.specs.Positions.{mem}
use Rattle.model.specs.Bytes.{runs_told}
use Rattle.codec.proofs.Telling.{accepted-runs}
use Rattle.interval_bit_set.proofs.Changing.{refused-first}
use Rattle.interval_bit_set.proofs.Looking.{found, shut-out}
use Rattle.interval_bit_set.proofs.Overwriting.{carried, carried-kept, makes}
use Rattle.interval_bit_set.proofs.Passing.{met-on}
use Rattle.interval_bit_set.proofs.Receiving.{told-refused, told-ordered}
use Rattle.interval_bit_set.proofs.checked.Pool.load.Goals as goal

pub returns-in_err-opened-clause-met : goal.returns-in_err-opened-clause-met
returns-in_err-opened-clause-met c = shut-out _ _ c.from_residual.ensures.1 (λ e p. p) refl c.args.self.now.checked c.in_err-opened.ensures

pub returns-in_err-told-clause-met : goal.returns-in_err-told-clause-met
returns-in_err-told-clause-met c =
    met-on _ (refused-first (makes refl refl) (found c.args.self.now.checked c.in_ok-opened.ensures.0) (told-refused _ _ c.in_err-told.ensures)) _ c.from_residual-in_err-told.ensures.1 (λ e p. p)

pub put-requires-clause-readable : goal.put-requires-clause-readable
put-requires-clause-readable c = found c.args.self.now.checked c.in_ok-opened.ensures.0

pub put-requires-clause-ordered : goal.put-requires-clause-ordered
put-requires-clause-ordered c = let sh = c.in_ok-told.ensures in rw sh.0 (told-ordered _ c.type_inv.bytes sh.1)

pub returns-clause-met : goal.returns-clause-met
returns-clause-met c =
    let sh = c.in_ok-told.ensures in
    let t = c.in_ok-told.told in
    carried (makes refl refl) (found c.args.self.now.checked c.in_ok-opened.ensures.0) _ sh.1.free
    (λ x h. ap (λ (rs : List Run). mem rs x) (ap (λ bs. runs_told t.edition t.count (drop 5 bs)) sh.0 ∙ accepted-runs _ sh.1)) _ c.put.ensures

pub invariant_of-self : goal.invariant_of-self
invariant_of-self c = record { checked = carried-kept _ _ _ c.args.self.now.checked c.put.ensures }
