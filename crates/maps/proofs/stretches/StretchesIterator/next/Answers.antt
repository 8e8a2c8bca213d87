-- `next` meets its contract: what comes is the stretch from the first bit that is still to come, and then the bit after its last one is the first.
-- Assumes nothing.
use Rattle.std.proofs.Common.{◌-◌, sym, refl, subst, arith}
use Rattle.model.specs.Bytes.{map_bit}
use Rattle.reports.specs.Reports.{StretchEnd}
use Rattle.maps.proofs.stretches.StretchesIterator.next.Goals as goal

pub returns-clause-steps : goal.returns-clause-steps
returns-clause-steps g c =
    let m = c.args.self.now.map.now in
    let i = c.args.self.now.from in (
      refl,
      record {
        first-is = refl;
        within = omega (arith, c.if-first-self.false);
        ends = subst (λ v. StretchEnd (map_bit m.bytes.now) v i (m.window.n - 1) c.stretch_end-last.result) (sym c.bit-value.ensures) c.stretch_end-last.ensures;
        next-is = omega arith;
      },
    )
